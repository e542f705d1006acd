-- The number that digits are, as the loop counts them. Assumes nothing.
use Rattle.std.proofs.Common.{ℕ, ◌+◌, ◌-◌, ◌*◌, ◌≤◌, ◌<◌, true, List, ◌∷◌, ◌≡◌, ap, ◌∙◌, arith, length, drop, get_or, add-one, drop-cons}
use Prim.Native.Char.{code}
use Rattle.std.specs.List.{prefix_len}
use Rattle.values.specs.Characters.{is_digit, leading}
use Rattle.tokens.specs.Tokens.{number_after}
use Rattle.tokens.specs.code.TokenAnswers.{capped}
use Rattle.tokens.specs.laws.DecimalLaws.{capped_number}

module _ (s : List ℕ) where
  -- the first digits, of which there are so many, come to the magnitude
  pub record Counted (magnitude len : ℕ) : Type 0 where
    pub passed : len + prefix_len is_digit (drop len s) ≡ prefix_len is_digit s
    pub small : magnitude ≤ 9223372036854775809
    pub same : capped (number_after magnitude (leading is_digit (drop len s))) ≡ capped (number_after 0 (leading is_digit s))

  pub counted_one : (magnitude len more : ℕ) → Counted magnitude len → len < length s → is_digit (get_or s len 0) ≡ true
      → more ≡ capped (10 * magnitude + (get_or s len 0 - code "0")) → Counted more (len + 1)
  counted_one magnitude len more c inside digit is =
      let first : drop len s ≡ get_or s len 0 ∷ drop (len + 1) s = rw (add-one, drop-cons s len 0 inside) in
      let next = 10 * magnitude + (get_or s len 0 - code "0") in
      let rest = leading is_digit (drop (len + 1) s) in
      record {
        passed = omega (arith, rw (first, digit) at c.passed);
        small = omega arith;
        same = ap (λ k. capped (number_after k rest)) is ∙ capped_number rest next ∙ rw (first, digit) at c.same;
      }
