-- The number that digits are, cut at each digit where it is large. Assumes nothing.
use Rattle.std.specs.Prelude.{ℕ, ◌+◌, ◌-◌, ◌*◌, ◌≤◌, true, List, [], ◌∷◌, ◌≡◌, leb}
use Prim.Native.Char.{code}
use Rattle.std.proofs.Common.{arith, sym, ap, ◌∙◌, leb-true}
use Rattle.values.specs.Characters.{is_digit}
use Rattle.values.specs.laws.TestLaws.{and_both}
use Rattle.tokens.specs.Tokens.{number_after}
use Rattle.tokens.specs.code.TokenAnswers.{capped}

pub record DigitRange (b : ℕ) : Type 0 where
  pub low : code "0" ≤ b
  pub high : b ≤ code "9"

pub digit_range : (b : ℕ) → is_digit b ≡ true → DigitRange b
digit_range b e =
    let both = and_both (leb (code "0") b) (leb b (code "9")) e in
    record { low = leb-true (code "0") b both.0; high = leb-true b (code "9") both.1 }

pub capped_number : (ds : List ℕ) (n : ℕ) → capped (number_after (capped n) ds) ≡ capped (number_after n ds)
capped_number [] n = omega arith
capped_number (d ∷ ds) n =
    let digit = d - code "0" in
    let next : capped (10 * capped n + digit) ≡ capped (10 * n + digit) = omega arith in
    sym (capped_number ds (10 * capped n + digit)) ∙ ap (λ k. capped (number_after k ds)) next ∙ capped_number ds (10 * n + digit)
