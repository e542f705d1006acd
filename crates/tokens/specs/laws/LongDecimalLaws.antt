-- Which decimals 64 bits hold, and that the number that digits are may be cut at any bound at each digit. Assumes nothing.
use Rattle.std.specs.Prelude.{ℕ, ◌+◌, ◌-◌, ◌*◌, ◌≤◌, ◌<◌, min, true, false, List, [], ◌∷◌, ◌≡◌, pos, neg_ℤ}
use Prim.Native.Char.{code}
use Rattle.std.proofs.Common.{arith, sym, ap, ◌∙◌, SFits}
use Rattle.std.specs.Int.{w64}
use Rattle.values.specs.Types.{in_type}
use Rattle.values.specs.laws.IntLaws.{orders, range, fits, neg}
use Rattle.values.specs.laws.RangeLaws.{in_long}
use Rattle.values.specs.laws.TestLaws.{refuted}
use Rattle.values.specs.declared.datatypes.PrimitiveType.TheVariants.{Long}
use Rattle.tokens.specs.Tokens.{number_after}

pub natural_held : (n : ℕ) → n ≤ 9223372036854775807 → in_type Long (pos n) ≡ true
natural_held n h = (in_long (pos n)).1 (record { sfits = omega arith })

pub natural_large : (n : ℕ) → 9223372036854775807 < n → in_type Long (pos n) ≡ false
natural_large n h = refuted _ (λ e. omega (arith, ((in_long (pos n)).0 e).sfits))

pub negative_fits : (n : ℕ) → n ≤ 9223372036854775808 → SFits w64 (neg_ℤ (pos n))
negative_fits n h = fits (omega (orders, neg (pos n)))

pub negative_held : (n : ℕ) → n ≤ 9223372036854775808 → in_type Long (neg_ℤ (pos n)) ≡ true
negative_held n h = (in_long (neg_ℤ (pos n))).1 (negative_fits n h)

pub negative_large : (n : ℕ) → 9223372036854775808 < n → in_type Long (neg_ℤ (pos n)) ≡ false
negative_large n h = refuted _ (λ e. omega (orders, range ((in_long (neg_ℤ (pos n))).0 e), neg (pos n)))

pub bounded_number : (bound : ℕ) (ds : List ℕ) (n : ℕ) → min (number_after (min n bound) ds) bound ≡ min (number_after n ds) bound
bounded_number bound [] n = omega arith
bounded_number bound (d ∷ ds) n =
    let digit = d - code "0" in
    let next : min (10 * min n bound + digit) bound ≡ min (10 * n + digit) bound = omega arith in
    sym (bounded_number bound ds (10 * min n bound + digit))
    ∙ ap (λ k. min (number_after k ds) bound) next
    ∙ bounded_number bound ds (10 * n + digit)
