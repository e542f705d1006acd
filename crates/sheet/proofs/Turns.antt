-- The loops over the literals: the code's test of a member, in each turn. Assumes nothing.
use mathlib.Core.Bool.{true, false}
use mathlib.Core.Path.{◌≡◌, sym, ap, ◌∙◌}
use lib.IntN.{ℤ}
use mir.Syntax.{w64}
use mir.Val.{SFits, to_z, of_z}
use Rattle.values.specs.laws.SignedLaws.{back, eq_taken}
use Rattle.values.specs.Order.{compare_numbers, is_equal}
use Rattle.values.specs.laws.OrderLaws.{number_equal, is_equal_lem}
use Rattle.values.specs.laws.TestLaws.{refuted}

-- the code's test that two numbers are equal, one of them a local's
module _ {v l z : ℤ} (f : SFits w64 v) (g : SFits w64 l) (is : l ≡ z) where
  pub equal_here : of_z w64 l ≡ of_z w64 v → is_equal (compare_numbers (to_z w64 (of_z w64 v)) z) ≡ true
  equal_here h = ap is_equal ((number_equal _ z).1 (back f ∙ sym (eq_taken g f h) ∙ is))

  pub other_here : (of_z w64 l ≡ of_z w64 v → ⊥) → is_equal (compare_numbers (to_z w64 (of_z w64 v)) z) ≡ false
  other_here h = refuted _ (λ e. h (ap (of_z w64) (is ∙ sym ((number_equal _ z).0 ((is_equal_lem _).0 e)) ∙ back f)))
