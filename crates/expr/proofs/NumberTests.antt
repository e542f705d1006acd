-- What `number_meets` returns in the arm of each comparison: a test of two numbers is what the order of the two says. Assumes nothing.
use mathlib.Core.Bool.{Bool, true, false, not, cond}
use mathlib.Core.Path.{◌≡◌, refl, ap, ◌∙◌}
use lib.Dec.{eqb}
use lib.IntN.{ℤ}
use lib.Signed.{lt_z, le_z}
use mir.Syntax.{w64}
use mir.Val.{SFits, to_z, of_z}
use borrow.Author.Tests.{eqb-true, eq-eqb}
use Rattle.values.specs.laws.SignedLaws.{back, eq_taken}
use Rattle.values.specs.laws.IntLaws.{le_true, le_false, lt_z_yes, lt_z_not}
use Rattle.values.specs.Order.{compare_numbers, is_less, is_equal}
use Rattle.values.specs.laws.OrderLaws.{number_equal, is_equal_lem}
use Rattle.values.specs.laws.TestLaws.{same_test}
use Rattle.std.specs.declared.cmp.Ordering.TheVariants.{Less, Equal, Greater}
use Rattle.expr.specs.code.OperatorAnswers.{meets_one}
use Rattle.expr.specs.Holds.{number_tests}
use Rattle.expr.specs.Operators.{by_arity}
use Rattle.expr.specs.declared.operator.PredicateOperator.{PredicateOperator}
use Rattle.expr.specs.declared.operator.PredicateOperator.TheVariants.{LessThan, LessThanOrEq, GreaterThan, GreaterThanOrEq, Eq, NotEq}

pub less_told : (a b : ℤ) → lt_z a b ≡ is_less (compare_numbers a b)
unfolding compare_numbers
less_told a b = go (lt_z a b) (lt_z b a)
  where
    go : (s t : Bool) → s ≡ is_less (cond s Less (cond t Greater Equal))
    go true t = refl
    go false true = refl
    go false false = refl

most_told : (a b : ℤ) → le_z a b ≡ not (is_less (compare_numbers b a))
most_told a b = go (le_z a b) refl ∙ ap not (less_told b a)
  where
    go : (t : Bool) → le_z a b ≡ t → t ≡ not (lt_z b a)
    go true e = rw (lt_z_not (le_true a b e))
    go false e = rw (lt_z_yes (le_false a b e))

module _ {v l : ℤ} (f : SFits w64 v) (g : SFits w64 l) where
  same_told : eqb (of_z w64 v) (of_z w64 l) ≡ is_equal (compare_numbers v l)
  same_told =
      same_test
      (eqb (of_z w64 v) (of_z w64 l))
      (is_equal (compare_numbers v l))
      (λ e. ap is_equal ((number_equal v l).1 (eq_taken f g (eqb-true _ _ e))))
      (λ e. eq-eqb _ _ (ap (of_z w64) ((number_equal v l).0 ((is_equal_lem _).0 e))))

  pub below : {o : PredicateOperator} → o ≡ LessThan → lt_z (to_z w64 (of_z w64 v)) (to_z w64 (of_z w64 l)) ≡ meets_one number_tests (by_arity o) v l
  below is = rw (is, back f, back g) (less_told v l)

  pub at_most : {o : PredicateOperator} → o ≡ LessThanOrEq → le_z (to_z w64 (of_z w64 v)) (to_z w64 (of_z w64 l)) ≡ meets_one number_tests (by_arity o) v l
  at_most is = rw (is, back f, back g) (most_told v l)

  pub above : {o : PredicateOperator} → o ≡ GreaterThan → lt_z (to_z w64 (of_z w64 l)) (to_z w64 (of_z w64 v)) ≡ meets_one number_tests (by_arity o) v l
  above is = rw (is, back f, back g) (less_told l v)

  pub at_least : {o : PredicateOperator} → o ≡ GreaterThanOrEq → le_z (to_z w64 (of_z w64 l)) (to_z w64 (of_z w64 v)) ≡ meets_one number_tests (by_arity o) v l
  at_least is = rw (is, back f, back g) (most_told l v)

  pub same : {o : PredicateOperator} → o ≡ Eq → eqb (of_z w64 v) (of_z w64 l) ≡ meets_one number_tests (by_arity o) v l
  same is = rw is same_told

  pub other : {o : PredicateOperator} → o ≡ NotEq → not (eqb (of_z w64 v) (of_z w64 l)) ≡ meets_one number_tests (by_arity o) v l
  other is = rw is (ap not same_told)

pub ruleset number-tests = (below, at_most, above, at_least, same, other)
