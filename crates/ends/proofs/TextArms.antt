-- What is returned for the ends of a file of byte strings. Assumes nothing.
use Rattle.std.proofs.Common.{◌≡◌, ◌≢◌, ℕ, Bool, true, false, not, ◌&&◌, List, nat_eq, sym, refl, ◌∙◌}
use lib.Pointwise.{pointwise}
use Rattle.values.specs.SomeEvery.{some}
use Rattle.values.specs.Order.{compare_bytes, is_less}
use Rattle.values.specs.Ascending.{elem}
use Rattle.values.specs.laws.OrderLaws.{is_equal_lem}
use Rattle.expr.specs.Holds.{bytes_tests}
use Rattle.expr.specs.Operators.{by_arity}
use Rattle.expr.specs.code.OperatorAnswers.{meets_one}
use Rattle.expr.specs.declared.operator.PredicateOperator.{PredicateOperator}
use Rattle.expr.specs.declared.operator.PredicateOperator.TheVariants.{IsNull, NotNull, IsNan, NotNan, LessThan, LessThanOrEq, GreaterThan, GreaterThanOrEq, Eq, NotEq, StartsWith, NotStartsWith, In, NotIn}
use Rattle.meets.specs.laws.EqualBytesLaws.{slices_equal}
use Rattle.ends.specs.RuledOut.{both_are}
use Rattle.ends.specs.code.EndAnswers.{ruled_out_one}
use Rattle.ends.specs.laws.RuledOutLaws.{asks_the_ends, by_neither_end, ends_equal, ends_differ}

-- both ends are one literal
module _ (low high : List ℕ) (ls : List (List ℕ)) {same : Bool} (told : same ≡ pointwise nat_eq low high) where
  pub same_ends : {r : Bool} → same ≡ true → r ≡ elem compare_bytes low ls → r ≡ some (both_are low high) ls
  same_ends h e = e ∙ sym (ends_equal low high ls ((is_equal_lem _).0 (sym (slices_equal low high) ∙ sym told ∙ h)))

  pub other_ends : same ≡ false → same ≡ some (both_are low high) ls
  other_ends h = h ∙ sym (ends_differ low high ls (sym (slices_equal low high) ∙ sym told ∙ h))

-- but for Eq and StartsWith the ends themselves answer
asking_ends : (o : PredicateOperator) → o ≢ Eq → o ≢ StartsWith → asks_the_ends (by_arity o) ≡ true
asking_ends IsNull n m = refl
asking_ends NotNull n m = refl
asking_ends IsNan n m = refl
asking_ends NotNan n m = refl
asking_ends LessThan n m = refl
asking_ends LessThanOrEq n m = refl
asking_ends GreaterThan n m = refl
asking_ends GreaterThanOrEq n m = refl
asking_ends Eq n m = absurd (n refl)
asking_ends NotEq n m = refl
asking_ends StartsWith n m = absurd (m refl)
asking_ends NotStartsWith n m = refl
asking_ends In n m = refl
asking_ends NotIn n m = refl

module _ (o : PredicateOperator) (n : o ≢ Eq) (m : o ≢ StartsWith) (low high l : List ℕ)
    (ordered : is_less (compare_bytes high low) ≡ false) {r : Bool} (lowest : r ≡ meets_one bytes_tests (by_arity o) low l) where
  neither : ruled_out_one (by_arity o) low high l ≡ (not (meets_one bytes_tests (by_arity o) low l) && not (meets_one bytes_tests (by_arity o) high l))
  neither = by_neither_end low high l ordered (by_arity o) (asking_ends o n m)

  pub lowest_meets : r ≡ true → not r ≡ ruled_out_one (by_arity o) low high l
  lowest_meets h = rw (neither, ← lowest, h)

  pub highest_decides : {s : Bool} → r ≡ false → s ≡ meets_one bytes_tests (by_arity o) high l → not s ≡ ruled_out_one (by_arity o) low high l
  highest_decides h e = rw (neither, ← lowest, h, e)

pub ruleset arms = (same_ends, other_ends, lowest_meets, highest_decides)
