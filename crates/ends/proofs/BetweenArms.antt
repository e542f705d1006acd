-- What a match on the operator returns in each arm, where some number between the ends is asked for. Assumes nothing.
use Rattle.std.proofs.Common.{◌≡◌, ◌≢◌, Bool, true, false, not, ◌||◌, List, ℤ, ◌≤ℤ◌, sym, refl, ap, ◌∙◌}
use Rattle.values.specs.SomeEvery.{some, every}
use Rattle.values.specs.Ascending.{elem}
use Rattle.values.specs.Order.{compare_numbers}
use Rattle.values.specs.laws.IntLaws.{ints}
use Rattle.values.specs.laws.SomeLaws.{every_some}
use Rattle.values.specs.laws.TestLaws.{refuted, clash, not_not}
use Rattle.expr.specs.Holds.{number_tests}
use Rattle.expr.specs.Operators.{Operator, none, one, many, eq, by_arity}
use Rattle.expr.specs.code.OperatorAnswers.{meets_one}
use Rattle.expr.specs.declared.operator.PredicateOperator.{PredicateOperator}
use Rattle.expr.specs.declared.operator.PredicateOperator.TheVariants.{IsNull, NotNull, IsNan, NotNan, LessThan, LessThanOrEq, GreaterThan, GreaterThanOrEq, Eq, NotEq, StartsWith, NotStartsWith, In, NotIn}
use Rattle.summary.specs.EndValues.{lies_in}
use Rattle.summary.specs.Summaries.{◌to◌}
use Rattle.ends.specs.Between.{between}
use Rattle.ends.specs.laws.BetweenLaws.{some_between, some_equal, some_member, by_both_ends}

-- for all but Eq the ends decide
not_eq : (o : PredicateOperator) → o ≢ Eq → by_arity o ≢ one eq
not_eq IsNull n e = cc
not_eq NotNull n e = cc
not_eq IsNan n e = cc
not_eq NotNan n e = cc
not_eq LessThan n e = cc
not_eq LessThanOrEq n e = cc
not_eq GreaterThan n e = cc
not_eq GreaterThanOrEq n e = cc
not_eq Eq n e = n refl
not_eq NotEq n e = cc
not_eq StartsWith n e = cc
not_eq NotStartsWith n e = cc
not_eq In n e = cc
not_eq NotIn n e = cc

module _ {low high : ℤ} (h : low ≤ℤ high) where
  pub none_met : some (λ (v : ℤ). false) (between low high) ≡ false
  none_met = refuted _ (λ e. clash ((some_between (λ v. false) low high h).0 e).3 refl)

  pub all_met : some (λ (v : ℤ). true) (between low high) ≡ true
  all_met = (some_between (λ v. true) low high h).1 (low, omega ints, h, refl)

  by_ends : (a : Operator) (l : ℤ) → (a ≡ one eq → ⊥)
      → some (λ v. meets_one number_tests a v l) (between low high) ≡ (meets_one number_tests a low l || meets_one number_tests a high l)
  by_ends (none o) l other = none_met
  by_ends (one o) l other = by_both_ends o l low high (λ e. other (ap one e)) h
  by_ends (many o) l other = none_met

  module _ (o : PredicateOperator) (l : ℤ) where
    pub equal_met : o ≡ Eq → some (λ v. meets_one number_tests (by_arity o) v l) (between low high) ≡ lies_in compare_numbers (low to high) l
    equal_met is = rw is (some_equal l low high h)

    pub ends_met : o ≢ Eq → some (λ v. meets_one number_tests (by_arity o) v l) (between low high)
        ≡ (meets_one number_tests (by_arity o) low l || meets_one number_tests (by_arity o) high l)
    ends_met m = by_ends (by_arity o) l (not_eq o m)

  -- ---- sets
  module _ (ls : List ℤ) {r : Bool} where
    pub member_met : r ≡ some (lies_in compare_numbers (low to high)) ls → r ≡ some (λ v. elem compare_numbers v ls) (between low high)
    member_met e = e ∙ sym (some_member ls low high h)

    pub other_met : r ≡ every (λ v. elem compare_numbers v ls) (between low high) → not r ≡ some (λ v. not (elem compare_numbers v ls)) (between low high)
    other_met e = ap not (e ∙ every_some (λ v. elem compare_numbers v ls) (between low high)) ∙ not_not _
