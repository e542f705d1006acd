-- `expr::test::bytes_meets` meets its contract: the beginnings by their call, and the comparisons by the order of the two. Assumes nothing.
use Rattle.std.proofs.Common.{◌≡◌, ◌≢◌, ◌∙◌, List, ℕ, refl}
use Rattle.values.specs.Order.{compare_bytes}
use Rattle.values.specs.laws.OrderLaws.{bytes_order}
use Rattle.expr.specs.code.OperatorAnswers.{asks_for, meets_one}
use Rattle.expr.specs.Holds.{bytes_tests}
use Rattle.expr.specs.Operators.{by_arity}
use Rattle.expr.specs.declared.operator.PredicateOperator.{PredicateOperator}
use Rattle.expr.specs.declared.operator.PredicateOperator.TheVariants.{IsNull, NotNull, IsNan, NotNan, LessThan, LessThanOrEq, GreaterThan, GreaterThanOrEq, Eq, NotEq, StartsWith, NotStartsWith, In, NotIn}
use Rattle.expr.proofs.test.bytes_meets.Goals as goal

-- every operator but the two of beginnings asks only how the two compare
by_order : (o : PredicateOperator) (v l : List ℕ) → o ≢ StartsWith → o ≢ NotStartsWith
    → asks_for (by_arity o) (compare_bytes v l) ≡ meets_one bytes_tests (by_arity o) v l
by_order IsNull v l a b = refl
by_order NotNull v l a b = refl
by_order IsNan v l a b = refl
by_order NotNan v l a b = refl
by_order LessThan v l a b = refl
by_order LessThanOrEq v l a b = rw (bytes_order.flips v l)
by_order GreaterThan v l a b = rw (bytes_order.flips v l)
by_order GreaterThanOrEq v l a b = refl
by_order Eq v l a b = refl
by_order NotEq v l a b = refl
by_order StartsWith v l a b = absurd (a refl)
by_order NotStartsWith v l a b = absurd (b refl)
by_order In v l a b = refl
by_order NotIn v l a b = refl

pub returns-in_default : goal.returns-in_default
returns-in_default c =
    c.ordering_meets.ensures
    ∙ rw c.compare_bytes.ensures (by_order c.args.operator c.args.v.now c.args.l.now c.in_default.not-StartsWith c.in_default.not-NotStartsWith)
