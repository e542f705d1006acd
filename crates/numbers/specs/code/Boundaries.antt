-- What the code of the steps for one number answers, row by row, as the definitions have it. Assumes nothing.
use Rattle.std.specs.Prelude.{Bool, true, false, [], ◌∷◌, ◌≡◌, ℤ, Ok, Err, Option}
use Rattle.std.proofs.Math.IntN.{suc_ℤ, pred_ℤ}
use Rattle.values.specs.Outcomes.{Res, need, ◌>>=◌, ◌>>◌}
use Rattle.values.specs.Types.{in_type}
use Rattle.values.specs.declared.datatypes.PrimitiveType.{PrimitiveType}
use Rattle.values.specs.declared.error.ErrorKind.TheVariants.{Overflow}
use Rattle.values.specs.declared.transform.Transform.{Transform}
use Rattle.expr.specs.Operators as operators
use Rattle.expr.specs.Operators.{Operator, by_arity}
use Rattle.expr.specs.code.OperatorAnswers.{takes_one, takes_many}
use Rattle.expr.specs.Predicates.{Test, binary, set}
use Rattle.expr.specs.declared.operator.PredicateOperator.{PredicateOperator}
use Rattle.expr.specs.declared.operator.PredicateOperator.TheVariants.{LessThan, LessThanOrEq, GreaterThan, GreaterThanOrEq, Eq, NotEq, StartsWith, NotStartsWith}
use Rattle.projection.specs.Lifting.{lift, older}
use Rattle.projection.specs.Projection.{number_step, number_under}
use Rattle.projection.specs.Steps.{Projected, some, none, mapped}
use Rattle.numbers.specs.declared.steps.NumberTest.{NumberTest}
use Rattle.numbers.specs.declared.steps.NumberTest.TheVariants.{One, Two}
use Rattle.projection.specs.declared.question.Question.{Question}
use Rattle.projection.specs.code.OneLiteral.{one_test}

-- the step of a leaf with one literal; none of another leaf
abbrev pub number_leaf : Question → PrimitiveType → Transform → Operator → ℤ → Res (Projected (Test ℤ))
number_leaf question column transform (operators.none o) l = Ok none
number_leaf question column transform (operators.one o) l = number_step column transform question (binary o l)
number_leaf question column transform (operators.many o) l = Ok none

-- a neighbour of L, where it does not leave the column's type
abbrev pub neighbour : PrimitiveType → ℤ → Res ℤ
neighbour column z = do
  need (in_type column z) Overflow
  Ok z

abbrev pub held : PrimitiveType → Option ℤ → Res ℤ
held column none = Err Overflow
held column (some z) = neighbour column z

-- the operator that a row of the table has, and the literal that is to be transformed: none where the row has no predicate
abbrev pub Boundary : Type 0
Boundary = Option (PredicateOperator × ℤ)

abbrev pub at_neighbour : PrimitiveType → PredicateOperator → ℤ → Res Boundary
at_neighbour column o z = do
  n ← neighbour column z
  Ok (some (o, n))

abbrev pub inclusive_boundary : PrimitiveType → Operator → ℤ → Res Boundary
inclusive_boundary column (operators.none o) l = Ok none
inclusive_boundary column (operators.one operators.less_than) l = at_neighbour column LessThanOrEq (pred_ℤ l)
inclusive_boundary column (operators.one operators.less_than_or_eq) l = Ok (some (LessThanOrEq, l))
inclusive_boundary column (operators.one operators.greater_than) l = at_neighbour column GreaterThanOrEq (suc_ℤ l)
inclusive_boundary column (operators.one operators.greater_than_or_eq) l = Ok (some (GreaterThanOrEq, l))
inclusive_boundary column (operators.one operators.eq) l = Ok (some (Eq, l))
inclusive_boundary column (operators.one operators.not_eq) l = Ok none
inclusive_boundary column (operators.one operators.starts_with) l = Ok (some (StartsWith, l))
inclusive_boundary column (operators.one operators.not_starts_with) l = Ok (some (NotStartsWith, l))
inclusive_boundary column (operators.many o) l = Ok none

abbrev pub strict_boundary : PrimitiveType → Operator → ℤ → Res Boundary
strict_boundary column (operators.none o) l = Ok none
strict_boundary column (operators.one operators.less_than) l = Ok (some (LessThan, l))
strict_boundary column (operators.one operators.less_than_or_eq) l = at_neighbour column LessThan (suc_ℤ l)
strict_boundary column (operators.one operators.greater_than) l = Ok (some (GreaterThan, l))
strict_boundary column (operators.one operators.greater_than_or_eq) l = at_neighbour column GreaterThan (pred_ℤ l)
strict_boundary column (operators.one operators.eq) l = Ok none
strict_boundary column (operators.one operators.not_eq) l = Ok (some (NotEq, l))
strict_boundary column (operators.one operators.starts_with) l = Ok none
strict_boundary column (operators.one operators.not_starts_with) l = Ok none
strict_boundary column (operators.many o) l = Ok none

-- lifting and what older files ask of a strict answer, in one: no operator has both (`BoundaryLaws.inclusive_at`, `older_at`)
abbrev pub raise : Test ℤ → Test ℤ
raise q = older (lift q)

abbrev pub raised_by : Bool → Projected (Test ℤ) → Projected (Test ℤ)
raised_by true q = mapped raise q
raised_by false q = q

-- an operator with T of its literal, raised where that is asked for
abbrev pub at_boundary : Bool → (ℤ → Res ℤ) → Boundary → Res (Projected (Test ℤ))
at_boundary lifts T none = Ok none
at_boundary lifts T (some (o, l)) = do
  t ← T l
  Ok (raised_by lifts (one_test (by_arity o) t))

abbrev pub strict_leaf : Bool → PrimitiveType → Transform → Operator → ℤ → Res (Projected (Test ℤ))
strict_leaf raised column transform a l = do
  boundary ← strict_boundary column a l
  at_boundary raised (number_under column transform) boundary

-- the operator of a boundary takes one literal, and its number is of the column's type
abbrev pub OneAt : PrimitiveType → Boundary → Type 0
OneAt column none = Unit {0}
OneAt column (some (o, l)) = (takes_one (by_arity o) ≡ true) × (in_type column l ≡ true)

-- a set operator with a number and the next; no other operator makes a test
abbrev pub two_test : Operator → ℤ → Projected (Test ℤ)
two_test (operators.none o) t = none
two_test (operators.one o) t = none
two_test (operators.many o) t = some (set o (t ∷ suc_ℤ t ∷ []))

-- what a test of the code says, and that its operator takes one literal, or a set
abbrev pub number_test : NumberTest → Projected (Test ℤ)
number_test (One o t) = one_test (by_arity o) t
number_test (Two o t) = two_test (by_arity o) t

abbrev pub Takes : NumberTest → Type 0
Takes (One o t) = takes_one (by_arity o) ≡ true
Takes (Two o t) = takes_many (by_arity o) ≡ true

-- of a projection's answer
abbrev pub number_projected : Res (Option NumberTest) → Res (Projected (Test ℤ))
number_projected (Ok none) = Ok none
number_projected (Ok (some q)) = Ok (number_test q)
number_projected (Err e) = Err e

abbrev pub OneIn : Res (Option NumberTest) → Type 0
OneIn (Ok none) = Unit {0}
OneIn (Ok (some q)) = Takes q
OneIn (Err e) = Unit {0}
