-- What the code of the steps for one String or Binary answers, as the definitions have it. Assumes nothing.
use Rattle.std.specs.Prelude.{ℕ, ◌≤◌, true, List, ◌≡◌, length, Ok, Option}
use Rattle.std.specs.Borrow.{Bor}
use Rattle.values.specs.Outcomes.{◌>>=◌}
use Rattle.values.specs.declared.datatypes.PrimitiveType.{PrimitiveType}
use Rattle.values.specs.declared.transform.Transform.{Transform}
use Rattle.values.specs.declared.transform.Transform.TheVariants.{Truncate}
use Rattle.expr.specs.Operators as operators
use Rattle.expr.specs.Operators.{Operator, by_arity}
use Rattle.expr.specs.code.OperatorAnswers.{takes_one}
use Rattle.expr.specs.Predicates.{binary}
use Rattle.expr.specs.declared.operator.PredicateOperator.{PredicateOperator}
use Rattle.projection.specs.Projection.{bytes_step, bytes_under, length_of}
use Rattle.projection.specs.ByteSteps.{Step, by_length}
use Rattle.projection.specs.Steps.{some, none}
use Rattle.projection.specs.declared.question.Question.{Question}
use Rattle.projection.specs.code.OneLiteral.{one_test}

abbrev pub bytes_leaf : Question → PrimitiveType → Transform → Operator → List ℕ → Step
bytes_leaf question column transform (operators.none o) l = Ok none
bytes_leaf question column transform (operators.one o) l = bytes_step column transform question (binary o l)
bytes_leaf question column transform (operators.many o) l = Ok none

-- an operator with lent bytes
abbrev pub Lent : Type 0
Lent = Option (PredicateOperator × Bor (List ℕ))

abbrev pub bytes_projected : Lent → Step
bytes_projected none = Ok none
bytes_projected (some (o, t)) = Ok (one_test (by_arity o) t.now)

-- the bytes are no longer than L
abbrev pub NoLonger : ℕ → Lent → Type 0
NoLonger size none = Unit {0}
NoLonger size (some (o, t)) = length t.now ≤ size

-- and the operator takes one literal
abbrev pub OneLiteral : Lent → Type 0
OneLiteral none = Unit {0}
OneLiteral (some (o, t)) = takes_one (by_arity o) ≡ true

abbrev pub truncated_leaf : PrimitiveType → ℕ → Operator → List ℕ → Step
truncated_leaf column width a l = do
  t ← bytes_under column (Truncate width) l
  Ok (one_test a t)

-- StartsWith and NotStartsWith, with the operator that a literal as long as the width has: a longer literal has none, or T
abbrev pub within_leaf : PrimitiveType → ℕ → Operator → Operator → List ℕ → Step
within_leaf column width a whole l = by_length (length_of column l) width (one_test whole l) (one_test a l) (Ok none)

abbrev pub cut_leaf : PrimitiveType → ℕ → Operator → Operator → List ℕ → Step
cut_leaf column width a whole l = by_length (length_of column l) width (one_test whole l) (one_test a l) (truncated_leaf column width a l)
