-- A test on one literal, and what a question lifts: words that the contracts of `numbers`, `strings` and `answers` share. Assumes nothing.
use Rattle.std.specs.Prelude.{Bool, false}
use Rattle.values.specs.declared.datatypes.PrimitiveType.{PrimitiveType}
use Rattle.values.specs.declared.transform.Transform.{Transform}
use Rattle.expr.specs.Operators as operators
use Rattle.expr.specs.Operators.{Operator}
use Rattle.expr.specs.Predicates.{Test, binary}
use Rattle.projection.specs.Lifting.{lifted}
use Rattle.projection.specs.Steps.{Projected, some, none}
use Rattle.projection.specs.declared.question.Question.{Question}
use Rattle.projection.specs.declared.question.Question.TheVariants.{Inclusive, Strict, Older}

-- whether a question lifts what it is answered: strict never does, but for older files
abbrev pub lifts_for : Question → PrimitiveType → Transform → Bool
lifts_for Inclusive column transform = lifted column transform
lifts_for Strict column transform = false
lifts_for Older column transform = lifted column transform

-- an operator that takes one literal, with it; no other operator makes a test
abbrev pub one_test : {A : Type 0} → Operator → A → Projected (Test A)
one_test (operators.none o) l = none
one_test (operators.one o) l = some (binary o l)
one_test (operators.many o) l = none
