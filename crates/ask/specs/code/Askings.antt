-- What a leaf with one typed literal is answered, of a row or of a partition value, as the code has it. Assumes nothing.
use Rattle.std.specs.Prelude.{ℕ, Bool, false, List, [], ◌∷◌, ◌⊎◌, ◌≡◌, ℤ, length, Ok}
use Rattle.std.proofs.Math.IntN.{suc_ℤ}
use Rattle.values.specs.Outcomes.{Res, ◌>>=◌, Row, missing, present}
use Rattle.values.specs.Words.{le_number, signed}
use Rattle.values.specs.declared.datatypes.PrimitiveType.{PrimitiveType}
use Rattle.values.specs.declared.transform.Transform.{Transform}
use Rattle.partition.specs.ResultType.{result_type}
use Rattle.expr.specs.Holds.{Tests, number_tests, bytes_tests, missing_meets, holds}
use Rattle.expr.specs.Operators as operators
use Rattle.expr.specs.Operators.{Operator}
use Rattle.expr.specs.Predicates.{Test, Predicate, binary, set, test}
use Rattle.expr.specs.code.OperatorAnswers.{meets_one}
use Rattle.projection.specs.Projection.{project_numbers, project_bytes}
use Rattle.projection.specs.Steps.{Projected, mapped}
use Rattle.projection.specs.declared.question.Question.{Question}
use Rattle.sheet.specs.Values.{map_row}
use Rattle.columns.specs.Cells.{type_or}
use Rattle.ask.specs.LeafAnswers.{accepted}
use Rattle.ask.specs.declared.asked.Asked.{Asked}
use Rattle.ask.specs.declared.asked.Asked.TheVariants as asked

-- the type of the value that is asked: the column's, or the partition values'
abbrev pub type_asked : Asked → PrimitiveType → Transform → PrimitiveType
type_asked asked.Row column transform = column
type_asked (asked.Part question) column transform = type_or column (result_type transform column)

-- ---- of either kind: how values are tested, the type of the partition values, and how a leaf is projected
module _ {A : Type 0} (by : Tests A) (to : Res PrimitiveType) (project : Question → Predicate A → Res (Projected (Predicate A))) where
  abbrev pub part_held : Question → Predicate A → Row A → Res Bool
  part_held question leaf p = do
    type ← to
    q ← project question leaf
    Ok (accepted by question q p)

  abbrev pub leaf_held : Asked → Predicate A → Row A → Res Bool
  leaf_held asked.Row leaf r = Ok (holds by leaf r)
  leaf_held (asked.Part question) leaf p = part_held question leaf p

  -- an operator that takes one literal, with it; no other operator is met
  abbrev pub one_held : Asked → Operator → A → Row A → Res Bool
  one_held a (operators.none o) l r = Ok false
  one_held a (operators.one o) l r = leaf_held a (test (binary o l)) r
  one_held a (operators.many o) l r = Ok false

-- ---- numbers, read from as many bytes as the content has; and texts
abbrev pub number_row : Row (List ℕ) → Row ℤ
number_row r = map_row (λ bs. signed (length bs) (le_number bs)) r

unfoldable pub number_answer : Asked → PrimitiveType → Transform → Operator → ℤ → Row (List ℕ) → Res Bool
number_answer a column transform o l r =
    one_held number_tests (result_type transform column) (λ question leaf. project_numbers question column transform leaf) a o l (number_row r)

unfoldable pub text_answer : Asked → PrimitiveType → Transform → Operator → List ℕ → Row (List ℕ) → Res Bool
text_answer a column transform o l r =
    one_held bytes_tests (result_type transform column) (λ question leaf. project_bytes question column transform leaf) a o l r

-- ---- on the way

-- a value against a set operator with t and the number above it; no other operator is met
abbrev pub meets_two : Operator → ℤ → Row ℤ → Bool
meets_two (operators.none o) t r = false
meets_two (operators.one o) t r = false
meets_two (operators.many o) t r = holds number_tests (test (set o (t ∷ suc_ℤ t ∷ []))) r

-- the content of a number, where there is one, has 4 bytes or 8
abbrev pub NumberSized : Row (List ℕ) → Type 0
NumberSized missing = Unit {0}
NumberSized (present bs) = (length bs ≡ 4) ⊎ (length bs ≡ 8)

-- a value against an operator and its one literal
abbrev pub meets_row : {A : Type 0} → Tests A → Operator → A → Row A → Bool
meets_row by o l missing = missing_meets o
meets_row by o l (present v) = meets_one by o v l

-- a partition value against what a step gave
abbrev pub step_held : {A : Type 0} → Tests A → Question → Res (Projected (Test A)) → Row A → Res Bool
step_held by question step p = do
  q ← step
  Ok (accepted by question (mapped test q) p)
