-- What one leaf of a filter is answered, by a row or by partition values. Assumes nothing.
use Rattle.std.specs.Prelude.{ℕ, zero, suc, Bool, true, false, List, [], ◌∷◌, Ok}
use Rattle.values.specs.Outcomes.{Res, ◌>>=◌, Row, missing}
use Rattle.values.specs.declared.datatypes.PrimitiveType.{PrimitiveType}
use Rattle.values.specs.declared.transform.Transform.{Transform}
use Rattle.partition.specs.ResultType.{result_type}
use Rattle.expr.specs.Holds.{Tests, holds}
use Rattle.expr.specs.Predicates.{Predicate, binary, test}
use Rattle.projection.specs.Steps.{Projected, some, none}
use Rattle.projection.specs.declared.question.Question.{Question}
use Rattle.projection.specs.declared.question.Question.TheVariants.{Inclusive, Strict, Older}
use Rattle.sheet.specs.Sheets.{Sheet}
use Rattle.sheet.specs.Values.{each_literal, map_row}
use Rattle.answers.specs.Kinds.{Kind, by_kind}
use Rattle.meets.specs.Tested.{tested_sheet}
use Rattle.columns.specs.Cells.{Cell}
use Rattle.leaves.specs.Fitting.{Leaf}

-- the value of the column at a place; past the list, where no leaf that was found has its place, it is missing
abbrev pub row_at : List Cell → ℕ → Row (List ℕ)
row_at [] k = missing
row_at (c ∷ cells) zero = c.row
row_at (c ∷ cells) (suc k) = row_at cells k

abbrev pub predicate_in : Leaf → Predicate (List ℕ)
predicate_in l = test (binary l.operator l.content)

-- ---- a row: the holds-test of the leaf
abbrev pub sheet_of : Leaf → Sheet
sheet_of l = record { head = l.head; leaf = predicate_in l }

unfoldable pub row_answer : List Cell → Leaf → Res Bool
row_answer cells l = tested_sheet (sheet_of l) (row_at cells l.place)

-- ---- partition values: the holds-test of what the leaf's projection returns

-- 02: "Where a leaf has no predicate, inclusive takes always true, strict always false"
abbrev pub without_predicate : Question → Bool
without_predicate Inclusive = true
without_predicate Strict = false
-- no routine asks it: 02, #107, "filters .. keep two questions"
without_predicate Older = false

abbrev pub accepted : {B : Type 0} → Tests B → Question → Projected (Predicate B) → Row B → Bool
accepted parts question none p = without_predicate question
accepted parts question (some q) p = holds parts q p

-- the result type is not used here: that there is one is asked, which is 5
abbrev pub by_part : {A B : Type 0} → Kind A B → PrimitiveType → Transform → Question → Predicate (List ℕ) → Row (List ℕ) → Res Bool
by_part k column transform question leaf p = do
  l ← each_literal k.read leaf
  to ← result_type transform column
  q ← k.project question l
  Ok (accepted k.parts question q (map_row k.read_part p))

unfoldable pub part_answer : Question → List Cell → Leaf → Res Bool
part_answer question cells l =
    let column = l.head.column in
    let transform = l.head.transform in
    by_kind column transform (λ A B k. by_part k column transform question (predicate_in l) (row_at cells l.place))
