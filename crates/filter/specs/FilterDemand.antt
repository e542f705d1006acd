-- What is to be shown of filters, beside demand 3, over bytes: column lists c, texts t, value records v side by side, and partition values p. Assumes nothing.
use Rattle.std.specs.Prelude.{ℕ, Bool, true, ◌⊎◌, ◌↔◌, ◌≡◌, Ok, Err}
use mathlib.Core.List.{List, [], ◌∷◌, ◌++◌, map, Memᴰ as Isin}
use Rattle.values.specs.Outcomes.{Res, error_number}
use Rattle.values.specs.Words.{field, AllBytes}
use Rattle.values.specs.declared.error.ErrorKind.TheVariants.{FeatureUnsupported}
use Rattle.expr.specs.Operators.{operator_number, operator_of, one}
use Rattle.projection.specs.Steps.{Projected, some, none}
use Rattle.projection.specs.declared.question.Question.{Question}
use Rattle.projection.specs.declared.question.Question.TheVariants.{Inclusive, Strict}
use Rattle.sheet.specs.Records.{record_size, record_at}
use Rattle.api.specs.Demand3.{type_in, transform_in, width_in, Returns, RowOf, SomeRow, AllRows, Numeric, Lifts, OneAbove}
use Rattle.api.specs.HoldsTest.{holds_test}
use Rattle.api.specs.Requests.{sheet_of}
use Rattle.api.specs.Routines.{project_sheet}
use Rattle.api.specs.UnknownAlone.{unknown}
use Rattle.columns.specs.Cells.{rows, parts, Cell, cells_of}
use Rattle.columns.specs.Columns.{name_size, entry_at}
use Rattle.grammar.specs.Filters.{Filter, leaf, either, both, opposite, bracket, one as single, straight}
use Rattle.leaves.specs.Fitting.{Leaf}
use Rattle.ask.specs.LeafAnswers.{without_predicate}
use Rattle.parse.specs.FilterText.{filter_in, turn}
use Rattle.filter.specs.FilterRoutines.{filter_row, filter_parts}

-- ---- rows and their partition values

-- the head record of the column at place k
abbrev pub head_at : List ℕ → ℕ → List ℕ
head_at c k = field name_size record_size (entry_at c k)

-- the places of the columns that a filter's leaves name
abbrev pub places_in : Filter Leaf → List ℕ
places_in (leaf l) = l.place ∷ []
places_in (either f g) = places_in f ++ places_in g
places_in (both f g) = places_in f ++ places_in g
places_in (opposite f) = places_in f
places_in (bracket f) = places_in f

-- v is a row and p its partition values: of each column that a leaf names v's record is a row of p's; of every other column both are readable
pub record Rows (c t v p : List ℕ) : Type 0 where
  pub cells : List Cell
  pub row_cells_lem : cells_of rows c v ≡ Ok cells
  pub others : List Cell
  pub part_cells_lem : cells_of parts c p ≡ Ok others
  pub named : (f : Filter Leaf) → filter_in (map (λ x. x.column) cells) t ≡ Ok f → (k : ℕ) → Isin k (places_in f)
      → RowOf (head_at c k) (record_at p k) (record_at v k)

-- ---- 02: "A whole filter loses no row that meets it, and strictly lets in none that fails"

-- yes, or refused with 6 or 8. Not with 5 or 7: a row of `Rows` has a partition value in each column that a leaf names, so that the column's type has a result
-- type there and its transform is not Unknown
abbrev pub Kept : Res Bool → Type 0
Kept (Ok b) = b ≡ true
Kept (Err e) = (error_number e ≡ 6) ⊎ (error_number e ≡ 8)

abbrev pub FilterLosesNoRow : Type 0
FilterLosesNoRow = (c t v p : List ℕ) → Rows c t v p → filter_row c t v ≡ Ok true → Kept (filter_parts Inclusive c t p)

abbrev pub FilterStrictIsSafe : Type 0
FilterStrictIsSafe = (c t v p : List ℕ) → Rows c t v p → filter_parts Strict c t p ≡ Ok true → filter_row c t v ≡ Ok true

-- ---- 02: "the exact distance is kept for single leaves": a filter of one leaf is answered as that leaf's sheet is

-- the text's filter, with every `not` read, is the leaf l: `a < 5`, `(a < 5)`, `not a >= 5` and `not not a < 5` are the leaf `a < 5`
abbrev pub IsOneLeaf : List Cell → List ℕ → Leaf → Type 0
IsOneLeaf cells t l = (f : Filter Leaf) × (filter_in (map (λ x. x.column) cells) t ≡ Ok f) × (straight turn f ≡ single l)

-- the leaf as a sheet, with its column's type, transform and width. The list is of bytes: a width that four bytes do not hold has no sheet
abbrev pub sheet_in : List ℕ → Leaf → List ℕ
sheet_in c l = let h = head_at c l.place in sheet_of (operator_number (operator_of (one l.operator))) (type_in h) (transform_in h) (width_in h) (l.content ∷ [])

-- by what its projection returns: the holds-test of it; no predicate; or the refusal
abbrev pub by_returned : Question → Res (Projected (List ℕ)) → List ℕ → Res Bool
by_returned question (Ok (some q)) p = holds_test q p
by_returned question (Ok none) p = Ok (without_predicate question)
by_returned question (Err e) p = Err e

abbrev pub OneLeafRow : Type 0
OneLeafRow = (c t v : List ℕ) (cells : List Cell) (l : Leaf) → cells_of rows c v ≡ Ok cells → IsOneLeaf cells t l
    → filter_row c t v ≡ holds_test (sheet_in c l) (record_at v l.place)

abbrev pub OneLeafParts : Type 0
OneLeafParts = (question : Question) (c t p : List ℕ) (cells : List Cell) (l : Leaf) → AllBytes c → cells_of parts c p ≡ Ok cells → IsOneLeaf cells t l
    → filter_parts question c t p ≡ by_returned question (project_sheet question (sheet_in c l)) (record_at p l.place)

-- joined to demand 3: the leaf is over a whole-number or time column, its projection returns a predicate, and some row has the column's partition value in p.
-- Strictly the filter is yes exactly if all rows of that value meet the leaf; inclusively exactly if some does, or where demand 3 has one above. Without a predicate
-- `OneLeafParts` says no and yes, and nothing more is true: `a = 5`, of an Int under Truncate 1, is strictly no for 5, though all its rows meet it
pub record OneLeafAsked (question : Question) (c t p : List ℕ) (l : Leaf) : Type 0 where
  pub list_bytes : AllBytes c
  pub cells : List Cell
  pub part_cells_lem : cells_of parts c p ≡ Ok cells
  pub is_leaf : IsOneLeaf cells t l
  pub numeric : Numeric (sheet_in c l)
  pub row : List ℕ
  pub row_of : RowOf (sheet_in c l) (record_at p l.place) row
  pub predicate : List ℕ
  pub returned : Returns question (sheet_in c l) predicate

abbrev pub OneLeafStrictIsExact : Type 0
OneLeafStrictIsExact = (c t p : List ℕ) (l : Leaf) → OneLeafAsked Strict c t p l
    → (filter_parts Strict c t p ≡ Ok true) ↔ AllRows (sheet_in c l) (record_at p l.place)

abbrev pub OneLeafInclusiveIsExact : Type 0
OneLeafInclusiveIsExact = (c t p : List ℕ) (l : Leaf) → OneLeafAsked Inclusive c t p l
    → let s = sheet_in c l in let a = record_at p l.place in (filter_parts Inclusive c t p ≡ Ok true) ↔ (SomeRow s a ⊎ (Lifts s × OneAbove s a))

pub record FiltersLoseNothing : Type 0 where
  pub loses_no_row : FilterLosesNoRow
  pub strict_is_safe : FilterStrictIsSafe
  pub one_leaf_row : OneLeafRow
  pub one_leaf_parts : OneLeafParts
  pub one_leaf_strict_is_exact : OneLeafStrictIsExact
  pub one_leaf_inclusive_is_exact : OneLeafInclusiveIsExact

-- ---- 02, #102: "7 is left for Unknown". A row gives no 7 (`FilterAnswerLaws.row_answers`)

-- list, values and text are read, and a column that a leaf names has Unknown
pub record NamesUnknown (c t p : List ℕ) : Type 0 where
  pub cells : List Cell
  pub part_cells_lem : cells_of parts c p ≡ Ok cells
  pub filter : Filter Leaf
  pub found : filter_in (map (λ x. x.column) cells) t ≡ Ok filter
  pub place : ℕ
  pub named : Isin place (places_in filter)
  pub is_unknown : transform_in (head_at c place) ≡ unknown

abbrev pub FilterSevenIsUnknown : Type 0
FilterSevenIsUnknown = (question : Question) (c t p : List ℕ) → filter_parts question c t p ≡ Err FeatureUnsupported → NamesUnknown c t p
