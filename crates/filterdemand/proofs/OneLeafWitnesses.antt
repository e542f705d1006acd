-- What is shown of filters of one leaf, and of 7, is about something: for each clause a column list, a text and values that meet what it asks; and a filter of one leaf
-- without a predicate, which is strictly no where its row meets it. Assumes nothing.
use Rattle.std.specs.Prelude.{Ok, Err}
use Prim.Native.Nat.{ℕ}
use mathlib.Core.Bool.{true, false}
use mathlib.Core.List.{List}
use mathlib.Core.Path.{◌≡◌, refl}
use lib.IntN.{pos}
use Rattle.values.specs.Characters.{ascii}
use Rattle.values.specs.Order.{compare_numbers, compare_bytes}
use Rattle.values.specs.Outcomes.{missing}
use Rattle.values.specs.Transforms.{transform_of}
use Rattle.values.specs.Types.{in_type}
use Rattle.values.specs.Words.{AllBytes}
use Rattle.values.specs.declared.error.ErrorKind.TheVariants.{FeatureUnsupported}
use Rattle.transform.specs.Floor.{floor_mod}
use Rattle.transform.specs.Truncate.{truncated}
use Rattle.partition.specs.Partition.{transform_number}
use Rattle.partition.specs.ResultType.{result_type}
use Rattle.expr.specs.Operators.{less_than, greater_than_or_eq}
use Rattle.projection.specs.Projection.{project_numbers}
use Rattle.projection.specs.declared.question.Question.{Question}
use Rattle.projection.specs.declared.question.Question.TheVariants.{Inclusive, Strict}
use Rattle.sheet.specs.Records.{content, value}
use Rattle.sheet.specs.Sheets.{head, fields}
use Rattle.write.specs.Written.{value_record}
use Rattle.meets.specs.Tested.{tested_sheet}
use Rattle.api.specs.Requests.{value_of}
use Rattle.columns.specs.Cells.{rows, parts, Cell, cells_of}
use Rattle.columns.specs.Columns.{column, columns}
use Rattle.grammar.specs.Filters.{leaf, opposite, bracket}
use Rattle.grammar.specs.Parser.{single, conjunction, disjunction}
use Rattle.leaves.specs.Fitting.{Leaf}
use Rattle.leaves.specs.Symbols.{symbols}
use Rattle.ask.specs.LeafAnswers.{row_answer, part_answer}
use Rattle.parse.specs.FilterText.{filter_in}
use Rattle.filter.specs.FilterDemand.{IsOneLeaf, OneLeafAsked}
use Rattle.filter.specs.FilterRoutines.{filter_row, filter_parts}
use Rattle.demand.proofs.RecordBytes.{looked_at}
use Rattle.demand.proofs.Witnesses.{five, row_of_nought, at_most290, less300, returned, numeric}
use Rattle.filterdemand.proofs.FilterWitnesses.{entry, int, list, row, part, head_of_a, row_cells, part_cells, row_cells_lem, part_cells_lem}

-- ---- `not not (a < 300)` and `not a >= 300` are the leaf `a < 300`, of the list, the row and the partition values there
abbrev below300 : Leaf
below300 = record { place = 0; head = head_of_a; operator = less_than; content = int (pos 300) }

abbrev twice : List ℕ
twice = ascii "not not (a < 300)"

abbrev turned_back : List ℕ
turned_back = ascii "not a >= 300"

are_leaf : IsOneLeaf part_cells twice below300 × IsOneLeaf part_cells turned_back below300
unfolding filter_in symbols disjunction conjunction single in_type compare_bytes
are_leaf = (
  (opposite (opposite (bracket (leaf below300))), refl, refl),
  (opposite (leaf (record { place = 0; head = head_of_a; operator = greater_than_or_eq; content = int (pos 300) })), refl, refl),
)

pub one_leaf_row_asks : (c t v : List ℕ) × (cells : List Cell) × (l : Leaf) × (cells_of rows c v ≡ Ok cells) × IsOneLeaf cells t l
one_leaf_row_asks = (list, twice, row, row_cells, below300, row_cells_lem, are_leaf.0)

list_bytes : AllBytes list
list_bytes = looked_at list refl

pub one_leaf_parts_asks : (c t p : List ℕ) × (cells : List Cell) × (l : Leaf) × AllBytes c × (cells_of parts c p ≡ Ok cells) × IsOneLeaf cells t l
one_leaf_parts_asks = (list, turned_back, part, part_cells, below300, list_bytes, part_cells_lem, are_leaf.1)

-- the leaf's sheet is that of demand 3's witnesses, and so are its row 5 and its partition value 0
pub one_leaf_strict_is_exact_asks : (c t p : List ℕ) × (l : Leaf) × OneLeafAsked Strict c t p l
one_leaf_strict_is_exact_asks = (
  list,
  turned_back,
  part,
  below300,
  record {
    list_bytes = list_bytes;
    cells = part_cells;
    part_cells_lem = part_cells_lem;
    is_leaf = are_leaf.1;
    numeric = numeric;
    row = five;
    row_of = row_of_nought;
    predicate = less300;
    returned = returned.1;
  },
)

pub one_leaf_inclusive_is_exact_asks : (c t p : List ℕ) × (l : Leaf) × OneLeafAsked Inclusive c t p l
one_leaf_inclusive_is_exact_asks = (
  list,
  twice,
  part,
  below300,
  record {
    list_bytes = list_bytes;
    cells = part_cells;
    part_cells_lem = part_cells_lem;
    is_leaf = are_leaf.0;
    numeric = numeric;
    row = five;
    row_of = row_of_nought;
    predicate = at_most290;
    returned = returned.0;
  },
)

-- ---- without a predicate: `a = 5` of an Int under Truncate 1 is met by the row 5, and strictly no for its partition value 5
abbrev ones : List ℕ
ones = entry (ascii "a") 1 1 1

is5_row : filter_row ones (ascii "a = 5") (value_of (int (pos 5))) ≡ Ok true
unfolding filter_row cells_of columns column fields head transform_of value content compare_bytes
    filter_in symbols disjunction conjunction single in_type row_answer tested_sheet compare_numbers
is5_row = refl

is5_strict : filter_parts Strict ones (ascii "a = 5") (value_of (int (pos 5))) ≡ Ok false
unfolding filter_parts cells_of columns column fields head transform_of value content compare_bytes result_type
    filter_in symbols disjunction conjunction single in_type part_answer project_numbers transform_number truncated floor_mod compare_numbers
is5_strict = refl

pub without_a_predicate : (c t v p : List ℕ) × (filter_row c t v ≡ Ok true) × (filter_parts Strict c t p ≡ Ok false)
without_a_predicate = (ones, ascii "a = 5", value_of (int (pos 5)), value_of (int (pos 5)), is5_row, is5_strict)

-- ---- 7: the transform of a is Unknown
abbrev unknowns : List ℕ
unknowns = entry (ascii "a") 1 7 0

seven : (question : Question) → filter_parts question unknowns (ascii "a = 5") (value_record missing) ≡ Err FeatureUnsupported
unfolding filter_parts cells_of columns column fields head transform_of value compare_bytes result_type
    filter_in symbols disjunction conjunction single in_type part_answer project_numbers
seven question = refl

pub filter_seven_asks : (question : Question) → (c t p : List ℕ) × (filter_parts question c t p ≡ Err FeatureUnsupported)
filter_seven_asks question = (unknowns, ascii "a = 5", value_record missing, seven question)
