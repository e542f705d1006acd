-- What is stated of filters over files of older writers is about something: a column list, a text, a row and a partition value that it is filed under. And a filter
-- whose strict question says yes of a partition value that a row is filed under which fails it. Assumes nothing.
use Rattle.std.specs.Prelude.{Ok}
use Prim.Native.Nat.{ℕ}
use mathlib.Core.Bool.{true, false}
use mathlib.Core.List.{List, [], ◌∷◌, map, Memᴰ as Isin}
use mathlib.Core.Path.{◌≡◌, refl, sym, subst, ◌∙◌}
use lib.IntN.{ℤ, pos, negsuc}
use Rattle.values.specs.Characters.{ascii}
use Rattle.values.specs.Order.{compare_numbers, compare_bytes}
use Rattle.values.specs.Outcomes.{◌>>=◌, present}
use Rattle.values.specs.laws.OutcomeLaws.{ok_inj, going}
use Rattle.values.specs.Transforms.{transform_of}
use Rattle.values.specs.Types.{in_type}
use Rattle.values.specs.declared.datatypes.PrimitiveType.TheVariants.{Date}
use Rattle.values.specs.declared.transform.Transform.TheVariants.{Year}
use Rattle.transform.specs.Calendar.{in_calendar, shift, civil_year, year_of}
use Rattle.transform.specs.Count.{count_off}
use Rattle.transform.specs.Floor.{floor_div}
use Rattle.transform.specs.Gregorian.{leap, year_length, cycle_year, year_at}
use Rattle.transform.specs.Temporal.{day_of}
use Rattle.partition.specs.Partition.{transform_number}
use Rattle.partition.specs.ResultType.{result_type}
use Rattle.projection.specs.Projection.{project_numbers}
use Rattle.projection.specs.declared.question.Question.TheVariants.{Strict}
use Rattle.sheet.specs.Records.{record_at, content, value}
use Rattle.sheet.specs.Sheets.{head, fields}
use Rattle.meets.specs.Tested.{tested_sheet}
use Rattle.api.specs.OlderDemand.{Filed}
use Rattle.api.specs.Requests.{value_of}
use Rattle.columns.specs.Cells.{rows, parts, Cell, cells_of}
use Rattle.columns.specs.Columns.{column, columns}
use Rattle.grammar.specs.Parser.{single, conjunction, disjunction}
use Rattle.leaves.specs.Symbols.{symbols}
use Rattle.ask.specs.LeafAnswers.{row_answer, part_answer}
use Rattle.filter.specs.FilterDemand.{head_at, places_in}
use Rattle.filter.specs.FilterRoutines.{filter_row, filter_parts}
use Rattle.filter.specs.OlderFilterDemand.{FiledRows}
use Rattle.parse.specs.FilterText.{filter_in}
use Rattle.demand.proofs.OlderWitnesses.{filed_above}
use Rattle.filterdemand.proofs.FilterWitnesses.{entry, int, isin_all}

-- ---- a Date column a by its year; the last day of 1969, which has -1, filed under 0
abbrev dates : List ℕ
dates = entry (ascii "a") 3 2 0

abbrev last_of1969 : List ℕ
last_of1969 = value_of (int (negsuc 0))

abbrev nought : List ℕ
nought = value_of (int (pos 0))

abbrev cells_with : ℤ → List Cell
cells_with z = record { column = record { name = ascii "a"; head = record { column = Date; transform = Year } }; row = present (int z) } ∷ []

cells_are : (cells_of rows dates last_of1969 ≡ Ok (cells_with (negsuc 0))) × (cells_of parts dates nought ≡ Ok (cells_with (pos 0)))
unfolding cells_of columns column fields head transform_of value content compare_bytes result_type
cells_are = (refl, refl)

-- every sheet of a Date by its year has the list's head
filed : Filed (head_at dates 0) (record_at nought 0) (record_at last_of1969 0)
filed = (filed_above 0 (pos 0)).0

filed_rows : (t : List ℕ) → (filter_in (map (λ x. x.column) (cells_with (negsuc 0))) t >>= λ f. Ok (places_in f)) ≡ Ok (0 ∷ []) → FiledRows dates t last_of1969 nought
filed_rows t e = record {
  cells = cells_with (negsuc 0);
  row_cells_lem = cells_are.0;
  others = cells_with (pos 0);
  part_cells_lem = cells_are.1;
  named = λ f d k m.
      isin_all (λ i. Filed (head_at dates i) (record_at nought i) (record_at last_of1969 i)) (0 ∷ []) (filed, tt) k (subst (Isin k) (ok_inj (sym (going _ d) ∙ e)) m);
}

abbrev equals : List ℕ
equals = ascii "a = -1"

abbrev from : List ℕ
from = ascii "a >= 0"

places : ((filter_in (map (λ x. x.column) (cells_with (negsuc 0))) equals >>= λ f. Ok (places_in f)) ≡ Ok (0 ∷ []))
    × ((filter_in (map (λ x. x.column) (cells_with (negsuc 0))) from >>= λ f. Ok (places_in f)) ≡ Ok (0 ∷ []))
unfolding filter_in symbols disjunction conjunction single in_type compare_bytes
places = (refl, refl)

row_answers : (filter_row dates equals last_of1969 ≡ Ok true) × (filter_row dates from last_of1969 ≡ Ok false)
unfolding filter_row cells_of columns column fields head transform_of value content compare_bytes
    filter_in symbols disjunction conjunction single in_type row_answer tested_sheet compare_numbers
row_answers = (refl, refl)

strict_yes : filter_parts Strict dates from nought ≡ Ok true
unfolding filter_parts cells_of columns column fields head transform_of value content compare_bytes result_type
    filter_in symbols disjunction conjunction single in_type part_answer project_numbers compare_numbers
    transform_number day_of floor_div in_calendar year_of civil_year shift year_at cycle_year count_off year_length leap
strict_yes = refl

pub loses_no_older_row_asks : (c t v p : List ℕ) × FiledRows c t v p × (filter_row c t v ≡ Ok true)
loses_no_older_row_asks = (dates, equals, last_of1969, nought, filed_rows equals places.0, row_answers.0)

pub filter_strict_lets_one_in : (c t v p : List ℕ) × FiledRows c t v p × (filter_parts Strict c t p ≡ Ok true) × (filter_row c t v ≡ Ok false)
filter_strict_lets_one_in = (dates, from, last_of1969, nought, filed_rows from places.1, strict_yes, row_answers.1)
