-- What `OlderFileDemand` states is about something: for each clause a sheet, a summary and records that meet what the clause asks. And a file that a strict
-- predicate takes whole, with a row filed in it that fails the leaf. Assumes nothing.
use Prim.Native.Nat.{ℕ}
use mathlib.Core.List.{List}
use mathlib.Core.Path.{refl}
use lib.IntN.{pos, negsuc}
use Rattle.values.specs.Order.{compare_numbers}
use Rattle.values.specs.Transforms.{transform_of}
use Rattle.values.specs.Types.{in_type}
use Rattle.values.specs.declared.datatypes.PrimitiveType.TheVariants.{Int}
use Rattle.transform.specs.Calendar.{in_calendar, shift, civil_year, year_of}
use Rattle.transform.specs.Count.{count_off}
use Rattle.transform.specs.Floor.{floor_div}
use Rattle.transform.specs.Gregorian.{leap, year_length, cycle_year, year_at}
use Rattle.transform.specs.Temporal.{day_of}
use Rattle.partition.specs.Partition.{transform_number}
use Rattle.partition.specs.ResultType.{result_type}
use Rattle.expr.specs.Operators.{greater_than_or_eq}
use Rattle.expr.specs.Predicates.{test, binary}
use Rattle.projection.specs.Projection.{project_numbers}
use Rattle.projection.specs.declared.question.Question.TheVariants.{Inclusive, Strict, Older}
use Rattle.sheet.specs.Records.{content, value}
use Rattle.sheet.specs.Sheets.{head, sheet, fields}
use Rattle.write.specs.Written.{answer_sheet}
use Rattle.answers.specs.Answers.{projected_leaf}
use Rattle.api.specs.Demand3.{Returns, Accepts}
use Rattle.api.specs.OlderDemand.{Filed}
use Rattle.api.specs.Routines.{project_sheet}
use Rattle.demand.proofs.Witnesses.{int, int_value}
use Rattle.demand.proofs.OlderWitnesses.{year, below_nought, from_nought, less_nought, greater_minus_one, filed_above, returned, fails}
use Rattle.summary.specs.Summaries.{summary}
use Rattle.ends.specs.Between.{between}
use Rattle.verdict.specs.Judged.{judged}
use Rattle.verdict.specs.Verdicts.{number_verdict}
use Rattle.files.specs.FileDemand.{covers, Covers, Skips, Wholly}
use Rattle.files.specs.FileRequests.{summary_of}
use Rattle.files.specs.TestSummary.{test_summary}

-- ---- Year of a Date: a file of the year 0, where the last day of 1969 may be filed, and one of the year -1, where day -400 may be
abbrev nought : List ℕ
nought = summary_of 1 0 (int (pos 0)) (int (pos 0))

abbrev minus_one : List ℕ
minus_one = summary_of 1 0 (int (negsuc 0)) (int (negsuc 0))

-- the leaf ≥ 365 comes to ≥ 1
abbrev from1971 : List ℕ
from1971 = year 204 (pos 365)

abbrev at_least_one : List ℕ
at_least_one = answer_sheet Int (test (binary greater_than_or_eq (int (pos 1))))

from1971_returned : Returns Inclusive from1971 at_least_one
unfolding project_sheet sheet fields head transform_of content projected_leaf result_type project_numbers
    transform_number in_type day_of floor_div in_calendar year_of civil_year shift year_at cycle_year count_off year_length leap compare_numbers answer_sheet
from1971_returned = refl

held : Covers nought (int_value (pos 0)) × Covers minus_one (int_value (negsuc 0))
unfolding covers summary value content compare_numbers
held = (refl, refl)

verdicts : Skips at_least_one nought × Wholly less_nought minus_one × Wholly greater_minus_one nought
unfolding test_summary sheet fields head transform_of content value summary judged number_verdict between compare_numbers answer_sheet
verdicts = (refl, refl, refl)

pub no_older_row_in_skipped_file_asks : (s q f v p : List ℕ) × Filed s p v × Covers f p × Returns Inclusive s q × Skips q f
no_older_row_in_skipped_file_asks =
    (from1971, at_least_one, nought, int_value (negsuc 0), int_value (pos 0), (filed_above 204 (pos 365)).0, held.0, from1971_returned, verdicts.0)

pub only_rows_in_whole_older_file_asks : (s q f v p : List ℕ) × Filed s p v × Covers f p × Returns Older s q × Wholly q f
only_rows_in_whole_older_file_asks =
    (below_nought, less_nought, minus_one, int_value (negsuc 399), int_value (negsuc 0), (filed_above 201 (pos 0)).1, held.1, returned.1, verdicts.1)

pub strict_takes_one_whole : (s q f v p : List ℕ) × Filed s p v × Covers f p × Returns Strict s q × Wholly q f × (Accepts s v → ⊥)
strict_takes_one_whole =
    (from_nought, greater_minus_one, nought, int_value (negsuc 0), int_value (pos 0), (filed_above 204 (pos 0)).0, held.0, returned.2, verdicts.2, fails)
