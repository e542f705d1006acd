-- What `files` states is about something: for each clause a sheet, a summary and records that meet what the clause asks; for those on skipping also of a Binary
-- column; a file without present values; and missing rows in files that are flagged. Assumes nothing.
use Rattle.std.specs.Prelude.{Ok}
use Prim.Native.Nat.{ℕ, ◌<◌}
use native.Mathlib.Omega.{arith}
use mathlib.Core.Bool.{true, false, false≢true}
use mathlib.Core.List.{List, []}
use mathlib.Core.Path.{◌≡◌, refl}
use lib.IntN.{pos}
use Rattle.values.specs.Characters.{ascii}
use Rattle.values.specs.Order as order
use Rattle.values.specs.Order.{compare_numbers, compare_bytes}
use Rattle.values.specs.Outcomes.{Row, missing, present}
use Rattle.values.specs.Transforms.{transform_of}
use Rattle.values.specs.laws.OutcomeLaws.{ok_inj, gone}
use Rattle.values.specs.Types.{layout, in_type}
use Rattle.values.specs.declared.datatypes.PrimitiveType.TheVariants.{Int}
use Rattle.transform.specs.Floor.{floor_mod}
use Rattle.transform.specs.Truncate.{truncated, first_bytes}
use Rattle.partition.specs.Partition.{transform_number, transform_bytes, partition, number_partition, bytes_partition}
use Rattle.partition.specs.ResultType.{result_type}
use Rattle.projection.specs.declared.question.Question.TheVariants.{Inclusive, Strict}
use Rattle.sheet.specs.Records.{content, value}
use Rattle.sheet.specs.Sheets.{head, sheet, fields}
use Rattle.write.specs.Written.{value_record, answer_sheet}
use Rattle.answers.specs.Answers.{transformed_row}
use Rattle.api.specs.Demand3.{type_in, Returns, RowOf, Numeric}
use Rattle.api.specs.Requests.{sheet_of, value_of}
use Rattle.api.specs.Routines.{transform_value}
use Rattle.demand.proofs.Witnesses.{int, int_value, below300, at_most290, less300, returned, starts_abc, starts_ab, not_starts_ab, binary_returned}
use Rattle.demand.proofs.Witnesses.{blank, not_five, not_nought, blank_rows, blank_returned}
use Rattle.summary.specs.EndValues.{compare_in, may_hold}
use Rattle.summary.specs.Summaries.{none_present, summary}
use Rattle.verdict.specs.Judged.{judged}
use Rattle.verdict.specs.TextVerdicts.{text_verdict}
use Rattle.ends.specs.Between.{between}
use Rattle.verdict.specs.Verdicts.{number_verdict}
use Rattle.verdict.specs.declared.verdict.Verdict.TheVariants.{Read}
use Rattle.files.specs.FileDemand.{covers, Covers, Skips, Wholly, AllAccepted}
use Rattle.files.specs.FileRequests.{summary_of, no_values}
use Rattle.files.specs.TestSummary.{test_summary}

-- ---- an Int under Truncate 10: the leaf < 300 and its predicates ≤ 290 and < 300; a file of 300 to 303, and the row 305 of 300; a file of 0 to 2, and the row 5
-- of 0
abbrev pub high : List ℕ
high = summary_of 1 0 (int (pos 300)) (int (pos 303))

abbrev low : List ℕ
low = summary_of 1 0 (int (pos 0)) (int (pos 2))

pub rows : RowOf below300 (int_value (pos 300)) (int_value (pos 305)) × RowOf below300 (int_value (pos 0)) (int_value (pos 5))
unfolding transform_value head transform_of value content transformed_row result_type number_partition partition transform_number in_type truncated floor_mod
rows = (refl, refl)

verdicts : Skips at_most290 high × Wholly less300 low
unfolding test_summary sheet fields head transform_of content value summary judged number_verdict between compare_numbers answer_sheet
verdicts = (refl, refl)

pub held : Covers high (int_value (pos 300)) × Covers low (int_value (pos 0))
unfolding covers summary value content compare_numbers
held = (refl, refl)

types : (type_in at_most290 ≡ 1) × (type_in less300 ≡ 1)
unfolding answer_sheet
types = (refl, refl)

pub skip_loses_none_asks : (s f v : List ℕ) × Skips s f × Covers f v
skip_loses_none_asks = (at_most290, high, int_value (pos 300), verdicts.0, held.0)

pub whole_takes_all_asks : (s f v : List ℕ) × Wholly s f × Covers f v
whole_takes_all_asks = (less300, low, int_value (pos 0), verdicts.1, held.1)

pub skip_is_exact_asks : (s f : List ℕ) × Numeric s × Skips s f
skip_is_exact_asks = (at_most290, high, omega (arith, types.0), verdicts.0)

pub whole_is_exact_asks : (s f : List ℕ) × Numeric s × Wholly s f
whole_is_exact_asks = (less300, low, omega (arith, types.1), verdicts.1)

pub no_row_in_skipped_file_asks : (s q f v p : List ℕ) × RowOf s p v × Covers f p × Returns Inclusive s q × Skips q f
no_row_in_skipped_file_asks = (below300, at_most290, high, int_value (pos 305), int_value (pos 300), rows.0, held.0, returned.0, verdicts.0)

pub only_rows_in_whole_file_asks : (s q f v p : List ℕ) × RowOf s p v × Covers f p × Returns Strict s q × Wholly q f
only_rows_in_whole_file_asks = (below300, less300, low, int_value (pos 5), int_value (pos 0), rows.1, held.1, returned.1, verdicts.1)

-- ---- files of an Int without present values, under IsNull: an empty one is skipped, and one of missing values alone is taken whole
abbrev is_null_int : List ℕ
is_null_int = sheet_of 101 1 0 0 []

abbrev pub empty_file : List ℕ
empty_file = no_values 1 2

abbrev pub missing_alone : List ℕ
missing_alone = no_values 1 3

no_values_lem : Skips is_null_int empty_file × Wholly is_null_int missing_alone
unfolding test_summary sheet fields head transform_of content value summary judged number_verdict
no_values_lem = (refl, refl)

missing_held : Covers missing_alone (value_record missing)
unfolding covers summary value
missing_held = refl

-- an empty file may hold nothing, so that all it may hold is accepted: `WholeIsExact` asks for a value as well
nothing_held : (v : List ℕ) → Covers empty_file v → ⊥
unfolding covers summary value
nothing_held v c = let r = gone (value (layout Int) v) _ c in none r.0 (ok_inj r.2)
  where
    none : (row : Row (List ℕ)) → may_hold (compare_in Int) none_present false row ≡ true → ⊥
    none missing e = false≢true e
    none (present v) e = false≢true e

pub missing_whole_asks : (s f v : List ℕ) × Wholly s f × Covers f v
missing_whole_asks = (is_null_int, missing_alone, value_record missing, no_values_lem.1, missing_held)

pub empty_file_asks : (s f : List ℕ) × Numeric s × Skips s f × AllAccepted s f
empty_file_asks = (is_null_int, empty_file, omega arith, no_values_lem.0, λ v b c. absurd (nothing_held v c))

-- ---- a Binary under Truncate 2: the leaf StartsWith "abc" and its predicate StartsWith "ab"; a file of "ac" to "b", and the row "adx" of "ad"; a file of one value,
-- which meets the predicate and is still to be read
abbrev after : List ℕ
after = summary_of 10 0 (ascii "ac") (ascii "b")

abbrev alone : List ℕ
alone = summary_of 10 0 (ascii "ab") (ascii "ab")

binary_row : RowOf starts_abc (value_of (ascii "ad")) (value_of (ascii "adx"))
unfolding transform_value head transform_of value content transformed_row result_type bytes_partition partition transform_bytes first_bytes
binary_row = refl

binary_verdicts : Skips starts_ab after × (test_summary starts_ab alone ≡ Ok Read)
unfolding test_summary sheet fields head transform_of content value summary judged text_verdict compare_bytes order.starts_with answer_sheet
binary_verdicts = (refl, refl)

binary_held : Covers after (value_of (ascii "ad"))
unfolding covers summary value content compare_bytes
binary_held = refl

binary_type : type_in starts_ab ≡ 10
unfolding answer_sheet
binary_type = refl

pub binary_skip_loses_none_asks : (s f v : List ℕ) × (type_in s ≡ 10) × Skips s f × Covers f v
binary_skip_loses_none_asks = (starts_ab, after, value_of (ascii "ad"), binary_type, binary_verdicts.0, binary_held)

pub texts_never_whole_asks : (s f : List ℕ) × (8 < type_in s) × (test_summary s f ≡ Ok Read)
texts_never_whole_asks = (starts_ab, alone, omega (arith, binary_type), binary_verdicts.1)

pub binary_no_row_in_skipped_file_asks : (s q f v p : List ℕ) × (type_in s ≡ 10) × RowOf s p v × Covers f p × Returns Inclusive s q × Skips q f
binary_no_row_in_skipped_file_asks =
    (starts_abc, starts_ab, after, value_of (ascii "adx"), value_of (ascii "ad"), refl, binary_row, binary_held, binary_returned.0, binary_verdicts.0)

-- ---- files with a missing value: the leaf < 300 skips that of 300 to 303, and the missing row there fails it; NotEq 5 under Truncate 10 takes that of 10 to 20
-- whole, and the missing row there meets it (02, #106); a file of a Binary, of which all present values start with "ab", is read for NotStartsWith "ab"
abbrev high_and_missing : List ℕ
high_and_missing = summary_of 1 1 (int (pos 300)) (int (pos 303))

abbrev tens : List ℕ
tens = summary_of 1 1 (int (pos 10)) (int (pos 20))

blank_below : RowOf below300 blank blank
unfolding transform_value head transform_of value transformed_row result_type number_partition partition
blank_below = refl

flagged_verdicts : Skips at_most290 high_and_missing × Wholly not_nought tens
unfolding test_summary sheet fields head transform_of content value summary judged number_verdict between compare_numbers answer_sheet
flagged_verdicts = (refl, refl)

flagged_held : Covers high_and_missing blank × Covers tens blank
unfolding covers summary value content compare_numbers
flagged_held = (refl, refl)

pub missing_no_row_in_skipped_file_asks : (s q f v p : List ℕ) × (v ≡ blank) × RowOf s p v × Covers f p × Returns Inclusive s q × Skips q f
missing_no_row_in_skipped_file_asks =
    (below300, at_most290, high_and_missing, blank, blank, refl, blank_below, flagged_held.0, returned.0, flagged_verdicts.0)

pub missing_only_rows_in_whole_file_asks : (s q f v p : List ℕ) × (v ≡ blank) × RowOf s p v × Covers f p × Returns Strict s q × Wholly q f
missing_only_rows_in_whole_file_asks =
    (not_five, not_nought, tens, blank, blank, refl, blank_rows.2, flagged_held.1, blank_returned.1, flagged_verdicts.1)

pub flag_decides : (test_summary not_starts_ab (summary_of 10 1 (ascii "ab") (ascii "abz")) ≡ Ok Read) × Skips not_starts_ab (summary_of 10 0 (ascii "ab") (ascii "abz"))
unfolding test_summary sheet fields head transform_of content value summary judged text_verdict compare_bytes order.starts_with answer_sheet
flag_decides = (refl, refl)
