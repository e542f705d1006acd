-- Demand 3 is about something: for each of its clauses a sheet, a row, its partition value and an answer sheet that meet what the clause asks; for the two on
-- losing and letting in, also those of a Binary column, and a missing row of it; for the one on strict exactness, a missing row of an Int column. What is public
-- here serves `filedemand` and `filterdemand` too. Assumes nothing.
use Prim.Native.Nat.{ℕ}
use native.Mathlib.Omega.{arith}
use mathlib.Core.List.{List, [], ◌∷◌}
use mathlib.Core.Path.{◌≡◌, refl}
use lib.IntN.{ℤ, pos, negsuc}
use Rattle.values.specs.Characters.{ascii}
use Rattle.values.specs.laws.IntLaws.{lt_true}
use Rattle.values.specs.Order as order
use Rattle.values.specs.Order.{compare_numbers, compare_bytes}
use Rattle.values.specs.Outcomes.{missing, present}
use Rattle.values.specs.Transforms.{transform_of}
use Rattle.values.specs.Types.{in_type}
use Rattle.values.specs.Words.{signed_bytes}
use Rattle.values.specs.declared.datatypes.PrimitiveType.TheVariants.{Int, Date, Binary}
use Rattle.values.specs.declared.transform.Transform.TheVariants.{Year}
use Rattle.transform.specs.Calendar.{in_calendar, shift, civil_year, year_of}
use Rattle.transform.specs.Count.{count_off}
use Rattle.transform.specs.Floor.{floor_div, floor_mod}
use Rattle.transform.specs.Gregorian.{leap, year_length, cycle_year, year_at}
use Rattle.partition.specs.Partition.{transform_number, transform_bytes, partition, number_partition, bytes_partition}
use Rattle.partition.specs.ResultType.{result_type}
use Rattle.transform.specs.Temporal.{day_of}
use Rattle.transform.specs.Truncate.{truncated, first_bytes}
use Rattle.expr.specs.Operators.{less_than_or_eq, less_than, not_eq, starts_with, not_starts_with, is_in}
use Rattle.expr.specs.Predicates.{test, binary, set}
use Rattle.projection.specs.Projection.{project_numbers, project_bytes}
use Rattle.projection.specs.declared.question.Question.TheVariants.{Inclusive, Strict}
use Rattle.sheet.specs.Records.{content, value}
use Rattle.sheet.specs.Sheets.{head, sheet, fields}
use Rattle.write.specs.Written.{value_record, answer_sheet}
use Rattle.api.specs.HoldsTest.{holds_test}
use Rattle.meets.specs.Tested.{tested_sheet}
use Rattle.answers.specs.Answers.{projected_leaf, transformed_row}
use Rattle.api.specs.Requests.{sheet_of, value_of}
use Rattle.api.specs.Routines.{project_sheet, transform_value}
use Rattle.demand.proofs.RecordBytes.{record_bytes}
use Rattle.api.specs.Demand3.{type_in, Returns, Accepts, RowOf, Numeric, Lifts, OneAbove}

abbrev pub int : ℤ → List ℕ
int z = signed_bytes 4 z

abbrev pub int_value : ℤ → List ℕ
int_value z = value_of (int z)

-- ---- an Int under Truncate 10: the leaf < 300, the row 5 and its partition value 0, and the predicates ≤ 290 and < 300
abbrev pub below300 : List ℕ
below300 = sheet_of 201 1 1 10 (int (pos 300) ∷ [])

abbrev pub at_most290 : List ℕ
at_most290 = answer_sheet Int (test (binary less_than_or_eq (int (pos 290))))

abbrev pub less300 : List ℕ
less300 = answer_sheet Int (test (binary less_than (int (pos 300))))

abbrev pub five : List ℕ
five = int_value (pos 5)

abbrev pub nought : List ℕ
nought = int_value (pos 0)

pub row_of_nought : RowOf below300 nought five
unfolding transform_value head transform_of value content transformed_row result_type number_partition partition transform_number in_type truncated floor_mod
row_of_nought = refl

pub returned : Returns Inclusive below300 at_most290 × Returns Strict below300 less300
unfolding project_sheet sheet fields head transform_of content projected_leaf result_type project_numbers transform_number in_type truncated floor_mod answer_sheet
returned = (refl, refl)

accepted : Accepts below300 five × Accepts less300 nought
unfolding holds_test sheet fields head transform_of value content tested_sheet compare_numbers answer_sheet
accepted = (refl, refl)

pub numeric : Numeric below300
numeric = omega arith

pub no_row_lost_asks : (s q v p : List ℕ) × RowOf s p v × Accepts s v × Returns Inclusive s q
no_row_lost_asks = (below300, at_most290, five, nought, row_of_nought, accepted.0, returned.0)

pub strict_is_safe_asks : (s q v p : List ℕ) × RowOf s p v × Returns Strict s q × Accepts q p
strict_is_safe_asks = (below300, less300, five, nought, row_of_nought, returned.1, accepted.1)

pub strict_is_exact_asks : (s q v p : List ℕ) × Numeric s × RowOf s p v × Returns Strict s q
strict_is_exact_asks = (below300, less300, five, nought, numeric, row_of_nought, returned.1)

pub inclusive_is_exact_asks : (s q v p : List ℕ) × Numeric s × RowOf s p v × Returns Inclusive s q
inclusive_is_exact_asks = (below300, at_most290, five, nought, numeric, row_of_nought, returned.0)

-- ---- a Date under Year, which is lifted: the leaf Eq -1, the last day of 1969, comes to In of -1 and 0, and 0, the year of day 0, is one above -1
abbrev last_of1969 : List ℕ
last_of1969 = sheet_of 205 3 2 0 (int (negsuc 0) ∷ [])

abbrev both_years : List ℕ
both_years = answer_sheet Int (test (set is_in (int (negsuc 0) ∷ int (pos 0) ∷ [])))

abbrev minus_one : List ℕ
minus_one = int_value (negsuc 0)

rows_of_years : RowOf last_of1969 nought nought × RowOf last_of1969 minus_one minus_one
unfolding transform_value head transform_of value content transformed_row result_type number_partition partition
    transform_number in_type day_of floor_div in_calendar year_of civil_year shift year_at cycle_year count_off year_length leap
rows_of_years = (refl, refl)

years_returned : Returns Inclusive last_of1969 both_years
unfolding project_sheet sheet fields head transform_of content projected_leaf result_type project_numbers
    transform_number in_type day_of floor_div in_calendar year_of civil_year shift year_at cycle_year count_off year_length leap compare_numbers answer_sheet
years_returned = refl

years_accepted : Accepts last_of1969 minus_one × Accepts both_years nought
unfolding holds_test sheet fields head transform_of value content tested_sheet compare_numbers answer_sheet
years_accepted = (refl, refl)

lifts : Lifts last_of1969
unfolding head transform_of
lifts = (record { column = Date; transform = Year }, refl, refl)

one_above_lem : OneAbove last_of1969 nought
one_above_lem =
    let bytes = record_bytes Int (present (negsuc 0)) in
    (minus_one, bytes, negsuc 0, (refl, refl), lt_true (negsuc 0) (pos 0) refl, (refl, refl), (minus_one, bytes, rows_of_years.1, years_accepted.0))

pub one_above_asks : (s q v p : List ℕ) × Numeric s × RowOf s p v × Returns Inclusive s q × Accepts q p × Lifts s × OneAbove s p
one_above_asks =
    (last_of1969, both_years, nought, nought, omega arith, rows_of_years.0, years_returned, years_accepted.1, lifts, one_above_lem)

-- ---- a Binary under Truncate 2: of the leaf StartsWith "abc" the row "abcd", its partition value "ab" and the predicate StartsWith "ab"; of NotStartsWith "abc"
-- strictly NotStartsWith "ab", and the row 62 80 00, which is no UTF-8, with its partition value 62 80
abbrev abc : List ℕ
abc = ascii "abc"

abbrev pub starts_abc : List ℕ
starts_abc = sheet_of 207 10 1 2 (abc ∷ [])

abbrev pub starts_ab : List ℕ
starts_ab = answer_sheet Binary (test (binary starts_with (ascii "ab")))

abbrev not_starts_abc : List ℕ
not_starts_abc = sheet_of 208 10 1 2 (abc ∷ [])

abbrev pub not_starts_ab : List ℕ
not_starts_ab = answer_sheet Binary (test (binary not_starts_with (ascii "ab")))

abbrev no_text : List ℕ
no_text = value_of (0x62 ∷ 0x80 ∷ 0 ∷ [])

abbrev no_text_part : List ℕ
no_text_part = value_of (0x62 ∷ 0x80 ∷ [])

binary_rows : RowOf starts_abc (value_of (ascii "ab")) (value_of (ascii "abcd")) × RowOf not_starts_abc no_text_part no_text
unfolding transform_value head transform_of value content transformed_row result_type bytes_partition partition transform_bytes first_bytes
binary_rows = (refl, refl)

pub binary_returned : Returns Inclusive starts_abc starts_ab × Returns Strict not_starts_abc not_starts_ab
unfolding project_sheet sheet fields head transform_of content projected_leaf result_type project_bytes transform_bytes first_bytes answer_sheet
binary_returned = (refl, refl)

binary_accepted : Accepts starts_abc (value_of (ascii "abcd")) × Accepts not_starts_ab no_text_part
unfolding holds_test sheet fields head transform_of value content tested_sheet compare_bytes order.starts_with answer_sheet
binary_accepted = (refl, refl)

pub binary_no_row_lost_asks : (s q v p : List ℕ) × (type_in s ≡ 10) × RowOf s p v × Accepts s v × Returns Inclusive s q
binary_no_row_lost_asks = (starts_abc, starts_ab, value_of (ascii "abcd"), value_of (ascii "ab"), refl, binary_rows.0, binary_accepted.0, binary_returned.0)

pub binary_strict_is_safe_asks : (s q v p : List ℕ) × (type_in s ≡ 10) × RowOf s p v × Returns Strict s q × Accepts q p
binary_strict_is_safe_asks = (not_starts_abc, not_starts_ab, no_text, no_text_part, refl, binary_rows.1, binary_returned.1, binary_accepted.1)

-- ---- missing rows, which 02, #106, counts as different: of a Binary under Truncate 2, NotStartsWith "ab" comes to itself, and NotStartsWith "abc" strictly to
-- NotStartsWith "ab"; of an Int under Truncate 10, NotEq 5 comes strictly to NotEq 0
abbrev pub blank : List ℕ
blank = value_record missing

abbrev not_starts_ab_leaf : List ℕ
not_starts_ab_leaf = sheet_of 208 10 1 2 (ascii "ab" ∷ [])

abbrev pub not_five : List ℕ
not_five = sheet_of 206 1 1 10 (int (pos 5) ∷ [])

abbrev pub not_nought : List ℕ
not_nought = answer_sheet Int (test (binary not_eq (int (pos 0))))

pub blank_rows : RowOf not_starts_ab_leaf blank blank × RowOf not_starts_abc blank blank × RowOf not_five blank blank
unfolding transform_value head transform_of value transformed_row result_type number_partition bytes_partition partition
blank_rows = (refl, refl, refl)

pub blank_returned : Returns Inclusive not_starts_ab_leaf not_starts_ab × Returns Strict not_five not_nought
unfolding project_sheet sheet fields head transform_of content projected_leaf result_type project_numbers project_bytes transform_number transform_bytes first_bytes in_type
    truncated floor_mod answer_sheet
blank_returned = (refl, refl)

blank_accepted : Accepts not_starts_ab_leaf blank × Accepts not_starts_ab blank × Accepts not_nought blank
unfolding holds_test sheet fields head transform_of value content tested_sheet answer_sheet
blank_accepted = (refl, refl, refl)

pub missing_no_row_lost_asks : (s q v p : List ℕ) × (v ≡ blank) × RowOf s p v × Accepts s v × Returns Inclusive s q
missing_no_row_lost_asks = (not_starts_ab_leaf, not_starts_ab, blank, blank, refl, blank_rows.0, blank_accepted.0, blank_returned.0)

pub missing_strict_is_safe_asks : (s q v p : List ℕ) × (v ≡ blank) × RowOf s p v × Returns Strict s q × Accepts q p
missing_strict_is_safe_asks = (not_starts_abc, not_starts_ab, blank, blank, refl, blank_rows.1, binary_returned.1, blank_accepted.1)

pub missing_strict_is_exact_asks : (s q v p : List ℕ) × (v ≡ blank) × Numeric s × RowOf s p v × Returns Strict s q × Accepts q p
missing_strict_is_exact_asks = (not_five, not_nought, blank, blank, refl, omega arith, blank_rows.2, blank_returned.1, blank_accepted.2)
