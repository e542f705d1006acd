-- What is stated of files of older writers is about something: for each clause a sheet, a row, a record that it is filed under and an answer sheet that meet what
-- the clause asks, and a missing row. And 02's "Strict predicates don't": a row that a strict predicate lets in by its other filing, and that fails the leaf. What
-- is public here serves `filedemand` and `filterdemand` too. Assumes nothing.
use Rattle.std.specs.Prelude.{Ok}
use Rattle.values.specs.Outcomes.{Res}
use Prim.Native.Nat.{ℕ}
use mathlib.Core.Bool.{true, true≢false, false≢true}
use mathlib.Core.List.{List, [], ◌∷◌}
use mathlib.Core.Logic.{inl, inr}
use mathlib.Core.Path.{◌≡◌, refl, sym}
use lib.IntN.{ℤ, pos, negsuc}
use Rattle.values.specs.laws.IntLaws.{lt_true}
use Rattle.values.specs.laws.OutcomeLaws.{ok_inj}
use Rattle.values.specs.Order.{compare_numbers}
use Rattle.values.specs.Transforms.{transform_of}
use Rattle.values.specs.Types.{in_type}
use Rattle.values.specs.declared.datatypes.PrimitiveType.TheVariants.{Int, Date}
use Rattle.values.specs.declared.transform.Transform.TheVariants.{Truncate, Year}
use Rattle.transform.specs.Calendar.{in_calendar, shift, civil_year, year_of}
use Rattle.transform.specs.Count.{count_off}
use Rattle.transform.specs.Floor.{floor_div}
use Rattle.transform.specs.Gregorian.{leap, year_length, cycle_year, year_at}
use Rattle.transform.specs.Temporal.{day_of}
use Rattle.partition.specs.Partition.{transform_number, partition, number_partition}
use Rattle.partition.specs.ResultType.{result_type}
use Rattle.expr.specs.Operators.{less_than, greater_than, is_in, not_in}
use Rattle.expr.specs.Predicates.{test, binary, set}
use Rattle.projection.specs.Lifting.{lifted}
use Rattle.projection.specs.Projection.{project_numbers}
use Rattle.projection.specs.declared.question.Question.TheVariants.{Inclusive, Strict, Older}
use Rattle.sheet.specs.Records.{content, value}
use Rattle.sheet.specs.Sheets.{Head, head, sheet, fields}
use Rattle.write.specs.Written.{answer_sheet}
use Rattle.meets.specs.Tested.{tested_sheet}
use Rattle.answers.specs.Answers.{projected_leaf, transformed_row}
use Rattle.api.specs.HoldsTest.{holds_test}
use Rattle.api.specs.Requests.{sheet_of}
use Rattle.api.specs.Routines.{project_sheet, transform_value}
use Rattle.api.specs.Demand3.{Returns, Accepts, RowOf, Lifts}
use Rattle.api.specs.OlderDemand.{Filed}
use Rattle.demand.proofs.Witnesses.{int, int_value, blank, below300}

-- ---- Year of a Date. The last day of 1969 has -1 and may be filed under 0; day -400 has -2 and may be filed under -1
abbrev pub year : ℕ → ℤ → List ℕ
year operator day = sheet_of operator 3 2 0 (int day ∷ [])

-- the leaves Eq -1, < 0, ≥ 0 and NotEq -1
abbrev equals_minus_one : List ℕ
equals_minus_one = year 205 (negsuc 0)

abbrev pub below_nought : List ℕ
below_nought = year 201 (pos 0)

abbrev pub from_nought : List ℕ
from_nought = year 204 (pos 0)

abbrev not_minus_one : List ℕ
not_minus_one = year 206 (negsuc 0)

-- and predicates of theirs: In {-1, 0}, < 0, > -1, > 0 and NotIn {-1, 0}
abbrev both_years : List ℕ
both_years = answer_sheet Int (test (set is_in (int (negsuc 0) ∷ int (pos 0) ∷ [])))

abbrev pub less_nought : List ℕ
less_nought = answer_sheet Int (test (binary less_than (int (pos 0))))

abbrev pub greater_minus_one : List ℕ
greater_minus_one = answer_sheet Int (test (binary greater_than (int (negsuc 0))))

abbrev greater_nought : List ℕ
greater_nought = answer_sheet Int (test (binary greater_than (int (pos 0))))

abbrev neither_year : List ℕ
neither_year = answer_sheet Int (test (set not_in (int (negsuc 0) ∷ int (pos 0) ∷ [])))

-- every leaf of a Date by its year has the same head, and so the same rows
pub year_rows : (operator : ℕ) (day : ℤ) → RowOf (year operator day) (int_value (negsuc 0)) (int_value (negsuc 0))
    × RowOf (year operator day) (int_value (negsuc 1)) (int_value (negsuc 399)) × RowOf (year operator day) blank blank
unfolding transform_value head transform_of value content transformed_row result_type number_partition partition
    transform_number in_type day_of floor_div in_calendar year_of civil_year shift year_at cycle_year count_off year_length leap
year_rows operator day = (refl, refl, refl)

year_lifts : (operator : ℕ) (day : ℤ) → Lifts (year operator day)
unfolding head transform_of
year_lifts operator day = (record { column = Date; transform = Year }, refl, refl)

pub filed_above : (operator : ℕ) (day : ℤ) → Filed (year operator day) (int_value (pos 0)) (int_value (negsuc 0))
    × Filed (year operator day) (int_value (negsuc 0)) (int_value (negsuc 399))
filed_above operator day =
    let up = year_lifts operator day in
    let rows = year_rows operator day in (
      inr (up, (int_value (negsuc 0), negsuc 0, rows.0, (refl, refl), lt_true (negsuc 0) (pos 0) refl, refl)),
      inr (up, (int_value (negsuc 1), negsuc 1, rows.1, (refl, refl), lt_true (negsuc 1) (pos 0) refl, refl)),
    )

pub returned : Returns Inclusive equals_minus_one both_years × Returns Older below_nought less_nought × Returns Strict from_nought greater_minus_one
    × Returns Older from_nought greater_nought × Returns Older not_minus_one neither_year
unfolding project_sheet sheet fields head transform_of content projected_leaf result_type project_numbers
    transform_number in_type day_of floor_div in_calendar year_of civil_year shift year_at cycle_year count_off year_length leap compare_numbers answer_sheet
returned = (refl, refl, refl, refl, refl)

accepted : Accepts equals_minus_one (int_value (negsuc 0)) × Accepts less_nought (int_value (negsuc 0)) × Accepts greater_minus_one (int_value (pos 0))
    × Accepts neither_year blank
unfolding holds_test sheet fields head transform_of value content tested_sheet compare_numbers answer_sheet
accepted = (refl, refl, refl, refl)

pub fails : Accepts from_nought (int_value (negsuc 0)) → ⊥
unfolding holds_test sheet fields head transform_of value content tested_sheet compare_numbers
fails e = true≢false (ok_inj (sym e))

pub no_older_row_lost_asks : (s q v f : List ℕ) × Filed s f v × Accepts s v × Returns Inclusive s q
no_older_row_lost_asks =
    (equals_minus_one, both_years, int_value (negsuc 0), int_value (pos 0), (filed_above 205 (negsuc 0)).0, accepted.0, returned.0)

pub older_is_safe_asks : (s q v f : List ℕ) × Filed s f v × Returns Older s q × Accepts q f
older_is_safe_asks = (below_nought, less_nought, int_value (negsuc 399), int_value (negsuc 0), (filed_above 201 (pos 0)).1, returned.1, accepted.1)

-- a missing row, under NotEq
pub missing_older_is_safe_asks : (s q v f : List ℕ) × (v ≡ blank) × Filed s f v × Returns Older s q × Accepts q f
missing_older_is_safe_asks = (not_minus_one, neither_year, blank, blank, refl, inl (year_rows 206 (negsuc 0)).2, returned.4, accepted.3)

-- a sheet under Truncate, which is not lifted
pub older_is_strict_asks : (s : List ℕ) × (Lifts s → ⊥)
unfolding head transform_of
older_is_strict_asks = (below300, λ h. not_lifted h.0 h.1 h.2)
  where
    not_lifted : (x : Head) → ◌≡◌ {A = Res Head} (Ok (record { column = Int; transform = Truncate 10 })) (Ok x) → lifted x.column x.transform ≡ true → ⊥
    not_lifted x e h = false≢true (rw (← ok_inj e) at h)

pub strict_lets_one_in : (s q v f : List ℕ) × Filed s f v × Returns Strict s q × Accepts q f × (Accepts s v → ⊥)
strict_lets_one_in =
    (from_nought, greater_minus_one, int_value (negsuc 0), int_value (pos 0), (filed_above 204 (pos 0)).0, returned.2, accepted.2, fails)
