-- The transform of a row: its partition value, or a refusal. The order of the lines is the order of the checks. Assumes nothing.
use Rattle.std.specs.Prelude.{ℕ, Bool, true, false, not, cond, ◌||◌, List, ◌≡◌, refl, nat_lt, nat_le, ℤ, Ok, Err}
use Rattle.values.specs.Outcomes.{Res, need, ◌>>=◌, ◌>>◌, Row, missing, present}
use Rattle.values.specs.Types.{same_type, in_type}
use Rattle.values.specs.declared.error.ErrorKind.{ErrorKind}
use Rattle.values.specs.declared.error.ErrorKind.TheVariants.{NoResultType, DataInvalid, FeatureUnsupported, Overflow}
use Rattle.values.specs.declared.datatypes.PrimitiveType.{PrimitiveType}
use Rattle.values.specs.declared.datatypes.PrimitiveType.TheVariants.{Int, String}
use Rattle.values.specs.declared.transform.Transform.{Transform}
use Rattle.values.specs.declared.transform.Transform.TheVariants.{Identity, Truncate, Year, Month, Day, Hour, Void, Unknown}
use Rattle.transform.specs.declared.temporal.TimeUnit.{TimeUnit}
use Rattle.transform.specs.declared.temporal.TimeUnit.TheVariants as time-unit
use Rattle.transform.specs.Calendar.{in_calendar, year_of, month_of}
use Rattle.transform.specs.Temporal.{unit_of, day_of, hour_of}
use Rattle.transform.specs.Truncate.{truncated, first_code_points, first_bytes}

-- ---- whole numbers and times

-- 01, 6: "Truncate of Int with width above 2,147,483,647"; a Long has no widest width
abbrev pub widest_int_width : ℕ
widest_int_width = 2147483647

-- 8 for width 0 and below the type's lowest value
abbrev pub truncate_number : PrimitiveType → ℕ → ℤ → Res (Row ℤ)
truncate_number ty width v = do
  need (not (same_type ty Int) || nat_le width widest_int_width) DataInvalid
  need (nat_lt 0 width) Overflow
  need (in_type ty (truncated width v)) Overflow
  Ok (present (truncated width v))

-- 01, 6: "Year or Month of microseconds outside the calendar"; 8: "Year or Month of a Date outside the calendar"
abbrev pub outside_calendar : TimeUnit → ErrorKind
outside_calendar time-unit.Day = Overflow
outside_calendar time-unit.Microsecond = DataInvalid
-- never met: nanoseconds of 64 bits do not leave the calendar
outside_calendar time-unit.Nanosecond = DataInvalid
-- never met: `result_type` refuses these types with 5
outside_calendar time-unit.Neither = NoResultType

-- Year and Month: a count of the calendar's, of the day of v
abbrev pub by_calendar : (ℤ → ℤ) → PrimitiveType → ℤ → Res (Row ℤ)
by_calendar count ty v = do
  day ← day_of ty v
  need (in_calendar day) (outside_calendar (unit_of ty))
  Ok (present (count day))

abbrev pub day_number : PrimitiveType → ℤ → Res (Row ℤ)
day_number ty v = do
  day ← day_of ty v
  Ok (present day)

-- 8 outside 32 bits signed
abbrev pub int_hour : ℤ → Res (Row ℤ)
int_hour hour = do
  need (in_type Int hour) Overflow
  Ok (present hour)

abbrev pub hour_number : PrimitiveType → ℤ → Res (Row ℤ)
hour_number ty v = do
  hour ← hour_of ty v
  int_hour hour

-- a present number of the type
unfoldable pub transform_number : PrimitiveType → Transform → ℤ → Res (Row ℤ)
transform_number ty Identity v = Ok (present v)
transform_number ty (Truncate width) v = truncate_number ty width v
transform_number ty Year v = by_calendar year_of ty v
transform_number ty Month v = by_calendar month_of ty v
transform_number ty Day v = day_number ty v
transform_number ty Hour v = hour_number ty v
transform_number ty Void v = Ok missing
-- never met: Unknown's 7 comes before every value
transform_number ty Unknown v = Err FeatureUnsupported

-- ---- strings and binaries

-- 01: "of a String, its first width code points"; 02, #102: "Truncate of a Binary is now its first width bytes". No width is refused
abbrev pub truncate_bytes : PrimitiveType → ℕ → List ℕ → List ℕ
truncate_bytes column width s = cond (same_type column String) (first_code_points width s) (first_bytes width s)

unfoldable pub transform_bytes : PrimitiveType → Transform → List ℕ → Res (Row (List ℕ))
transform_bytes ty Identity s = Ok (present s)
transform_bytes ty (Truncate width) s = Ok (present (truncate_bytes ty width s))
-- never met: `result_type` refuses these types with 5
transform_bytes ty Year s = Err NoResultType
transform_bytes ty Month s = Err NoResultType
transform_bytes ty Day s = Err NoResultType
transform_bytes ty Hour s = Err NoResultType
transform_bytes ty Void s = Ok missing
-- never met: Unknown's 7 comes before every value
transform_bytes ty Unknown s = Err FeatureUnsupported

-- ---- a row of either kind

abbrev pub known : Transform → Bool
known Identity = true
known (Truncate width) = true
known Year = true
known Month = true
known Day = true
known Hour = true
known Void = true
known Unknown = false

abbrev pub of_row : {A B : Type 0} → (A → Res (Row B)) → Row A → Res (Row B)
of_row f missing = Ok missing
of_row f (present v) = f v

-- 01: "Missing gives missing, after Unknown's 7 and before every other 6 to 8; Void gives missing"
unfoldable pub partition : {A B : Type 0} → Transform → (A → Res (Row B)) → Row A → Res (Row B)
partition transform value row = do
  need (known transform) FeatureUnsupported
  of_row value row

unfoldable pub number_partition : PrimitiveType → Transform → Row ℤ → Res (Row ℤ)
number_partition ty transform row = partition transform (transform_number ty transform) row

unfoldable pub bytes_partition : PrimitiveType → Transform → Row (List ℕ) → Res (Row (List ℕ))
bytes_partition ty transform row = partition transform (transform_bytes ty transform) row

-- a missing Int is missing under width 0 too
missing_first : number_partition Int (Truncate 0) missing ≡ Ok missing
unfolding number_partition partition
missing_first = refl
