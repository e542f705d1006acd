-- The starred cases of document 01, "Moments and lots on either side": what the routines answer is what the document says, by one statement.
-- Assumes nothing.
use Rattle.std.specs.Prelude.{◌≡◌, ℕ, List, [], ◌∷◌, map, ℤ, pos, negsuc, refl, Ok, Err}
use Rattle.values.specs.Order.{compare_numbers, compare_bytes}
use Rattle.values.specs.Outcomes.{Res}
use Rattle.values.specs.Transforms.{transform_of}
use Rattle.values.specs.Types.{in_type}
use Rattle.values.specs.Utf8.{is_code_point, code_points, utf8}
use Rattle.values.specs.Words.{signed_bytes}
use Rattle.values.specs.declared.datatypes.PrimitiveType.{PrimitiveType}
use Rattle.values.specs.declared.datatypes.PrimitiveType.TheVariants.{Int, Date, String}
use Rattle.values.specs.declared.error.ErrorKind.TheVariants.{Overflow}
use Rattle.transform.specs.Calendar.{in_calendar, shift, civil_year, civil_month, year_of, month_of}
use Rattle.transform.specs.Count.{count_off, before}
use Rattle.transform.specs.Floor.{floor_div, floor_mod}
use Rattle.transform.specs.Gregorian.{leap, year_length, month_length, cycle_year, cycle_day, year_at, month_in, month_at}
use Rattle.partition.specs.Partition.{transform_number, transform_bytes, partition, number_partition, bytes_partition}
use Rattle.partition.specs.ResultType.{result_type}
use Rattle.transform.specs.Temporal.{day_of, hour_of}
use Rattle.transform.specs.Truncate.{truncated, first_code_points}
use Rattle.expr.specs.declared.operator.PredicateOperator.{PredicateOperator}
use Rattle.expr.specs.declared.operator.PredicateOperator.TheVariants.{LessThan, LessThanOrEq, StartsWith, In}
use Rattle.projection.specs.Projection.{project_numbers, project_bytes}
use Rattle.projection.specs.Steps.{Projected, some}
use Rattle.projection.specs.declared.question.Question.{Question}
use Rattle.projection.specs.declared.question.Question.TheVariants.{Inclusive, Strict}
use Rattle.sheet.specs.Records.{content, value}
use Rattle.sheet.specs.Sheets.{head, sheet, fields}
use Rattle.write.specs.Written.{answer_bytes, answer_sheet}
use Rattle.answers.specs.Answers.{projected_leaf, transformed_row, as_result}
use Rattle.api.specs.Requests.{sheet_of, value_of}
use Rattle.api.specs.Routines.{project_sheet, transform_value}

-- ---- questions and answers, in bytes

abbrev pub Answered : Type 0
Answered = Res (Projected (List ℕ))

-- a value of a type under a transform and a width; a projection of an operator over a type, a transform, a width and literals
abbrev transforms : ℕ → ℕ → ℕ → List ℕ → Answered
transforms type transform width v = as_result (transform_value type transform width (value_of v))

abbrev projects : Question → ℕ → ℕ → ℕ → ℕ → List (List ℕ) → Answered
projects question operator type transform width literals = project_sheet question (sheet_of operator type transform width literals)

abbrev gives : List ℕ → Answered
gives v = Ok (some (value_of v))

abbrev predicate : PredicateOperator → PrimitiveType → List (List ℕ) → Answered
predicate operator type literals = Ok (some (answer_bytes operator type literals))

abbrev int : ℤ → List ℕ
int z = signed_bytes 4 z

abbrev long : ℤ → List ℕ
long z = signed_bytes 8 z

-- "é"
abbrev é : List ℕ
é = 0xc3 ∷ 0xa9 ∷ []

pub record Case : Type 0 where
  pub asked : Answered
  pub expected : Answered

infix 5 ◌is◌
abbrev ◌is◌ : Answered → Answered → Case
◌is◌ x y = record { asked = x; expected = y }

-- ---- the table
abbrev pub starred : List Case
starred =
    -- "Truncate 10: −1 gives −10; 5 gives 0"
    (transforms 1 1 10 (int (negsuc 0)) is gives (int (negsuc 9)))
    ∷ (transforms 1 1 10 (int (pos 5)) is gives (int (pos 0)))
    -- "Day of microseconds: −1 gives −1; −86400000001 and −86400000002 give −2; −86401000000 gives −2"
    ∷ (transforms 5 4 0 (long (negsuc 0)) is gives (int (negsuc 0)))
    ∷ (transforms 5 4 0 (long (negsuc 86400000000)) is gives (int (negsuc 1)))
    ∷ (transforms 5 4 0 (long (negsuc 86400000001)) is gives (int (negsuc 1)))
    ∷ (transforms 5 4 0 (long (negsuc 86400999999)) is gives (int (negsuc 1)))
    -- "Hour of microseconds: −1 gives −1"
    ∷ (transforms 5 5 0 (long (negsuc 0)) is gives (int (negsuc 0)))
    -- "Month of Date 31 gives 1, of −1 gives −1"
    ∷ (transforms 3 3 0 (int (pos 31)) is gives (int (pos 1)))
    ∷ (transforms 3 3 0 (int (negsuc 0)) is gives (int (negsuc 0)))
    -- "Year of Date, Eq −1, inclusive: In {−1, 0}"
    ∷ (projects Inclusive 205 3 2 0 (int (negsuc 0) ∷ []) is predicate In Int (int (negsuc 0) ∷ int (pos 0) ∷ []))
    -- "Day, ≤ −1 microsecond, inclusive: Timestamp ≤ 0; Timestamptz ≤ −1"
    ∷ (projects Inclusive 202 5 4 0 (long (negsuc 0) ∷ []) is predicate LessThanOrEq Date (int (pos 0) ∷ []))
    ∷ (projects Inclusive 202 6 4 0 (long (negsuc 0) ∷ []) is predicate LessThanOrEq Date (int (negsuc 0) ∷ []))
    -- "Truncate 2, StartsWith "é" (c3 a9 hexadecimal), inclusive: StartsWith "é""
    ∷ (projects Inclusive 207 9 1 2 (é ∷ []) is predicate StartsWith String (é ∷ []))
    -- "Truncate 10, Int < −2147483640: inclusive 8, strict < −2147483640"
    ∷ (projects Inclusive 201 1 1 10 (int (negsuc 2147483639) ∷ []) is Err Overflow)
    ∷ (projects Strict 201 1 1 10 (int (negsuc 2147483639) ∷ []) is predicate LessThan Int (int (negsuc 2147483639) ∷ []))
    ∷ []

pub starred_cases : map (λ (c : Case). c.asked) starred ≡ map (λ (c : Case). c.expected) starred
unfolding project_sheet transform_value sheet fields head transform_of value content projected_leaf transformed_row result_type
    number_partition bytes_partition partition project_numbers project_bytes transform_number transform_bytes in_type
    truncated floor_mod floor_div day_of hour_of in_calendar year_of month_of civil_year civil_month shift count_off before
    leap year_length month_length cycle_year cycle_day year_at month_in month_at first_code_points is_code_point code_points utf8
    compare_numbers compare_bytes answer_sheet
starred_cases = refl
