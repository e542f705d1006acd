-- Under a transform that has a result type, steps refuse with 6 and 8, and with 7 under Unknown alone: what holds of those holds of every refusal of a transform
-- and of a projection. Assumes nothing.
use Rattle.std.specs.Prelude.{Ok, Err}
use Prim.Native.Nat.{ℕ}
use mathlib.Core.Bool.{true, not, ◌||◌, false≢true}
use mathlib.Core.List.{List}
use mathlib.Core.Path.{◌≡◌, refl, ap}
use lib.Dec.{ltb, leb, eqb}
use lib.IntN.{ℤ, suc_ℤ, pred_ℤ}
use Rattle.values.specs.Order.{compare_numbers, compare_bytes}
use Rattle.values.specs.Outcomes.{Res, each, Row, missing, present, ◌>>=◌}
use Rattle.values.specs.laws.OutcomeLaws.{passed}
use Rattle.values.specs.laws.TestLaws.{clash}
use Rattle.values.specs.Transforms.{width_of}
use Rattle.values.specs.Types.{bytes, layout, in_type, same_type}
use Rattle.values.specs.declared.datatypes.PrimitiveType.{PrimitiveType}
use Rattle.values.specs.declared.datatypes.PrimitiveType.TheVariants.{Int, Long, Date, Time, String, Binary}
use Rattle.values.specs.declared.datatypes.PrimitiveType.TheVariants.{Timestamp, Timestamptz, TimestampNs, TimestamptzNs}
use Rattle.values.specs.declared.error.ErrorKind.{ErrorKind}
use Rattle.values.specs.declared.error.ErrorKind.TheVariants.{NoResultType, DataInvalid, FeatureUnsupported, Overflow}
use Rattle.std.specs.declared.cmp.Ordering.{Ordering}
use Rattle.values.specs.declared.transform.Transform.{Transform}
use Rattle.values.specs.declared.transform.Transform.TheVariants.{Identity, Truncate, Year, Month, Day, Hour, Void, Unknown}
use Rattle.transform.specs.Calendar.{in_calendar, year_of, month_of}
use Rattle.transform.specs.Temporal.{unit_of, day_of, hour_of}
use Rattle.transform.specs.Truncate.{truncated}
use Rattle.partition.specs.Partition.{widest_int_width, outside_calendar, by_calendar, transform_number, transform_bytes}
use Rattle.partition.specs.ResultType.{is_one_of, for_types, with_days, with_hours, result_type}
use Rattle.partition.specs.laws.BytesPartitionLaws.{bytes_missing}
use Rattle.partition.specs.laws.PartitionLaws.{number_missing}
use Rattle.expr.specs.Operators.{Binary as BinaryOperator, SetOperator, less_than, less_than_or_eq, greater_than, greater_than_or_eq, eq, not_eq, starts_with, not_starts_with, is_in, not_in}
use Rattle.expr.specs.Predicates.{Test, binary, set, Predicate, unary, test}
use Rattle.projection.specs.ByteSteps.{Step, by_length, string_starts, string_not_starts, binary_starts, binary_not_starts, inclusive_bytes, strict_bytes}
use Rattle.projection.specs.NumberSteps.{one_below, one_above, inclusive_number, strict_number}
use Rattle.projection.specs.Projection.{through, by_transform, number_under, number_step, project_numbers, length_of, bytes_under, bytes_step, project_bytes}
use Rattle.projection.specs.Steps.{Projected, value_in, with_literal, with_each}
use Rattle.projection.specs.laws.ProjectionLaws.{by_steps}
use Rattle.projection.specs.declared.question.Question.{Question}
use Rattle.projection.specs.declared.question.Question.TheVariants.{Inclusive, Strict, Older}
use Rattle.sheet.specs.laws.RefusalLaws.{Only, only_ok, only_err, only_bind, only_need, only_cond, only_each}
use Rattle.answers.specs.laws.BytesLeafLaws.{no_time, not_listed}

listed : (types : List PrimitiveType) (column ty : PrimitiveType) {to : PrimitiveType} → for_types types column ty ≡ Ok to → is_one_of column types ≡ true
listed types column ty e = (passed (is_one_of column types) NoResultType _ e).0

module _ {P : ErrorKind → Type 0} (six : P DataInvalid) (eight : P Overflow) where
  -- ---- steps, where T refuses so
  literal_only : {B : Type 0} (o : BinaryOperator) (r : Res B) → Only P r → Only P (with_literal o r)
  literal_only o r h = only_bind r _ h (λ t. only_ok)

  set_only : {A B : Type 0} (compare : B → B → Ordering) (o : SetOperator) (T : A → Res B) → ((l : A) → Only P (T l)) → (ls : List A) → Only P (with_each compare o T ls)
  set_only compare o T h ls = only_bind (each T ls) _ (only_each T h ls) (λ ts. only_ok)

  module _ (column : PrimitiveType) (T : ℤ → Res ℤ) (h : (l : ℤ) → Only P (T l)) where
    -- L−1 and L+1
    below_only : (o : BinaryOperator) (l : ℤ) → Only P (with_literal o (one_below column T l))
    below_only o l = literal_only o (one_below column T l) (only_need (in_type column (pred_ℤ l)) Overflow (T (pred_ℤ l)) eight (h (pred_ℤ l)))

    above_only : (o : BinaryOperator) (l : ℤ) → Only P (with_literal o (one_above column T l))
    above_only o l = literal_only o (one_above column T l) (only_need (in_type column (suc_ℤ l)) Overflow (T (suc_ℤ l)) eight (h (suc_ℤ l)))

    inclusive_numbers : (x : Test ℤ) → Only P (inclusive_number column T x)
    inclusive_numbers (binary less_than l) = below_only less_than_or_eq l
    inclusive_numbers (binary less_than_or_eq l) = literal_only less_than_or_eq (T l) (h l)
    inclusive_numbers (binary greater_than l) = above_only greater_than_or_eq l
    inclusive_numbers (binary greater_than_or_eq l) = literal_only greater_than_or_eq (T l) (h l)
    inclusive_numbers (binary eq l) = literal_only eq (T l) (h l)
    inclusive_numbers (binary not_eq l) = only_ok
    inclusive_numbers (binary starts_with l) = literal_only starts_with (T l) (h l)
    inclusive_numbers (binary not_starts_with l) = literal_only not_starts_with (T l) (h l)
    inclusive_numbers (set is_in ls) = set_only compare_numbers is_in T h ls
    inclusive_numbers (set not_in ls) = only_ok

    strict_numbers : (x : Test ℤ) → Only P (strict_number column T x)
    strict_numbers (binary less_than l) = literal_only less_than (T l) (h l)
    strict_numbers (binary less_than_or_eq l) = above_only less_than l
    strict_numbers (binary greater_than l) = literal_only greater_than (T l) (h l)
    strict_numbers (binary greater_than_or_eq l) = below_only greater_than l
    strict_numbers (binary eq l) = only_ok
    strict_numbers (binary not_eq l) = literal_only not_eq (T l) (h l)
    strict_numbers (binary starts_with l) = only_ok
    strict_numbers (binary not_starts_with l) = only_ok
    strict_numbers (set is_in ls) = only_ok
    strict_numbers (set not_in ls) = set_only compare_numbers not_in T h ls

  module _ (T : List ℕ → Res (List ℕ)) (count : List ℕ → ℕ) (w : ℕ) (h : (l : List ℕ) → Only P (T l)) where
    length_only : (n : ℕ) (whole short : Projected (Test (List ℕ))) (long : Step) → Only P long → Only P (by_length n w whole short long)
    length_only n whole short long k = only_cond (eqb n w) (Ok whole) _ only_ok (only_cond (ltb n w) (Ok short) long only_ok k)

    inclusive_bytes_lem : (column : PrimitiveType) (x : Test (List ℕ)) → Only P (inclusive_bytes column T count w x)
    inclusive_bytes_lem column (binary less_than l) = literal_only less_than_or_eq (T l) (h l)
    inclusive_bytes_lem column (binary less_than_or_eq l) = literal_only less_than_or_eq (T l) (h l)
    inclusive_bytes_lem column (binary greater_than l) = literal_only greater_than_or_eq (T l) (h l)
    inclusive_bytes_lem column (binary greater_than_or_eq l) = literal_only greater_than_or_eq (T l) (h l)
    inclusive_bytes_lem column (binary eq l) = literal_only eq (T l) (h l)
    inclusive_bytes_lem column (binary not_eq l) = only_ok
    inclusive_bytes_lem column (binary starts_with l) =
        let cut = literal_only starts_with (T l) (h l) in
        only_cond (same_type column String) (string_starts T count w l) (binary_starts T l) (length_only (count l) _ _ _ cut) cut
    inclusive_bytes_lem column (binary not_starts_with l) =
        only_cond (same_type column String) (string_not_starts T count w l) (binary_not_starts T count w l)
        (length_only (count l) _ _ _ only_ok)
        (only_cond (leb (count l) w) _ _ (literal_only not_starts_with (T l) (h l)) only_ok)
    inclusive_bytes_lem column (set is_in ls) = set_only compare_bytes is_in T h ls
    inclusive_bytes_lem column (set not_in ls) = only_ok

    strict_bytes_lem : (x : Test (List ℕ)) → Only P (strict_bytes T count w x)
    strict_bytes_lem (binary less_than l) = literal_only less_than (T l) (h l)
    strict_bytes_lem (binary less_than_or_eq l) = literal_only less_than (T l) (h l)
    strict_bytes_lem (binary greater_than l) = literal_only greater_than (T l) (h l)
    strict_bytes_lem (binary greater_than_or_eq l) = literal_only greater_than (T l) (h l)
    strict_bytes_lem (binary eq l) = only_ok
    strict_bytes_lem (binary not_eq l) = literal_only not_eq (T l) (h l)
    strict_bytes_lem (binary starts_with l) = length_only (count l) _ _ _ only_ok
    strict_bytes_lem (binary not_starts_with l) = length_only (count l) _ _ _ (literal_only not_starts_with (T l) (h l))
    strict_bytes_lem (set is_in ls) = only_ok
    strict_bytes_lem (set not_in ls) = set_only compare_bytes not_in T h ls

  -- ---- T, of a transform with steps: Void alone gives missing
  value_only : {B : Type 0} (r : Res (Row B)) → Only P r → (r ≡ Ok missing → ⊥) → Only P (r >>= value_in)
  value_only (Ok missing) h never = absurd (never refl)
  value_only (Ok (present t)) h never = only_ok
  value_only (Err e) h never = only_err (h.only e refl)

  -- ---- transforms of numbers
  -- days and hours, of the columns that have them
  days : (column : PrimitiveType) (v : ℤ) → is_one_of column with_days ≡ true → Only P (day_of column v) × P (outside_calendar (unit_of column))
  unfolding day_of
  days Int v h = absurd (false≢true h)
  days Long v h = absurd (false≢true h)
  days Date v h = (only_ok, eight)
  days Time v h = absurd (false≢true h)
  days Timestamp v h = (only_ok, six)
  days Timestamptz v h = (only_ok, six)
  days TimestampNs v h = (only_ok, six)
  days TimestamptzNs v h = (only_ok, six)
  days String v h = absurd (false≢true h)
  days Binary v h = absurd (false≢true h)

  hours : (column : PrimitiveType) (v : ℤ) → is_one_of column with_hours ≡ true → Only P (hour_of column v)
  unfolding hour_of
  hours Int v h = absurd (false≢true h)
  hours Long v h = absurd (false≢true h)
  hours Date v h = absurd (false≢true h)
  hours Time v h = absurd (false≢true h)
  hours Timestamp v h = only_ok
  hours Timestamptz v h = only_ok
  hours TimestampNs v h = only_ok
  hours TimestamptzNs v h = only_ok
  hours String v h = absurd (false≢true h)
  hours Binary v h = absurd (false≢true h)

  module _ (column to : PrimitiveType) where
    calendar_only : (count : ℤ → ℤ) (v : ℤ) → is_one_of column with_days ≡ true → Only P (by_calendar count column v)
    calendar_only count v h = let k = days column v h in only_bind (day_of column v) _ k.0 (λ d. only_need (in_calendar d) _ _ k.1 only_ok)

    pub number_only : (transform : Transform) → (transform ≡ Unknown → P FeatureUnsupported) → result_type transform column ≡ Ok to → (v : ℤ)
        → Only P (transform_number column transform v)
    unfolding result_type transform_number
    number_only Identity seven e v = only_ok
    number_only (Truncate width) seven e v =
        only_need (not (same_type column Int) || leb width widest_int_width) DataInvalid _ six
        (only_need (ltb 0 width) Overflow _ eight (only_need (in_type column (truncated width v)) Overflow _ eight only_ok))
    number_only Year seven e v = calendar_only year_of v (listed with_days column Int e)
    number_only Month seven e v = calendar_only month_of v (listed with_days column Int e)
    number_only Day seven e v = only_bind (day_of column v) _ (days column v (listed with_days column Date e)).0 (λ d. only_ok)
    number_only Hour seven e v = only_bind (hour_of column v) _ (hours column v (listed with_hours column Int e)) (λ d. only_need (in_type Int d) Overflow _ eight only_ok)
    number_only Void seven e v = only_ok
    number_only Unknown seven e v = only_err (seven refl)

    -- ---- transforms of byte strings
    pub bytes_only : (n : ℕ) → layout column ≡ bytes n → (transform : Transform) → (transform ≡ Unknown → P FeatureUnsupported) → result_type transform column ≡ Ok to
        → (s : List ℕ) → Only P (transform_bytes column transform s)
    unfolding result_type transform_bytes
    bytes_only n is Identity seven e s = only_ok
    bytes_only n is (Truncate width) seven e s = only_ok
    bytes_only n is Year seven e s = not_listed with_days column Int (no_time column n is).0 e
    bytes_only n is Month seven e s = not_listed with_days column Int (no_time column n is).0 e
    bytes_only n is Day seven e s = not_listed with_days column Date (no_time column n is).0 e
    bytes_only n is Hour seven e s = not_listed with_hours column Int (no_time column n is).1 e
    bytes_only n is Void seven e s = only_ok
    bytes_only n is Unknown seven e s = only_err (seven refl)

  -- ---- projections
  module _ {A : Type 0} (compare : A → A → Ordering) (step : Test A → Res (Projected (Test A))) where
    through_only : ((x : Test A) → Only P (step x)) → (leaf : Predicate A) → Only P (through step leaf)
    through_only h (unary o) = only_ok
    through_only h (test x) = only_bind (step x) _ (h x) (λ q. only_ok)

    by_transform_lem : (transform : Transform) → (transform ≡ Unknown → P FeatureUnsupported) → (by_steps transform ≡ true → (x : Test A) → Only P (step x))
        → (leaf : Predicate A) → Only P (by_transform compare step transform leaf)
    by_transform_lem Identity seven h leaf = only_ok
    by_transform_lem (Truncate width) seven h leaf = through_only (h refl) leaf
    by_transform_lem Year seven h leaf = through_only (h refl) leaf
    by_transform_lem Month seven h leaf = through_only (h refl) leaf
    by_transform_lem Day seven h leaf = through_only (h refl) leaf
    by_transform_lem Hour seven h leaf = through_only (h refl) leaf
    by_transform_lem Void seven h leaf = only_ok
    by_transform_lem Unknown seven h leaf = only_err (seven refl)

  module _ (column to : PrimitiveType) (transform : Transform) (seven : transform ≡ Unknown → P FeatureUnsupported) (e : result_type transform column ≡ Ok to) where
    numbers_under : by_steps transform ≡ true → (l : ℤ) → Only P (number_under column transform l)
    numbers_under h l =
        value_only (transform_number column transform l) (number_only column to transform seven e l) (λ m. clash h (ap by_steps (number_missing column transform l m)))

    number_steps_lem : (question : Question) → by_steps transform ≡ true → (x : Test ℤ) → Only P (number_step column transform question x)
    number_steps_lem Inclusive h x =
        let T = number_under column transform in
        only_bind (inclusive_number column T x) _ (inclusive_numbers column T (numbers_under h) x) (λ q. only_ok)
    number_steps_lem Strict h x = strict_numbers column (number_under column transform) (numbers_under h) x
    number_steps_lem Older h x =
        let T = number_under column transform in
        only_bind (strict_number column T x) _ (strict_numbers column T (numbers_under h) x) (λ q. only_ok)

    pub numbers_refused : (question : Question) (leaf : Predicate ℤ) → Only P (project_numbers question column transform leaf)
    unfolding project_numbers
    numbers_refused question leaf = by_transform_lem compare_numbers (number_step column transform question) transform seven (number_steps_lem question) leaf

    module _ (n : ℕ) (is : layout column ≡ bytes n) where
      bytes_under_lem : by_steps transform ≡ true → (l : List ℕ) → Only P (bytes_under column transform l)
      bytes_under_lem h l =
          value_only (transform_bytes column transform l) (bytes_only column to n is transform seven e l) (λ m. clash h (ap by_steps (bytes_missing column transform l m)))

      byte_steps_lem : (question : Question) → by_steps transform ≡ true → (x : Test (List ℕ)) → Only P (bytes_step column transform question x)
      byte_steps_lem Inclusive h x = inclusive_bytes_lem (bytes_under column transform) (length_of column) (width_of transform) (bytes_under_lem h) column x
      byte_steps_lem Strict h x = strict_bytes_lem (bytes_under column transform) (length_of column) (width_of transform) (bytes_under_lem h) x
      byte_steps_lem Older h x = strict_bytes_lem (bytes_under column transform) (length_of column) (width_of transform) (bytes_under_lem h) x

      pub bytes_refused : (question : Question) (leaf : Predicate (List ℕ)) → Only P (project_bytes question column transform leaf)
      unfolding project_bytes
      bytes_refused question leaf = by_transform_lem compare_bytes (bytes_step column transform question) transform seven (byte_steps_lem question) leaf
