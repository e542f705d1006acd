-- What the transforms of numbers promise to the crates above: the order is kept, and the value of a number of the column's type is of the result type.
-- `BytesPartitionLaws` has those of strings and binaries. Assumes nothing.
use Rattle.std.specs.Prelude.{ℕ, ◌≤◌, ◌<◌, true, not, ◌||◌, List, ◌≡◌, refl, ltb, leb, ℤ, pos, ◌≤ℤ◌, Ok}
use Rattle.std.proofs.Common.{arith, true≢false, sym, ap, subst, ◌∙◌}
use Rattle.values.specs.Outcomes.{Res, ◌>>=◌, Row, missing, present}
use Rattle.values.specs.laws.OutcomeLaws.{ok_inj, present_inj, ok_not_err, missing_not_present, passed, gone}
use Rattle.values.specs.laws.IntLaws.{ints, neg}
use Rattle.values.specs.laws.RangeLaws.{in_type_lem, in_int, in_type_long, four}
use Rattle.values.specs.Types.{same_type, in_type}
use Rattle.values.specs.declared.error.ErrorKind.TheVariants.{NoResultType, DataInvalid, Overflow}
use Rattle.values.specs.declared.datatypes.PrimitiveType.{PrimitiveType}
use Rattle.values.specs.declared.datatypes.PrimitiveType.TheVariants.{Int, Long, Date, Time, Timestamp, Timestamptz, TimestampNs, TimestamptzNs, String, Binary}
use Rattle.values.specs.declared.transform.Transform.{Transform}
use Rattle.values.specs.declared.transform.Transform.TheVariants.{Identity, Truncate, Year, Month, Day, Hour, Void, Unknown}
use Rattle.transform.specs.Floor.{floor_div}
use Rattle.transform.specs.laws.FloorLaws.{floor_mono, floor_one, day_fits}
use Rattle.transform.specs.Calendar.{in_calendar, year_of, month_of}
use Rattle.transform.specs.laws.CalendarLaws.{year_of_mono, month_of_mono, year_of_range, month_of_range}
use Rattle.transform.specs.Temporal.{unit_of, per_day, per_hour, day_of, hour_of}
use Rattle.transform.specs.Truncate.{truncated}
use Rattle.transform.specs.laws.TruncateLaws.{truncated_mono}
use Rattle.partition.specs.ResultType.{is_one_of, for_types, truncatable, with_days, with_hours, result_type}
use Rattle.partition.specs.Partition.{widest_int_width, truncate_number, by_calendar, outside_calendar, day_number, hour_number, transform_number, known}
use Rattle.transform.specs.declared.temporal.TimeUnit.{TimeUnit}
use Rattle.transform.specs.declared.temporal.TimeUnit.TheVariants as time-unit

-- ---- what a transform that gives a number has passed

pub value_is : {x p : ℤ} → ◌≡◌ {A = Res (Row ℤ)} (Ok (present x)) (Ok (present p)) → x ≡ p
value_is e = present_inj (ok_inj e)

pub record Truncates (ty : PrimitiveType) (v : ℤ) (width : ℕ) (r : Row ℤ) : Type 0 where
  pub inside : in_type ty (truncated width v) ≡ true
  pub value : present (truncated width v) ≡ r

truncates_by : (ty : PrimitiveType) (v : ℤ) (width : ℕ) {r : Row ℤ} → truncate_number ty width v ≡ Ok r → Truncates ty v width r
truncates_by ty v width e =
    let a = passed (not (same_type ty Int) || leb width widest_int_width) DataInvalid _ e in
    let b = passed (ltb 0 width) Overflow _ a.1 in
    let c = passed (in_type ty (truncated width v)) Overflow _ b.1 in
    record { inside = c.0; value = ok_inj c.1 }

pub record Counts (ty : PrimitiveType) (v : ℤ) (count : ℤ → ℤ) (r : Row ℤ) : Type 0 where
  pub day : ℤ
  pub day_is : day_of ty v ≡ Ok day
  pub inside : in_calendar day ≡ true
  pub value : present (count day) ≡ r

counts_by : (ty : PrimitiveType) (v : ℤ) (count : ℤ → ℤ) {r : Row ℤ} → by_calendar count ty v ≡ Ok r → Counts ty v count r
counts_by ty v count e =
    let a = gone (day_of ty v) _ e in
    let b = passed (in_calendar a.0) (outside_calendar (unit_of ty)) _ a.2 in
    record { day = a.0; day_is = a.1; inside = b.0; value = ok_inj b.1 }

module _ (ty : PrimitiveType) (v p : ℤ) where
  day_by : day_number ty v ≡ Ok (present p) → day_of ty v ≡ Ok p
  day_by e = let a = gone (day_of ty v) _ e in a.1 ∙ ap Ok (value_is a.2)

  hour_by : hour_number ty v ≡ Ok (present p) → (hour_of ty v ≡ Ok p) × (in_type Int p ≡ true)
  hour_by e =
      let a = gone (hour_of ty v) _ e in
      let b = passed (in_type Int a.0) Overflow _ a.2 in
      let q = value_is b.1 in
      (a.1 ∙ ap Ok q, subst (λ (z : ℤ). in_type Int z ≡ true) q b.0)

-- ---- a day and an hour are quotients by their units, which keep the order

quotient : (v : ℤ) {d : ℤ} (r : Res ℕ) → (r >>= λ units. Ok (floor_div v units)) ≡ Ok d → (n : ℕ) × (r ≡ Ok n) × (d ≡ floor_div v n)
quotient v r e = let g = gone r (λ units. Ok (floor_div v units)) e in (g.0, g.1, sym (ok_inj g.2))

day_units : (u : TimeUnit) (n : ℕ) → per_day u ≡ Ok n → 0 < n
day_units time-unit.Day n e = rw (← ok_inj e) (omega arith)
day_units time-unit.Microsecond n e = rw (← ok_inj e) (omega arith)
day_units time-unit.Nanosecond n e = rw (← ok_inj e) (omega arith)
day_units time-unit.Neither n e = ok_not_err e

hour_units : (u : TimeUnit) (n : ℕ) → per_hour u ≡ Ok n → 0 < n
hour_units time-unit.Day n e = ok_not_err e
hour_units time-unit.Microsecond n e = rw (← ok_inj e) (omega arith)
hour_units time-unit.Nanosecond n e = rw (← ok_inj e) (omega arith)
hour_units time-unit.Neither n e = ok_not_err e

quotient_mono : (r : Res ℕ) → ((n : ℕ) → r ≡ Ok n → 0 < n) → (v w d e : ℤ) → (r >>= λ units. Ok (floor_div v units)) ≡ Ok d → (r >>= λ units. Ok (floor_div w units)) ≡ Ok e → v ≤ℤ w → d ≤ℤ e
quotient_mono r some v w d e a b h =
    let x = quotient v r a in
    let y = quotient w r b in
    let same : x.0 ≡ y.0 = ok_inj (sym x.1 ∙ y.1) in
    rw (x.2, y.2, ← same) (floor_mono x.0 (some x.0 x.1) h)

module _ (ty : PrimitiveType) (v w d e : ℤ) where
  pub day_mono : day_of ty v ≡ Ok d → day_of ty w ≡ Ok e → v ≤ℤ w → d ≤ℤ e
  unfolding day_of
  day_mono a b h = quotient_mono (per_day (unit_of ty)) (day_units (unit_of ty)) v w d e a b h

  pub hour_mono : hour_of ty v ≡ Ok d → hour_of ty w ≡ Ok e → v ≤ℤ w → d ≤ℤ e
  unfolding hour_of
  hour_mono a b h = quotient_mono (per_hour (unit_of ty)) (hour_units (unit_of ty)) v w d e a b h

-- ---- numbers: the order is kept

module _ (ty : PrimitiveType) (v w p q : ℤ) where
  calendar_mono : (count : ℤ → ℤ) → ((d e : ℤ) → d ≤ℤ e → count d ≤ℤ count e) → by_calendar count ty v ≡ Ok (present p) → by_calendar count ty w ≡ Ok (present q) → v ≤ℤ w → p ≤ℤ q
  calendar_mono count mono a b h =
      let x = counts_by ty v count a in
      let y = counts_by ty w count b in
      rw (← present_inj x.value, ← present_inj y.value) (mono x.day y.day (day_mono ty v w x.day y.day x.day_is y.day_is h))

  by_mono : (tr : Transform) → transform_number ty tr v ≡ Ok (present p) → transform_number ty tr w ≡ Ok (present q) → v ≤ℤ w → p ≤ℤ q
  unfolding transform_number
  by_mono Identity a b h = rw (← value_is a, ← value_is b) h
  by_mono (Truncate width) a b h =
      rw (← present_inj (truncates_by ty v width a).value, ← present_inj (truncates_by ty w width b).value) (truncated_mono width h)
  by_mono Year a b h = calendar_mono year_of year_of_mono a b h
  by_mono Month a b h = calendar_mono month_of month_of_mono a b h
  by_mono Day a b h = day_mono ty v w p q (day_by ty v p a) (day_by ty w q b) h
  by_mono Hour a b h = hour_mono ty v w p q (hour_by ty v p a).0 (hour_by ty w q b).0 h
  by_mono Void a b h = missing_not_present (ok_inj a)
  by_mono Unknown a b h = ok_not_err a

pub number_mono : (ty : PrimitiveType) (tr : Transform) (v w : ℤ) {p q : ℤ} → transform_number ty tr v ≡ Ok (present p) → transform_number ty tr w ≡ Ok (present q) → v ≤ℤ w → p ≤ℤ q
number_mono ty tr v w {p} {q} a b h = by_mono ty v w p q tr a b h

-- ---- numbers: the value is of the result type

-- a day is of type Date: of a Date it is the Date, and the days of 64 bits of microseconds or nanoseconds fit 32
date_of : (ty : PrimitiveType) → unit_of ty ≡ time-unit.Day → ty ≡ Date
date_of Int e = absurd (true≢false (cc))
date_of Long e = absurd (true≢false (cc))
date_of Date e = refl
date_of Time e = absurd (true≢false (cc))
date_of Timestamp e = absurd (true≢false (cc))
date_of Timestamptz e = absurd (true≢false (cc))
date_of TimestampNs e = absurd (true≢false (cc))
date_of TimestamptzNs e = absurd (true≢false (cc))
date_of String e = absurd (true≢false (cc))
date_of Binary e = absurd (true≢false (cc))

day_lands : (ty : PrimitiveType) (v d : ℤ) → in_type ty v ≡ true → day_of ty v ≡ Ok d → in_type Date d ≡ true
unfolding day_of
day_lands ty v d h e = go (unit_of ty) refl (quotient v (per_day (unit_of ty)) e)
  where
    moment : (n : ℕ) → 86400000000 ≤ n → d ≡ floor_div v n → in_type Date d ≡ true
    moment n k q = (in_type_lem Date four refl d).1 (rw q (day_fits n k (in_type_long ty v h)))

    go : (u : TimeUnit) → unit_of ty ≡ u → (n : ℕ) × (per_day (unit_of ty) ≡ Ok n) × (d ≡ floor_div v n) → in_type Date d ≡ true
    go time-unit.Day a g =
        let one : 1 ≡ g.0 = ok_inj (rw a at g.1) in
        rw (g.2, ← one, floor_one v, ← date_of ty a) h
    go time-unit.Microsecond a g = let n = ok_inj (rw a at g.1) in moment g.0 (omega (arith, n)) g.2
    go time-unit.Nanosecond a g = let n = ok_inj (rw a at g.1) in moment g.0 (omega (arith, n)) g.2
    go time-unit.Neither a g = ok_not_err (rw a at g.1)

-- a listed type's result type
pub listed_to : (types : List PrimitiveType) (ty t : PrimitiveType) {to : PrimitiveType} → for_types types ty t ≡ Ok to → t ≡ to
listed_to types ty t e = ok_inj (passed (is_one_of ty types) NoResultType _ e).1

pub number_lands : (ty to : PrimitiveType) (tr : Transform) (v p : ℤ) → result_type tr ty ≡ Ok to → in_type ty v ≡ true → transform_number ty tr v ≡ Ok (present p)
    → in_type to p ≡ true
unfolding result_type transform_number
number_lands ty to Identity v p r h e = rw (← ok_inj r, ← value_is e) h
number_lands ty to (Truncate width) v p r h e = let x = truncates_by ty v width e in rw (← listed_to truncatable ty ty r, ← present_inj x.value) x.inside
number_lands ty to Year v p r h e =
    let x = counts_by ty v year_of e in
    let k = year_of_range x.day x.inside in
    rw (← listed_to with_days ty Int r, ← present_inj x.value) ((in_int (year_of x.day)).1 (omega (ints, k.0, k.1, neg (pos 264113))))
number_lands ty to Month v p r h e =
    let x = counts_by ty v month_of e in
    let k = month_of_range x.day x.inside in
    rw (← listed_to with_days ty Int r, ← present_inj x.value) ((in_int (month_of x.day)).1 (omega (ints, k.0, k.1, neg (pos 3169356))))
number_lands ty to Day v p r h e = rw (← listed_to with_days ty Date r) (day_lands ty v p h (day_by ty v p e))
number_lands ty to Hour v p r h e = rw (← listed_to with_hours ty Int r) (hour_by ty v p e).1
number_lands ty to Void v p r h e = missing_not_present (ok_inj e)
number_lands ty to Unknown v p r h e = ok_not_err e

-- only a String has values that are Strings, of the known transforms
pub string_result : (tr : Transform) (ty : PrimitiveType) → known tr ≡ true → result_type tr ty ≡ Ok String → ty ≡ String
unfolding result_type
string_result Identity ty k r = ok_inj r
string_result (Truncate width) ty k r = listed_to truncatable ty ty r
string_result Year ty k r = absurd (true≢false (cc (listed_to with_days ty Int r)))
string_result Month ty k r = absurd (true≢false (cc (listed_to with_days ty Int r)))
string_result Day ty k r = absurd (true≢false (cc (listed_to with_days ty Date r)))
string_result Hour ty k r = absurd (true≢false (cc (listed_to with_hours ty Int r)))
string_result Void ty k r = ok_inj r
string_result Unknown ty k r = absurd (true≢false (cc))

-- ---- numbers: Identity and Void

pub number_identity : (ty : PrimitiveType) (v : ℤ) → transform_number ty Identity v ≡ Ok (present v)
unfolding transform_number
number_identity ty v = refl

-- every other known transform gives a number or a refusal
pub number_missing : (ty : PrimitiveType) (tr : Transform) (v : ℤ) → transform_number ty tr v ≡ Ok missing → tr ≡ Void
unfolding transform_number
number_missing ty Identity v e = missing_not_present (ok_inj (sym e))
number_missing ty (Truncate width) v e = missing_not_present (sym (truncates_by ty v width e).value)
number_missing ty Year v e = missing_not_present (sym (counts_by ty v year_of e).value)
number_missing ty Month v e = missing_not_present (sym (counts_by ty v month_of e).value)
number_missing ty Day v e = let a = gone (day_of ty v) _ e in missing_not_present (ok_inj (sym a.2))
number_missing ty Hour v e = let a = gone (hour_of ty v) _ e in missing_not_present (ok_inj (sym (passed (in_type Int a.0) Overflow _ a.2).1))
number_missing ty Void v e = refl
number_missing ty Unknown v e = ok_not_err e
