-- Day and Hour of a time column. Assumes nothing.
use Rattle.std.specs.Prelude.{ℕ, ◌*◌, ◌≡◌, refl, ℤ, negsuc, Ok, Err}
use Rattle.values.specs.Outcomes.{Res, ◌>>=◌}
use Rattle.values.specs.declared.error.ErrorKind.TheVariants.{NoResultType}
use Rattle.values.specs.declared.datatypes.PrimitiveType.{PrimitiveType}
use Rattle.values.specs.declared.datatypes.PrimitiveType.TheVariants.{Int, Long, Date, Time, Timestamp, Timestamptz, TimestampNs, TimestamptzNs, String, Binary}
use Rattle.transform.specs.Floor.{floor_div}
use Rattle.transform.specs.declared.temporal.TimeUnit.{TimeUnit}
use Rattle.transform.specs.declared.temporal.TimeUnit.TheVariants.{Day, Microsecond, Nanosecond, Neither}

-- 01: "Date counts days, Timestamp(tz) microseconds, the Ns types nanoseconds from 1970-01-01"; Time counts from midnight, in no day
abbrev pub unit_of : PrimitiveType → TimeUnit
unit_of Int = Neither
unit_of Long = Neither
unit_of Date = Day
unit_of Time = Neither
unit_of Timestamp = Microsecond
unit_of Timestamptz = Microsecond
unit_of TimestampNs = Nanosecond
unit_of TimestamptzNs = Nanosecond
unit_of String = Neither
unit_of Binary = Neither

abbrev pub hours_per_day : ℕ
hours_per_day = 24

abbrev pub micros_per_hour : ℕ
micros_per_hour = 3600000000

abbrev pub nanos_per_hour : ℕ
nanos_per_hour = 3600000000000

-- how many units an hour has
abbrev pub per_hour : TimeUnit → Res ℕ
per_hour Microsecond = Ok micros_per_hour
per_hour Nanosecond = Ok nanos_per_hour
-- never met: `result_type` (`partition`) refuses these types with 5
per_hour Day = Err NoResultType
per_hour Neither = Err NoResultType

abbrev pub per_day : TimeUnit → Res ℕ
per_day Day = Ok 1
per_day Microsecond = Ok (hours_per_day * micros_per_hour)
per_day Nanosecond = Ok (hours_per_day * nanos_per_hour)
-- never met: `result_type` refuses these types with 5
per_day Neither = Err NoResultType

-- 01: "Day and Hour divide toward minus infinity"; "Day of a Date is the Date", which is its own day's number
unfoldable pub day_of : PrimitiveType → ℤ → Res ℤ
day_of ty v = do
  units ← per_day (unit_of ty)
  Ok (floor_div v units)

unfoldable pub hour_of : PrimitiveType → ℤ → Res ℤ
hour_of ty v = do
  units ← per_hour (unit_of ty)
  Ok (floor_div v units)

-- one microsecond before 1970 lies in day -1
eve : day_of Timestamp (negsuc 0) ≡ Ok (negsuc 0)
unfolding day_of floor_div
eve = refl
