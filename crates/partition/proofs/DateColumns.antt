-- A column that counts days holds 32 bits. Assumes nothing.
use Rattle.std.specs.Prelude.{◌≡◌, refl, true, ℤ, FitsSigned}
use Rattle.std.specs.Int.{w32}
use Rattle.values.specs.Types.{in_type}
use Rattle.values.specs.laws.RangeLaws.{in_type_lem, four}
use Rattle.values.specs.declared.datatypes.PrimitiveType.{PrimitiveType}
use Rattle.values.specs.declared.datatypes.PrimitiveType.TheVariants.{Int, Long, Date, Time, Timestamp, Timestamptz, TimestampNs, TimestamptzNs, String, Binary}
use Rattle.transform.specs.Temporal.{unit_of}
use Rattle.transform.specs.declared.temporal.TimeUnit.TheVariants as time-unit

pub date_fits : (ty : PrimitiveType) (v : ℤ) → time-unit.Day ≡ unit_of ty → in_type ty v ≡ true → FitsSigned w32 v
date_fits Int v e h = cc
date_fits Date v e h = (in_type_lem Date four refl v).0 h
date_fits Long v e h = cc
date_fits Time v e h = cc
date_fits Timestamp v e h = cc
date_fits Timestamptz v e h = cc
date_fits TimestampNs v e h = cc
date_fits TimestamptzNs v e h = cc
date_fits String v e h = cc
date_fits Binary v e h = cc
