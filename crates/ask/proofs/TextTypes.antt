-- The result types of byte strings. Assumes nothing.
use Rattle.std.specs.Prelude.{◌≡◌, ◌≢◌, ℕ, false, List, Ok, refl}
use Rattle.values.specs.Types.{bytes, layout, content_size}
use Rattle.values.specs.declared.datatypes.PrimitiveType.{PrimitiveType}
use Rattle.values.specs.declared.datatypes.PrimitiveType.TheVariants.{Int, Long, Date, Time, Timestamp, Timestamptz, TimestampNs, TimestamptzNs, String, Binary}
use Rattle.values.specs.declared.error.ErrorKind.TheVariants.{NoResultType}
use Rattle.values.specs.declared.transform.Transform.{Transform}
use Rattle.values.specs.declared.transform.Transform.TheVariants.{Identity, Truncate, Year, Month, Day, Hour, Void, Unknown}
use Rattle.values.specs.laws.OutcomeLaws.{passed}
use Rattle.values.specs.laws.TestLaws.{clash}
use Rattle.partition.specs.ResultType.{is_one_of, for_types, with_days, with_hours, result_type}

no_time : (column : PrimitiveType) → layout column ≡ bytes content_size → (is_one_of column with_days ≡ false) × (is_one_of column with_hours ≡ false)
no_time Int e = (cc, cc)
no_time Long e = (cc, cc)
no_time Date e = (cc, cc)
no_time Time e = (cc, cc)
no_time Timestamp e = (cc, cc)
no_time Timestamptz e = (cc, cc)
no_time TimestampNs e = (cc, cc)
no_time TimestamptzNs e = (cc, cc)
no_time String e = (refl, refl)
no_time Binary e = (refl, refl)

not_listed : {X : Type 0} (types : List PrimitiveType) (column t : PrimitiveType) {to : PrimitiveType} → is_one_of column types ≡ false
    → for_types types column t ≡ Ok to → X
not_listed types column t e r = clash (passed (is_one_of column types) NoResultType _ r).0 e

-- beside Unknown, Identity and Truncate byte strings have a result type under Void only
pub only_void : (column to : PrimitiveType) → layout column ≡ bytes content_size → (t : Transform) → result_type t column ≡ Ok to
    → t ≢ Unknown → t ≢ Identity → ((width : ℕ) → t ≢ Truncate width) → t ≡ Void
unfolding result_type
only_void column to bs Identity r u i m = absurd (i refl)
only_void column to bs (Truncate width) r u i m = absurd (m width refl)
only_void column to bs Year r u i m = not_listed with_days column Int (no_time column bs).0 r
only_void column to bs Month r u i m = not_listed with_days column Int (no_time column bs).0 r
only_void column to bs Day r u i m = not_listed with_days column Date (no_time column bs).0 r
only_void column to bs Hour r u i m = not_listed with_hours column Int (no_time column bs).1 r
only_void column to bs Void r u i m = refl
only_void column to bs Unknown r u i m = absurd (u refl)
