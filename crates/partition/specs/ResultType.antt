-- The type of a transform's values (`Transform::result_type`), or 5. Assumes nothing.
use Rattle.std.specs.Prelude.{Bool, false, ◌||◌, List, [], ◌∷◌, Ok}
use Rattle.values.specs.Outcomes.{Res, need, ◌>>◌}
use Rattle.values.specs.Types.{same_type}
use Rattle.values.specs.declared.error.ErrorKind.TheVariants.{NoResultType}
use Rattle.values.specs.declared.datatypes.PrimitiveType.{PrimitiveType}
use Rattle.values.specs.declared.datatypes.PrimitiveType.TheVariants.{Int, Long, Date, Timestamp, Timestamptz, TimestampNs, TimestamptzNs, String, Binary}
use Rattle.values.specs.declared.transform.Transform.{Transform}
use Rattle.values.specs.declared.transform.Transform.TheVariants.{Identity, Truncate, Year, Month, Day, Hour, Void, Unknown}

-- a type is one of a list
abbrev pub is_one_of : PrimitiveType → List PrimitiveType → Bool
is_one_of ty [] = false
is_one_of ty (t ∷ ts) = same_type ty t || is_one_of ty ts

-- the type `to` for the listed column types, 5 for every other
abbrev pub for_types : List PrimitiveType → PrimitiveType → PrimitiveType → Res PrimitiveType
for_types types ty to = do
  need (is_one_of ty types) NoResultType
  Ok to

-- the types whose values can be cut, and those whose values lie in a day of the calendar, and in an hour of one
abbrev pub truncatable : List PrimitiveType
truncatable = Int ∷ Long ∷ String ∷ Binary ∷ []

abbrev pub with_days : List PrimitiveType
with_days = Date ∷ Timestamp ∷ Timestamptz ∷ TimestampNs ∷ TimestamptzNs ∷ []

abbrev pub with_hours : List PrimitiveType
with_hours = Timestamp ∷ Timestamptz ∷ TimestampNs ∷ TimestamptzNs ∷ []

-- Identity, Void and Unknown take every type. Unknown's String is the Rust's. Of a leaf and of a value no answer shows it, since its 7 comes next; in a filter a
-- column's partition value under Unknown is read as a String: ff ff ff ff under an Int is 4
unfoldable pub result_type : Transform → PrimitiveType → Res PrimitiveType
result_type Identity ty = Ok ty
result_type (Truncate width) ty = for_types truncatable ty ty
result_type Year ty = for_types with_days ty Int
result_type Month ty = for_types with_days ty Int
result_type Day ty = for_types with_days ty Date
result_type Hour ty = for_types with_hours ty Int
result_type Void ty = Ok ty
result_type Unknown ty = Ok String
