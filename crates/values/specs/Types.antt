-- The column types: their numbers, lengths and ranges. Assumes nothing.
use Rattle.std.specs.Prelude.{◌≡◌, ℕ, ◌/◌, ◌^◌, Bool, true, false, ◌&&◌, List, [], ◌∷◌, ℤ, pos, negsuc, neg_ℤ, ◌==◌, int_le, int_lt, nat_le, refl}
use Rattle.values.specs.Numbered.{Numbered, ◌is◌}
use Rattle.values.specs.declared.datatypes.PrimitiveType.{PrimitiveType}
use Rattle.values.specs.declared.datatypes.PrimitiveType.TheVariants.{Int, Long, Date, Time, Timestamp, Timestamptz, TimestampNs, TimestamptzNs, String, Binary}

-- 01: "Types: 1 Int, 2 Long, 3 Date, 4 Time, 5 Timestamp, 6 Timestamptz, 7 TimestampNs, 8 TimestamptzNs, 9 String, 10 Binary"
abbrev pub types : List (Numbered PrimitiveType)
types =
    1 is Int ∷ 2 is Long ∷ 3 is Date ∷ 4 is Time ∷ 5 is Timestamp ∷ 6 is Timestamptz ∷ 7 is TimestampNs ∷ 8 is TimestamptzNs
    ∷ 9 is String ∷ 10 is Binary ∷ []

abbrev pub type_number : PrimitiveType → ℕ
type_number Int = 1
type_number Long = 2
type_number Date = 3
type_number Time = 4
type_number Timestamp = 5
type_number Timestamptz = 6
type_number TimestampNs = 7
type_number TimestamptzNs = 8
type_number String = 9
type_number Binary = 10

abbrev pub same_type : PrimitiveType → PrimitiveType → Bool
same_type a b = type_number a == type_number b

-- the most bytes of a String or a Binary
abbrev pub content_size : ℕ
content_size = 60

-- how a value of a type stands in bytes: a number of so many, or a byte string of at most so many
pub data Layout : Type 0 where
  number : ℕ → Layout
  bytes : ℕ → Layout

-- 01: "Int and Date have length 4, 2 and 4–8 length 8 (two's complement), 9–10 from 0 to 60"
abbrev pub layout : PrimitiveType → Layout
layout Int = number 4
layout Long = number 8
layout Date = number 4
layout Time = number 8
layout Timestamp = number 8
layout Timestamptz = number 8
layout TimestampNs = number 8
layout TimestamptzNs = number 8
layout String = bytes content_size
layout Binary = bytes content_size

-- a length that a value of the layout may have
abbrev pub fits : Layout → ℕ → Bool
fits (number n) k = k == n
fits (bytes n) k = nat_le k n

-- half the count of the numbers of n bytes in two's complement, which run from -half n up to, and not including, half n
abbrev pub half : ℕ → ℕ
half n = 256 ^ n / 2

abbrev pub in_range : ℕ → ℤ → Bool
in_range n z = int_le (neg_ℤ (pos (half n))) z && int_lt z (pos (half n))

abbrev pub in_layout : Layout → ℤ → Bool
in_layout (number n) z = in_range n z
in_layout (bytes n) z = false

-- z is a number of the type
unfoldable pub in_type : PrimitiveType → ℤ → Bool
in_type ty z = in_layout (layout ty) z

highest_int : (in_type Int (pos 2147483647) ≡ true) × (in_type Int (pos 2147483648) ≡ false)
unfolding in_type
highest_int = (refl, refl)

lowest_long : (in_type Long (negsuc 9223372036854775807) ≡ true) × (in_type Long (negsuc 9223372036854775808) ≡ false)
unfolding in_type
lowest_long = (refl, refl)
