-- The values that contents stand for: numbers in two's complement, and byte strings, which are UTF-8 where the column is a String. Assumes nothing.
use Rattle.std.specs.Prelude.{ℕ, not, ◌||◌, List, map, ℤ, Ok}
use Rattle.values.specs.Outcomes.{Res, need, each, ◌>>=◌, ◌>>◌, Row, missing, present}
use Rattle.values.specs.Types.{Layout, number, bytes, same_type}
use Rattle.values.specs.Utf8.{utf8}
use Rattle.values.specs.Words.{le_number, signed}
use Rattle.values.specs.declared.error.ErrorKind.TheVariants.{NotUtf8}
use Rattle.values.specs.declared.datatypes.PrimitiveType.{PrimitiveType}
use Rattle.values.specs.declared.datatypes.PrimitiveType.TheVariants.{String}
use Rattle.expr.specs.Predicates.{Predicate, unary, test, binary, set}

-- a number of n bytes
abbrev pub number_of : ℕ → List ℕ → ℤ
number_of n bs = signed n (le_number bs)

abbrev pub read_number : ℕ → List ℕ → Res ℤ
read_number n bs = Ok (number_of n bs)

-- 01: "4: a String literal or value is not UTF-8"
abbrev pub read_bytes : PrimitiveType → List ℕ → Res (List ℕ)
read_bytes column bs = do
  need (not (same_type column String) || utf8 bs) NotUtf8
  Ok bs

-- a leaf's literals, and a row's value, read in their turn
abbrev pub each_literal : {A B : Type 0} → (A → Res B) → Predicate A → Res (Predicate B)
each_literal read (unary o) = Ok (unary o)
each_literal read (test (binary o l)) = do
  x ← read l
  Ok (test (binary o x))
each_literal read (test (set o ls)) = do
  xs ← each read ls
  Ok (test (set o xs))

abbrev pub read_row : {A B : Type 0} → (A → Res B) → Row A → Res (Row B)
read_row read missing = Ok missing
read_row read (present v) = do
  x ← read v
  Ok (present x)

-- the one or the other, by how a type's values stand in bytes
abbrev pub by_layout : {X : Type 0} → Layout → (ℕ → X) → X → X
by_layout (number n) f g = f n
by_layout (bytes n) f g = g

-- ---- each value of a row or a predicate

abbrev pub map_row : {A B : Type 0} → (A → B) → Row A → Row B
map_row f missing = missing
map_row f (present v) = present (f v)

abbrev pub map_literals : {A B : Type 0} → (A → B) → Predicate A → Predicate B
map_literals f (unary o) = unary o
map_literals f (test (binary o l)) = test (binary o (f l))
map_literals f (test (set o ls)) = test (set o (map f ls))
