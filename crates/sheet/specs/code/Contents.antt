-- Contents of records, and of a value that may be missing: which are UTF-8, and the numbers that they are. Assumes nothing.
use Rattle.std.specs.Prelude.{ℕ, Bool, true, ◌&&◌, List, [], ◌∷◌, ◌⊎◌, ◌≡◌, ℤ, pos}
use Rattle.values.specs.Outcomes.{Row, missing, present}
use Rattle.values.specs.Types.{Layout, number, bytes, layout}
use Rattle.values.specs.Utf8.{utf8}
use Rattle.values.specs.declared.datatypes.PrimitiveType.{PrimitiveType}
use Rattle.sheet.specs.Values.{number_of}

abbrev pub all_utf8 : List (List ℕ) → Bool
all_utf8 [] = true
all_utf8 (s ∷ ss) = utf8 s && all_utf8 ss

abbrev pub row_utf8 : Row (List ℕ) → Bool
row_utf8 missing = true
row_utf8 (present v) = utf8 v

-- the number that a content is, of a layout with numbers
abbrev pub number_in : Layout → List ℕ → ℤ
number_in (number n) bs = number_of n bs
number_in (bytes n) bs = pos 0

-- a type of numbers of n bytes
pub record NumberType (column : PrimitiveType) (n : ℕ) : Type 0 where
  pub is : layout column ≡ number n
  pub size : (n ≡ 4) ⊎ (n ≡ 8)
