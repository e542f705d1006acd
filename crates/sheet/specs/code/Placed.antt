-- Literals by the numbers of their records: what those hold, and that they are there. Assumes nothing.
use Rattle.std.specs.Prelude.{ℕ, ◌+◌, ◌*◌, ◌≤◌, ◌<◌, true, List, map, ◌≡◌, ℤ, pos, length, get_or, take}
use Rattle.values.specs.Types.{Layout, number, bytes, content_size, fits, in_range}
use Rattle.values.specs.Words.{le_number, field, signed}
use Rattle.sheet.specs.Records.{header_size, record_size, record_at, length_in}

-- the content of record k, as long as the record says
abbrev pub content_at : List ℕ → ℕ → List ℕ
content_at s k = field header_size (length_in (record_at s k)) (record_at s k)

-- the number that record k holds, of a type with numbers
abbrev pub number_at : Layout → List ℕ → ℕ → ℤ
number_at (number n) s k = signed n (le_number (field header_size n (record_at s k)))
number_at (bytes n) s k = pos 0

-- record k is there, and its content has a length of the layout, which is no more than a record has room for
pub record LiteralAt (l : Layout) (s : List ℕ) (k : ℕ) : Type 0 where
  pub there : record_size * (k + 1) ≤ length s
  pub short : length_in (record_at s k) ≤ content_size
  pub fitting : fits l (length_in (record_at s k)) ≡ true

-- a number of the layout, where the layout has numbers
abbrev pub InLayout : Layout → ℤ → Type 0
InLayout (number n) z = in_range n z ≡ true
InLayout (bytes n) z = Unit {0}

-- the first count of `records` are numbers of records of a sheet that hold literals of the layout
pub record Placed (l : Layout) (s records : List ℕ) (count : ℕ) : Type 0 where
  pub room : count ≤ length records
  pub each : (i : ℕ) → i < count → LiteralAt l s (get_or records i 0)

-- the contents and the numbers in those records
abbrev pub contents_at : List ℕ → List ℕ → ℕ → List (List ℕ)
contents_at s records count = map (content_at s) (take count records)

abbrev pub numbers_at : Layout → List ℕ → List ℕ → ℕ → List ℤ
numbers_at l s records count = map (number_at l s) (take count records)
