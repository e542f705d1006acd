-- Column lists: the columns that a filter can name, as bytes. One rule of document 02 a line; what fails one is 3. Assumes nothing.
use Rattle.std.specs.Prelude.{ℕ, zero, suc, ◌+◌, ◌-◌, ◌*◌, ◌/◌, ◌%◌, Bool, true, not, ◌&&◌, List, [], ◌∷◌, ◌++◌, map, nat_lt, nat_le, ◌==◌, length, Ok}
use Rattle.values.specs.Ascending.{elem}
use Rattle.values.specs.Characters.{ascii, is_letter, leading}
use Rattle.values.specs.Order.{compare_bytes}
use Rattle.values.specs.Outcomes.{Res, need, each, ◌>>=◌, ◌>>◌}
use Rattle.values.specs.Words.{field, word, zero_at}
use Rattle.values.specs.declared.error.ErrorKind.TheVariants.{Malformed}
use Rattle.sheet.specs.Records.{record_size, next_in}
use Rattle.sheet.specs.Sheets.{Head, fields}

-- ---- sizes. 02: "A list of 1 to 8 columns gives each a name (1 to 16 lower-case letters, zero-filled to 16 bytes), then a head"
abbrev pub column_limit : ℕ
column_limit = 8

abbrev pub name_size : ℕ
name_size = 16

abbrev pub entry_size : ℕ
entry_size = name_size + record_size

-- ---- one column

pub record Column : Type 0 where
  pub name : List ℕ
  pub head : Head

-- 02: "one of the four words above"
abbrev pub reserved : List (List ℕ)
reserved = ascii "and" ∷ ascii "or" ∷ ascii "not" ∷ ascii "startswith" ∷ []

-- "1 to 16 lower-case letters, zero-filled"; a reserved word is 3
abbrev pub checked_name : List ℕ → List ℕ → Res (List ℕ)
checked_name bytes name = do
  need (nat_lt 0 (length name)) Malformed
  need (zero_at (length name) (name_size - length name) bytes) Malformed
  need (not (elem compare_bytes name reserved)) Malformed
  Ok name

abbrev pub name_in : List ℕ → Res (List ℕ)
name_in bytes = checked_name bytes (leading is_letter bytes)

-- 02: "a head with next and operator 0"
abbrev pub plain_head : List ℕ → Res Head
plain_head r = do
  need (next_in r == 0) Malformed
  need (word 2 2 r == 0) Malformed
  fields r

unfoldable pub column : List ℕ → Res Column
column entry = do
  n ← name_in (field 0 name_size entry)
  h ← plain_head (field name_size record_size entry)
  Ok (record { name = n; head = h })

-- ---- a list of columns

abbrev pub entry_at : List ℕ → ℕ → List ℕ
entry_at c k = field (entry_size * k) entry_size c

-- 0, 1, .. as many as n
abbrev pub first_numbers : ℕ → List ℕ
first_numbers zero = []
first_numbers (suc n) = first_numbers n ++ (n ∷ [])

-- 02: "a name twice .. is 3"
abbrev pub names_apart : List (List ℕ) → Bool
names_apart [] = true
names_apart (n ∷ ns) = not (elem compare_bytes n ns) && names_apart ns

unfoldable pub columns : List ℕ → Res (List Column)
columns c = do
  need (nat_lt 0 (length c)) Malformed
  need (length c % entry_size == 0) Malformed
  need (nat_le (length c) (entry_size * column_limit)) Malformed
  cs ← each (λ k. column (entry_at c k)) (first_numbers (length c / entry_size))
  need (names_apart (map (λ d. d.name) cs)) Malformed
  Ok cs
