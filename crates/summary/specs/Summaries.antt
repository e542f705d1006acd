-- Files known only by their ends: what a summary says of a file, and how it stands in bytes. One rule of document 02, #104, a line; what fails one is 3.
-- Assumes nothing.
use Rattle.std.specs.Prelude.{ℕ, ◌+◌, ◌*◌, ◌%◌, Bool, true, false, cond, List, ◌==◌, nat_le, length, Ok, Err}
use Rattle.values.specs.Numbered.{find}
use Rattle.values.specs.Outcomes.{Res, need, ◌>>=◌, ◌>>◌, Row, missing, present}
use Rattle.values.specs.Types.{types, layout}
use Rattle.values.specs.Words.{word}
use Rattle.values.specs.declared.datatypes.PrimitiveType.{PrimitiveType}
use Rattle.values.specs.declared.error.ErrorKind.TheVariants.{Malformed}
use Rattle.sheet.specs.Records.{record_size, record_at, value}

-- the present values of a file, as far as they are known: there is none, or they run from the lowest to the highest
infix 30 ◌to◌
pub data Ends (A : Type 0) : Type 0 where
  none_present : Ends A
  ◌to◌ : A → A → Ends A

abbrev pub some_present : {A : Type 0} → Ends A → Bool
some_present none_present = false
some_present (l to h) = true

-- 02: "for each file, the lowest and highest partition value and whether a missing one occurs"
pub record Summary : Type 0 where
  pub column : PrimitiveType
  pub ends : Ends (List ℕ)
  pub has_missing : Bool

-- 02: "two value records, lowest first, a type byte and a flag byte"
abbrev pub type_at : ℕ
type_at = record_size * 2

abbrev pub flag_at : ℕ
flag_at = type_at + 1

abbrev pub summary_size : ℕ
summary_size = flag_at + 1

-- 02: "1 for a missing value, plus 2 for none present"
abbrev pub says_missing : ℕ → Bool
says_missing flag = flag % 2 == 1

abbrev pub says_none : ℕ → Bool
says_none flag = nat_le 2 flag

abbrev pub highest_flag : ℕ
highest_flag = 1 + 2

-- the flag byte, by whether a missing value occurs, and whether some value is present
abbrev pub flag_of : Bool → Bool → ℕ
flag_of has_missing some = cond has_missing 1 0 + cond some 0 2

-- 02: "plus 2 for none present, when both ends are marked missing"; where a value is present neither end is marked missing
abbrev pub ends_of : {A : Type 0} → Bool → Row A → Row A → Res (Ends A)
ends_of true missing missing = Ok none_present
ends_of true missing (present h) = Err Malformed
ends_of true (present l) h = Err Malformed
ends_of false missing h = Err Malformed
ends_of false (present l) missing = Err Malformed
ends_of false (present l) (present h) = Ok (l to h)

-- 02: "any other shape is 3"
unfoldable pub summary : List ℕ → Res Summary
summary f = do
  need (length f == summary_size) Malformed
  column ← find types (word type_at 1 f)
  need (nat_le (word flag_at 1 f) highest_flag) Malformed
  lowest ← value (layout column) (record_at f 0)
  highest ← value (layout column) (record_at f 1)
  ends ← ends_of (says_none (word flag_at 1 f)) lowest highest
  Ok (record { column = column; ends = ends; has_missing = says_missing (word flag_at 1 f) })
