-- Records: how literals and values stand in bytes. A value is here still the bytes of its content. Assumes nothing.
use Rattle.std.specs.Prelude.{ℕ, ◌+◌, ◌-◌, ◌*◌, ◌/◌, cond, List, ◌==◌, length, Ok}
use Rattle.values.specs.Outcomes.{Res, need, ◌>>=◌, ◌>>◌, Row, missing, present}
use Rattle.values.specs.Types.{Layout, content_size, fits}
use Rattle.values.specs.Words.{field, word, zero_at}
use Rattle.values.specs.declared.error.ErrorKind.TheVariants.{Malformed}

-- 01: "records of 64 bytes"; a literal's content stands behind its next and its length
abbrev pub header_size : ℕ
header_size = 4

abbrev pub record_size : ℕ
record_size = header_size + content_size

-- how many records s has, and record k of them; 01: "numbered from 0"
abbrev pub record_count : List ℕ → ℕ
record_count s = length s / record_size

abbrev pub record_at : List ℕ → ℕ → List ℕ
record_at s k = field (record_size * k) record_size s

-- 01: "Literal: 0–1 next; 2–3 length; 4–63 content, zero after the length"
abbrev pub next_in : List ℕ → ℕ
next_in r = word 0 2 r

abbrev pub length_in : List ℕ → ℕ
length_in r = word 2 2 r

unfoldable pub content : Layout → List ℕ → Res (List ℕ)
content layout r = do
  need (length r == record_size) Malformed
  need (fits layout (length_in r)) Malformed
  need (zero_at (header_size + length_in r) (content_size - length_in r) r) Malformed
  Ok (field header_size (length_in r) r)

-- 01: "length 65535 and zero content mark it missing"
abbrev pub missing_mark : ℕ
missing_mark = 65535

abbrev pub missing_value : List ℕ → Res (Row (List ℕ))
missing_value r = do
  need (length r == record_size) Malformed
  need (zero_at header_size content_size r) Malformed
  Ok missing

abbrev pub present_value : Layout → List ℕ → Res (Row (List ℕ))
present_value layout r = do
  bytes ← content layout r
  Ok (present bytes)

-- 01: "A value to be transformed or tested is one literal record with next 0"
unfoldable pub value : Layout → List ℕ → Res (Row (List ℕ))
value layout r = do
  need (next_in r == 0) Malformed
  cond (length_in r == missing_mark) (missing_value r) (present_value layout r)
