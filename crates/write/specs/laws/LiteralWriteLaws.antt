-- A literal's record: its content written before the zeros behind it, the record that no other follows, and a content's beginning that fits.
-- Assumes nothing.
use Rattle.std.specs.Prelude.{ℕ, ◌+◌, ◌-◌, ◌*◌, ◌≤◌, List, [], ◌∷◌, ◌++◌, ◌≡◌, refl, length, get_or, drop, replicate}
use Rattle.std.proofs.Common.{arith, append-nil, sym, ap, ◌∙◌, length-take}
use Rattle.values.specs.Types.{content_size}
use Rattle.values.specs.Words.{le_bytes, over}
use Rattle.sheet.specs.Records.{header_size, record_size, record_at}
use Rattle.sheet.specs.code.ReadAnswers.{part_at}
use Rattle.write.specs.laws.WriteLaws.{three_writes}
use Rattle.write.specs.Written.{literal_record, literal_records}

-- what stands before its content, the content, and zeros
pub literal_writes : (at next : ℕ) (bs s : List ℕ) {t u v : List ℕ} → length bs ≤ content_size → at + record_size ≤ length s
    → t ≡ over at (le_bytes 2 next ++ le_bytes 2 (length bs)) s
    → u ≡ over (at + header_size) bs t
    → v ≡ over (at + header_size + length bs) (replicate (content_size - length bs) 0) u
    → v ≡ over at (literal_record next bs) s
literal_writes at next bs s small fits =
    three_writes at (le_bytes 2 next ++ le_bytes 2 (length bs)) bs (replicate (content_size - length bs) 0) s refl refl (omega arith)

pub last_literal : (k : ℕ) (bs s : List ℕ) {t : List ℕ}
    → t ≡ over (record_size * k) (literal_record 0 bs) s → t ≡ over (record_size * k) (literal_records k (bs ∷ [])) s
last_literal k bs s e = e ∙ ap (λ (r : List ℕ). over (record_size * k) r s) (sym (append-nil (literal_record 0 bs)))

-- a beginning of a content is small enough for a record
pub length_part : (s sizes : List ℕ) (k : ℕ) → get_or sizes k 0 ≤ content_size → length (part_at s sizes k) ≤ content_size
length_part s sizes k short = omega (arith, length-take (get_or sizes k 0) (drop header_size (record_at s k)))
