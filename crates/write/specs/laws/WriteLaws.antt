-- Laws of writing: parts written one after another, records in a buffer, and that a write changes nothing else. Assumes nothing.
use Rattle.std.specs.Prelude.{ℕ, ◌+◌, ◌-◌, ◌*◌, ◌≤◌, ◌<◌, List, ◌++◌, ◌≡◌, refl, ℤ, length, take, drop, replicate}
use Rattle.std.proofs.Common.{zero-add, append_assoc, arith, sym, ap, ◌∙◌, length-append, take_at, drop_at, drop-drop, length-take-le}
use Rattle.std.proofs.Math.ListN.{length-replicate, replicate-append-replicate}
use Rattle.std.proofs.Math.Decide.{dec_lt}
use Rattle.std.proofs.Math.Seq.{drop-append-add, take-append_seam}
use Rattle.values.specs.Outcomes.{missing}
use Rattle.values.specs.Types.{content_size, layout}
use Rattle.values.specs.Words.{le_bytes, field, over}
use Rattle.values.specs.laws.WordLaws.{over_append, length_over, field_over, field_before, field_after}
use Rattle.values.specs.declared.datatypes.PrimitiveType.{PrimitiveType}
use Rattle.values.specs.declared.datatypes.PrimitiveType.TheVariants.{Int, Long, Date, Time, Timestamp, Timestamptz, TimestampNs, TimestamptzNs, String, Binary}
use Rattle.sheet.specs.Records.{header_size, record_size, record_at}
use Rattle.write.specs.Written.{literal_record, value_record, head_record, number_bytes}

-- ---- parts written one after another are one write

pub two_writes : (a : ℕ) {b : ℕ} (xs ys s : List ℕ) {t u : List ℕ} → a + length xs ≡ b → b ≤ length s
    → t ≡ over a xs s → u ≡ over b ys t → u ≡ over a (xs ++ ys) s
two_writes a {b} xs ys s {t} {u} e h p q = q ∙ rw (p, ← e) (sym (over_append a xs s (omega arith) ys))

pub three_writes : (a : ℕ) {b c : ℕ} (xs ys zs s : List ℕ) {t u v : List ℕ} → a + length xs ≡ b → b + length ys ≡ c → c ≤ length s
    → t ≡ over a xs s → u ≡ over b ys t → v ≡ over c zs u → v ≡ over a (xs ++ (ys ++ zs)) s
three_writes a {b} {c} xs ys zs s {t} {u} {v} e f h p q r =
    let kept : length t ≡ length s = ap length p ∙ length_over a xs s (omega arith) in
    two_writes a xs (ys ++ zs) s e (omega arith) p (two_writes b ys zs t f (omega arith) q r)

-- bytes over the first of what is written
over_first : (a : ℕ) (bs xs ys s : List ℕ) → length bs ≡ length xs → a ≤ length s → over a bs (over a (xs ++ ys) s) ≡ over a (bs ++ ys) s
over_first a bs xs ys s same room =
    let t = take a s in
    let rest = drop (a + length (xs ++ ys)) s in
    let front : length t ≡ a = length-take-le a s room in
    let behind : length (t ++ xs) ≡ a + length bs = omega (arith, length-append t xs, front) in
    let before : take a (t ++ (xs ++ ys) ++ rest) ≡ t = rw append_assoc (take_at t ((xs ++ ys) ++ rest) a front) in
    let after : drop (a + length bs) (t ++ (xs ++ ys) ++ rest) ≡ ys ++ rest
    = rw (← append_assoc t xs ys, append_assoc (t ++ xs) ys rest) (drop_at (t ++ xs) (ys ++ rest) (a + length bs) behind) in
    let size : length (xs ++ ys) ≡ length (bs ++ ys) = omega (arith, length-append xs ys, length-append bs ys) in
    rw (before, after, size) (simp append_assoc)

-- over zeros
zeros_over : (a n : ℕ) (bs s : List ℕ) → length bs ≤ n → a ≤ length s
    → over a bs (over a (replicate n 0) s) ≡ over a (bs ++ replicate (n - length bs) 0) s
zeros_over a n bs s fits room =
    let split : replicate (length bs) 0 ++ replicate (n - length bs) 0 ≡ replicate {A = ℕ} n 0
    = replicate-append-replicate (length bs) (n - length bs) 0 ∙ ap (λ (m : ℕ). replicate m 0) (omega arith) in
    rw (← split) (over_first a bs (replicate (length bs) 0) (replicate (n - length bs) 0) s (sym (length-replicate (length bs) 0)) room)

-- a literal: what stands before its content, zeros, and the content over them
pub literal_writes : (at next : ℕ) (bs s : List ℕ) {t u v : List ℕ} → length bs ≤ content_size → at + record_size ≤ length s
    → t ≡ over at (le_bytes 2 next ++ le_bytes 2 (length bs)) s
    → u ≡ over (at + header_size) (replicate content_size 0) t
    → v ≡ over (at + header_size) bs u
    → v ≡ over at (literal_record next bs) s
literal_writes at next bs s {t} {u} {v} small fits p q r =
    let kept : length t ≡ length s = ap length p ∙ length_over at (le_bytes 2 next ++ le_bytes 2 (length bs)) s (omega arith) in
    two_writes at (le_bytes 2 next ++ le_bytes 2 (length bs)) (bs ++ replicate (content_size - length bs) 0) s refl (omega arith) p
    (r ∙ rw q (zeros_over (at + header_size) content_size bs t small (omega arith)))

-- ---- records

pub length_head : (next operator type : ℕ) → length (head_record next operator type) ≡ record_size
length_head next operator type = refl

pub length_missing : length (value_record missing) ≡ record_size
length_missing = refl

-- a number of any type is small enough for a record
pub length_number : (ty : PrimitiveType) (z : ℤ) → length (number_bytes (layout ty) z) ≤ content_size
length_number Int z = omega arith
length_number Long z = omega arith
length_number Date z = omega arith
length_number Time z = omega arith
length_number Timestamp z = omega arith
length_number Timestamptz z = omega arith
length_number TimestampNs z = omega arith
length_number TimestamptzNs z = omega arith
length_number String z = omega arith
length_number Binary z = omega arith

module _ (k : ℕ) (r s : List ℕ) (size : length r ≡ record_size) (fits : record_size * (k + 1) ≤ length s) where
  pub record_length : length (over (record_size * k) r s) ≡ length s
  record_length = length_over (record_size * k) r s (omega arith)

  pub record_written : record_at (over (record_size * k) r s) k ≡ r
  record_written = ap (λ (n : ℕ). field (record_size * k) n (over (record_size * k) r s)) (sym size) ∙ field_over (record_size * k) r s (omega arith)

  -- what stands before the record, and after it, stays
  pub record_before : take (record_size * k) (over (record_size * k) r s) ≡ take (record_size * k) s
  record_before = field_before (record_size * k) r s (omega arith) 0 (record_size * k) (omega arith)

  pub record_after : drop (record_size * (k + 1)) (over (record_size * k) r s) ≡ drop (record_size * (k + 1)) s
  record_after =
      let end : record_size * k + length r ≡ record_size * (k + 1) = omega arith in
      let front : length (take (record_size * k) s ++ r) ≡ record_size * (k + 1)
      = rw (length-append, length-take-le (record_size * k) s (omega arith)) end in
      drop_at (take (record_size * k) s ++ r) (drop (record_size * k + length r) s) (record_size * (k + 1)) front
      ∙ ap (λ (n : ℕ). drop n s) end

  pub other_record : (j : ℕ) → (j ≡ k → ⊥) → record_at (over (record_size * k) r s) j ≡ record_at s j
  other_record j differs = go (dec_lt j k)
    where
      room : record_size * k + length r ≤ length s
      room = omega arith

      go : Dec (j < k) → record_at (over (record_size * k) r s) j ≡ record_at s j
      go (yes h) = field_before (record_size * k) r s room (record_size * j) record_size (omega arith)
      go (no h) = field_after (record_size * k) r s room (record_size * j) record_size (omega arith)

  -- records k, k + 1, .. as record k and then the others
  pub record_then : (rs : List ℕ) → over (record_size * k) (r ++ rs) s ≡ over (record_size * (k + 1)) rs (over (record_size * k) r s)
  record_then rs = sym (two_writes (record_size * k) r rs s (omega arith) fits refl refl)

-- records 0 to k - 1 and then record k
pub next_record : (k : ℕ) (xs r s : List ℕ) → length xs ≡ record_size * k → over 0 (xs ++ r) s ≡ over (record_size * k) r (over 0 xs s)
next_record k xs r s size =
    let rest : drop (length xs + length r) (xs ++ drop (length xs) s) ≡ drop (length xs + length r) s
    = drop-append-add xs (drop (length xs) s) (length r) ∙ drop-drop (length r) (length xs) s in
    rw (← size, zero-add (length xs), zero-add (length (xs ++ r)), take-append_seam xs (drop (length xs) s), rest, length-append xs r)
