-- The literals that the first n elements of a list are, of which those before index i are written. Assumes nothing.
use Rattle.std.specs.Prelude.{ℕ, zero, suc, ◌+◌, ◌*◌, ◌≤◌, ◌<◌, Bool, cond, List, [], ◌∷◌, map, ◌≡◌, refl, ltb, length, get_or, take}
use Rattle.std.proofs.Math.Decide.{dec_lt}
use Rattle.std.proofs.Common.{add-one, arith, sym, ap, ◌∙◌, lt-ltb, le-ltb}
use Rattle.std.proofs.Math.Seq.{slice, slice-cons, slice_empty}
use Rattle.values.specs.code.Places.{AllOf}
use Rattle.values.specs.Types.{content_size}
use Rattle.values.specs.laws.WordLaws.{over_nil}
use Rattle.values.specs.Words.{over}
use Rattle.sheet.specs.Records.{record_size}
use Rattle.write.specs.laws.AnswerSheetLaws.{literal_then}
use Rattle.write.specs.Written.{literal_record, next_to, literal_records}

module _ {A : Type 0} (f : A → List ℕ) (z : A) (xs : List A) (n : ℕ) (there : n ≤ length xs) where
  -- the record after record k is there where literals are left
  pub next_left : (k : ℕ) → k ≤ n → cond (ltb k n) (k + 1) 0 ≡ next_to (k + 1) (map f (slice k n xs))
  next_left k h = go (dec_lt k n)
    where
      go : Dec (k < n) → cond (ltb k n) (k + 1) 0 ≡ next_to (k + 1) (map f (slice k n xs))
      go (yes less) = rw (lt-ltb k n less, slice-cons k n xs z less there)
      go (no more) = let e : k ≡ n = omega arith in rw (e, slice_empty n xs) (ap (λ (b : Bool). cond b (n + 1) 0) (le-ltb n n (omega arith)))

  pub turn : (i : ℕ) {next : ℕ} (s : List ℕ) {t : List ℕ} → i < n → record_size * (n + 1) ≤ length s → length (f (get_or xs i z)) ≤ content_size
      → next ≡ cond (ltb (i + 1) n) (i + 1 + 1) 0
      → t ≡ over (record_size * (i + 1)) (literal_record next (f (get_or xs i z))) s
      → over (record_size * (i + 1)) (literal_records (i + 1) (map f (slice i n xs))) s
      ≡ over (record_size * (i + 1 + 1)) (literal_records (i + 1 + 1) (map f (slice (i + 1) n xs))) t
  turn i s less room small is e =
      let first : slice i n xs ≡ get_or xs i z ∷ slice (i + 1) n xs = slice-cons i n xs z less there ∙ rw add-one in
      let rest = map f (slice (i + 1) n xs) in
      rw first (sym (literal_then (i + 1) (f (get_or xs i z)) rest s small (omega arith) (is ∙ next_left (i + 1) (omega arith)) e refl))

  pub no_more : (i : ℕ) (s : List ℕ) → i ≤ n → n ≤ i → over (record_size * (i + 1)) (literal_records (i + 1) (map f (slice i n xs))) s ≡ s
  no_more i s h k = let e : i ≡ n = omega arith in rw (e, slice_empty n xs) (over_nil (record_size * (n + 1)) s)

-- what holds of the first n elements holds of one of them
pub all_at : {A : Type 0} (g : A → Type 0) (z : A) (xs : List A) (n i : ℕ) → AllOf g (take n xs) → i < n → n ≤ length xs → g (get_or xs i z)
all_at g z xs zero i h less there = absurd (omega arith)
all_at g z [] (suc n) i h less there = absurd (omega arith)
all_at g z (x ∷ xs) (suc n) zero h less there = h.0
all_at g z (x ∷ xs) (suc n) (suc i) h less there = all_at g z xs n i h.1 (omega arith) (omega arith)
