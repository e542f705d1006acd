-- Laws of words: what is written is read, two's complement there and back and as the machine has it, and bytes written over a list.
-- Assumes nothing.
use Rattle.std.specs.Prelude.{◌≡◌, ℕ, zero, suc, ◌+◌, ◌-◌, ◌*◌, ◌/◌, ◌%◌, ◌^◌, ◌<◌, ◌≤◌, true, List, [], ◌∷◌, ◌++◌, length, take, drop, ℤ, pos, negsuc, slice_index, slice_set, refl}
use Rattle.std.proofs.Common.{zero-add, suc-add, add-zero, add_assoc, mul_assoc, arith, append_assoc, append-nil, sym, ap, ◌∙◌, length-append, length-drop, take-append-drop, take_at, drop_at, length-take-le, drop-drop}
use Rattle.std.proofs.Math.Nat.{pow-succ'}
use Rattle.std.proofs.lemmas.List.Edits.{sets, sets-eq}
use Rattle.std.proofs.Math.Seq.{take-nil}
use Rattle.std.proofs.lemmas.List.{take-append-le, drop-append-le}
use Rattle.std.specs.Int.Signed.{mag}
use Rattle.values.specs.laws.RangeLaws.{in_range_mag}
use Rattle.values.specs.Types.{half, in_range}
use Rattle.values.specs.Words.{AllBytes, le_bytes, le_number, field, word, over, unsigned}

-- ---- n bytes of a number, and the number of bytes
pub number_bytes_lem : (n x : ℕ) → x < 256 ^ n → le_number (le_bytes n x) ≡ x
number_bytes_lem zero x h = omega arith
number_bytes_lem (suc n) x h = let e : le_number (le_bytes n (x / 256)) ≡ x / 256 = number_bytes_lem n (x / 256) (omega arith) in omega arith

pub length_bytes : (n x : ℕ) → length (le_bytes n x) ≡ n
length_bytes zero x = refl
length_bytes (suc n) x = ap suc (length_bytes n (x / 256))

pub all_bytes : (n x : ℕ) → AllBytes (le_bytes n x)
all_bytes zero x i = omega arith
all_bytes (suc n) x zero = omega arith
all_bytes (suc n) x (suc i) = all_bytes n (x / 256) i

pub number_below : (bs : List ℕ) → AllBytes bs → le_number bs < 256 ^ length bs
number_below [] h = omega arith
number_below (b ∷ bs) h = omega (arith, h 0, number_below bs (λ i. h (suc i)), pow-succ' 256 (length bs))

pub bytes_number : (bs : List ℕ) → AllBytes bs → le_bytes (length bs) (le_number bs) ≡ bs
bytes_number [] h = refl
bytes_number (b ∷ bs) h =
    let b<256 : b < 256 = h 0 in
    let low : (b + 256 * le_number bs) % 256 ≡ b = omega arith in
    let rest : (b + 256 * le_number bs) / 256 ≡ le_number bs = omega arith in
    rw (low, rest) (ap (λ (l : List ℕ). b ∷ l) (bytes_number bs (λ i. h (suc i))))

-- ---- words in a list: past its end they read 0, so no law asks for a length
pub word_step : (at n : ℕ) (s : List ℕ) → word at (suc n) s ≡ slice_index s at + 256 * word (suc at) n s
word_step zero n [] = omega (arith, ap le_number (take-nil {A = ℕ} n))
word_step (suc at) n [] = omega (arith, ap le_number (take-nil {A = ℕ} n))
word_step zero n (x ∷ s) = refl
word_step (suc at) n (x ∷ s) = word_step at n s

pub word_one : (at : ℕ) (s : List ℕ) → word at 1 s ≡ slice_index s at
word_one at s = omega (arith, word_step at 0 s)

-- a word of n + m bytes is a word of n and, after it, one of m
pub word_split : (at n m : ℕ) (s : List ℕ) → word at (n + m) s ≡ word at n s + 256 ^ n * word (at + n) m s
word_split at zero m s = rw (zero-add m, add-zero) (omega arith)
word_split at (suc n) m s =
    let next : suc at + n ≡ at + suc n = omega arith in
    let above : word (suc at + n) m s ≡ word (at + suc n) m s = rw next in
    let power : 256 ^ suc n * word (at + suc n) m s ≡ 256 * (256 ^ n * word (at + suc n) m s) = rw (pow-succ' 256 n, mul_assoc) in
    rw suc-add (omega (arith, word_step at (n + m) s, word_step at n s, word_split (suc at) n m s, ap (λ (k : ℕ). 256 ^ n * k) above))

-- ---- two's complement
pub half_twice : (n : ℕ) → 0 < n → 2 * half n ≡ 256 ^ n
half_twice zero h = let no : ⊥ = omega arith in absurd no
half_twice (suc n) h = omega arith

module _ (n : ℕ) (z : ℤ) (inside : in_range n z ≡ true) where
  small : mag z < half n
  small = (in_range_mag n z).0 inside

  pub unsigned_below : unsigned n z < 256 ^ n
  unsigned_below = go z small
    where
      go : (z : ℤ) → mag z < half n → unsigned n z < 256 ^ n
      go (pos a) h = omega arith
      go (negsuc a) h = omega arith

-- ---- bytes written over a list
pub over_nil : (at : ℕ) (s : List ℕ) → over at [] s ≡ s
over_nil at s = rw (add-zero, append-nil, take-append-drop)

-- a part of the first of two lists
field_append : (i n : ℕ) (p q : List ℕ) → i + n ≤ length p → field i n (p ++ q) ≡ field i n p
field_append i n p q h = rw (drop-append-le i p q (omega arith)) (take-append-le n (drop i p) q (rw length-drop (omega arith)))

module _ (at : ℕ) (bs s : List ℕ) (fits : at + length bs ≤ length s) where
  at_end : length (take at s ++ bs) ≡ at + length bs
  at_end = rw (length-append, length-take-le at s (omega arith))

  take_over : take (at + length bs) (over at bs s) ≡ take at s ++ bs
  take_over = take_at (take at s ++ bs) (drop (at + length bs) s) (at + length bs) at_end

  drop_over : (k : ℕ) → drop ((at + length bs) + k) (over at bs s) ≡ drop ((at + length bs) + k) s
  drop_over k =
      sym (drop-drop k (at + length bs) (over at bs s))
      ∙ ap (drop k) (drop_at (take at s ++ bs) (drop (at + length bs) s) (at + length bs) at_end)
      ∙ drop-drop k (at + length bs) s

  -- as stores one by one
  pub over_sets : over at bs s ≡ sets s at bs
  over_sets = sym (sets-eq bs s at fits)

  pub length_over : length (over at bs s) ≡ length s
  length_over = rw (length-append, at_end, length-drop) (omega arith)

  -- what is written is read, and the bytes before and after it are what they were
  pub field_over : field at (length bs) (over at bs s) ≡ bs
  field_over =
      let start : length (take at s) ≡ at = length-take-le at s (omega arith) in
      rw append_assoc (ap (take (length bs)) (drop_at (take at s) (bs ++ drop (at + length bs) s) at start)
      ∙ take_at bs (drop (at + length bs) s) (length bs) refl)

  pub field_before : (i n : ℕ) → i + n ≤ at → field i n (over at bs s) ≡ field i n s
  field_before i n h =
      let start : i + n ≤ length (take at s) = rw (length-take-le at s (omega arith)) h in
      rw append_assoc (field_append i n (take at s) (bs ++ drop (at + length bs) s) start)
      ∙ sym (field_append i n (take at s) (drop at s) start)
      ∙ ap (field i n) (take-append-drop at s)

  pub field_after : (i n : ℕ) → at + length bs ≤ i → field i n (over at bs s) ≡ field i n s
  field_after i n h =
      let k = i - (at + length bs) in
      let e : i ≡ (at + length bs) + k = omega arith in
      rw e (ap (take n) (drop_over k))

  -- two writes side by side are one
  pub over_append : (cs : List ℕ) → over at (bs ++ cs) s ≡ over (at + length bs) cs (over at bs s)
  over_append cs = rw (take_over, drop_over (length cs), length-append, ← append_assoc, ← add_assoc)

pub over_set : (at b : ℕ) (s : List ℕ) → at < length s → over at (b ∷ []) s ≡ slice_set s at b
over_set at b s h = over_sets at (b ∷ []) s (omega arith)

-- a number that is written is read
pub word_over : (at n x : ℕ) (s : List ℕ) → at + n ≤ length s → x < 256 ^ n → word at n (over at (le_bytes n x) s) ≡ x
word_over at n x s h k =
    let size : length (le_bytes n x) ≡ n = length_bytes n x in
    ap (λ (m : ℕ). word at m (over at (le_bytes n x) s)) (sym size)
    ∙ ap le_number (field_over at (le_bytes n x) s (omega arith))
    ∙ number_bytes_lem n x k
