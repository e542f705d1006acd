-- Words of a list of bytes: a word says which bytes it is read from. Assumes nothing.
use Rattle.std.specs.Prelude.{◌≡◌, ℕ, zero, suc, ◌+◌, ◌/◌, ◌%◌, ◌<◌, ◌≤◌, List, ◌∷◌, length, take, slice_index, slice_index_or, refl}
use Rattle.std.proofs.Common.{arith, sym, ap, ◌∙◌, drop-cons, take-add}
use Rattle.values.specs.Words.{AllBytes, le_bytes, field, word}
use Rattle.values.specs.laws.WordLaws.{word_step}

-- the bytes of a word are those that it was read from
pub word_bytes : (at n : ℕ) (s : List ℕ) → AllBytes s → at + n ≤ length s → le_bytes n (word at n s) ≡ field at n s
word_bytes at zero s h k = refl
word_bytes at (suc n) s h k =
    let byte : slice_index_or s at 0 < 256 = h at in
    let low : word at (suc n) s % 256 ≡ slice_index_or s at 0 = omega (arith, word_step at n s) in
    let rest : word at (suc n) s / 256 ≡ word (suc at) n s = omega (arith, word_step at n s) in
    rw (low, rest, drop-cons s at 0 (omega arith)) (ap (λ (l : List ℕ). slice_index s at ∷ l) (word_bytes (suc at) n s h (omega arith)))

-- two lists that begin with the same i bytes and have the same word there
pub same_beginning : (i n : ℕ) (s t : List ℕ) → AllBytes s → AllBytes t → i + n ≤ length s → i + n ≤ length t
    → take i s ≡ take i t → word i n s ≡ word i n t → take (i + n) s ≡ take (i + n) t
same_beginning i n s t h k a b e w =
    let fields : field i n s ≡ field i n t = sym (word_bytes i n s h a) ∙ ap (le_bytes n) w ∙ word_bytes i n t k b in
    rw (take-add i n s, take-add i n t, e, fields) refl
