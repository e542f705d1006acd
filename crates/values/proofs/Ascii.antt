-- A word in which no byte has its highest bit is ASCII, and without ASCII at its start a string is UTF-8 just as it was. Assumes nothing.
use Rattle.std.proofs.Common.{◌≡◌, ℕ, zero, suc, ◌+◌, ◌*◌, ◌/◌, ◌%◌, ◌<◌, ◌≤◌, List, ◌∷◌, length, get_or, drop, sym, refl, ap, ◌∙◌, add-zero, mod-eq_of_lt, arith, lit<, drop-cons}
use lib.Bits.{bit_and, and_block, and_high}
use Rattle.values.specs.Utf8.{utf8}
use Rattle.values.specs.laws.Utf8StepLaws.{after, first_follows}
use Rattle.values.specs.Words.{AllBytes, word}
use Rattle.values.specs.laws.WordLaws.{word_step}

-- n bytes that have only their highest bit
abbrev high_bits : ℕ → ℕ
high_bits zero = 0
high_bits (suc n) = high_bits n * 256 + 128

-- the bits of a byte and those above it are tested apart
clear_bits : (b w m : ℕ) → b < 256 → bit_and (b + 256 * w) (m * 256 + 128) ≡ 0 → (b < 128) × (bit_and w m ≡ 0)
clear_bits b w m h e =
    let order : b + 256 * w ≡ w * 256 + b = omega arith in
    let apart : bit_and (b + 256 * w) (m * 256 + 128) ≡ bit_and w m * 256 + bit_and b 128 = rw order (and_block 8 w m b 128 h (lit< tt)) in
    let high : bit_and b 128 ≡ b / 128 % 2 * 128 = and_high b 1 7 in
    let one : b / 128 % 2 ≡ b / 128 = mod-eq_of_lt (omega arith) in
    (omega arith, omega arith)

-- a byte below 128 is a code point of its own
ascii_first : (b : ℕ) (s : List ℕ) → b < 128 → utf8 (b ∷ s) ≡ utf8 s
unfolding after
ascii_first b s h = first_follows 0x00 0x7F b (omega arith) (omega arith) _ refl refl s

pub ascii_byte : (at : ℕ) (s : List ℕ) → at < length s → get_or s at 0 < 128 → utf8 (drop (suc at) s) ≡ utf8 (drop at s)
ascii_byte at s inside h = sym (ap utf8 (drop-cons s at 0 inside) ∙ ascii_first (get_or s at 0) (drop (suc at) s) h)

-- n bytes without their highest bit may be left out at the start
ascii_bytes : (n at : ℕ) (s : List ℕ) → AllBytes s → at + n ≤ length s → bit_and (word at n s) (high_bits n) ≡ 0
    → utf8 (drop (at + n) s) ≡ utf8 (drop at s)
ascii_bytes zero at s h k e = rw add-zero
ascii_bytes (suc n) at s h k e =
    let b = get_or s at 0 in
    let c = clear_bits b (word (suc at) n s) (high_bits n) (h at) (rw (word_step at n s) at e) in
    let next : suc at + n ≡ at + suc n = omega arith in
    ap (λ (i : ℕ). utf8 (drop i s)) (sym next)
    ∙ ascii_bytes n (suc at) s h (omega arith) c.1
    ∙ ascii_byte at s (omega arith) c.0

pub ascii_word : (i : ℕ) (s : List ℕ) → AllBytes s → 8 * i + 8 ≤ length s → bit_and (word (8 * i) 8 s) 0x8080808080808080 ≡ 0
    → utf8 (drop (8 * (i + 1)) s) ≡ utf8 (drop (8 * i) s)
ascii_word i s h k e = let next : 8 * (i + 1) ≡ 8 * i + 8 = omega arith in rw next (ascii_bytes 8 (8 * i) s h k e)
