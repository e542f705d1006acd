-- Numbers as bytes: little-endian, and in two's complement where they are signed. Assumes nothing.
use Rattle.std.specs.Prelude.{◌≡◌, ℕ, zero, suc, ◌+◌, ◌-◌, ◌*◌, ◌/◌, ◌%◌, ◌^◌, ◌<◌, Bool, cond, List, [], ◌∷◌, ◌++◌, length, take, drop, ℤ, pos, negsuc, ◌==◌, nat_lt, slice_index, refl}
use Rattle.values.specs.Types.{half}

-- each member of a list is a byte; past its end `slice_index` gives 0, which is one
abbrev pub AllBytes : List ℕ → Type 0
AllBytes bs = (i : ℕ) → slice_index bs i < 256

-- 01: "All numbers in sheets are little-endian": the lowest n bytes of x, the lowest first, and the number that bytes are
abbrev pub le_bytes : ℕ → ℕ → List ℕ
le_bytes zero x = []
le_bytes (suc n) x = x % 256 ∷ le_bytes n (x / 256)

abbrev pub le_number : List ℕ → ℕ
le_number [] = 0
le_number (b ∷ bs) = b + 256 * le_number bs

-- the n bytes of s from index `at` on, the number that they are, and whether they are all zero
abbrev pub field : ℕ → ℕ → List ℕ → List ℕ
field at n s = take n (drop at s)

abbrev pub word : ℕ → ℕ → List ℕ → ℕ
word at n s = le_number (field at n s)

abbrev pub zero_at : ℕ → ℕ → List ℕ → Bool
zero_at at n s = word at n s == 0

-- s with the bytes bs written over it from index `at` on
abbrev pub over : ℕ → List ℕ → List ℕ → List ℕ
over at bs s = take at s ++ bs ++ drop (at + length bs) s

-- two's complement in n bytes: the upper half of the bit patterns are the negative numbers
abbrev pub signed : ℕ → ℕ → ℤ
signed n u = cond (nat_lt u (half n)) (pos u) (negsuc (256 ^ n - suc u))

abbrev pub unsigned : ℕ → ℤ → ℕ
unsigned n (pos a) = a
unsigned n (negsuc a) = 256 ^ n - suc a

-- z as n bytes
abbrev pub signed_bytes : ℕ → ℤ → List ℕ
signed_bytes n z = le_bytes n (unsigned n z)

minus_two : signed_bytes 4 (negsuc 1) ≡ 0xFE ∷ 0xFF ∷ 0xFF ∷ 0xFF ∷ []
minus_two = refl
