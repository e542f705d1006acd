-- Words in parts: a number of n + m bytes is one of n and one of m, and the low bytes of a wider pattern are the pattern. Assumes nothing.
use Rattle.std.specs.Prelude.{◌≡◌, ℕ, zero, suc, ◌+◌, ◌-◌, ◌*◌, ◌/◌, ◌%◌, ◌^◌, ◌<◌, ◌≤◌, true, List, [], ◌∷◌, ◌++◌, length, ℤ, pos, negsuc, slice_set, refl}
use Rattle.std.proofs.Common.{zero-add, suc-add, add-zero, add-suc, mul-suc, mul_assoc, pow-suc, div-one, mod-lt, mod-eq_of_lt, arith, sym, ap, ◌∙◌, lit<}
use Rattle.std.proofs.Math.Nat.{pow-succ', one-le-pow, div-div-eq-div-mul, div-add-mod, mul-add-mod_self_left}
use Rattle.std.specs.Int.Signed.{mag}
use Rattle.std.specs.Int.{Width}
use mir.Val.{of_z}
use Rattle.values.specs.laws.RangeLaws.{Wide, in_range_mag}
use Rattle.values.specs.laws.WordLaws.{length_bytes, over_append, over_set}
use Rattle.values.specs.Types.{half, in_range}
use Rattle.values.specs.Words.{le_bytes, over, unsigned}

pub power_add : (n m : ℕ) → 256 ^ (n + m) ≡ 256 ^ n * 256 ^ m
power_add n zero = rw add-zero (omega arith)
power_add n (suc m) = rw (add-suc, pow-suc 256 (n + m), power_add n m, pow-suc 256 m) (mul_assoc (256 ^ n) (256 ^ m) 256)

-- the lowest byte, and the bytes above it
low_part : (p x : ℕ) → 0 < p → x % (256 * p) ≡ 256 * (x / 256 % p) + x % 256
low_part p x h =
    let y = x / 256 in
    let r = 256 * (y % p) + x % 256 in
    let small : r < 256 * p = omega (arith, mod-lt y h) in
    let whole : x ≡ 256 * p * (y / p) + r = omega (arith, div-add-mod y p, mul_assoc 256 p (y / p)) in
    ap (λ (k : ℕ). k % (256 * p)) whole ∙ mul-add-mod_self_left (256 * p) (y / p) r ∙ mod-eq_of_lt small

-- a number of n + m bytes is a number of n and one of m
pub bytes_split : (n m x : ℕ) → le_bytes (n + m) x ≡ le_bytes n (x % 256 ^ n) ++ le_bytes m (x / 256 ^ n)
bytes_split zero m x = rw (zero-add, div-one)
bytes_split (suc n) m x =
    let part : x % 256 ^ suc n ≡ 256 * (x / 256 % 256 ^ n) + x % 256 = rw (pow-succ' 256 n) (low_part (256 ^ n) x (one-le-pow n 256 (lit< tt))) in
    let low : x % 256 ^ suc n % 256 ≡ x % 256 = omega arith in
    let mid : x % 256 ^ suc n / 256 ≡ x / 256 % 256 ^ n = omega arith in
    let high : x / 256 ^ suc n ≡ x / 256 / 256 ^ n = rw (pow-succ' 256 n) (sym (div-div-eq-div-mul x 256 (256 ^ n))) in
    rw (suc-add, low, mid, high) (ap (λ (l : List ℕ). x % 256 ∷ l) (bytes_split n m (x / 256)))

module _ (n : ℕ) (z : ℤ) (inside : in_range n z ≡ true) where
  small : mag z < half n
  small = (in_range_mag n z).0 inside

  -- the low bytes of a wider pattern are the pattern
  pub unsigned_low : (m : ℕ) → unsigned (n + m) z % 256 ^ n ≡ unsigned n z
  unsigned_low m = go z small
    where
      go : (z : ℤ) → mag z < half n → unsigned (n + m) z % 256 ^ n ≡ unsigned n z
      go (pos a) h = mod-eq_of_lt (omega arith)
      go (negsuc a) h =
          let k = 256 ^ m - 1 in
          let low : 256 ^ n - suc a < 256 ^ n = omega arith in
          let whole : 256 ^ m ≡ suc k = omega (arith, one-le-pow m 256 (lit< tt)) in
          let e : 256 ^ (n + m) - suc a ≡ 256 ^ n * k + (256 ^ n - suc a)
          = omega (arith, power_add n m, ap (λ (j : ℕ). 256 ^ n * j) whole, mul-suc (256 ^ n) k) in
          rw e (mul-add-mod_self_left (256 ^ n) k (256 ^ n - suc a) ∙ mod-eq_of_lt low)

-- ---- the machine's two's complement
module _ {n : ℕ} {w : Width} (wide : Wide n w) where
  pub unsigned_of_z : (z : ℤ) → unsigned n z ≡ of_z w z
  unsigned_of_z (pos a) = refl
  unsigned_of_z (negsuc a) = rw wide.count

pub over_cons : (at b : ℕ) (bs s : List ℕ) → at < length s → over at (b ∷ bs) s ≡ over (at + 1) bs (slice_set s at b)
over_cons at b bs s h = over_append at (b ∷ []) s (omega arith) bs ∙ ap (over (at + 1) bs) (over_set at b s h)

-- n + m bytes of a number are written as n bytes and then m
pub over_split : (at n m x : ℕ) (s : List ℕ) → at + n ≤ length s
    → over at (le_bytes (n + m) x) s ≡ over (at + n) (le_bytes m (x / 256 ^ n)) (over at (le_bytes n (x % 256 ^ n)) s)
over_split at n m x s h =
    let low = le_bytes n (x % 256 ^ n) in
    let high = le_bytes m (x / 256 ^ n) in
    let size : length low ≡ n = length_bytes n (x % 256 ^ n) in
    ap (λ (bs : List ℕ). over at bs s) (bytes_split n m x)
    ∙ over_append at low s (omega arith) high
    ∙ ap (λ (k : ℕ). over (at + k) high (over at low s)) size
