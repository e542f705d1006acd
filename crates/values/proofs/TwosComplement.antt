-- Laws of two's complement that rest on which bit patterns are the negative numbers. Assumes nothing.
use Rattle.std.specs.Prelude.{◌≡◌, ℕ, suc, ◌-◌, ◌^◌, ◌<◌, Bool, true, false, cond, List, [], ◌∷◌, length, ℤ, pos, negsuc, nat_lt, refl}
use Rattle.std.proofs.Common.{arith, ap, lit<, ltb-true, ltb-false, lt-ltb, le-ltb}
use Rattle.std.proofs.Math.Nat.{one-le-pow}
use Rattle.std.specs.Int.Signed.{mag}
use Rattle.std.specs.Int.{Width}
use mir.Val.{to_z, sel, bits, hbits}
use Rattle.values.specs.laws.RangeLaws.{Wide, in_range_mag}
use Rattle.values.specs.Types.{half, in_range}
use Rattle.values.specs.Words.{AllBytes, le_number, signed, unsigned, signed_bytes}
use Rattle.values.specs.laws.WordLaws.{number_bytes_lem, bytes_number, number_below, half_twice, unsigned_below}

minus_two_back : signed 4 (le_number (0xFE ∷ 0xFF ∷ 0xFF ∷ 0xFF ∷ [])) ≡ negsuc 1
minus_two_back = refl

-- whatever the number is: a pattern above those of n bytes is read as -1
pub signed_in_range : (n u : ℕ) → 0 < n → in_range n (signed n u) ≡ true
signed_in_range n u h = (in_range_mag n (signed n u)).1 (go (nat_lt u (half n)) refl)
  where
    go : (t : Bool) → nat_lt u (half n) ≡ t → mag (cond t (pos u) (negsuc (256 ^ n - suc u))) < half n
    go true e = ltb-true u (half n) e
    go false e = omega (arith, ltb-false u (half n) e, half_twice n h, one-le-pow n 256 (lit< tt))

module _ (n : ℕ) (z : ℤ) (inside : in_range n z ≡ true) where
  small : mag z < half n
  small = (in_range_mag n z).0 inside

  pub signed_unsigned : signed n (unsigned n z) ≡ z
  signed_unsigned = go z small
    where
      go : (z : ℤ) → mag z < half n → signed n (unsigned n z) ≡ z
      go (pos a) h = rw (lt-ltb a (half n) h)
      go (negsuc a) h = rw (le-ltb (256 ^ n - suc a) (half n) (omega arith)) (ap negsuc (omega arith))

  pub signed_bytes_lem : signed n (le_number (signed_bytes n z)) ≡ z
  signed_bytes_lem = rw (number_bytes_lem n (unsigned n z) (unsigned_below n z inside)) signed_unsigned

pub unsigned_signed : (n u : ℕ) → u < 256 ^ n → unsigned n (signed n u) ≡ u
unsigned_signed n u k = go (nat_lt u (half n))
  where
    go : (t : Bool) → unsigned n (cond t (pos u) (negsuc (256 ^ n - suc u))) ≡ u
    go true = refl
    go false = omega arith

pub bytes_signed : (n : ℕ) (bs : List ℕ) → length bs ≡ n → AllBytes bs → signed_bytes n (signed n (le_number bs)) ≡ bs
bytes_signed n bs e h =
    let below : le_number bs < 256 ^ n = rw e at (number_below bs h) in
    rw (unsigned_signed n (le_number bs) below, ← e) (bytes_number bs h)

-- ---- the machine's two's complement
module _ {n : ℕ} {w : Width} (wide : Wide n w) where
  pub signed_to_z : (u : ℕ) → signed n u ≡ to_z w u
  signed_to_z u = rw (wide.halves, wide.count) (go (nat_lt u (2 ^ hbits w)))
    where
      go : (t : Bool) → cond t (pos u) (negsuc (2 ^ bits w - suc u)) ≡ sel t (pos u) (negsuc (2 ^ bits w - suc u))
      go true = refl
      go false = refl
