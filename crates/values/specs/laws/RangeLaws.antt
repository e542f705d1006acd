-- The ranges of the number types: `in_range` and `in_type` against `FitsSigned`, the range that code knows of a signed number. Assumes nothing.
use Rattle.std.specs.Prelude.{◌≡◌, ℕ, suc, ◌+◌, ◌^◌, ◌<◌, true, false, ◌↔◌, ℤ, pos, negsuc, neg_ℤ, ◌≤ℤ◌, ◌<ℤ◌, FitsSigned, int_le, int_lt, refl}
use Rattle.std.proofs.lemmas.Bool.{false≢true}
use Rattle.std.proofs.Math.IntN.{suc_ℤ, +ℤ_one}
use Rattle.std.specs.Int.Signed.{mag}
use Rattle.std.specs.Int.{Width, w32, w64}
use mir.Val.{bits, hbits}
use Rattle.values.specs.Types.{Layout, number, bytes, layout, half, in_range, in_layout, in_type}
use Rattle.values.specs.laws.TestLaws.{and_both}
use Rattle.values.specs.laws.IntLaws.{up, dn, orders, range, fits, neg, plus, le_true, lt_true, le_z_yes, le_z_not, lt_z_yes}
use Rattle.values.specs.declared.datatypes.PrimitiveType.{PrimitiveType}
use Rattle.values.specs.declared.datatypes.PrimitiveType.TheVariants.{Int, Long, Date, Time, Timestamp, Timestamptz, TimestampNs, TimestamptzNs, String, Binary}

-- ---- n bytes

-- z is at least -h and below h
pub record Between (h : ℕ) (z : ℤ) : Type 0 where
  pub low : neg_ℤ (pos h) ≤ℤ z
  pub high : z <ℤ pos h

pub range_between : (n : ℕ) (z : ℤ) → in_range n z ≡ true → Between (half n) z
range_between n z e =
    let both = and_both (int_le (neg_ℤ (pos (half n))) z) (int_lt z (pos (half n))) e in
    record { low = le_true (neg_ℤ (pos (half n))) z both.0; high = lt_true z (pos (half n)) both.1 }

pub between_range : (n : ℕ) {z : ℤ} → Between (half n) z → in_range n z ≡ true
between_range n b = rw (le_z_yes b.low, lt_z_yes b.high)

-- both bounds as one in ℕ
range_mag : (n : ℕ) (z : ℤ) → Between (half n) z → mag z < half n
range_mag n (pos a) b = omega (orders, b.high)
range_mag n (negsuc a) b = omega (orders, b.low, neg (pos (half n)))

mag_between : (n : ℕ) (z : ℤ) → mag z < half n → Between (half n) z
mag_between n (pos a) k = record { low = omega (orders, neg (pos (half n))); high = omega orders }
mag_between n (negsuc a) k = record { low = omega (orders, neg (pos (half n))); high = omega orders }

pub in_range_mag : (n : ℕ) (z : ℤ) → (in_range n z ≡ true) ↔ (mag z < half n)
in_range_mag n z = (λ e. range_mag n z (range_between n z e), λ k. between_range n (mag_between n z k))

-- the two tests, one after the other
pub below_range : (n : ℕ) {z : ℤ} → z <ℤ neg_ℤ (pos (half n)) → in_range n z ≡ false
below_range n h = rw (le_z_not h)

pub from_low : (n : ℕ) {z : ℤ} → neg_ℤ (pos (half n)) ≤ℤ z → in_range n z ≡ int_lt z (pos (half n))
from_low n h = rw (le_z_yes h)

-- n bytes, and a machine's width of as many bits
pub record Wide (n : ℕ) (w : Width) : Type 0 where
  pub count : 256 ^ n ≡ 2 ^ bits w
  pub halves : half n ≡ 2 ^ hbits w

pub four : Wide 4 w32
four = record { count = refl; halves = refl }

pub eight : Wide 8 w64
eight = record { count = refl; halves = refl }

module _ {n : ℕ} {w : Width} (wide : Wide n w) where
  pub range_fits : (z : ℤ) → (in_range n z ≡ true) ↔ FitsSigned w z
  range_fits z = (
    λ e. record { sfits = rw (← wide.halves) ((in_range_mag n z).0 e) },
    λ f. (in_range_mag n z).1 (rw wide.halves f.sfits),
  )

pub widen : {z : ℤ} → FitsSigned w32 z → FitsSigned w64 z
widen f = fits (omega (orders, range f))

-- ---- the types

-- a number type of n bytes: `in_type_lem Int four refl z`, `in_type_lem Timestamp eight refl z`
pub in_type_lem : (ty : PrimitiveType) {n : ℕ} {w : Width} (wide : Wide n w) → layout ty ≡ number n → (z : ℤ) → (in_type ty z ≡ true) ↔ FitsSigned w z
unfolding in_type
in_type_lem ty wide is z = rw is (range_fits wide z)

pub in_int : (z : ℤ) → (in_type Int z ≡ true) ↔ FitsSigned w32 z
in_int = in_type_lem Int four refl

pub in_long : (z : ℤ) → (in_type Long z ≡ true) ↔ FitsSigned w64 z
in_long = in_type_lem Long eight refl

-- no type holds a number that 64 bits do not
pub in_type_long : (ty : PrimitiveType) (z : ℤ) → in_type ty z ≡ true → FitsSigned w64 z
unfolding in_type
in_type_long Int z e = widen ((range_fits four z).0 e)
in_type_long Long z e = (range_fits eight z).0 e
in_type_long Date z e = widen ((range_fits four z).0 e)
in_type_long Time z e = (range_fits eight z).0 e
in_type_long Timestamp z e = (range_fits eight z).0 e
in_type_long Timestamptz z e = (range_fits eight z).0 e
in_type_long TimestampNs z e = (range_fits eight z).0 e
in_type_long TimestamptzNs z e = (range_fits eight z).0 e
in_type_long String z e = absurd (false≢true e)
in_type_long Binary z e = absurd (false≢true e)

-- the number after z, for `omega`'s list. `+ℤ_one z : z +ℤ pos 1 ≡ suc_ℤ z` is the way to the sum
pub next : (z : ℤ) → up (suc_ℤ z) + dn z ≡ suc (up z + dn (suc_ℤ z))
next z = rw (← +ℤ_one z) (omega (orders, plus z (pos 1)))

-- a type that holds a negative number holds the next number
pub next_in_type : (ty : PrimitiveType) (z : ℤ) → in_type ty z ≡ true → z <ℤ pos 0 → in_type ty (suc_ℤ z) ≡ true
unfolding in_type
next_in_type ty z e below = go (layout ty) e
  where
    go : (l : Layout) → in_layout l z ≡ true → in_layout l (suc_ℤ z) ≡ true
    go (number n) e =
        let b = range_between n z e in
        between_range n (record { low = omega (orders, b.low, next z); high = omega (orders, b.low, below, next z, neg (pos (half n))) })
    go (bytes n) e = e
