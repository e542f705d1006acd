-- The laws of division toward minus infinity: the quotient is the greatest p such that p times d is at most v. Assumes nothing.
use Rattle.std.specs.Prelude.{◌≡◌, refl, ◌↔◌, ℕ, ◌+◌, ◌*◌, ◌/◌, ◌^◌, ◌≤◌, ◌<◌, ℤ, pos, negsuc, ◌+ℤ◌, ◌*ℤ◌, ◌≤ℤ◌, ◌<ℤ◌}
use Rattle.std.proofs.Common.{ap, ⊎_elim, div-le_self, div-one, div-lt_iff_lt-mul, lt_of_le_of_lt}
use native.Mathlib.Omega.{arith}
use Rattle.std.proofs.Math.Nat.{div-add-mod', mod-lt}
use Rattle.std.specs.Int.Signed.{mag}
use Rattle.std.specs.Int.{Width, w32, w64, int_div_euclid, int_rem_euclid}
use mir.Val.{SFits, hbits}
use Rattle.values.specs.laws.IntLaws.{up, dn, ints, plus, times, times_le, times_lt, le_or_lt}
use Rattle.transform.specs.Floor.{floor_div, floor_mod}

module _ (d : ℕ) (d>0 : 0 < d) where
  pub rem_lt : (v : ℤ) → floor_mod v d < d
  unfolding floor_mod
  rem_lt (pos a) = mod-lt a d>0
  rem_lt (negsuc a) = omega arith

  -- v is d * floorDiv v d + floorMod v d, as `omega` reads it
  pub floor_lin : (v : ℤ) → up v + dn (floor_div v d) * d ≡ dn v + (up (floor_div v d) * d + floor_mod v d)
  unfolding floor_div floor_mod
  floor_lin (pos a) = omega (arith, div-add-mod' a d)
  floor_lin (negsuc a) = omega (arith, div-add-mod' a d, mod-lt a d>0)

  pub floor_law : (v : ℤ) → v ≡ (floor_div v d *ℤ pos d) +ℤ pos (floor_mod v d)
  floor_law v = let q = floor_div v d in omega (ints, floor_lin v, plus (q *ℤ pos d) (pos (floor_mod v d)), times q d)

  -- p is at most the quotient exactly where p * d is at most v
  pub le_floor : (p v : ℤ) → (p ≤ℤ floor_div v d) ↔ ((p *ℤ pos d) ≤ℤ v)
  le_floor p v = (to, from)
    where
      to : p ≤ℤ floor_div v d → (p *ℤ pos d) ≤ℤ v
      to h = omega (ints, floor_lin v, times_le d h, times p d)

      from : (p *ℤ pos d) ≤ℤ v → p ≤ℤ floor_div v d
      from h =
          ⊎_elim (λ k. k) (λ k. let z : ⊥ = omega (ints, floor_lin v, rem_lt v, times_lt d k, times p d) in absurd z)
          (le_or_lt p (floor_div v d))

  pub floor_lt : (p v : ℤ) → (floor_div v d <ℤ p) ↔ (v <ℤ (p *ℤ pos d))
  floor_lt p v = (to, from)
    where
      to : floor_div v d <ℤ p → v <ℤ (p *ℤ pos d)
      to h = omega (ints, floor_lin v, rem_lt v, times_lt d h, times p d)

      from : v <ℤ (p *ℤ pos d) → floor_div v d <ℤ p
      from h =
          ⊎_elim (λ k. let z : ⊥ = omega (ints, floor_lin v, times_le d k, times p d) in absurd z) (λ k. k)
          (le_or_lt p (floor_div v d))

  pub floor_mono : {v w : ℤ} → v ≤ℤ w → floor_div v d ≤ℤ floor_div w d
  floor_mono {v} {w} h = let q = floor_div v d in (le_floor q w).1 (omega (ints, floor_lin v, times q d))

  -- the quotient is the one number with such a remainder
  pub floor_unique : (v q : ℤ) (r : ℕ) → r < d → v ≡ (q *ℤ pos d) +ℤ pos r → q ≡ floor_div v d
  floor_unique v q r h e =
      let p = floor_div v d in
      let up_to : q ≤ℤ p = (le_floor q v).1 (omega (ints, plus (q *ℤ pos d) (pos r))) in
      let s = q +ℤ pos 1 in
      let step : q <ℤ s = omega (ints, plus q (pos 1)) in
      let down_to : p <ℤ s = (floor_lt s v).1 (omega (ints, plus (q *ℤ pos d) (pos r), times_lt d step, times q d, times s d)) in
      omega (ints, plus q (pos 1))

-- a unit of one changes nothing
pub floor_one : (v : ℤ) → floor_div v 1 ≡ v
unfolding floor_div
floor_one (pos a) = ap pos (div-one a)
floor_one (negsuc a) = ap negsuc (div-one a)

-- std's names for the quotient and the remainder
pub euclid_quotient : (v : ℤ) (d : ℕ) → int_div_euclid v (pos d) ≡ floor_div v d
unfolding floor_div
euclid_quotient (pos a) d = refl
euclid_quotient (negsuc a) d = refl

pub euclid_rest : (v : ℤ) (d : ℕ) → int_rem_euclid v (pos d) ≡ pos (floor_mod v d)
unfolding floor_mod
euclid_rest (pos a) d = refl
euclid_rest (negsuc a) d = ap pos (omega arith)

-- ---- ranges: the range of a number is one bound, on its `mag`

mag_floor : (v : ℤ) (d : ℕ) → mag (floor_div v d) ≡ mag v / d
unfolding floor_div
mag_floor (pos a) d = refl
mag_floor (negsuc a) d = refl

pub floor_fits : {w : Width} {v : ℤ} (d : ℕ) → SFits w v → SFits w (floor_div v d)
floor_fits {v} d f = record { sfits = lt_of_le_of_lt (rw (mag_floor v d) (div-le_self (mag v) d)) f.sfits }

-- the quotient has fewer bits where the unit is large
pub floor_narrows : {w : Width} (n : Width) {v : ℤ} (d : ℕ) → 0 < d → 2 ^ hbits w ≤ 2 ^ hbits n * d → SFits w v → SFits n (floor_div v d)
floor_narrows n {v} d d>0 h f = record { sfits = rw (mag_floor v d) ((div-lt_iff_lt-mul d>0).1 (omega arith)) }

-- a count of 64 bits, in a unit of at least 86,400,000,000 a day, has a day of 32 bits
pub day_fits : {v : ℤ} (d : ℕ) → 86400000000 ≤ d → SFits w64 v → SFits w32 (floor_div v d)
day_fits d h f = floor_narrows w32 d (omega arith) (omega arith) f
