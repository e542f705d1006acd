-- The laws of Truncate of a number: the greatest multiple of the width that is at most v. Assumes nothing.
use Rattle.std.specs.Prelude.{◌≡◌, ℕ, zero, suc, ◌-◌, ◌%◌, ◌<◌, ℤ, pos, negsuc, ◌*ℤ◌, ◌≤ℤ◌}
use Rattle.std.proofs.Common.{ap}
use Rattle.std.proofs.Math.Nat.{mod-zero}
use Rattle.values.specs.laws.IntLaws.{up, dn, orders, ints, minus, times, times_le}
use Rattle.transform.specs.Floor.{floor_div, floor_mod}
use Rattle.transform.specs.Truncate.{truncated}
use Rattle.transform.specs.laws.FloorLaws.{floor_lin, floor_mono, le_floor}

pub truncated_le : (w : ℕ) (v : ℤ) → truncated w v ≤ℤ v
unfolding truncated
truncated_le w v = omega (ints, minus v (pos (floor_mod v w)))

module _ (w : ℕ) (w>0 : 0 < w) where
  pub truncated_multiple : (v : ℤ) → truncated w v ≡ floor_div v w *ℤ pos w
  unfolding truncated
  truncated_multiple v = let q = floor_div v w in omega (ints, floor_lin w w>0 v, minus v (pos (floor_mod v w)), times q w)

  pub truncated_greatest : (p v : ℤ) → (p *ℤ pos w) ≤ℤ v → (p *ℤ pos w) ≤ℤ truncated w v
  truncated_greatest p v h =
      let q = floor_div v w in
      rw (truncated_multiple v) (omega (ints, times_le w ((le_floor w w>0 p v).1 h), times p w, times q w))

cut : (a : ℕ) → truncated 0 (pos a) ≡ pos 0
unfolding truncated floor_mod
cut a = omega (ints, minus (pos a) (pos (a % 0)), mod-zero a)

stays : (a : ℕ) → truncated 0 (negsuc a) ≡ negsuc a
unfolding truncated floor_mod
stays a = omega (ints, minus (negsuc a) (pos (0 - suc (a % 0))))

-- by width 0 a number that is not negative is cut to 0, and a negative one stays
width_zero : (v : ℤ) → (up (truncated 0 v) ≡ 0) × (dn (truncated 0 v) ≡ dn v)
width_zero (pos a) = (ap up (cut a), ap dn (cut a))
width_zero (negsuc a) = (ap up (stays a), ap dn (stays a))

-- of every width, 0 included
pub truncated_mono : (w : ℕ) {u v : ℤ} → u ≤ℤ v → truncated w u ≤ℤ truncated w v
truncated_mono (suc n) {u} {v} h =
    let w = suc n in
    let w>0 : 0 < w = omega orders in
    let step = times_le w (floor_mono w w>0 h) in
    rw (truncated_multiple w w>0 u, truncated_multiple w w>0 v) (omega (orders, step, times (floor_div u w) w, times (floor_div v w) w))
truncated_mono zero {u} {v = pos b} h = omega (orders, width_zero u, width_zero (pos b))
truncated_mono zero {u} {v = negsuc b} h = omega (orders, width_zero u, width_zero (negsuc b))
