-- A moment v in units of which an hour or a day has d: r is what `div_euclid` gives for it, in 64 bits. Micros and nanos share this. Assumes nothing.
use mathlib.Core.Path.{◌≡◌, ap, ◌∙◌}
use Prim.Native.Nat.{ℕ, ◌^◌, ◌≤◌, ◌<◌}
use lib.Dec.{lit≤}
use lib.IntN.{ℤ, pos}
use lib.Signed.{mag}
use mir.Syntax.{w32, w64}
use Rattle.std.specs.Int.{int_div_euclid}
use mir.Val.{SFits, to_z, of_z, hbits}
use Rattle.values.specs.laws.SignedLaws.{back, ok}
use Rattle.transform.specs.Floor.{floor_div}
use Rattle.transform.specs.laws.FloorLaws.{euclid_quotient, floor_fits, day_fits}

module _ (v : ℤ) {r : ℤ} (d : ℕ) (told : mag v < 2 ^ hbits w64) (e : r ≡ int_div_euclid (to_z w64 (of_z w64 v)) (pos d)) where
  quotient : r ≡ floor_div v d
  quotient = e ∙ euclid_quotient (to_z w64 (of_z w64 v)) d ∙ ap (λ (z : ℤ). floor_div z d) (back {w = w64} (ok v told))

  read_back : to_z w64 (of_z w64 r) ≡ r
  read_back = back {w = w64} (rw quotient (floor_fits d (ok v told)))

  pub hour_is : to_z w64 (of_z w64 r) ≡ floor_div v d
  hour_is = read_back ∙ quotient

  pub day_narrow : 86400000000 ≤ d → SFits w32 (to_z w64 (of_z w64 r))
  day_narrow h = rw hour_is (day_fits d h (ok v told))

  pub day_is : 86400000000 ≤ d → to_z w32 (of_z w32 (to_z w64 (of_z w64 r))) ≡ floor_div v d
  day_is h = back {w = w32} (day_narrow h) ∙ hour_is

pub ruleset moments = (hour_is, day_narrow, day_is, lit≤)
