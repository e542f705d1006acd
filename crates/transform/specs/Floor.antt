-- Division toward minus infinity, by a natural number. Assumes nothing.
use Rattle.std.specs.Prelude.{ℕ, suc, ◌-◌, ◌/◌, ◌%◌, ◌≡◌, refl, ℤ, pos, negsuc}

-- 01: "divide toward minus infinity": the greatest p such that p times d is at most v (`FloorLaws.le_floor`); negsuc a is -(a + 1)
unfoldable pub floor_div : ℤ → ℕ → ℤ
floor_div (pos a) d = pos (a / d)
floor_div (negsuc a) d = negsuc (a / d)

-- what v is above its quotient times d (`FloorLaws.floor_law`): never negative, and below d
unfoldable pub floor_mod : ℤ → ℕ → ℕ
floor_mod (pos a) d = a % d
floor_mod (negsuc a) d = d - suc (a % d)

minus_one : (floor_div (negsuc 0) 10 ≡ negsuc 0) × (floor_mod (negsuc 0) 10 ≡ 9)
unfolding floor_div floor_mod
minus_one = (refl, refl)

minus_ten : (floor_div (negsuc 9) 10 ≡ negsuc 0) × (floor_mod (negsuc 9) 10 ≡ 0)
unfolding floor_div floor_mod
minus_ten = (refl, refl)
