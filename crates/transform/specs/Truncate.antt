-- Truncate of a number, of a string and of a binary. Assumes nothing.
use Rattle.std.specs.Prelude.{ℕ, List, [], ◌∷◌, ◌≡◌, refl, take, ℤ, pos, ◌-ℤ◌}
use Rattle.values.specs.Utf8.{code_points, concat}
use Rattle.transform.specs.Floor.{floor_mod}

-- 01: "Truncate of a number v is v minus its non-negative remainder by the width"
unfoldable pub truncated : ℕ → ℤ → ℤ
truncated width v = v -ℤ pos (floor_mod v width)

-- 01: "of a String, its first width code points"
unfoldable pub first_code_points : ℕ → List ℕ → List ℕ
first_code_points width s = concat (take width (code_points s))

-- 02, #102: "Truncate of a Binary is now its first width bytes, as the specification has it"
unfoldable pub first_bytes : ℕ → List ℕ → List ℕ
first_bytes width s = take width s

-- "aéb" cut to two code points is "aé", and cut to two bytes ends within "é"
two : first_code_points 2 (0x61 ∷ 0xC3 ∷ 0xA9 ∷ 0x62 ∷ []) ≡ 0x61 ∷ 0xC3 ∷ 0xA9 ∷ []
unfolding first_code_points code_points
two = refl

two_bytes : first_bytes 2 (0x61 ∷ 0xC3 ∷ 0xA9 ∷ 0x62 ∷ []) ≡ 0x61 ∷ 0xC3 ∷ []
unfolding first_bytes
two_bytes = refl
