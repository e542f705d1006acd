-- The numbers from one to another. Assumes nothing.
use Rattle.std.specs.Prelude.{◌≡◌, ℕ, zero, suc, List, [], ◌∷◌, ℤ, pos, negsuc, ◌-ℤ◌, unsigned_abs, refl}
use Rattle.std.proofs.Math.IntN.{suc_ℤ}

-- the n + 1 numbers from z on
abbrev pub from : ℤ → ℕ → List ℤ
from z zero = z ∷ []
from z (suc n) = z ∷ from (suc_ℤ z) n

-- the numbers from low to high, where low is not above high; the ends of a summary are refused with 11 before this is asked of others
unfoldable pub between : ℤ → ℤ → List ℤ
between low high = from low (unsigned_abs (high -ℤ low))

around_zero : between (negsuc 1) (pos 1) ≡ negsuc 1 ∷ negsuc 0 ∷ pos 0 ∷ pos 1 ∷ []
unfolding between
around_zero = refl
