-- The version of the library, as the one number that it tells its callers. Assumes nothing.
use Rattle.std.specs.Prelude.{ℕ, ◌+◌, ◌*◌, ◌≡◌, refl}

-- a million for each major, a thousand for each minor, and the patch: later versions have greater numbers while minor and patch stay under a thousand
abbrev pub version_number : ℕ → ℕ → ℕ → ℕ
version_number major minor patch = 1000000 * major + 1000 * minor + patch

-- 0.9.0
abbrev pub version : ℕ
version = version_number 0 9 0

is_9000 : version ≡ 9000
is_9000 = refl
