-- Which column types are of byte strings. Assumes nothing.
use Rattle.std.specs.Prelude.{Bool, true, false}
use Rattle.values.specs.Types.{Layout, number, bytes}

abbrev pub is_bytes : Layout → Bool
is_bytes (number n) = false
is_bytes (bytes n) = true
