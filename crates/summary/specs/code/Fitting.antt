-- The contents of two ends have lengths of their type's layout. Assumes nothing.
use Rattle.std.specs.Prelude.{ℕ, true, List, ◌≡◌, length}
use Rattle.values.specs.Types.{Layout, fits}

pub record EndsFit (l : Layout) (lowest highest : List ℕ) : Type 0 where
  pub low : fits l (length lowest) ≡ true
  pub high : fits l (length highest) ≡ true
