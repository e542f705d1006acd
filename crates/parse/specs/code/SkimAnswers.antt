-- What passing over the rest of a bracket gives, as the grammar has it. `after` gives the symbols of the text from a place on. Assumes nothing.
use Rattle.std.specs.Prelude.{ℕ, ◌≤◌, ◌<◌, List, ◌≡◌, Option, Some, None, length}
use Rattle.grammar.specs.Grammar.{Symbol}
use Rattle.grammar.specs.code.Skimming.{past, broken, operand}
use Rattle.leaves.specs.Fitting.{Leaf}

module _ (after : ℕ → List (Symbol Leaf)) (size at : ℕ) where
  pub record SkimsOne (next : ℕ) : Type 0 where
    pub is : operand (after at) 0 ≡ past (after next)
    pub forward : at < next
    pub within : next ≤ size
    pub shorter : length (after next) < length (after at)

  abbrev pub SkimsTo : Option ℕ → Type 0
  SkimsTo None = operand (after at) 0 ≡ broken
  SkimsTo (Some next) = SkimsOne next
