-- The turns of the loop that passes over the rest of a bracket. Assumes nothing.
use Rattle.std.proofs.Common.{ℕ, ◌≤◌, Bool, true, false, List, ◌≡◌, length, drop}
use Rattle.columns.specs.Columns.{Column}
use Rattle.grammar.specs.Grammar.{Symbol}
use Rattle.grammar.specs.code.Skimming.{Skimmed, operand, between}
use Rattle.leaves.specs.Fitting.{Leaf}
use Rattle.leaves.specs.Symbols.{symbols}

-- what is left to be passed over, where an operand is expected and where it is not
abbrev pub skims : Bool → List (Symbol Leaf) → ℕ → Skimmed Leaf
skims true ts d = operand ts d
skims false ts d = between ts d

module _ (cs : List Column) (s : List ℕ) where
  abbrev pub after : ℕ → List (Symbol Leaf)
  after k = symbols cs (drop k s)

  -- from `start` on the loop has come to `here`
  pub record Skimming (start here : ℕ) (expected : Bool) (depth : ℕ) : Type 0 where
    pub is : operand (after start) 0 ≡ skims expected (after here) depth
    pub onward : start ≤ here
    pub within : here ≤ length s
    pub few : depth ≤ here
    pub no_longer : length (after here) ≤ length (after start)
