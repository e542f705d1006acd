-- Lists of things with their numbers, as document 01 writes them. Assumes nothing.
use Rattle.std.specs.Prelude.{ℕ, cond, List, [], ◌∷◌, ◌==◌, Ok, Err}
use Rattle.values.specs.Outcomes.{Res}
use Rattle.values.specs.declared.error.ErrorKind.TheVariants.{Malformed}

pub data Numbered (X : Type 0) : Type 0 where
  ◌is◌ : ℕ → X → Numbered X

infix 90 ◌is◌
-- what a list has under a number: 3 where it has nothing
abbrev pub find : {X : Type 0} → List (Numbered X) → ℕ → Res X
find [] n = Err Malformed
find (k is x ∷ xs) n = cond (n == k) (Ok x) (find xs n)
