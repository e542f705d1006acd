-- What is to be shown of the literals that the steps put into a predicate (`proofs/LiteralLaws` shows it). Assumes nothing.
use Rattle.std.specs.Prelude.{ℕ, ◌≤◌, length}
use Rattle.values.specs.code.Places.{AllOf}
use Rattle.expr.specs.Predicates.{Predicate, literals_in}

-- every literal of a predicate is one of g, and there are at most n
pub record Landed {A : Type 0} (g : A → Type 0) (n : ℕ) (x : Predicate A) : Type 0 where
  pub all : AllOf g (literals_in x)
  pub count : length (literals_in x) ≤ n
