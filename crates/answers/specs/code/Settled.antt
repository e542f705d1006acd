-- An answer and the buffer after it, in one: what the code of a leaf and of a row promises. Assumes nothing.
use Rattle.std.specs.Prelude.{ℕ, List, Option, ◌≡◌}
use Rattle.values.specs.Outcomes.{Res}
use Rattle.projection.specs.Steps.{Projected}
use Rattle.answers.specs.Answers.{answer_of, left_of}

-- the answer and the buffer after it are those of a result
pub record Settled (r : Res (Projected (List ℕ))) (before after : List ℕ) (answer : Res (Option ℕ)) : Type 0 where
  pub number : answer ≡ answer_of r
  pub left : after ≡ left_of before r
