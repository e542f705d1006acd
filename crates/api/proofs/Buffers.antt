-- What a routine that writes a result returns and leaves, by the buffer's length: 2 comes before everything else. Assumes nothing.
use Rattle.std.specs.Prelude.{◌≡◌, ℕ, ◌≤◌, List, length, Option}
use Rattle.std.proofs.Common.{ap, le-ltb}
use Rattle.values.specs.Outcomes.{Res}
use Rattle.projection.specs.Steps.{Projected}
use Rattle.answers.specs.Answers.{refused_as}
use Rattle.answers.specs.code.Settled.{Settled}
use Rattle.api.specs.Routines.{answered, left_in}

module _ (size : ℕ) (r : Res (Projected (List ℕ))) {out : List ℕ} where
  pub settled_in : {after : List ℕ} {answer : Res (Option ℕ)} → size ≤ length out → Settled r out after answer
      → (refused_as answer ≡ answered size out r) × (after ≡ left_in size out r)
  settled_in h s = rw (le-ltb (length out) size h) (ap refused_as s.number, s.left)
