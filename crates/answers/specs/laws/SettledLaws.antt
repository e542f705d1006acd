-- Answers and buffers that are those of a result. Assumes nothing.
use Rattle.std.specs.Prelude.{ℕ, List, Ok, Err, Option, Some, None, ◌≡◌, refl, length}
use Rattle.std.proofs.Common.{ap}
use Rattle.values.specs.Outcomes.{Res}
use Rattle.values.specs.Words.{over}
use Rattle.values.specs.declared.error.ErrorKind.{ErrorKind}
use Rattle.projection.specs.Steps.{Projected, some, none}
use Rattle.answers.specs.code.Settled.{Settled}

module _ {r : Res (Projected (List ℕ))} {before : List ℕ} where
  pub settled_none : r ≡ Ok none → Settled r before before (Ok None)
  settled_none e = rw e (record { number = refl; left = refl })

  pub settled_refused : {e : ErrorKind} → r ≡ Err e → Settled r before before (Err e)
  settled_refused e = rw e (record { number = refl; left = refl })

  pub settled_written : {after bs : List ℕ} {n : ℕ} → r ≡ Ok (some bs) → n ≡ length bs → after ≡ over 0 bs before
      → Settled r before after (Ok (Some n))
  settled_written e size w = rw e (record { number = ap (λ (k : ℕ). Ok (Some k)) size; left = w })

  -- of an equal result
  pub settled_as : {q : Res (Projected (List ℕ))} {after : List ℕ} {answer : Res (Option ℕ)} → r ≡ q → Settled q before after answer
      → Settled r before after answer
  settled_as e s = rw e s
