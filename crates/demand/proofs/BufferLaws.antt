-- What is returned stands in the lent buffer: a predicate that demand 3 speaks of is what a caller reads there. Assumes nothing.
use Prim.Native.Nat.{ℕ, ◌+◌, ◌≤◌}
use mathlib.Core.List.{List}
use mathlib.Core.Logic.{⊎_elim}
use mathlib.Core.Path.{◌≡◌, refl}
use lib.ListN.{length, take, drop}
use lib.Seq.{take_at}
use borrow.Author.Tests.{le-ltb}
use Rattle.projection.specs.declared.question.Question.{Question}
use Rattle.api.specs.Demand3.{Returns}
use Rattle.api.specs.Routines.{project_sheet, answered, left_in}
use Rattle.write.specs.Written.{sheet_buffer}
use Rattle.std.specs.Prelude.{Ok, Some}
use Rattle.answers.specs.Answers.{Answer}
use Rattle.demand.proofs.Demand3Proof.{by_kind, numbers_law, bytes_law}
use Rattle.demand.proofs.KindRowLaws.{answer_length}

module _ (question : Question) (s q : List ℕ) (e : Returns question s q) where
  -- every answer sheet fits the least buffer
  pub returned_fits : length q ≤ sheet_buffer
  returned_fits = ⊎_elim (λ b. answer_length b.answer (numbers_law b)) (λ b. answer_length b.answer (bytes_law b)) (by_kind question s q e)

  pub returned_in_buffer : (out : List ℕ) → sheet_buffer ≤ length out
      → (◌≡◌ {A = Answer} (answered sheet_buffer out (project_sheet question s)) (Ok (Some (length q)))) × (take (length q) (left_in sheet_buffer out (project_sheet question s)) ≡ q)
  returned_in_buffer out room =
      let enough = le-ltb (length out) sheet_buffer room in
      (rw (enough, e), rw (enough, e) (take_at q (drop (0 + length q) out) (length q) refl))
