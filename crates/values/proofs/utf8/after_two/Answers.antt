-- `after_two` meets its contract: it is awaited of one byte, and then of the other. Assumes nothing.
use Rattle.std.proofs.Common.{◌∷◌, ◌∙◌}
use Rattle.values.specs.Utf8.{tail}
use Rattle.values.proofs.utf8.after_two.Goals as goal

pub returns-in_err-after_one-clause-awaited : goal.returns-in_err-after_one-clause-awaited
returns-in_err-after_one-clause-awaited c = λ rs. c.in_err-after_one.ensures.awaited (tail ∷ rs) ∙ rw c.from_residual.ensures

pub returns-clause-awaited : goal.returns-clause-awaited
returns-clause-awaited c = λ rs. c.in_ok-after_one.ensures.awaited (tail ∷ rs) ∙ c.after_one-2.ensures.awaited rs
