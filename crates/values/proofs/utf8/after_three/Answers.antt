-- `after_three` meets its contract: it is awaited of two bytes, and then of the third. Assumes nothing.
use Rattle.std.proofs.Common.{◌∷◌, ◌∙◌}
use Rattle.values.specs.Utf8.{tail}
use Rattle.values.proofs.utf8.after_three.Goals as goal

pub returns-in_err-after_two-clause-awaited : goal.returns-in_err-after_two-clause-awaited
returns-in_err-after_two-clause-awaited c = λ rs. c.in_err-after_two.ensures.awaited (tail ∷ rs) ∙ rw c.from_residual.ensures

pub returns-clause-awaited : goal.returns-clause-awaited
returns-clause-awaited c = λ rs. c.in_ok-after_two.ensures.awaited (tail ∷ rs) ∙ c.after_one.ensures.awaited rs
