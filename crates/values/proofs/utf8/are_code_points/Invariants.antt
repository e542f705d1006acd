-- `are_code_points` meets its contract. The loop's invariant: the rest is UTF-8 just when the whole is. The measure is its length. Assumes nothing.
use Rattle.std.proofs.Common.{◌≡◌, length}
use Rattle.values.specs.Utf8.{utf8}
use Rattle.values.proofs.utf8.are_code_points.Given as goal

abbrev pub invariant-loop-rest : goal.invariant-loop-rest
invariant-loop-rest l = utf8 l.rest ≡ utf8 l.s

abbrev pub decreases-loop-rest : goal.decreases-loop-rest
decreases-loop-rest l = length l.rest
