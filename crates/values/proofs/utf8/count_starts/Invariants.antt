-- `count_starts` meets its contract. The loop's invariant: those of the bytes read are counted. Assumes nothing.
use Rattle.std.proofs.Common.{◌≡◌, not, take, count_by}
use Rattle.values.specs.Utf8.{continues}
use Rattle.values.proofs.utf8.count_starts.Given as goal

abbrev pub invariant-loop-b : goal.invariant-loop-b
invariant-loop-b l = l.n ≡ count_by (λ b. not (continues b)) (take l.b-index l.s)
