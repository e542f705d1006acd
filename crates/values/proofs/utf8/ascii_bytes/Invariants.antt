-- `ascii_bytes` meets its contract. The loop's invariant: without the bytes that were passed the rest is UTF-8 just when the whole is. Assumes nothing.
use Rattle.std.proofs.Common.{◌≡◌, ◌≤◌, ◌-◌, length, drop}
use Rattle.values.specs.Utf8.{utf8}
use Rattle.values.proofs.utf8.ascii_bytes.Given as goal

abbrev pub invariant-loop-n : goal.invariant-loop-n
invariant-loop-n l = (l.n ≤ length l.s) × (utf8 (drop l.n l.s) ≡ utf8 l.s)

abbrev pub decreases-loop-n : goal.decreases-loop-n
decreases-loop-n l = length l.s - l.n
