-- `write::put_bytes` meets its contract: to write what is left of the bytes at the loop's head is to write them all. Assumes nothing.
use Prim.Native.Nat.{◌-◌}
use lib.ListN.{length}
use Rattle.values.specs.Words.{over}
use Rattle.write.proofs.Copies.{Copied}
use Rattle.write.proofs.write.put_bytes.Given as goal

abbrev pub invariant-loop-i : goal.invariant-loop-i
invariant-loop-i l = Copied l.at l.bs l.initial.d (over l.at l.bs l.initial.d) l.i l.d

abbrev pub decreases-loop-i : goal.decreases-loop-i
decreases-loop-i l = length l.bs - l.i
