-- `records::zeros` meets its contract: the first eight bytes begin the loop's invariant, and each word keeps it. Assumes nothing.
use Prim.Native.Nat.{◌%◌}
use native.Mathlib.Omega.{arith}
use Rattle.sheet.proofs.Zeros.{begun, gathered}
use Rattle.sheet.proofs.records.zeros.Goals as goal

pub loop-i-init : goal.loop-i-init
loop-i-init c =
    let a = c.args in
    (begun a.s.now a.at a.n (a.n % 8) 8 c.u64_at-all.ensures (omega arith) (omega arith), omega arith)

pub loop-i-preserved : goal.loop-i-preserved
loop-i-preserved c =
    let l = c.loop-i in
    (gathered l.all l.invariant.0 8 c.u64_at-all-in-loop-i.ensures (omega arith), omega arith)
