-- `write::put_bytes` meets its contract: to write what is left of the bytes at the loop's head is to write them all. Assumes nothing.
use native.Mathlib.Omega.{arith}
use Rattle.write.proofs.Copies.{word_copied}
use Rattle.write.proofs.write.put_bytes.Goals as goal

pub loop-i-preserved : goal.loop-i-preserved
loop-i-preserved c =
    word_copied c.requires c.loop-i.invariant 8 (omega arith) (λ j. omega (arith, c.type_inv.bs j)) c.u64_at.ensures c.put_u64.ensures
