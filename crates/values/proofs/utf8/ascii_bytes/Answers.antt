-- `ascii_bytes` meets its contract: a byte of ASCII at the start changes nothing. Assumes nothing.
use Rattle.std.proofs.Common.{◌∙◌, add-one, arith}
use Rattle.values.proofs.Ascii.{ascii_byte}
use Rattle.values.proofs.utf8.ascii_bytes.Goals as goal

pub loop-n-preserved : goal.loop-n-preserved
loop-n-preserved c = (omega arith, rw add-one (ascii_byte c.loop-n.n c.args.s.now (omega arith) c.if-s-n-lt128.true ∙ c.loop-n.invariant.1))
