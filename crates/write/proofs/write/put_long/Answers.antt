-- `write::put_long` meets its contract. Assumes nothing.
use Prim.Native.Nat.{◌*◌}
use native.Mathlib.Omega.{arith}
use Rattle.values.specs.laws.SignedLaws.{back}
use Rattle.values.specs.Words.{signed_bytes}
use Rattle.sheet.specs.Records.{record_size}
use Rattle.write.specs.laws.WriteLaws.{literal_writes}
use Rattle.write.proofs.write.put_long.Goals as goal

pub returns : goal.returns
returns c =
    literal_writes
    (record_size * c.args.k)
    c.args.next
    (signed_bytes 8 c.args.v)
    c.args.d.now
    (omega arith)
    (omega arith)
    c.put_header.ensures
    c.put_zeros.ensures
    (rw (back c.ranges.v) at c.put_i64.ensures)
