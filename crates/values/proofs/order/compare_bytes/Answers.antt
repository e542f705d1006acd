-- `compare_bytes` meets its contract: first bytes that differ decide. Assumes nothing.
use Rattle.std.proofs.Common.{◌∙◌, arith}
use Rattle.values.specs.laws.ByteOrderLaws.{first_decides}
use Rattle.values.proofs.order.compare_bytes.Goals as goal

pub returns-then-a-b : goal.returns-then-a-b
returns-then-a-b c =
    let a = c.args.a.now in
    let b = c.args.b.now in
    c.cmp.ensures ∙ first_decides a b (grind (arith, c.is_empty.ensures, c.if-not-is_empty.true)) (grind (arith, c.is_empty-then-not-is_empty.ensures, c.if-not-is_empty-2.true)) c.if-a-b.true
