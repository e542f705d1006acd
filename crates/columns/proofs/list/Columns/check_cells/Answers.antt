-- `Columns::check_cells` meets its contract: a value that is malformed is the answer, and any other leaves it to those after it. Assumes nothing.
use Rattle.std.proofs.Common.{arith, rules, sym}
use Rattle.columns.specs.code.ColumnAnswers.{side_of}
use Rattle.columns.proofs.CellReads.{value_told}
use Rattle.columns.proofs.list.Columns.check_cells.Goals as goal

pub returns-in_err-encoded : goal.returns-in_err-encoded
returns-in_err-encoded c =
    let here =
    value_told (side_of c.args.side) c.args.self.list.now c.args.values.now c.as_chunks.ensures.front (omega arith)
    c.loop-k.encoded c.loop-k.k c.loop-k-test.true c.type_at.ensures _ c.check_value.ensures in
    rw (← c.loop-k.invariant, here, c.in_err-encoded.was) (search rules)

pub loop-k-preserved : goal.loop-k-preserved
loop-k-preserved c =
    let here =
    value_told (side_of c.args.side) c.args.self.list.now c.args.values.now c.as_chunks.ensures.front (omega arith)
    c.loop-k.encoded c.loop-k.k c.loop-k-test.true c.type_at.ensures _ c.check_value.ensures in
    sym (rw (c.in_ok-encoded.was, c.loop-k.invariant) at here)
