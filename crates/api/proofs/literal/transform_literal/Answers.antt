-- `literal::transform_literal` meets its contract: the buffer, then the value. Assumes nothing.
use Rattle.std.proofs.Common.{arith, rules}
use Rattle.answers.specs.Answers.{as_result}
use Rattle.api.specs.Routines.{transform_value, value_buffer}
use Rattle.api.proofs.Buffers.{settled_in}
use Rattle.api.proofs.literal.transform_literal.Goals as goal

pub returns-in_err-written : goal.returns-in_err-written
returns-in_err-written c =
    let a = c.args in
    let both = settled_in value_buffer (as_result (transform_value a.column_type a.transform a.width a.value.now)) {out = a.out.now} (omega arith) c.transform_checked.ensures in
    record { number = rw (← both.0, c.in_err-written.was) (search rules); buffer = both.1 }

pub returns : goal.returns
returns c =
    let a = c.args in
    let both = settled_in value_buffer (as_result (transform_value a.column_type a.transform a.width a.value.now)) {out = a.out.now} (omega arith) c.transform_checked.ensures in
    record { number = rw (← both.0, c.in_ok-written.was); buffer = both.1 }
