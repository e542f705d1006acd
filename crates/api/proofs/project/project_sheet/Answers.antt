-- `project::project_sheet` meets its contract: the buffer, then the sheet. Assumes nothing.
use Rattle.std.proofs.Common.{arith, rules}
use Rattle.write.specs.Written.{sheet_buffer}
use Rattle.api.specs.Routines.{project_sheet}
use Rattle.api.proofs.Buffers.{settled_in}
use Rattle.api.proofs.project.project_sheet.Goals as goal

pub returns-in_err-written : goal.returns-in_err-written
returns-in_err-written c =
    let both = settled_in sheet_buffer (project_sheet c.args.question c.args.sheet.now) {out = c.args.out.now} (omega arith) c.project_checked.ensures in
    record { number = rw (← both.0, c.in_err-written.was) (search rules); buffer = both.1 }

pub returns : goal.returns
returns c =
    let both = settled_in sheet_buffer (project_sheet c.args.question c.args.sheet.now) {out = c.args.out.now} (omega arith) c.project_checked.ensures in
    record { number = rw (← both.0, c.in_ok-written.was); buffer = both.1 }
