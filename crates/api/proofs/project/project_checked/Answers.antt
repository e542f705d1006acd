-- `project::project_checked` meets its contract: the sheet is read, and then its leaf is answered. Assumes nothing.
use Rattle.std.proofs.Common.{rules}
use Rattle.api.proofs.ProjectReads.{no_sheet, few, short, sheet_answered}
use Rattle.api.proofs.project.project_checked.Goals as goal

pub returns-in_err-x : goal.returns-in_err-x
returns-in_err-x c =
    let none = no_sheet c.args.question c.args.sheet.now c.read_sheet.ensures.told c.in_err-x.was in
    record { number = rw none (search rules); left = rw none }

pub project_leaf-requires : goal.project_leaf-requires
project_leaf-requires c = record {
  few = few c.args.question c.args.sheet.now c.read_sheet.ensures.told c.in_ok-x.was;
  short = rw c.in_ok-x.ensures.lies (short c.args.question c.args.sheet.now c.read_sheet.ensures.told c.in_ok-x.was);
  sheet_buffer_in_bounds = c.requires;
}

pub returns : goal.returns
returns c = sheet_answered c.args.question c.args.sheet.now c.read_sheet.ensures.told c.in_ok-x.was c.project_leaf.ensures
