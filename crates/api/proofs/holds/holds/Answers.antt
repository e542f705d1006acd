-- `api::holds::holds` meets its contract: the sheet is read, and then the value is tested. Assumes nothing.
use Rattle.std.proofs.Common.{rules, ◌∙◌}
use Rattle.api.proofs.HoldsReads.{no_sheet, sheet_tested}
use Rattle.api.proofs.holds.holds.Goals as goal

pub returns-in_err-x : goal.returns-in_err-x
returns-in_err-x c =
    let none = no_sheet c.args.sheet.now c.args.value.now c.read_sheet.ensures.told c.in_err-x.was in
    rw none (search rules)

pub returns : goal.returns
returns c = c.test_value.ensures ∙ sheet_tested c.args.sheet.now c.args.value.now c.read_sheet.ensures.told c.in_ok-x.was
