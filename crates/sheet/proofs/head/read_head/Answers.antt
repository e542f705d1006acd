-- `head::read_head` meets its contract: the operator, and then the fields. Assumes nothing.
use Rattle.std.proofs.Common.{rules, sym, ◌∙◌}
use Rattle.sheet.specs.Sheets.{fields}
use Rattle.sheet.specs.code.ReadAnswers.{head_in}
use Rattle.sheet.proofs.SheetReads.{fields_refused, fields_found}
use Rattle.sheet.proofs.head.read_head.Goals as goal

pub returns-in_err-operator : goal.returns-in_err-operator
unfolding head_in
returns-in_err-operator c = search rules

pub returns-in_err-column : goal.returns-in_err-column
unfolding head_in
returns-in_err-column c =
    let refused = fields_refused (fields c.args.s.now) (sym c.read_fields.ensures ∙ c.in_err-column.was) in
    rw refused (search rules)

pub returns : goal.returns
unfolding head_in
returns c =
    let found = fields_found (fields c.args.s.now) (sym c.read_fields.ensures ∙ c.in_ok-column.was) in
    rw found (search rules)
