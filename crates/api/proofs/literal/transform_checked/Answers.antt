-- `literal::transform_checked` meets its contract: type, transform and width, then the value. Assumes nothing.
use Rattle.std.proofs.Common.{rules, sym, ◌∙◌}
use Rattle.api.proofs.LiteralReads.{no_type, no_transform, value_answered}
use Rattle.api.proofs.literal.transform_checked.Goals as goal

pub returns-in_err-column : goal.returns-in_err-column
returns-in_err-column c =
    let a = c.args in
    let none = no_type a.column_type a.transform a.width a.value.now {out = a.out.now} (sym c.try_from.ensures ∙ c.in_err-column.was) in
    record { number = rw (← none.number) (search rules); left = none.left }

pub returns-in_err-transform : goal.returns-in_err-transform
returns-in_err-transform c =
    let a = c.args in
    let none = no_transform a.column_type a.transform a.width a.value.now {out = a.out.now} (sym c.try_from.ensures ∙ c.in_ok-column.was)
    (sym c.from_numbers.ensures ∙ c.in_err-transform.was) in
    record { number = rw (← none.number) (search rules); left = none.left }

pub returns : goal.returns
returns c =
    let a = c.args in
    value_answered a.column_type a.transform a.width a.value.now (sym c.try_from.ensures ∙ c.in_ok-column.was)
    (sym c.from_numbers.ensures ∙ c.in_ok-transform.was) c.transform_value.ensures
