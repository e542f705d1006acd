-- `project::project_set` meets its contract: a set that is not kept has no predicate; of the others the steps are those of the column's kind. Assumes nothing.
use Rattle.std.proofs.Common.{sym, ◌∙◌}
use Rattle.expr.specs.Operators.{by_arity}
use Rattle.sheet.specs.code.SheetAnswers.{contents_of}
use Rattle.answers.specs.laws.SettledLaws.{settled_none, settled_as}
use Rattle.answers.specs.laws.StepsLaws.{number_steps_of, set_not_kept}
use Rattle.answers.proofs.ColumnKinds.{number_column}
use Rattle.answers.proofs.project.project_set.Goals as goal

pub returns-then-not-keeps_set : goal.returns-then-not-keeps_set
returns-then-not-keeps_set c =
    let x = c.args.x in
    let y = x.sheet in
    let left_out = sym c.keeps_set.ensures ∙ c.if-not-keeps_set.true in
    settled_none
    (set_not_kept
    x.question
    y.literals.column
    x.to
    y.transform
    c.requires.known
    (by_arity y.operator)
    (contents_of y.literals)
    c.requires.operator_value
    left_out)

pub returns-else-is_bytes : goal.returns-else-is_bytes
returns-else-is_bytes c =
    let x = c.args.x in
    settled_as (number_steps_of x (number_column x.sheet.literals.column c.is_bytes.ensures c.if-is_bytes.false)) c.project_set-else-is_bytes.ensures
