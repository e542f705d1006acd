-- `project::project_binary` meets its contract: the steps are those of the column's kind. Assumes nothing.
use Rattle.answers.specs.laws.SettledLaws.{settled_as}
use Rattle.answers.specs.laws.StepsLaws.{number_steps_of}
use Rattle.answers.proofs.ColumnKinds.{number_column}
use Rattle.answers.proofs.project.project_binary.Goals as goal

pub returns-else-is_bytes : goal.returns-else-is_bytes
returns-else-is_bytes c =
    let x = c.args.x in
    settled_as (number_steps_of x (number_column x.sheet.literals.column c.is_bytes.ensures c.if-is_bytes.false)) c.project_one-else-is_bytes.ensures
