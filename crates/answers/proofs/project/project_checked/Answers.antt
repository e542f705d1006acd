-- `project::project_checked` meets its contract: the arms for the transforms without steps; that `_` has steps needs no answer. Assumes nothing.
use Rattle.answers.specs.code.Leaves.{bytes_leaf_of}
use Rattle.answers.specs.laws.SettledLaws.{settled_none, settled_refused}
use Rattle.answers.specs.laws.StepsLaws.{void_steps, unknown_steps}
use Rattle.answers.proofs.project.project_checked.Goals as goal

pub returns-in-Void : goal.returns-in-Void
returns-in-Void c =
    let x = c.args.x in
    settled_none (void_steps x.question x.sheet.literals.column x.to x.sheet.transform (bytes_leaf_of x) c.in-Void.is)

pub returns-in-Unknown : goal.returns-in-Unknown
returns-in-Unknown c =
    let x = c.args.x in
    settled_refused (unknown_steps x.question x.sheet.literals.column x.to x.sheet.transform (bytes_leaf_of x) c.in-Unknown.is)
