-- `project::project_unary` meets its contract: the head alone is the answer sheet. Assumes nothing.
use Rattle.std.proofs.Common.{refl}
use Rattle.sheet.specs.code.SheetAnswers.{contents_of}
use Rattle.answers.specs.laws.SettledLaws.{settled_written}
use Rattle.answers.specs.laws.StepsLaws.{unary_steps}
use Rattle.answers.proofs.project.project_unary.Goals as goal

pub returns : goal.returns
returns c =
    let x = c.args.x in
    let y = x.sheet in
    settled_written
    (unary_steps x.question y.literals.column x.to y.transform c.requires.known y.operator (contents_of y.literals) c.requires.operator_value)
    refl
    c.put_no_literal.ensures
