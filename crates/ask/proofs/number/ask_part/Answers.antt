-- `number::ask_part` meets its contract: by what the leaf comes to under the transforms with steps. Assumes nothing.
use Rattle.std.proofs.Common.{◌≡◌, option_copied, rules, sym, ◌∙◌}
use Rattle.expr.specs.Holds.{number_tests}
use Rattle.expr.specs.Operators.{by_arity}
use Rattle.numbers.specs.code.Boundaries.{number_projected}
use Rattle.ask.specs.declared.asked.Asked.TheVariants.{Part}
use Rattle.ask.specs.code.Askings.{number_row, number_answer, step_held}
use Rattle.ask.proofs.PartAnswers.{number_stepped}
use Rattle.ask.proofs.Numbers.{part_sized, seen}
use Rattle.ask.proofs.number.ask_part.Goals as goal
use Rattle.ask.proofs.number.ask_part.Goals.{After-project_number}

stepped : (c : After-project_number) → let x = c.args.leaf in
    number_answer (Part c.args.question) x.column x.transform (by_arity x.operator) x.literal (option_copied c.args.value)
    ≡ step_held number_tests c.args.question (number_projected c.project_number.result) (number_row (option_copied c.args.value))
stepped c =
    let x = c.args.leaf in
    let projected = rw (seen x.column x.literal x.fits) at c.project_number.ensures.projected in
    let d = c.in_default in
    number_stepped c.args.question x.column x.transform (by_arity x.operator) x.one x.literal (option_copied c.args.value)
    (sym c.result_type.ensures ∙ c.in_ok-result_type.was) d.not-Unknown d.not-Void d.not-Identity _ projected

pub returns-in_err-p-in_default : goal.returns-in_err-p-in_default
returns-in_err-p-in_default c = rw (stepped (goal.at.returns-in_err-p-in_default c).After-project_number, c.in_err-p-in_default.was) (search rules)

pub number_of-requires-in_default : goal.number_of-requires-in_default
number_of-requires-in_default c =
    part_sized _ _ c.args.leaf.fits _ c.args.leaf.transform _ (sym c.result_type.ensures ∙ c.in_ok-result_type.was) c.in_default.not-Unknown c.requires

pub returns-in_ok-p-in_default : goal.returns-in_ok-p-in_default
returns-in_ok-p-in_default c =
    rw (stepped (goal.at.returns-in_ok-p-in_default c).After-project_number, c.in_ok-p-in_default.was, ← c.number_of-in_default.ensures) c.test_projected.ensures
