-- `project::project_leaf` meets its contract: 4, then 5, then the steps. Assumes nothing.
use Rattle.std.proofs.Common.{rules, refl, sym, ◌∙◌}
use Rattle.answers.specs.laws.ReadyLaws.{ready_not_utf8, ready_no_type, ready_steps}
use Rattle.answers.specs.laws.SettledLaws.{settled_refused, settled_as}
use Rattle.answers.proofs.project.project_leaf.Goals as goal

pub returns-then-not-are_encoded : goal.returns-then-not-are_encoded
returns-then-not-are_encoded c =
    settled_refused (ready_not_utf8 c.args.question c.args.sheet (sym c.are_encoded.ensures ∙ c.if-not-are_encoded.true))

pub returns-in_err-to : goal.returns-in_err-to
returns-in_err-to c =
    let none = sym c.result_type.ensures ∙ c.in_err-to.was in
    rw (ready_no_type c.args.question c.args.sheet (sym c.are_encoded.ensures ∙ c.if-not-are_encoded.false) none) (record { number = search rules; left = refl })

pub returns : goal.returns
returns c =
    let typed = sym c.result_type.ensures ∙ c.in_ok-to.was in
    settled_as (ready_steps c.args.question c.args.sheet (sym c.are_encoded.ensures ∙ c.if-not-are_encoded.false) typed) c.project_checked.ensures
