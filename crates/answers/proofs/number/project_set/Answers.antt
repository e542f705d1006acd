-- `number::project_set` meets its contract: the set that was collected is written. Assumes nothing.
use Rattle.std.proofs.Common.{rules, add-one, ◌≡◌, refl, sym, ap, ◌∙◌, length, Ok}
use Rattle.values.specs.laws.OutcomeLaws.{ok_inj}
use Rattle.answers.specs.laws.CollectedLaws.{found_count, found_error}
use Rattle.answers.specs.laws.NumberSetLaws.{set_at, set_refused, set_inside, set_written_lem}
use Rattle.answers.proofs.number.project_set.Goals as goal
use Rattle.answers.proofs.number.project_set.Goals.{After-members}

-- the members are those of the set that was collected
found : (c : After-members) → set_at c.args.x ≡ Ok c.members.result.now
found c =
    let filled = rw c.lifts_for-lifts.ensures at c.in_ok-n.ensures.filled in
    filled ∙ ap Ok (sym c.members.ensures.members)

pub returns-in_err-n : goal.returns-in_err-n
returns-in_err-n c =
    let p = c.requires in
    let is = found_error _ (sym (rw c.lifts_for-lifts.ensures at c.in_err-n.ensures.says)) in
    rw (set_refused c.args.x p.number_column p.known p.operator_value p.operator_value_2 is) (record { number = search rules; left = refl })

pub put_numbers-requires-clause-literals_fit : goal.put_numbers-requires-clause-literals_fit
put_numbers-requires-clause-literals_fit c =
    let p = c.requires in
    set_inside c.args.x p.number_column p.known p.operator_value p.operator_value_2 _ (found (goal.at.put_numbers-requires-clause-literals_fit c).After-members)

pub returns : goal.returns
returns c =
    let p = c.requires in
    let is = found (goal.at.returns c).After-members in
    let k = found_count _ (sym (rw c.lifts_for-lifts.ensures at c.in_ok-n.ensures.says)) in
    let size : c.in_ok-n.n ≡ length c.members.result.now = k.2 ∙ ap length (ok_inj (sym k.1 ∙ is)) in
    set_written_lem c.args.x p.number_column p.known p.operator_value p.operator_value_2 c.members.result.now is c.put_numbers.ensures (rw (size, add-one))
