-- `string::project_set` meets its contract: the set that was collected is written. Assumes nothing.
use Rattle.std.proofs.Common.{rules, ◌≡◌, refl, sym, ap, ◌∙◌, length, take, length-take-le}
use Rattle.std.proofs.lemmas.List.{length-map}
use Rattle.std.proofs.Math.Seq.{take-length}
use Rattle.sheet.specs.code.ReadAnswers.{part_at, parts_at}
use Rattle.answers.specs.laws.BytesLeafLaws.{answer_length}
use Rattle.answers.specs.laws.BytesSetLaws.{set_written, set_at, set_steps, parts_short}
use Rattle.answers.specs.laws.CollectedLaws.{found_error}
use Rattle.answers.specs.laws.SettledLaws.{settled_written}
use Rattle.answers.proofs.BytesAnswers.{Collected, collected, parts_taken}
use Rattle.answers.proofs.string.project_set.Goals as goal
use Rattle.answers.proofs.string.project_set.Goals.{In_ok-n}

-- what was collected
found : (c : In_ok-n) → Collected c.args.x.sheet.literals.sheet.now (set_at c.args.x) c.project_set_expr.new.sizes c.project_set_expr.new.set c.in_ok-n.n
found c = collected _ c.in_ok-n.ensures.says c.in_ok-n.ensures.filled

pub returns-in_err-n : goal.returns-in_err-n
returns-in_err-n c =
    let x = c.args.x in
    let s = c.requires in
    let is = set_steps x s.bytes_column s.known s.operator_value s.operator_value_2 ∙ ap (set_written x.to x.sheet.operator) (found_error _ (sym c.in_err-n.ensures.says)) in
    rw is (record { number = search rules; left = refl })

pub invariant_of-parts : goal.invariant_of-parts
invariant_of-parts c = record { parts = parts_taken _ _ _ _ (found (goal.at.invariant_of-parts c).In_ok-n).parts }

pub returns : goal.returns
returns c =
    let x = c.args.x in
    let s = c.requires in
    let l = x.sheet.literals in
    let set = c.project_set_expr.new.set in
    let n = c.in_ok-n.n in
    let k = found (goal.at.returns c).In_ok-n in
    let written = set_steps x s.bytes_column s.known s.operator_value s.operator_value_2 ∙ ap (set_written x.to x.sheet.operator) k.is in
    let parts = parts_at l.sheet.now c.project_set_expr.new.sizes set n in
    let count : length parts ≡ n = length-map (take n set) (part_at l.sheet.now c.project_set_expr.new.sizes) ∙ length-take-le n set k.parts.room in
    settled_written
    written
    (sym (answer_length x.sheet.operator x.to parts (parts_short _ _ _ _ k.parts) ∙ rw count))
    (rw (take-length (take n set)) at c.put_parts.ensures)
