-- `string::project_one` meets its contract. Assumes nothing.
use Rattle.std.proofs.Common.{sym, ap, ◌∙◌, Ok}
use Rattle.expr.specs.Operators.{by_arity}
use Rattle.projection.specs.code.OneLiteral.{one_test}
use Rattle.answers.specs.code.Leaves.{one_bytes_written}
use Rattle.answers.specs.laws.BytesLeafLaws.{one_truncated, one_identity}
use Rattle.answers.specs.laws.SettledLaws.{settled_as}
use Rattle.answers.proofs.OtherTransforms.{other_identity}
use Rattle.answers.proofs.string.project_one.Goals as goal
use Rattle.answers.proofs.string.project_one.Goals.{in-Truncate, in_default}

pub returns : goal.returns
returns c =
    let x = c.args.x in
    let s = c.requires in
    elim c.match-x.branch [
      | in-Truncate w ↦
          let says = rw c.content-l.ensures at w.project_bytes-p.ensures.says in
          settled_as
          (one_truncated x s.operator_value w.in-Truncate.width w.in-Truncate.is ∙ ap (one_bytes_written x.to) (sym says))
          (rw w.p-is at c.put_projection.ensures)
      | in_default w ↦
          let is = other_identity x.sheet.literals.column x.to s.bytes_column x.sheet.transform x.typed s.known w.in_default.not-Truncate in
          settled_as
          (one_identity x s.operator_value is ∙ ap (λ l. one_bytes_written x.to (Ok (one_test (by_arity x.sheet.operator) l))) (sym c.content-l.ensures))
          (rw w.p-is at c.put_projection.ensures)
    ]
