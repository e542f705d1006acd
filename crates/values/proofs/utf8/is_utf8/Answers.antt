-- `is_utf8` meets its contract: nothing but ASCII is UTF-8. Assumes nothing.
use Rattle.std.proofs.Common.{sym, ◌∙◌, arith, length, length-drop, drop, eq-eqb}
use Rattle.values.specs.laws.Utf8StepLaws.{nothing_left}
use Rattle.values.proofs.utf8.is_utf8.Goals as goal

pub returns-then-n-s : goal.returns-then-n-s
returns-then-n-s c =
    let n = c.ascii_bytes-n.result in
    let all = nothing_left (drop n c.args.s.now) (omega (arith, length-drop n c.args.s.now)) in
    eq-eqb n (length c.args.s.now) c.if-n-s.true ∙ sym (sym c.ascii_bytes-n.ensures.s_value ∙ all)
