-- `transform::truncate::truncate_i64` meets its contract: `simp` reads the signed locals back from their bits. Assumes nothing.
use mathlib.Core.Path.{◌≡◌, ◌∙◌}
use Prim.Native.Nat.{◌<◌}
use native.Mathlib.Omega.{arith}
use lib.IntN.{pos}
use mir.Syntax.{w64}
use mir.Val.{SFits}
use Rattle.values.specs.laws.IntLaws.{ints}
use Rattle.values.specs.laws.SignedLaws.{back}
use Rattle.transform.specs.Floor.{floor_mod}
use Rattle.transform.specs.laws.FloorLaws.{euclid_rest, rem_lt}
use Rattle.transform.proofs.Truncating.{no_width, less_rest}
use Rattle.transform.proofs.truncate.truncate_i64.Goals as goal

pub returns-in_err-rest : goal.returns-in_err-rest
returns-in_err-rest c =
    let f : SFits w64 (pos c.args.width) = omega ints in
    let h = simp (c.from.ensures, back, c.ranges.v, f) at c.in_err-rest.ensures in
    c.from_residual.ensures ∙ no_width c.args.width c.args.v (omega arith) c.ranges.v h

pub returns : goal.returns
returns c =
    let f : SFits w64 (pos c.args.width) = omega ints in
    let h = simp (c.from.ensures, back, c.ranges.v, f) at c.in_ok-rest.ensures in
    let w>0 : 0 < c.args.width = omega (arith, h.0.0) in
    let e : c.in_ok-rest.rest ≡ pos (floor_mod c.args.v c.args.width) = h.1 ∙ euclid_rest c.args.v c.args.width in
    let g : SFits w64 c.in_ok-rest.rest = rw e (omega (ints, rem_lt c.args.width w>0 c.args.v)) in
    less_rest c.args.width c.args.v c.in_ok-rest.rest w>0 e c.checked_sub.result (simp (back, c.ranges.v, g) at c.checked_sub.ensures)
