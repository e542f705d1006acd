-- `hexadecimal::put_hexadecimal` meets its contract: two digits of each byte are written. Assumes nothing.
use Rattle.std.specs.Prelude.{ℕ, ◌≤◌, ◌<◌, List, length, drop}
use Rattle.std.proofs.Common.{arith, ap, length-append, drop-cons}
use Rattle.text.specs.Text.{hex_digits}
use Rattle.text.proofs.hexadecimal.put_hexadecimal.Goals as goal

two_left : (bs : List ℕ) (i : ℕ) → i < length bs → 2 ≤ length (hex_digits (drop i bs))
two_left bs i h = rw (drop-cons bs i 0 h) (omega arith)

pub push-requires-in-loop-b : goal.push-requires-in-loop-b
push-requires-in-loop-b g c =
    let more = two_left c.args.bs.now c.loop-b.b-index c.loop-b-test.true in
    let all = ap length c.loop-b.invariant in
    (omega arith, omega (arith, length-append {A = ℕ}, all, more, c.requires))

pub push-requires-in-loop-b-2 : goal.push-requires-in-loop-b-2
push-requires-in-loop-b-2 g c =
    let more = two_left c.args.bs.now c.loop-b.b-index c.loop-b-test.true in
    let all = ap length c.loop-b.invariant in
    (omega arith, omega (arith, length-append {A = ℕ}, all, more, c.requires, c.push-in-loop-b.ensures.len))
