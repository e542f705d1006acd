-- `line::put_literals` meets its contract: there is room for a space and the next literal. Assumes nothing.
use Rattle.std.specs.Prelude.{ℕ, ◌+◌, ◌≤◌, ◌<◌, List, length, get_or, map}
use Rattle.std.proofs.Common.{arith, ap, length-append}
use lib.Seq.{slice, slice-cons}
use Rattle.values.specs.Types.{Layout, layout}
use Rattle.sheet.specs.code.Placed.{content_at}
use Rattle.text.specs.Text.{literal_text, literals_text}
use Rattle.text.proofs.line.put_literals.Goals as goal

-- what is left has a space and the next literal
next_left : (l : Layout) (s ns : List ℕ) (i : ℕ) → i < length ns
    → length (literal_text l (content_at s (get_or ns i 0))) + 1 ≤ length (literals_text l (map (content_at s) (slice i (length ns) ns)))
next_left l s ns i h =
    let next = slice-cons i (length ns) ns 0 h (omega arith) in
    rw next (omega (arith, length-append {A = ℕ}))

pub push-requires : goal.push-requires
push-requires g c =
    let x = c.args.literals in
    let more = next_left (layout x.column) x.sheet.now x.records.now c.loop-i.i (omega arith) in
    (omega arith, omega (arith, length-append {A = ℕ}, ap length c.loop-i.invariant, more, c.requires))

pub put_literal-requires : goal.put_literal-requires
put_literal-requires g c =
    let x = c.args.literals in
    let more = next_left (layout x.column) x.sheet.now x.records.now c.loop-i.i (omega arith) in
    omega (arith, length-append {A = ℕ}, ap length c.loop-i.invariant, more, c.requires, c.push.ensures.len)
