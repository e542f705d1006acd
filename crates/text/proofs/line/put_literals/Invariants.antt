-- `line::put_literals` meets its contract. The loop's invariant: with the literals that are left all is written. Assumes nothing.
use Rattle.std.specs.Prelude.{◌≡◌, ◌++◌, length, map}
use lib.Seq.{slice}
use Rattle.values.specs.Types.{layout}
use Rattle.sheet.specs.code.Placed.{content_at}
use Rattle.sheet.specs.code.SheetAnswers.{contents_of}
use Rattle.text.specs.Text.{literals_text}
use Rattle.text.proofs.line.put_literals.Given as goal

abbrev pub invariant-loop-i : goal.invariant-loop-i
invariant-loop-i g l =
    let x = l.literals in
    l.out.items ++ literals_text (layout x.column) (map (content_at x.sheet.now) (slice l.i (length x.records.now) x.records.now)) ≡ l.fn.out.items ++ literals_text (layout x.column) (contents_of x)
