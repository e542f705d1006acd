-- `texts::all_outside` meets its contract. The loop's invariant: the literals from index i on answer for all. Assumes nothing.
use Rattle.std.specs.Prelude.{◌≡◌, map, length}
use lib.Seq.{slice}
use Rattle.values.specs.SomeEvery.{every}
use Rattle.sheet.specs.code.Placed.{content_at}
use Rattle.sheet.specs.code.SheetAnswers.{contents_of}
use Rattle.ends.specs.RuledOut.{outside}
use Rattle.ends.proofs.texts.all_outside.Given as goal

abbrev pub invariant-loop-i : goal.invariant-loop-i
invariant-loop-i l =
    let ls = l.literals in
    let test = outside l.low l.high in
    every test (map (content_at ls.sheet.now) (slice l.i (length ls.records.now) ls.records.now)) ≡ every test (contents_of ls)
