-- `literals::bytes_among` meets its contract. The loop's invariant: the literals from index i on answer for all. Assumes nothing.
use Rattle.std.specs.Prelude.{◌≡◌, map, length}
use lib.Seq.{slice}
use Rattle.values.specs.Ascending.{elem}
use Rattle.values.specs.Order.{compare_bytes}
use Rattle.sheet.specs.code.Placed.{content_at}
use Rattle.sheet.specs.code.SheetAnswers.{contents_of}
use Rattle.meets.proofs.literals.bytes_among.Given as goal

abbrev pub invariant-loop-i : goal.invariant-loop-i
invariant-loop-i l =
    let ls = l.literals in
    elem compare_bytes l.v (map (content_at ls.sheet.now) (slice l.i (length ls.records.now) ls.records.now)) ≡ elem compare_bytes l.v (contents_of ls)
