-- `literals::number_among` meets its contract. The loop's invariant: the literals from index i on answer for all. Assumes nothing.
use Rattle.std.specs.Prelude.{◌≡◌, map, length}
use lib.Seq.{slice}
use Rattle.values.specs.Ascending.{elem}
use Rattle.values.specs.Order.{compare_numbers}
use Rattle.values.specs.Types.{layout}
use Rattle.sheet.specs.code.Placed.{number_at}
use Rattle.sheet.specs.code.SheetAnswers.{numbers_of}
use Rattle.meets.proofs.literals.number_among.Given as goal

abbrev pub invariant-loop-i : goal.invariant-loop-i
invariant-loop-i l =
    let ls = l.literals in
    elem compare_numbers l.v (map (number_at (layout ls.column) ls.sheet.now) (slice l.i (length ls.records.now) ls.records.now))
    ≡ elem compare_numbers l.v (numbers_of ls)
