-- `numbers::literal_between` meets its contract. The loop's invariant: the literals from index i on answer for all. Assumes nothing.
use Rattle.std.specs.Prelude.{◌≡◌, map, length}
use lib.Seq.{slice}
use Rattle.values.specs.SomeEvery.{some}
use Rattle.values.specs.Order.{compare_numbers}
use Rattle.values.specs.Types.{layout}
use Rattle.sheet.specs.code.Placed.{number_at}
use Rattle.sheet.specs.code.SheetAnswers.{numbers_of}
use Rattle.summary.specs.EndValues.{lies_in}
use Rattle.summary.specs.Summaries.{◌to◌}
use Rattle.ends.proofs.numbers.literal_between.Given as goal

abbrev pub invariant-loop-i : goal.invariant-loop-i
invariant-loop-i l =
    let ls = l.literals in
    let lies = lies_in compare_numbers (l.low to l.high) in
    some lies (map (number_at (layout ls.column) ls.sheet.now) (slice l.i (length ls.records.now) ls.records.now)) ≡ some lies (numbers_of ls)
