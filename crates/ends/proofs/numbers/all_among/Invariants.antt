-- The loop's invariant of `numbers::all_among`: v lies between the ends, and the numbers from v on answer for all. Assumes nothing.
use Rattle.values.specs.Ascending.{elem}
use Rattle.values.specs.Order.{compare_numbers}
use Rattle.sheet.specs.code.SheetAnswers.{numbers_of}
use Rattle.ends.proofs.Scans.{Scanned}
use Rattle.ends.proofs.numbers.all_among.Given as goal

abbrev pub invariant-loop-v : goal.invariant-loop-v
invariant-loop-v l = Scanned (λ z. elem compare_numbers z (numbers_of l.literals)) l.low l.high l.v
