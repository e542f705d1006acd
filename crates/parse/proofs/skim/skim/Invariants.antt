-- `skim::skim` meets its contract. The loop's invariant: what is left from here on is what the whole comes to. The measure is the bytes left. Assumes nothing.
use Rattle.std.proofs.Common.{◌-◌, length}
use Rattle.columns.specs.code.ColumnAnswers.{columns_in}
use Rattle.parse.proofs.Skims.{Skimming}
use Rattle.parse.proofs.skim.skim.Given as goal

abbrev pub invariant-loop-expected : goal.invariant-loop-expected
invariant-loop-expected l = Skimming (columns_in l.columns.list.now) l.text l.at l.here l.expected l.depth

abbrev pub decreases-loop-expected : goal.decreases-loop-expected
decreases-loop-expected l = length l.text - l.here
