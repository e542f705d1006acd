-- `list::are_columns` meets its contract: the entries before place k are columns with names apart. Assumes nothing.
use Rattle.std.proofs.Common.{◌≡◌, true, take}
use Rattle.columns.specs.code.ColumnAnswers.{good}
use Rattle.columns.proofs.list.are_columns.Given as goal

abbrev pub invariant-loop-k : goal.invariant-loop-k
invariant-loop-k l = good (take l.k l.entries) ≡ true
