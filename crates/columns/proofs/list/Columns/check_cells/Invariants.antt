-- `Columns::check_cells` meets its contract: the values from place k on settle the answer. Assumes nothing.
use Rattle.std.proofs.Common.{◌≡◌}
use Rattle.columns.specs.Cells.{cells_of}
use Rattle.columns.specs.code.ColumnAnswers.{side_of, without_value}
use Rattle.columns.proofs.CellReads.{answered_from}
use Rattle.columns.proofs.list.Columns.check_cells.Given as goal

abbrev pub invariant-loop-k : goal.invariant-loop-k
invariant-loop-k l =
    answered_from (side_of l.side) l.self.list.now l.values l.encoded l.k ≡ without_value (cells_of (side_of l.side) l.self.list.now l.values)
