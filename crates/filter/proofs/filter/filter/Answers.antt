-- `filter::filter` meets its contract. Assumes nothing.
use Rattle.std.proofs.Common.{sym}
use Rattle.filter.proofs.Filtered.{values_ready}
use Rattle.filter.proofs.filter.filter.Goals as goal

pub invariant_of-answer_text : goal.invariant_of-answer_text
invariant_of-answer_text c = record { read = values_ready _ _ _ (sym (rw c.side_of.ensures at c.in_ok-check_cells.ensures)) }
