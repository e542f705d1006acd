-- `number::ask_number` meets its contract. Assumes nothing.
use Rattle.ask.proofs.Numbers.{row_sized}
use Rattle.ask.proofs.number.ask_number.Goals as goal

pub number_of-requires : goal.number_of-requires
number_of-requires c = row_sized _ _ c.args.leaf.fits _ (rw c.in-Row.is at c.requires)
