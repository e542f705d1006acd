-- `calendar::month_in` meets its contract: its two divisions give the month that is counted off (`Months`). Assumes nothing.
use native.Mathlib.Omega.{arith}
use Rattle.transform.proofs.Months.{month_early, month_late}
use Rattle.transform.proofs.calendar.month_in.Goals as goal

pub returns-then-day-length : goal.returns-then-day-length
returns-then-day-length c = month_early c.args.leap c.args.day _ c.year_length-length.ensures c.requires (omega arith)

pub returns-else-day-length : goal.returns-else-day-length
returns-else-day-length c = month_late c.args.leap c.args.day _ c.year_length-length.ensures c.requires (omega arith)
