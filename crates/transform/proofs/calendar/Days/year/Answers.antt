-- `calendar::Days::year` meets its contract: it counts the years of the civil date. Assumes nothing.
use Rattle.std.specs.Prelude.{Some}
use mathlib.Core.Path.{sym, ap, ◌∙◌}
use Rattle.transform.specs.Calendar.{year_of}
use Rattle.transform.proofs.Dates.{date_of, counted_inside, years_fit, year_back}
use Rattle.transform.proofs.calendar.Days.year.Goals as goal

pub overflow_sub-result : goal.overflow_sub-result
overflow_sub-result c = years_fit (date_of _ _ (sym c.in_ok-civil.ensures))

pub returns : goal.returns
returns c = let date = date_of _ _ (sym c.in_ok-civil.ensures) in ap Some (year_back date) ∙ sym (counted_inside date year_of)
