-- `calendar::Days::month` meets its contract: it counts the months of the civil date. Assumes nothing.
use Rattle.std.specs.Prelude.{Some}
use mathlib.Core.Path.{sym, ap, ◌∙◌}
use Rattle.transform.specs.Calendar.{month_of}
use Rattle.transform.proofs.Dates.{date_of, counted_inside, years_fit, months_fit, month_fits, total_fits, month_back}
use Rattle.transform.proofs.calendar.Days.month.Goals as goal

pub overflow_sub-result : goal.overflow_sub-result
overflow_sub-result c = years_fit (date_of _ _ (sym c.in_ok-date.ensures))

pub overflow_mul-result : goal.overflow_mul-result
overflow_mul-result c = months_fit (date_of _ _ (sym c.in_ok-date.ensures))

pub overflow_cast-result : goal.overflow_cast-result
overflow_cast-result c = month_fits (date_of _ _ (sym c.in_ok-date.ensures))

pub overflow_add-result : goal.overflow_add-result
overflow_add-result c = total_fits (date_of _ _ (sym c.in_ok-date.ensures))

pub returns : goal.returns
returns c = let date = date_of _ _ (sym c.in_ok-date.ensures) in ap Some (month_back date) ∙ sym (counted_inside date month_of)
