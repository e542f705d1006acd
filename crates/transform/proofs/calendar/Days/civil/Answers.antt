-- `calendar::Days::civil` meets its contract: the year after the groups of years is the day's, and its month is counted off in it. Assumes nothing.
use mathlib.Core.Path.{◌≡◌, sym, ap, ◌∙◌}
use mathlib.Core.Bool.{Bool}
use mir.Syntax.{w64}
use mir.Val.{to_z, of_z}
use Rattle.values.specs.laws.SignedLaws.{back, ok}
use Rattle.transform.specs.Count.{count_off}
use Rattle.transform.specs.Gregorian.{month_length}
use Rattle.transform.specs.Calendar.{civil_year, civil_month}
use Rattle.transform.proofs.Dates.{Before, before_of, year_fits, dated_is}
use Rattle.transform.proofs.calendar.Days.civil.Goals as goal
use Rattle.transform.proofs.calendar.Days.civil.Goals.{After-year}

module _ (c : After-year) where
  -- what `year_groups` gave
  place : Before c.args.self.0 c.in_ok-groups.groups c.in_ok-groups.day
  place = before_of _ _ _ (sym c.in_ok-groups.ensures)

  month_is : c.month_in-month0.result ≡ civil_month c.args.self.0
  month_is =
      c.month_in-month0.ensures
      ∙ ap (λ (l : Bool). count_off (month_length l) 12 0 c.in_ok-groups.day) c.leap.ensures
      ∙ place.month_is

  year_is : to_z w64 (of_z w64 c.year.result) ≡ civil_year c.args.self.0
  year_is = back {w = w64} (ok c.year.result c.year.type_inv) ∙ c.year.ensures ∙ place.year_is

pub leap-requires : goal.leap-requires
leap-requires c = (before_of _ _ _ (sym c.in_ok-groups.ensures)).range

pub month_in-month0-requires : goal.month_in-month0-requires
month_in-month0-requires c = rw c.leap.ensures (before_of _ _ _ (sym c.in_ok-groups.ensures)).in_year

pub overflow_cast-result : goal.overflow_cast-result
overflow_cast-result c =
    let p = (goal.at.overflow_cast-result c).After-year in
    rw (year_is p) (year_fits c.args.self.0 (place p).inside)

pub returns : goal.returns
returns c = let p = (goal.at.returns c).After-year in dated_is c.args.self.0 (place p).inside (year_is p) (month_is p)
