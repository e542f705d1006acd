-- What the code answers, by the definitions. Assumes nothing.
use Rattle.std.specs.Prelude.{ℕ, suc, ◌+◌, ◌*◌, Bool, cond, Option, Some, None, nat_lt, ℤ}
use Rattle.values.specs.Types.{in_type}
use Rattle.values.specs.declared.datatypes.PrimitiveType.TheVariants.{Long}
use Rattle.transform.specs.Gregorian.{leap}
use Rattle.transform.specs.Calendar.{in_calendar, civil_year, civil_month}
use Rattle.transform.specs.YearGroups.{year_from}
use Rattle.transform.specs.Truncate.{truncated}
use Rattle.transform.specs.declared.calendar.Civil.{Civil}
use Rattle.transform.specs.declared.calendar.YearGroups.{YearGroups}

-- ---- the calendar: there is nothing to tell of a day outside it

abbrev pub civil_of : ℤ → Civil
civil_of d = record { year = civil_year d; month0 = civil_month d }

abbrev pub dated : ℤ → Option Civil
dated d = cond (in_calendar d) (Some (civil_of d)) None

abbrev pub counted : (ℤ → ℤ) → ℤ → Option ℤ
counted count d = cond (in_calendar d) (Some (count d)) None

abbrev pub year_after : YearGroups → ℤ
year_after g = year_from g.n400 g.n100 g.n4 g.n1

-- whether that is a leap year: the rule repeats every 400 years
abbrev pub leap_after : YearGroups → Bool
leap_after g = leap (suc (g.n100 * 100 + g.n4 * 4 + g.n1))

-- ---- truncation: to nothing where the width is 0, or where 64 bits do not hold what is left

abbrev pub truncated_long : ℕ → ℤ → Option ℤ
truncated_long width v = cond (nat_lt 0 width) (cond (in_type Long (truncated width v)) (Some (truncated width v)) None) None
