-- Iceberg's Year and Month of a day, counted from 1970 and from January 1970. A day is counted from 1970-01-01. Assumes nothing.
use Rattle.std.specs.Prelude.{ℕ, suc, ◌+◌, ◌-◌, ◌*◌, Bool, true, ◌&&◌, ◌↔◌, ◌≡◌, refl, ℤ, pos, negsuc, neg_ℤ, ◌+ℤ◌, ◌-ℤ◌, ◌*ℤ◌, ◌≤ℤ◌, ◌<ℤ◌, int_le}
use Rattle.transform.specs.Count.{before, count_off}
use Rattle.transform.specs.Gregorian.{leap, year_length, month_length, first_day, first_of_month, cycle_year, cycle_day, year_at, month_in}

-- 01: "The calendar runs from day −96465292 to 95026236 (years −262143 to 262142)"
abbrev pub first_calendar_day : ℤ
first_calendar_day = neg_ℤ (pos 96465292)

abbrev pub last_calendar_day : ℤ
last_calendar_day = pos 95026236

unfoldable pub in_calendar : ℤ → Bool
in_calendar d = int_le first_calendar_day d && int_le d last_calendar_day

-- `Gregorian` counts from a year that 400 divides: here year -262400, whose first day lies 96559160 days before 1970-01-01
-- (`CalendarLaws.epoch`)
abbrev pub years_back : ℕ
years_back = 262400

abbrev pub days_back : ℕ
days_back = 96559160

-- z + k, where z is at least -k
unfoldable pub shift : ℕ → ℤ → ℕ
shift k (pos n) = k + n
shift k (negsuc n) = k - suc n

-- the year and the month of day d: 0 for January
unfoldable pub civil_year : ℤ → ℤ
civil_year d = pos (year_at (shift days_back d)) -ℤ pos years_back

unfoldable pub civil_month : ℤ → ℕ
civil_month d = month_in (shift days_back d)

-- 01: "Year and Month follow the proleptic Gregorian calendar, counted from 1970 and from January 1970"
unfoldable pub year_of : ℤ → ℤ
year_of d = civil_year d -ℤ pos 1970

unfoldable pub month_of : ℤ → ℤ
month_of d = year_of d *ℤ pos 12 +ℤ pos (civil_month d)

-- what they mean: a day of the calendar lies in a year, and in a month, from its first day on up to the first day of the next. First days by the counts
-- from 1970 and from January 1970 (`CalendarLaws.year_means`, `month_means`)
abbrev pub years_to1970 : ℕ
years_to1970 = years_back + 1970

unfoldable pub first_day_of_year : ℤ → ℤ
first_day_of_year y = pos (first_day (shift years_to1970 y)) -ℤ pos days_back

unfoldable pub first_day_of_month : ℤ → ℤ
first_day_of_month m = pos (first_of_month (shift (12 * years_to1970) m)) -ℤ pos days_back

abbrev pub YearMeans : Type 0
YearMeans = (d y : ℤ) → in_calendar d ≡ true → (year_of d ≡ y) ↔ ((first_day_of_year y ≤ℤ d) × (d <ℤ first_day_of_year (y +ℤ pos 1)))

abbrev pub MonthMeans : Type 0
MonthMeans = (d m : ℤ) → in_calendar d ≡ true → (month_of d ≡ m) ↔ ((first_day_of_month m ≤ℤ d) × (d <ℤ first_day_of_month (m +ℤ pos 1)))

-- 29 February 2000 is day 11016
leap_day : (civil_year (pos 11016) ≡ pos 2000) × (civil_month (pos 11016) ≡ 1)
unfolding civil_month civil_year shift year_at month_in cycle_year cycle_day count_off before year_length month_length leap
leap_day = (refl, refl)

-- 31 December 1969 is day -1
eve : (year_of (negsuc 0) ≡ negsuc 0) × (month_of (negsuc 0) ≡ negsuc 0)
unfolding month_of year_of civil_month civil_year shift year_at month_in cycle_year cycle_day count_off before year_length month_length leap
eve = (refl, refl)
