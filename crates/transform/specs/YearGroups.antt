-- 02, #103: the year by "counting off groups of 400, 100, 4 and 1 years from 1 January of year 1": how many of each lie before the year of day d.
-- Assumes nothing.
use Rattle.std.specs.Prelude.{ℕ, ◌+◌, ◌*◌, ◌/◌, ◌%◌, ◌≤◌, true, cond, Option, Some, None, ◌≡◌, refl, ℤ, pos, negsuc, neg_ℤ, ◌+ℤ◌, ◌-ℤ◌, ◌*ℤ◌}
use Rattle.transform.specs.Floor.{floor_div, floor_mod}
use Rattle.transform.specs.Count.{before, count_off}
use Rattle.transform.specs.Gregorian.{leap, year_length, cycle, cycle_year, cycle_day, year_at}
use Rattle.transform.specs.Calendar.{first_calendar_day, last_calendar_day, in_calendar, days_back, shift, civil_year}
use Rattle.transform.specs.declared.calendar.YearGroups.{YearGroups}

-- the years from 1 January of year 1 to 1 January of d's year: 0 in year 1, -1 in year 0
unfoldable pub years_before : ℤ → ℤ
years_before d = civil_year d -ℤ pos 1

-- the counts are its digits: whole groups of 400 years, of 100 in the rest of a 400, of 4 in the rest of a 100, and years in the rest of a 4
unfoldable pub count400 : ℤ → ℤ
count400 d = floor_div (years_before d) 400

unfoldable pub count100 : ℤ → ℕ
count100 d = floor_mod (years_before d) 400 / 100

unfoldable pub count4 : ℤ → ℕ
count4 d = floor_mod (years_before d) 100 / 4

unfoldable pub count1 : ℤ → ℕ
count1 d = floor_mod (years_before d) 4

-- what is left of the day then: its place in its year, 0 for 1 January (`GregorianLaws.cycle_day_is`)
unfoldable pub day_in_year : ℤ → ℕ
day_in_year d = cycle_day (shift days_back d % cycle)

-- 02, #103: "For every day of the calendar the last three are 0 to 3, 0 to 24 and 0 to 3" (`YearGroupLaws.counts_in_range`)
abbrev pub InRange : ℕ → ℕ → ℕ → Type 0
InRange n100 n4 n1 = (n100 ≤ 3) × (n4 ≤ 24) × (n1 ≤ 3)

abbrev pub CountsInRange : Type 0
CountsInRange = (d : ℤ) → in_calendar d ≡ true → InRange (count100 d) (count4 d) (count1 d)

-- 02, #103: "and 1 plus 400, 100, 4 and 1 times the four counts is the year" (`YearGroupLaws.counts_make_year`)
abbrev pub year_from : ℤ → ℕ → ℕ → ℕ → ℤ
year_from n400 n100 n4 n1 = pos 1 +ℤ n400 *ℤ pos 400 +ℤ pos (n100 * 100 + n4 * 4 + n1)

abbrev pub CountsMakeYear : Type 0
CountsMakeYear = (d : ℤ) → in_calendar d ≡ true → year_from (count400 d) (count100 d) (count4 d) (count1 d) ≡ civil_year d

-- no other four numbers are in range and make the year (`YearGroupLaws.counts_only`)

-- what is told of a day: the four counts and its place in its year, or that it lies outside the calendar
abbrev pub groups_of : ℤ → YearGroups
groups_of d = record { n400 = count400 d; n100 = count100 d; n4 = count4 d; n1 = count1 d }

abbrev pub grouped : ℤ → Option (YearGroups × ℕ)
grouped d = cond (in_calendar d) (Some (groups_of d, day_in_year d)) None

-- ---- worked examples

abbrev HasCounts : ℤ → ℤ → ℕ → ℕ → ℕ → ℕ → Type 0
HasCounts d n400 n100 n4 n1 day =
    (count400 d ≡ n400) × (count100 d ≡ n100) × (count4 d ≡ n4) × (count1 d ≡ n1) × (day_in_year d ≡ day)

-- 31 December of year 0 is day -719163
year_0_ends : HasCounts (neg_ℤ (pos 719163)) (negsuc 0) 3 24 3 365
unfolding count400 count100 count4 count1 day_in_year years_before floor_div floor_mod civil_year shift year_at cycle_year cycle_day count_off before year_length leap
year_0_ends = (refl, refl, refl, refl, refl)

-- 29 February 2000 is day 11016
leap_day_2000 : HasCounts (pos 11016) (pos 4) 3 24 3 59
unfolding count400 count100 count4 count1 day_in_year years_before floor_div floor_mod civil_year shift year_at cycle_year cycle_day count_off before year_length leap
leap_day_2000 = (refl, refl, refl, refl, refl)

-- 31 December 2400 is day 157419
year_2400_ends : HasCounts (pos 157419) (pos 5) 3 24 3 365
unfolding count400 count100 count4 count1 day_in_year years_before floor_div floor_mod civil_year shift year_at cycle_year cycle_day count_off before year_length leap
year_2400_ends = (refl, refl, refl, refl, refl)

-- 1 January 1970 is day 0
year_1970_begins : HasCounts (pos 0) (pos 4) 3 17 1 0
unfolding count400 count100 count4 count1 day_in_year years_before floor_div floor_mod civil_year shift year_at cycle_year cycle_day count_off before year_length leap
year_1970_begins = (refl, refl, refl, refl, refl)

-- the calendar begins with 1 January of year -262143
calendar_begins : HasCounts first_calendar_day (neg_ℤ (pos 656)) 2 14 0 0
unfolding count400 count100 count4 count1 day_in_year years_before floor_div floor_mod civil_year shift year_at cycle_year cycle_day count_off before year_length leap
calendar_begins = (refl, refl, refl, refl, refl)

-- and ends with 31 December 262142
calendar_ends : HasCounts last_calendar_day (pos 655) 1 10 1 364
unfolding count400 count100 count4 count1 day_in_year years_before floor_div floor_mod civil_year shift year_at cycle_year cycle_day count_off before year_length leap
calendar_ends = (refl, refl, refl, refl, refl)
