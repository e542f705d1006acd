-- The proleptic Gregorian calendar from its public rule, on natural numbers: years are counted from a year 0 that 400 divides, days from the first
-- day of that year, and months from January, which is month 0. Assumes nothing.
use Rattle.std.specs.Prelude.{ℕ, ◌+◌, ◌-◌, ◌*◌, ◌/◌, ◌%◌, Bool, cond, not, ◌&&◌, ◌||◌, List, [], ◌∷◌, ◌==◌, slice_index}
use Rattle.transform.specs.Count.{before, count_off}

abbrev pub divisible : ℕ → ℕ → Bool
divisible y k = y % k == 0

-- divisible by 4, and not by 100 unless by 400
unfoldable pub leap : ℕ → Bool
leap y = divisible y 4 && (not (divisible y 100) || divisible y 400)

unfoldable pub year_length : ℕ → ℕ
year_length y = cond (leap y) 366 365

-- the lengths of the months of a leap year (true) or of another (false), January first
abbrev pub month_lengths : Bool → List ℕ
month_lengths l = 31 ∷ cond l 29 28 ∷ 31 ∷ 30 ∷ 31 ∷ 30 ∷ 31 ∷ 31 ∷ 30 ∷ 31 ∷ 30 ∷ 31 ∷ []

unfoldable pub month_length : Bool → ℕ → ℕ
month_length l m = slice_index (month_lengths l) m

-- the first day of year y
abbrev pub first_day : ℕ → ℕ
first_day y = before year_length y

-- the rule repeats every 400 years, which have 146097 days
abbrev pub cycle : ℕ
cycle = 146097

-- the year of day c of a cycle (c < 146097), and c's place in that year
unfoldable pub cycle_year : ℕ → ℕ
cycle_year c = count_off year_length 400 0 c

unfoldable pub cycle_day : ℕ → ℕ
cycle_day c = c - first_day (cycle_year c)

-- the year of day n, and its month in that year
unfoldable pub year_at : ℕ → ℕ
year_at n = 400 * (n / cycle) + cycle_year (n % cycle)

unfoldable pub month_in : ℕ → ℕ
month_in n = count_off (month_length (leap (cycle_year (n % cycle)))) 12 0 (cycle_day (n % cycle))

-- months counted on from the first month of year 0: month k is month k % 12 of year k / 12
unfoldable pub month_at : ℕ → ℕ
month_at n = 12 * year_at n + month_in n

unfoldable pub length_of_month : ℕ → ℕ
length_of_month k = month_length (leap (k / 12)) (k % 12)

-- the first day of month k
abbrev pub first_of_month : ℕ → ℕ
first_of_month k = before length_of_month k
