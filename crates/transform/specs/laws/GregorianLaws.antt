-- The laws of the Gregorian calendar, from its rule: the year and the month of a day are the only ones in which it lies, and both are monotone.
-- Assumes nothing.
use Rattle.std.specs.Prelude.{ℕ, zero, suc, ◌+◌, ◌-◌, ◌*◌, ◌/◌, ◌%◌, ◌≤◌, ◌<◌, ◌≡◌, refl, ◌↔◌, Bool, true, false, cond}
use Rattle.std.proofs.Common.{ap, arith}
use Rattle.transform.specs.Count.{before, count_off}
use Rattle.transform.specs.Gregorian.{leap, year_length, month_length, first_day, cycle, cycle_year, cycle_day, year_at, month_in, month_at, length_of_month, first_of_month}
use Rattle.transform.specs.laws.CountLaws.{Lies, before_zero, before_suc, lies_ordered, lies_only, lies_exactly, count_lies}

-- ---- the year

pub cycle_days : first_day 400 ≡ cycle
unfolding before year_length leap
cycle_days = refl

pub year_length_is : (y : ℕ) → year_length y ≡ cond (leap y) 366 365
unfolding year_length
year_length_is y = refl

pub leap_cycles : (q y : ℕ) → leap (400 * q + y) ≡ leap y
unfolding leap
leap_cycles q y =
    let a : (400 * q + y) % 4 ≡ y % 4 = omega arith in
    let b : (400 * q + y) % 100 ≡ y % 100 = omega arith in
    let c : (400 * q + y) % 400 ≡ y % 400 = omega arith in
    rw (a, b, c)

first_day_cycle : (y : ℕ) → first_day (y + 400) ≡ first_day y + cycle
unfolding before year_length
first_day_cycle zero = cycle_days
first_day_cycle (suc y) =
    let e : suc y + 400 ≡ suc (y + 400) = omega arith in
    let f : y + 400 ≡ 400 * 1 + y = omega arith in
    rw (e, f, leap_cycles 1 y, ← f) (omega (arith, first_day_cycle y))

pub first_day_cycles : (q y : ℕ) → first_day (400 * q + y) ≡ cycle * q + first_day y
first_day_cycles zero y = let e : 400 * 0 + y ≡ y = omega arith in omega (arith, ap first_day e)
first_day_cycles (suc q) y =
    let e : 400 * suc q + y ≡ (400 * q + y) + 400 = omega arith in
    omega (arith, ap first_day e, first_day_cycle (400 * q + y), first_day_cycles q y)

cycle_lies : (c : ℕ) → c < cycle → Lies year_length c (cycle_year c)
unfolding cycle_year
cycle_lies c h = (count_lies year_length 400 c (rw cycle_days h)).0

pub year_lies : (n : ℕ) → Lies year_length n (year_at n)
unfolding year_at
year_lies n =
    let q = n / cycle in
    let c = n % cycle in
    let r = cycle_lies c (omega arith) in
    let e : suc (400 * q + cycle_year c) ≡ 400 * q + suc (cycle_year c) = omega arith in
    record {
      from = omega (arith, first_day_cycles q (cycle_year c), r.from);
      until = omega (arith, ap first_day e, first_day_cycles q (suc (cycle_year c)), r.until);
    }

pub year_only : (n y : ℕ) → Lies year_length n y → year_at n ≡ y
year_only n y p = lies_only year_length (year_lies n) p

pub year_exactly : (n y : ℕ) → Lies year_length n y ↔ (year_at n ≡ y)
year_exactly n y = lies_exactly year_length (year_lies n) y

-- with no cycles: the year of day n is found by counting off years from year 0, as many as there need be
pub year_counted : (k n : ℕ) → n < first_day k → year_at n ≡ count_off year_length k 0 n
year_counted k n h = year_only n (count_off year_length k 0 n) (count_lies year_length k n h).0

pub year_mono : (n m : ℕ) → n ≤ m → year_at n ≤ year_at m
year_mono n m h = lies_ordered year_length h (year_lies n) (year_lies m)

-- ---- the month

-- the twelve months of a year have the year's days
pub year_days : (l : Bool) → before (month_length l) 12 ≡ cond l 366 365
unfolding before month_length
year_days true = refl
year_days false = refl

length_of_month_is : (y m : ℕ) → m < 12 → length_of_month (12 * y + m) ≡ month_length (leap y) m
unfolding length_of_month
length_of_month_is y m h =
    let a : (12 * y + m) / 12 ≡ y = omega arith in
    let b : (12 * y + m) % 12 ≡ m = omega arith in
    rw (a, b)

months_of : (y : ℕ) → first_of_month (12 * y) ≡ first_day y → (m : ℕ) → m ≤ 12 → first_of_month (12 * y + m) ≡ first_day y + before (month_length (leap y)) m
months_of y b zero h =
    let e : 12 * y + 0 ≡ 12 * y = omega arith in
    omega (arith, ap first_of_month e, before_zero (month_length (leap y)))
months_of y b (suc m) h =
    let e : 12 * y + suc m ≡ suc (12 * y + m) = omega arith in
    let r = months_of y b m (omega arith) in
    let s = length_of_month_is y m (omega arith) in
    omega (arith, ap first_of_month e, before_suc length_of_month (12 * y + m), before_suc (month_length (leap y)) m)

first_of_month_year : (y : ℕ) → first_of_month (12 * y) ≡ first_day y
first_of_month_year zero = omega (arith, before_zero length_of_month, before_zero year_length)
first_of_month_year (suc y) =
    let e : 12 * suc y ≡ 12 * y + 12 = omega arith in
    let r = months_of y (first_of_month_year y) 12 (omega arith) in
    omega (arith, ap first_of_month e, year_days (leap y), before_suc year_length y, year_length_is y)

-- the first day of month m of year y
pub first_of_month_is : (y m : ℕ) → m ≤ 12 → first_of_month (12 * y + m) ≡ first_day y + before (month_length (leap y)) m
first_of_month_is y m h = months_of y (first_of_month_year y) m h

-- a day's place in its year
pub cycle_day_is : (n : ℕ) → cycle_day (n % cycle) ≡ n - first_day (year_at n)
unfolding year_at cycle_day
cycle_day_is n =
    let q = n / cycle in
    let y = cycle_year (n % cycle) in
    let r = cycle_lies (n % cycle) (omega arith) in
    omega (arith, first_day_cycles q y)

-- the month in the year is counted off from the year's first day
pub month_in_is : (n : ℕ) → month_in n ≡ count_off (month_length (leap (year_at n))) 12 0 (n - first_day (year_at n))
unfolding month_in year_at
month_in_is n = rw (← cycle_day_is n, leap_cycles (n / cycle) (cycle_year (n % cycle)))

month_found : (n : ℕ) → Lies (month_length (leap (year_at n))) (n - first_day (year_at n)) (month_in n) × (month_in n < 12)
month_found n =
    let y = year_at n in
    let r = year_lies n in
    rw (month_in_is n)
    (count_lies (month_length (leap y)) 12 (n - first_day y) (omega (arith, year_days (leap y), year_length_is y, before_suc year_length y)))

pub month_in_small : (n : ℕ) → month_in n < 12
month_in_small n = (month_found n).1

pub month_lies : (n : ℕ) → Lies length_of_month n (month_at n)
unfolding month_at
month_lies n =
    let y = year_at n in
    let m = month_in n in
    let p = year_lies n in
    let q = (month_found n).0 in
    let h = (month_found n).1 in
    let e : suc (12 * y + m) ≡ 12 * y + suc m = omega arith in
    record {
      from = omega (arith, first_of_month_is y m (omega arith));
      until = omega (arith, ap first_of_month e, first_of_month_is y (suc m) h);
    }

pub month_only : (n k : ℕ) → Lies length_of_month n k → month_at n ≡ k
month_only n k p = lies_only length_of_month (month_lies n) p

pub month_exactly : (n k : ℕ) → Lies length_of_month n k ↔ (month_at n ≡ k)
month_exactly n k = lies_exactly length_of_month (month_lies n) k

pub month_counted : (k n : ℕ) → n < first_of_month k → month_at n ≡ count_off length_of_month k 0 n
month_counted k n h = month_only n (count_off length_of_month k 0 n) (count_lies length_of_month k n h).0

pub month_mono : (n m : ℕ) → n ≤ m → month_at n ≤ month_at m
month_mono n m h = lies_ordered length_of_month h (month_lies n) (month_lies m)
