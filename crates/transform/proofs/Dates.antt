-- From a day to its civil date, and from the date to Iceberg's counts: that the code's signed sums fit, and what they are. Assumes nothing.
use Prim.Native.Nat.{ℕ, ◌<◌}
use Rattle.std.specs.Prelude.{Some}
use mathlib.Core.Path.{◌≡◌, sym, ap, ◌∙◌}
use mathlib.Core.Bool.{true, cond}
use native.Mathlib.Omega.{arith}
use lib.IntN.{ℤ, pos, ◌+ℤ◌, ◌-ℤ◌, ◌*ℤ◌}
use mir.Syntax.{w32}
use mir.Val.{SFits, to_z, of_z}
use Rattle.values.specs.laws.IntLaws.{ints, minus, times}
use Rattle.values.specs.laws.SignedLaws.{back}
use Rattle.transform.specs.Count.{count_off}
use Rattle.transform.specs.laws.CountLaws.{before_suc}
use Rattle.transform.specs.Gregorian.{year_length, month_length, year_at}
use Rattle.transform.specs.laws.GregorianLaws.{year_length_is, year_lies, cycle_day_is, month_in_is, month_in_small}
use Rattle.transform.specs.Calendar.{in_calendar, days_back, shift, civil_year, civil_month, year_of, month_of}
use Rattle.transform.specs.laws.CalendarLaws.{year_of_range, month_of_range}
use Rattle.transform.specs.YearGroups.{day_in_year, InRange, groups_of, grouped}
use Rattle.transform.specs.laws.YearGroupLaws.{counts_in_range, counts_make_year}
use Rattle.transform.specs.code.TransformAnswers.{year_after, leap_after, dated, counted}
use Rattle.transform.specs.laws.TransformAnswerLaws.{dated_on, grouped_into}
use Rattle.transform.specs.declared.calendar.YearGroups.{YearGroups}
use Rattle.transform.specs.declared.calendar.Civil.{Civil}
use Rattle.transform.proofs.CountedOff.{leap_is}

-- ---- a day of the calendar: its year fits 32 bits, its place lies in the year, and its month is counted off there

pub year_fits : (d : ℤ) → in_calendar d ≡ true → SFits w32 (civil_year d)
unfolding year_of
year_fits d h = let r = year_of_range d h in omega (ints, minus (civil_year d) (pos 1970))

day_in_year_lem : (d : ℤ) → in_calendar d ≡ true → day_in_year d < cond (leap_after (groups_of d)) 366 365
unfolding day_in_year
day_in_year_lem d h =
    let n = shift days_back d in
    let y = year_at n in
    let r = year_lies n in
    rw (leap_is d h) (omega (arith, r.from, r.until, cycle_day_is n, before_suc year_length y, year_length_is y))

month_in_year : (d : ℤ) → in_calendar d ≡ true → count_off (month_length (leap_after (groups_of d))) 12 0 (day_in_year d) ≡ civil_month d
unfolding day_in_year civil_month
month_in_year d h = let n = shift days_back d in rw (leap_is d h, cycle_day_is n) (sym (month_in_is n))

pub dated_is : (d : ℤ) → in_calendar d ≡ true → {y : ℤ} {m : ℕ} → y ≡ civil_year d → m ≡ civil_month d
    → Some (record { year = to_z w32 (of_z w32 y); month0 = m }) ≡ dated d
dated_is d h p q = rw (h, p, q, back (year_fits d h))

-- ---- what `grouped` and `dated` say of a day that has them

pub record Before (d : ℤ) (g : YearGroups) (n : ℕ) : Type 0 where
  pub inside : in_calendar d ≡ true
  pub range : InRange g.n100 g.n4 g.n1
  pub year_is : year_after g ≡ civil_year d
  pub in_year : n < cond (leap_after g) 366 365
  pub month_is : count_off (month_length (leap_after g)) 12 0 n ≡ civil_month d

pub before_of : (d : ℤ) (g : YearGroups) (n : ℕ) → grouped d ≡ Some (g, n) → Before d g n
before_of d g n e =
    let r = grouped_into d g n e in
    record {
      inside = r.0;
      range = rw (← r.1) (counts_in_range d r.0);
      year_is = rw (← r.1) (counts_make_year d r.0);
      in_year = rw (← r.1, ← r.2) (day_in_year_lem d r.0);
      month_is = rw (← r.1, ← r.2) (month_in_year d r.0);
    }

pub record Date (d : ℤ) (k : Civil) : Type 0 where
  pub inside : in_calendar d ≡ true
  pub year_is : k.year ≡ civil_year d
  pub month_is : k.month0 ≡ civil_month d

pub date_of : (d : ℤ) (k : Civil) → dated d ≡ Some k → Date d k
date_of d k e =
    let r = dated_on d k e in
    record { inside = r.0; year_is = rw (← r.1); month_is = rw (← r.1) }

-- ---- the counts of a civil date

module _ {d : ℤ} {k : Civil} (e : Date d k) where
  pub counted_inside : (f : ℤ → ℤ) → counted f d ≡ Some (f d)
  counted_inside f = rw e.inside

  plain : k.year -ℤ pos 1970 ≡ year_of d
  unfolding year_of
  plain = ap (λ (z : ℤ). z -ℤ pos 1970) e.year_is

  date_fits : SFits w32 k.year
  date_fits = rw e.year_is (year_fits d e.inside)

  abbrev years : ℤ
  years = to_z w32 (of_z w32 k.year) -ℤ pos 1970

  years_are : years ≡ year_of d
  years_are = rw (back date_fits) plain

  pub years_fit : SFits w32 years
  years_fit = let r = year_of_range d e.inside in rw years_are (omega ints)

  pub year_back : to_z w32 (of_z w32 years) ≡ year_of d
  year_back = back years_fit ∙ years_are

  abbrev months : ℤ
  months = to_z w32 (of_z w32 years) *ℤ pos 12

  pub months_fit : SFits w32 months
  months_fit = let r = year_of_range d e.inside in rw year_back (omega (ints, times (year_of d) 12))

  pub month_fits : SFits w32 (pos k.month0)
  unfolding civil_month
  month_fits = rw e.month_is (omega (ints, month_in_small (shift days_back d)))

  abbrev total : ℤ
  total = to_z w32 (of_z w32 months) +ℤ to_z w32 k.month0

  total_is : total ≡ month_of d
  unfolding month_of
  total_is = rw (back months_fit, year_back, back month_fits, e.month_is)

  pub total_fits : SFits w32 total
  total_fits = let r = month_of_range d e.inside in rw total_is (omega ints)

  pub month_back : to_z w32 (of_z w32 total) ≡ month_of d
  month_back = back total_fits ∙ total_is
