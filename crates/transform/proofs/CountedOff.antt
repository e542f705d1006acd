-- The counts that the code's steps give are those of the day's year. Assumes nothing.
use Rattle.std.specs.Prelude.{Some}
use Prim.Native.Nat.{ℕ, ◌+◌, ◌-◌, ◌*◌, ◌/◌, ◌%◌, ◌≤◌, ◌<◌, min}
use mathlib.Core.Path.{◌≡◌, sym, ap, ◌∙◌}
use mathlib.Core.Bool.{true}
use native.Mathlib.Omega.{arith}
use lib.IntN.{ℤ, pos, neg_ℤ, ◌+ℤ◌, ◌-ℤ◌}
use lib.Signed.{◌≤ℤ◌}
use mir.Syntax.{w32}
use mir.Val.{SFits}
use Rattle.values.specs.laws.IntLaws.{up, dn, ints, plus, minus}
use Rattle.transform.specs.Floor.{floor_div, floor_mod}
use Rattle.transform.specs.laws.FloorLaws.{rem_lt, floor_lin, floor_fits}
use Rattle.transform.specs.Gregorian.{leap, first_day, year_at}
use Rattle.transform.specs.laws.GregorianLaws.{leap_cycles, cycle_day_is}
use Rattle.transform.specs.Calendar.{in_calendar, days_back, years_back, shift, civil_year}
use Rattle.transform.specs.laws.CalendarLaws.{calendar_spans, shift_is, day_is}
use Rattle.transform.specs.YearGroups.{day_in_year, year_from, InRange, groups_of, grouped}
use Rattle.transform.specs.laws.YearGroupLaws.{year_lin, counts_only}
use Rattle.transform.specs.code.TransformAnswers.{leap_after}
use Rattle.transform.specs.declared.calendar.YearGroups.{YearGroups}
use Rattle.transform.proofs.Groups.{year_past, day_past, begins, lies}

-- ---- day r of 400 years

module _ (r : ℕ) where
  abbrev n100 : ℕ
  n100 = min (r / 36524) 3

  abbrev in_100 : ℕ
  in_100 = r - n100 * 36524

  abbrev n4 : ℕ
  n4 = in_100 / 1461

  abbrev in_4 : ℕ
  in_4 = in_100 % 1461

  abbrev n1 : ℕ
  n1 = min (in_4 / 365) 3

  abbrev in_1 : ℕ
  in_1 = in_4 - n1 * 365

-- what is left each time: only the fourth group of 100 and the fourth year may have a day more
module _ (r : ℕ) (h : r < 146097) where
  n100_counted : n100 r * 36524 ≤ r
  n100_counted = omega arith

  n100_small : n100 r ≤ 3
  n100_small = omega arith

  in_100_small : in_100 r < 36524 + n100 r / 3
  in_100_small = omega arith

  n1_counted : n1 r * 365 ≤ in_4 r
  n1_counted = omega arith

  in_1_small : in_1 r < 365 + n1 r / 3
  in_1_small = omega arith

  range : InRange (n100 r) (n4 r) (n1 r)
  range = (n100_small, omega (arith, in_100_small, n100_small), omega arith)

  module _ (a : ℕ) where
    abbrev own : ℕ
    own = year_past a (n100 r) (n4 r) (n1 r)

    all : day_past a (n100 r) (n4 r) (n1 r) + in_1 r ≡ 366 + 146097 * a + r
    all = omega (arith, n100_counted, n1_counted)

    found : year_at (366 + 146097 * a + r) ≡ own
    found = rw all at (lies (n100 r) (n4 r) (n1 r) range a (in_1 r) in_1_small (omega (arith, in_100_small, n1_counted)))

    left : 366 + 146097 * a + r - first_day own ≡ in_1 r
    left = omega (arith, all, begins (n100 r) (n4 r) (n1 r) range a)

-- ---- a day of the calendar: 719162 days lie between 1 January of year 1 and 1 January 1970, and `Calendar` counts from 656 groups of 400 before year 0

year_signed : (a : ℤ) (b c e : ℕ) → neg_ℤ (pos 656) ≤ℤ a → pos (year_past (shift 656 a) b c e) -ℤ pos years_back ≡ year_from a b c e
year_signed a b c e h =
    omega (ints, shift_is 656 a, minus (pos (year_past (shift 656 a) b c e)) (pos years_back), year_lin a b c e)

module _ (d : ℤ) where
  abbrev pub days : ℤ
  days = d +ℤ pos 719162

  abbrev pub n400 : ℤ
  n400 = floor_div days 146097

  abbrev pub in_400 : ℕ
  in_400 = floor_mod days 146097

  days_are : up days + dn d ≡ dn days + (up d + 719162)
  days_are = omega (ints, plus d (pos 719162))

  pub in_400_small : in_400 < 146097
  in_400_small = rem_lt 146097 (omega arith) days

  n400_lin : up days + dn n400 * 146097 ≡ dn days + (up n400 * 146097 + in_400)
  n400_lin = floor_lin 146097 (omega arith) days

  abbrev groups : YearGroups
  groups = record { n400 = n400; n100 = n100 in_400; n4 = n4 in_400; n1 = n1 in_400 }

  range_is : InRange groups.n100 groups.n4 groups.n1
  range_is = range in_400 in_400_small

  module _ (h : in_calendar d ≡ true) where
    pub n400_fits : SFits w32 n400
    n400_fits = let s = calendar_spans d h in floor_fits 146097 (omega (ints, s.0, s.1, plus d (pos 719162)))

    n400_small : neg_ℤ (pos 656) ≤ℤ n400
    n400_small = let s = (calendar_spans d h).0 in omega (ints, days_are, in_400_small, n400_lin)

    index_is : shift days_back d ≡ 366 + 146097 * shift 656 n400 + in_400
    index_is = omega (ints, days_are, n400_small, n400_lin, day_is d h, shift_is 656 n400)

    own_is : year_at (shift days_back d) ≡ own in_400 in_400_small (shift 656 n400)
    own_is = rw index_is (found in_400 in_400_small (shift 656 n400))

    year_made : year_from n400 groups.n100 groups.n4 groups.n1 ≡ civil_year d
    unfolding civil_year
    year_made = rw own_is (sym (year_signed n400 groups.n100 groups.n4 groups.n1 n400_small))

    groups_are : groups ≡ groups_of d
    groups_are =
        let only = counts_only d n400 groups.n100 groups.n4 groups.n1 range_is year_made in
        rw (← only.0, ← only.1, ← only.2, ← only.3)

    day_left : day_in_year d ≡ in_1 in_400
    unfolding day_in_year
    day_left = rw (cycle_day_is (shift days_back d), own_is, index_is) (left in_400 in_400_small (shift 656 n400))

    pub counted_off : Some (groups, in_1 in_400) ≡ grouped d
    counted_off = rw (h, ← groups_are, day_left)

    pub leap_is : leap_after (groups_of d) ≡ leap (year_at (shift days_back d))
    leap_is = ap leap_after (sym groups_are) ∙ sym (leap_cycles (shift 656 n400) _) ∙ sym (ap leap own_is)
