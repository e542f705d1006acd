-- The laws of Iceberg's Year and Month: both are monotone in the day, lie in known ranges, and change at the first day of each year and month.
-- Assumes nothing.
use Rattle.std.specs.Prelude.{ℕ, suc, ◌+◌, ◌-◌, ◌*◌, ◌≤◌, ◌≡◌, ◌↔◌, true, false, ℤ, pos, negsuc, neg_ℤ, ◌+ℤ◌, ◌-ℤ◌, ◌*ℤ◌, ◌≤ℤ◌, ◌<ℤ◌}
use Rattle.std.proofs.Common.{ap, ⊎_elim}
use Rattle.std.proofs.Math.Bool.{and-eq-true_iff, and-false}
use Rattle.std.specs.Int.Signed.{le_z}
use Rattle.values.specs.laws.IntLaws.{ints, up, dn, plus, minus, times, le_true, le_z_yes, le_z_not, le_or_lt}
use Rattle.transform.specs.Count.{before, count_off}
use Rattle.transform.specs.laws.CountLaws.{Lies, lies_only}
use Rattle.transform.specs.Gregorian.{leap, year_length, month_length, length_of_month, first_day, cycle_year, cycle_day, year_at, month_in, month_at}
use Rattle.transform.specs.laws.GregorianLaws.{first_day_cycles, year_lies, year_mono, month_lies, month_mono}
use Rattle.transform.specs.Calendar.{first_calendar_day, last_calendar_day, in_calendar, years_back, days_back, shift, civil_year, civil_month, year_of, month_of}
use Rattle.transform.specs.Calendar.{years_to1970, first_day_of_year, first_day_of_month, YearMeans, MonthMeans}

-- ---- the calendar's days

module _ (d : ℤ) where
  pub calendar_spans : in_calendar d ≡ true → (first_calendar_day ≤ℤ d) × (d ≤ℤ last_calendar_day)
  unfolding in_calendar
  calendar_spans h =
      let b = (and-eq-true_iff (le_z first_calendar_day d) (le_z d last_calendar_day)).0 h in
      (le_true first_calendar_day d b.0, le_true d last_calendar_day b.1)

  pub calendar_within : first_calendar_day ≤ℤ d → d ≤ℤ last_calendar_day → in_calendar d ≡ true
  unfolding in_calendar
  calendar_within h k = rw (le_z_yes h, le_z_yes k)

  pub calendar_before : d <ℤ first_calendar_day → in_calendar d ≡ false
  unfolding in_calendar
  calendar_before h = rw (le_z_not h)

  pub calendar_after : last_calendar_day <ℤ d → in_calendar d ≡ false
  unfolding in_calendar
  calendar_after h = rw (le_z_not h) (and-false (le_z first_calendar_day d))

pub shift_is : (k : ℕ) (z : ℤ) → shift k z ≡ (k + up z) - dn z
unfolding shift
shift_is k (pos n) = omega ints
shift_is k (negsuc n) = omega ints

pub shift_mono : (k : ℕ) {d e : ℤ} → d ≤ℤ e → shift k d ≤ shift k e
shift_mono k {d} {e} h = omega (ints, shift_is k d, shift_is k e)

pub day_is : (d : ℤ) → in_calendar d ≡ true → up d + days_back ≡ shift days_back d + dn d
day_is d h = let s = (calendar_spans d h).0 in omega (ints, shift_is days_back d)

-- ---- both counts are those of `Gregorian`, less those before 1970

pub year_of_is : (d : ℤ) → year_of d ≡ pos (year_at (shift days_back d)) -ℤ pos years_to1970
unfolding year_of civil_year
year_of_is d =
    let y = pos (year_at (shift days_back d)) in
    omega (ints, minus y (pos years_back), minus (y -ℤ pos years_back) (pos 1970), minus y (pos years_to1970))

pub month_of_is : (d : ℤ) → month_of d ≡ pos (month_at (shift days_back d)) -ℤ pos (12 * years_to1970)
unfolding month_of month_at civil_month
month_of_is d =
    let n = shift days_back d in
    omega (
      ints,
      year_of_is d,
      minus (pos (year_at n)) (pos years_to1970),
      times (year_of d) 12,
      plus (year_of d *ℤ pos 12) (pos (month_in n)),
      minus (pos (12 * year_at n + month_in n)) (pos (12 * years_to1970)),
    )

less_mono : (back : ℕ) {m n : ℕ} → m ≤ n → (pos m -ℤ pos back) ≤ℤ (pos n -ℤ pos back)
less_mono back {m} {n} h = omega (ints, minus (pos m) (pos back), minus (pos n) (pos back))

pub year_of_mono : (d e : ℤ) → d ≤ℤ e → year_of d ≤ℤ year_of e
year_of_mono d e h = rw (year_of_is d, year_of_is e) (less_mono years_to1970 (year_mono _ _ (shift_mono days_back h)))

pub month_of_mono : (d e : ℤ) → d ≤ℤ e → month_of d ≤ℤ month_of e
month_of_mono d e h = rw (month_of_is d, month_of_is e) (less_mono (12 * years_to1970) (month_mono _ _ (shift_mono days_back h)))

-- ---- ranges: those of the calendar's first and last day

between : (f : ℤ → ℤ) → ((d e : ℤ) → d ≤ℤ e → f d ≤ℤ f e)
    → (d : ℤ) → in_calendar d ≡ true → (f first_calendar_day ≤ℤ f d) × (f d ≤ℤ f last_calendar_day)
between f mono d h = (mono first_calendar_day d (calendar_spans d h).0, mono d last_calendar_day (calendar_spans d h).1)

pub year_of_range : (d : ℤ) → in_calendar d ≡ true → (neg_ℤ (pos 264113) ≤ℤ year_of d) × (year_of d ≤ℤ pos 260172)
unfolding year_of civil_year shift year_at cycle_year count_off before year_length leap
year_of_range d h = between year_of year_of_mono d h

pub month_of_range : (d : ℤ) → in_calendar d ≡ true → (neg_ℤ (pos 3169356) ≤ℤ month_of d) × (month_of d ≤ℤ pos 3122075)
unfolding month_of year_of civil_month civil_year shift year_at month_in cycle_year cycle_day count_off before year_length month_length leap
month_of_range d h = between month_of month_of_mono d h

-- ---- first days: 1970-01-01 is the first of year 1970, the calendar's first day is that of year -262143, and the day after its last that of 262143

first_after : (q y : ℕ) → pos (first_day (400 * q + y)) -ℤ pos days_back ≡ pos (146097 * q + first_day y) -ℤ pos days_back
first_after q y = ap (λ (n : ℕ). pos n -ℤ pos days_back) (first_day_cycles q y)

pub epoch : first_day_of_year (pos 1970 -ℤ pos 1970) ≡ pos 0
unfolding first_day_of_year shift before year_length leap
epoch = first_after 660 370

pub calendar_first : first_day_of_year (neg_ℤ (pos 262143) -ℤ pos 1970) ≡ first_calendar_day
unfolding first_day_of_year shift before year_length leap
calendar_first = first_after 0 257

pub calendar_end : first_day_of_year (pos 262143 -ℤ pos 1970) ≡ last_calendar_day +ℤ pos 1
unfolding first_day_of_year shift before year_length leap
calendar_end = first_after 1311 143

-- a day of the calendar lies in part z, counted from 1970, exactly from its first day up to the next part's
module _ (len : ℕ → ℕ) (back at : ℕ) (d z : ℤ) (h : in_calendar d ≡ true) (p : Lies len (shift days_back d) at) where
  abbrev first : ℤ → ℤ
  first z = pos (before len (shift back z)) -ℤ pos days_back

  starts : pos at -ℤ pos back ≡ z → (first z ≤ℤ d) × (d <ℤ first (z +ℤ pos 1))
  starts e =
      let a : shift back z ≡ at = omega (ints, shift_is back z, minus (pos at) (pos back)) in
      let b : shift back (z +ℤ pos 1) ≡ suc at = omega (ints, shift_is back (z +ℤ pos 1), plus z (pos 1), minus (pos at) (pos back)) in
      rw (a, b) (
        omega (ints, day_is d h, p.from, minus (pos (before len at)) (pos days_back)),
        omega (ints, day_is d h, p.until, minus (pos (before len (suc at))) (pos days_back)),
      )

  ends : first z ≤ℤ d → d <ℤ first (z +ℤ pos 1) → pos at -ℤ pos back ≡ z
  ends l u = ⊎_elim since unmet (le_or_lt (pos (dn z)) (pos (back + up z)))
    where
      since : pos (dn z) ≤ℤ pos (back + up z) → pos at -ℤ pos back ≡ z
      since g =
          let b : shift back (z +ℤ pos 1) ≡ suc (shift back z) = omega (ints, shift_is back (z +ℤ pos 1), shift_is back z, plus z (pos 1)) in
          let q : Lies len (shift days_back d) (shift back z) =
          record {
            from = omega (ints, day_is d h, minus (pos (before len (shift back z))) (pos days_back));
            until = omega (ints, day_is d h, ap (before len) b, minus (pos (before len (shift back (z +ℤ pos 1)))) (pos days_back));
          } in
          omega (ints, shift_is back z, lies_only len p q, minus (pos at) (pos back))

      unmet : pos (back + up z) <ℤ pos (dn z) → pos at -ℤ pos back ≡ z
      unmet g =
          let b : shift back (z +ℤ pos 1) ≡ shift back z = omega (ints, shift_is back (z +ℤ pos 1), shift_is back z, plus z (pos 1)) in
          let r = rw b at u in
          absurd (omega ints)

  exactly : (pos at -ℤ pos back ≡ z) ↔ ((first z ≤ℤ d) × (d <ℤ first (z +ℤ pos 1)))
  exactly = (starts, λ r. ends r.0 r.1)

pub year_means : YearMeans
unfolding first_day_of_year
year_means d y h = rw (year_of_is d) (exactly year_length years_to1970 _ d y h (year_lies _))

pub month_means : MonthMeans
unfolding first_day_of_month
month_means d m h = rw (month_of_is d) (exactly length_of_month (12 * years_to1970) _ d m h (month_lies _))
