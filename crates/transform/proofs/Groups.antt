-- The year after groups of years, by `Gregorian`'s count of years: here year 0 is one that 400 divides, and year 1 begins with day 366.
-- Assumes nothing.
use Prim.Native.Nat.{ℕ, suc, ◌+◌, ◌*◌, ◌/◌, ◌%◌, ◌≤◌, ◌<◌}
use mathlib.Core.Path.{◌≡◌}
use mathlib.Core.Logic.{⊎_elim}
use mathlib.Core.Bool.{Bool, true, cond, not, ◌&&◌, ◌||◌, or-true}
use native.Mathlib.Omega.{arith}
use native.Mathlib.Nat.{eq-or-lt_of_le}
use lib.Dec.{T, eqb, eqb→eq}
use borrow.Author.Tests.{ne_eqb}
use Rattle.transform.specs.Count.{before}
use Rattle.transform.specs.laws.CountLaws.{before_suc}
use Rattle.transform.specs.Gregorian.{leap, year_length, first_day, year_at}
use Rattle.transform.specs.laws.GregorianLaws.{leap_cycles, first_day_cycles, year_length_is, year_only}
use Rattle.transform.specs.YearGroups.{InRange}
use Rattle.transform.proofs.Tables.{every, every_at, agree, agreed}
use Rattle.transform.proofs.Months.{least}

-- the year after a groups of 400 years, b of 100, c of 4 and e of 1, and its first day
abbrev pub year_past : ℕ → ℕ → ℕ → ℕ → ℕ
year_past a b c e = 400 * a + suc (b * 100 + c * 4 + e)

abbrev pub day_past : ℕ → ℕ → ℕ → ℕ → ℕ
day_past a b c e = 366 + 146097 * a + 36524 * b + 1461 * c + 365 * e

-- the code's test for a leap year: the last of 4 years, but not of 100, unless of 400
abbrev pub leap_past : ℕ → ℕ → ℕ → Bool
leap_past b c e = eqb e 3 && (not (eqb c 24) || eqb b 3)

-- the first day and the leap rule, after each number of years below 400: tables that the prover computes
begun : ℕ → Bool
begun y = eqb (first_day (suc y)) (day_past 0 (y / 100) (y % 100 / 4) (y % 4))

begun_cycle : T (every begun 400)
unfolding begun before year_length leap
begun_cycle = tt

leaped : ℕ → Bool
leaped y = agree (leap_past (y / 100) (y % 100 / 4) (y % 4)) (leap (suc y))

leaped_cycle : T (every leaped 400)
unfolding leaped leap
leaped_cycle = tt

module _ (b c e : ℕ) (range : InRange b c e) where
  abbrev y : ℕ
  y = b * 100 + c * 4 + e

  y_small : y < 400
  y_small = omega arith

  digits : (y / 100 ≡ b) × (y % 100 / 4 ≡ c) × (y % 4 ≡ e)
  digits = (omega arith, omega arith, omega arith)

  begins_cycle : first_day (suc y) ≡ day_past 0 b c e
  unfolding begun
  begins_cycle =
      let f : first_day (suc y) ≡ day_past 0 (y / 100) (y % 100 / 4) (y % 4) = eqb→eq _ _ (every_at begun 400 begun_cycle y y_small) in
      rw (digits.0, digits.1, digits.2) at f

  pub leaps : leap_past b c e ≡ leap (suc y)
  unfolding leaped
  leaps =
      let f : leap_past (y / 100) (y % 100 / 4) (y % 4) ≡ leap (suc y) = agreed _ _ (every_at leaped 400 leaped_cycle y y_small) in
      rw (digits.0, digits.1, digits.2) at f

  -- and so after any groups of 400
  module _ (a : ℕ) where
    abbrev after : ℕ
    after = year_past a b c e

    pub begins : first_day after ≡ day_past a b c e
    begins = rw (first_day_cycles a (suc y), begins_cycle) (omega arith)

    length_is : year_length after ≡ cond (leap_past b c e) 366 365
    length_is = rw (leaps, ← leap_cycles a (suc y)) (year_length_is after)

    -- day u of the year lies in it: u is 365 in the fourth year alone, and at the end of 100 years in the fourth group alone
    module _ (u : ℕ) (hu : u < 365 + e / 3) (hs : 1461 * c + 365 * e + u < 36524 + b / 3) where
      full : u ≡ 365 → leap_past b c e ≡ true
      full h =
          let fourth : e ≡ 3 = omega arith in
          ⊎_elim (λ k. let last : b ≡ 3 = omega arith in rw (fourth, last) (or-true (not (eqb c 24))))
          (λ k. rw (fourth, ne_eqb c 24 (λ q. omega arith)))
          (eq-or-lt_of_le range.1)

      in_year : u < cond (leap_past b c e) 366 365
      in_year =
          let small : u ≤ 365 = omega arith in
          ⊎_elim (λ h. rw (full h) (omega arith)) (λ h. omega (arith, least (leap_past b c e))) (eq-or-lt_of_le small)

      pub lies : year_at (day_past a b c e + u) ≡ after
      lies =
          year_only _ _ (
          record {
            from = omega (arith, begins);
            until = omega (arith, begins, in_year, before_suc year_length after, length_is);
          }
          )
