-- The month of a day of a year is found by a division: with a February of 30 days, month m of any year would begin at day (367 m + 5) / 12. Shown
-- for every day of both years, by tables that the prover computes. Assumes nothing.
use Prim.Native.Nat.{ℕ, ◌+◌, ◌-◌, ◌*◌, ◌/◌, ◌≤◌, ◌<◌}
use mathlib.Core.Path.{◌≡◌}
use mathlib.Core.Bool.{Bool, true, false, cond}
use native.Mathlib.Omega.{arith}
use lib.Dec.{T, eqb, ltb, eqb→eq}
use borrow.Author.Tests.{lt-ltb, le-ltb}
use Rattle.transform.specs.Count.{count_off}
use Rattle.transform.specs.Gregorian.{month_length}
use Rattle.transform.proofs.Tables.{every, every_at}

abbrev by_division : ℕ → ℕ → ℕ
by_division length day = cond (ltb day (length - 306)) ((12 * day + 6) / 367) ((12 * (day + 367 - length) + 6) / 367)

divided : Bool → ℕ → Bool
divided l day = eqb (by_division (cond l 366 365) day) (count_off (month_length l) 12 0 day)

divided_year : (l : Bool) → T (every (divided l) (cond l 366 365))
unfolding divided count_off month_length
divided_year true = tt
divided_year false = tt

by_division_lem : (l : Bool) (day : ℕ) → day < cond l 366 365 → by_division (cond l 366 365) day ≡ count_off (month_length l) 12 0 day
unfolding divided
by_division_lem l day h = eqb→eq _ _ (every_at (divided l) (cond l 366 365) (divided_year l) day h)

pub least : (l : Bool) → 365 ≤ cond l 366 365
least true = omega arith
least false = omega arith

module _ (l : Bool) (day length : ℕ) (p : length ≡ cond l 366 365) (h : day < cond l 366 365) where
  month_is : by_division length day ≡ count_off (month_length l) 12 0 day
  month_is = rw p (by_division_lem l day h)

  pub month_early : day < length - 306 → (12 * day + 6) / 367 ≡ count_off (month_length l) 12 0 day
  month_early k = rw (lt-ltb _ _ k) at month_is

  pub month_late : length - 306 ≤ day → (12 * (day + 367 - length) + 6) / 367 ≡ count_off (month_length l) 12 0 day
  month_late k = rw (le-ltb _ _ k) at month_is
