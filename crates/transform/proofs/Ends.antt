-- The two tests of a day of 32 bits that `calendar::Days::year_groups` makes are those of the calendar's ends. Assumes nothing.
use mathlib.Core.Path.{◌≡◌}
use mathlib.Core.Bool.{true, false}
use lib.IntN.{ℤ}
use lib.Signed.{lt_z}
use mir.Syntax.{w32}
use mir.Val.{SFits, to_z, of_z}
use Rattle.values.specs.laws.SignedLaws.{lit, lt_taken, lt_left}
use Rattle.transform.specs.Calendar.{first_calendar_day, last_calendar_day, in_calendar}
use Rattle.transform.specs.laws.CalendarLaws.{calendar_within, calendar_before, calendar_after}

module _ {d : ℤ} (f : SFits w32 d) where
  pub ends_before : lt_z (to_z w32 (of_z w32 d)) first_calendar_day ≡ true → in_calendar d ≡ false
  ends_before e = calendar_before d (lt_taken f (lit first_calendar_day tt) e)

  pub ends_after : lt_z last_calendar_day (to_z w32 (of_z w32 d)) ≡ true → in_calendar d ≡ false
  ends_after e = calendar_after d (lt_taken (lit last_calendar_day tt) f e)

  pub ends_within : lt_z (to_z w32 (of_z w32 d)) first_calendar_day ≡ false → lt_z last_calendar_day (to_z w32 (of_z w32 d)) ≡ false → in_calendar d ≡ true
  ends_within e g = calendar_within d (lt_left f (lit first_calendar_day tt) e) (lt_left (lit last_calendar_day tt) f g)
