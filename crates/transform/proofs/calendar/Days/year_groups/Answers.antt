-- `calendar::Days::year_groups` meets its contract: its two tests are those of the calendar's ends, and its steps are those of `CountedOff`. Assumes nothing.
use borrow.Author.Rules.{rules}
use mathlib.Core.Path.{◌≡◌, ap, ◌∙◌}
use mathlib.Core.Bool.{true}
use lib.IntN.{ℤ, pos, ◌+ℤ◌}
use mir.Syntax.{w32, w64}
use mir.Val.{SFits, to_z, of_z}
use Rattle.std.specs.Int.{int_div_euclid, int_rem_euclid}
use Rattle.values.specs.laws.IntLaws.{ints, plus}
use Rattle.values.specs.laws.SignedLaws.{back, ok}
use Rattle.transform.specs.laws.FloorLaws.{euclid_quotient, euclid_rest}
use Rattle.transform.specs.Calendar.{in_calendar}
use Rattle.transform.proofs.CountedOff.{days, n400, in_400, n400_fits, in_400_small, counted_off}
use Rattle.transform.proofs.Ends.{ends_within}
use Rattle.transform.proofs.calendar.Days.year_groups.Goals as goal
use Rattle.transform.proofs.calendar.Days.year_groups.Goals.{After-div_euclid-n400, After-rem_euclid-in_400}

-- what the division gave
module _ (c : After-div_euclid-n400) where
  abbrev d : ℤ
  d = c.args.self.0

  fit : SFits w32 d
  fit = search rules

  within : in_calendar d ≡ true
  within = search (rules, ends_within)

  sum_is : to_z w64 (of_z w64 c.from-days.result) +ℤ pos 719162 ≡ days d
  sum_is =
      ap (λ (z : ℤ). z +ℤ pos 719162)
      (back {w = w64} (ok c.from-days.result c.from-days.type_inv) ∙ c.from-days.ensures ∙ back fit)

  sum_back : to_z w64 (of_z w64 (to_z w64 (of_z w64 c.from-days.result) +ℤ pos 719162)) ≡ days d
  sum_back = let f : SFits w64 (days d) = omega (ints, fit, plus d (pos 719162)) in rw (sum_is, back f)

  n400_is : to_z w64 (of_z w64 c.div_euclid-n400.result) ≡ n400 d
  n400_is =
      back {w = w64} (ok c.div_euclid-n400.result c.div_euclid-n400.type_inv)
      ∙ c.div_euclid-n400.ensures
      ∙ ap (λ (z : ℤ). int_div_euclid z (pos 146097)) sum_back
      ∙ euclid_quotient (days d) 146097

-- and what it left
in_400_is : (c : After-rem_euclid-in_400) → to_z w64 (of_z w64 c.rem_euclid-in_400.result) ≡ pos (in_400 c.args.self.0)
in_400_is c =
    back {w = w64} (ok c.rem_euclid-in_400.result c.rem_euclid-in_400.type_inv)
    ∙ c.rem_euclid-in_400.ensures.value
    ∙ ap (λ (z : ℤ). int_rem_euclid z (pos 146097)) (sum_back (goal.at.overflow_cast-in_400 c).After-div_euclid-n400)
    ∙ euclid_rest (days c.args.self.0) 146097

pub overflow_cast-n400 : goal.overflow_cast-n400
overflow_cast-n400 c = rw (n400_is c) (n400_fits (d c) (within c))

pub overflow_cast-in_400 : goal.overflow_cast-in_400
overflow_cast-in_400 c = rw (in_400_is c) (tt, record { fits = omega (ints, in_400_small c.args.self.0) })

pub returns : goal.returns
returns c =
    let p = (goal.at.returns c).After-div_euclid-n400 in
    let q = (goal.at.returns c).After-rem_euclid-in_400 in
    rw (c.min-n1.ensures, c.min-n100.ensures, in_400_is q, n400_is p, back (n400_fits (d p) (within p)))
    (counted_off (d p) (within p))
