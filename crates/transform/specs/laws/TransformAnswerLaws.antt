-- What an answer about a day says of it: whether it lies in the calendar, and what is told of it there. Assumes nothing.
use Rattle.std.specs.Prelude.{ℕ, ◌≡◌, refl, Bool, true, false, cond, Some, None, ℤ}
use Rattle.std.proofs.Common.{ap}
use Rattle.transform.specs.Calendar.{in_calendar}
use Rattle.transform.specs.YearGroups.{day_in_year, groups_of, grouped}
use Rattle.transform.specs.code.TransformAnswers.{civil_of, dated}
use Rattle.transform.specs.declared.calendar.Civil.{Civil}
use Rattle.transform.specs.declared.calendar.YearGroups.{YearGroups}

picked : {A : Type 0} (b : Bool) {x y : A} → cond b (Some x) None ≡ Some y → (b ≡ true) × (x ≡ y)
picked true e = (refl, cc)
picked false e = cc

passed_over : {A : Type 0} (b : Bool) (x : A) → cond b (Some x) None ≡ None → b ≡ false
passed_over true x e = cc
passed_over false x e = refl

module _ (d : ℤ) where
  pub dated_on : (k : Civil) → dated d ≡ Some k → (in_calendar d ≡ true) × (civil_of d ≡ k)
  dated_on k e = picked (in_calendar d) e

  pub dated_outside : dated d ≡ None → in_calendar d ≡ false
  dated_outside e = passed_over (in_calendar d) _ e

  pub grouped_into : (g : YearGroups) (n : ℕ) → grouped d ≡ Some (g, n) → (in_calendar d ≡ true) × (groups_of d ≡ g) × (day_in_year d ≡ n)
  grouped_into g n e =
      let r = picked (in_calendar d) e in
      (r.0, ap (λ (p : YearGroups × ℕ). p.0) r.1, ap (λ (p : YearGroups × ℕ). p.1) r.1)

  pub grouped_outside : grouped d ≡ None → in_calendar d ≡ false
  grouped_outside e = passed_over (in_calendar d) _ e
