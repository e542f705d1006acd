-- What a projection that returns a predicate has done: under Identity it is the leaf, and under the other transforms the step's. Assumes nothing.
use Rattle.std.specs.Prelude.{Bool, true, false, ◌≡◌, refl, Ok}
use Rattle.std.proofs.Common.{sym}
use Rattle.values.specs.Outcomes.{Res, Row, missing, present}
use Rattle.values.specs.laws.OutcomeLaws.{ok_inj, present_inj, ok_not_err, missing_not_present}
use Rattle.std.specs.declared.cmp.Ordering.{Ordering}
use Rattle.std.specs.declared.cmp.Ordering.TheVariants.{Equal}
use Rattle.values.specs.declared.transform.Transform.{Transform}
use Rattle.values.specs.declared.transform.Transform.TheVariants.{Identity, Truncate, Year, Month, Day, Hour, Void, Unknown}
use Rattle.partition.specs.Partition.{known}
use Rattle.expr.specs.Holds.{Tests, holds}
use Rattle.expr.specs.laws.HoldsLaws.{meets_ascending}
use Rattle.expr.specs.Predicates.{Test, binary, set, Predicate, unary, test}
use Rattle.projection.specs.Projection.{in_order, through, by_transform}
use Rattle.projection.specs.Steps.{Projected, some}

-- the leaf with its literals in order holds where the leaf does
pub in_order_holds : {A : Type 0} (by : Tests A) → ((a b : A) → by.compare a b ≡ Equal → a ≡ b) → (leaf : Predicate A) (r : Row A)
    → holds by (in_order by.compare leaf) r ≡ holds by leaf r
in_order_holds by equal (unary o) r = refl
in_order_holds by equal (test (binary o l)) r = refl
in_order_holds by equal (test (set o ls)) missing = refl
in_order_holds by equal (test (set o ls)) (present v) = meets_ascending by equal o ls v

-- the transforms whose projections go by steps
abbrev pub by_steps : Transform → Bool
by_steps Identity = false
by_steps (Truncate width) = true
by_steps Year = true
by_steps Month = true
by_steps Day = true
by_steps Hour = true
by_steps Void = false
by_steps Unknown = false

module _ {A : Type 0} (compare : A → A → Ordering) (step : Test A → Res (Projected (Test A))) where
  pub data Course (transform : Transform) (leaf q : Predicate A) : Type 0 where
    leaf_itself : transform ≡ Identity → q ≡ in_order compare leaf → Course transform leaf q
    stepped : by_steps transform ≡ true → through step leaf ≡ Ok (some q) → Course transform leaf q

  pub course : (transform : Transform) (leaf q : Predicate A) → by_transform compare step transform leaf ≡ Ok (some q)
      → (known transform ≡ true) × Course transform leaf q
  course Identity leaf q e = (refl, leaf_itself refl (present_inj (ok_inj (sym e))))
  course (Truncate width) leaf q e = (refl, stepped refl e)
  course Year leaf q e = (refl, stepped refl e)
  course Month leaf q e = (refl, stepped refl e)
  course Day leaf q e = (refl, stepped refl e)
  course Hour leaf q e = (refl, stepped refl e)
  course Void leaf q e = missing_not_present (ok_inj e)
  course Unknown leaf q e = ok_not_err e
