-- What older files ask of a strict answer is what lifting asks of the opposite's inclusive one. Assumes nothing.
use Rattle.std.specs.Prelude.{Bool, true, false, ◌≡◌, refl, ℤ, pos, negsuc}
use Rattle.std.proofs.Common.{ap, ◌∙◌}
use Rattle.expr.specs.laws.HoldsLaws.{opposite, opposite_twice}
use Rattle.expr.specs.Operators.{less_than, less_than_or_eq, greater_than, greater_than_or_eq, eq, not_eq, starts_with, not_starts_with, is_in, not_in}
use Rattle.expr.specs.Predicates.{Test, binary, set}
use Rattle.projection.specs.Lifting.{lift, older, older_if}
use Rattle.projection.specs.laws.LiftingLaws.{lift_if}

pub older_is : (q : Test ℤ) → older q ≡ opposite (lift (opposite q))
older_is (binary less_than t) = refl
older_is (binary less_than_or_eq t) = refl
older_is (binary greater_than (pos n)) = refl
older_is (binary greater_than (negsuc n)) = refl
older_is (binary greater_than_or_eq t) = refl
older_is (binary eq t) = refl
older_is (binary not_eq (pos n)) = refl
older_is (binary not_eq (negsuc n)) = refl
older_is (binary starts_with t) = refl
older_is (binary not_starts_with t) = refl
older_is (set is_in ts) = refl
older_is (set not_in ts) = refl

pub older_if_opposite : (lifts : Bool) (q : Test ℤ) → older_if lifts (opposite q) ≡ opposite (lift_if lifts q)
older_if_opposite true q = older_is (opposite q) ∙ ap (λ x. opposite (lift x)) (opposite_twice q)
older_if_opposite false q = refl
