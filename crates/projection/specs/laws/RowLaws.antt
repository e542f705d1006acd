-- Rows and their partition values: both are missing or both present. Assumes nothing.
use Rattle.std.specs.Prelude.{◌↔◌, ◌≡◌, refl, Ok, Err}
use Rattle.std.proofs.Common.{ap}
use Rattle.values.specs.Outcomes.{Res, ◌>>=◌, Row, missing, present}
use Rattle.values.specs.laws.OutcomeLaws.{ok_inj, ok_not_err, missing_not_present}
use Rattle.partition.specs.Partition.{of_row}
use Rattle.expr.specs.Holds.{Tests, holds}
use Rattle.expr.specs.Operators.{Unary}
use Rattle.expr.specs.Predicates.{unary}
use Rattle.projection.specs.Steps.{value_in, literal_under}

value_in_lem : {B : Type 0} (r : Res (Row B)) {p : B} → (r >>= value_in) ≡ Ok p → r ≡ Ok (present p)
value_in_lem (Ok missing) e = ok_not_err e
value_in_lem (Ok (present t)) e = ap (λ z. Ok (present z)) (ok_inj e)
value_in_lem (Err x) e = ok_not_err e

module _ {A B : Type 0} (value : A → Res (Row B)) where
  -- T(L) is the partition value of a row that has L
  pub literal_value : (v : A) (p : B) → (literal_under value v ≡ Ok p) ↔ (value v ≡ Ok (present p))
  literal_value v p = (λ e. value_in_lem (value v) e, λ e. ap (λ r. r >>= value_in) e)

  -- where each present value has a present one, or none
  module _ (never : (v : A) → value v ≡ Ok missing → ⊥) where
    pub missing_row : (r : Row A) → of_row value r ≡ Ok missing → r ≡ missing
    missing_row missing e = refl
    missing_row (present v) e = absurd (never v e)

    pub present_row : (r : Row A) {p : B} → of_row value r ≡ Ok (present p) → (v : A) × (r ≡ present v) × (value v ≡ Ok (present p))
    present_row missing e = missing_not_present (ok_inj e)
    present_row (present v) e = (v, refl, e)

    -- 101 to 104 ask only whether a value is missing
    pub unary_row : (rows : Tests A) (parts : Tests B) (o : Unary) (r : Row A) (p : Row B) → of_row value r ≡ Ok p
        → holds rows (unary o) r ≡ holds parts (unary o) p
    unary_row rows parts o missing missing e = refl
    unary_row rows parts o missing (present p) e = missing_not_present (ok_inj e)
    unary_row rows parts o (present v) missing e = absurd (never v e)
    unary_row rows parts o (present v) (present p) e = refl

-- where each value is its own partition value, so is each row
pub same_row : {A : Type 0} (value : A → Res (Row A)) → ((v : A) (p : Row A) → value v ≡ Ok p → present v ≡ p) → (r p : Row A)
    → of_row value r ≡ Ok p → r ≡ p
same_row value same missing p e = ok_inj e
same_row value same (present v) p e = same v p e
