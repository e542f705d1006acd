-- The holds-test gives only the answers that document 01 names. Assumes nothing.
use Rattle.std.specs.Prelude.{ℕ, Bool, true, false, List, ◌⊎◌, ◌≡◌, refl, Ok, Err}
use Rattle.std.proofs.Common.{inl, inr, ap}
use Rattle.values.specs.Outcomes.{Res, error_number}
use Rattle.values.specs.Types.{layout}
use Rattle.values.specs.declared.error.ErrorKind.{ErrorKind}
use Rattle.expr.specs.Operators.{by_arity, holds_limit}
use Rattle.expr.specs.Predicates.{operator_in, literals_in}
use Rattle.sheet.specs.Records.{value}
use Rattle.sheet.specs.laws.RefusalLaws.{Only, only_bind, malformed, value_only, sheet_only}
use Rattle.sheet.specs.Sheets.{sheet}
use Rattle.meets.specs.laws.HeldLaws.{tested_held, held_only}
use Rattle.meets.specs.laws.TestedLaws.{Refusal}
use Rattle.meets.specs.Tested.{tested_sheet, held_number}
use Rattle.api.specs.HoldsTest.{holds_test}

test_only : (s v : List ℕ) → Only Refusal (holds_test s v)
unfolding holds_test
test_only s v =
    only_bind (sheet holds_limit s) _ (malformed (inl refl) (sheet_only holds_limit s)) (λ x.
    only_bind (value (layout x.head.column) v) (tested_sheet x) (malformed (inl refl) (value_only (layout x.head.column) v)) (λ row.
    rw (tested_held x row) (held_only x.head.column (by_arity (operator_in x.leaf)) (literals_in x.leaf) row)))

-- 01: "gives only 0, 1, 3, 4"
pub answers : (s v : List ℕ) → let n = held_number (holds_test s v) in (n ≡ 0) ⊎ ((n ≡ 1) ⊎ ((n ≡ 3) ⊎ (n ≡ 4)))
answers s v = go (holds_test s v) (test_only s v)
  where
    refusal : {e : ErrorKind} → Refusal e → (error_number e ≡ 3) ⊎ (error_number e ≡ 4)
    refusal (inl is) = inl (ap error_number is)
    refusal (inr is) = inr (ap error_number is)

    go : (r : Res Bool) → Only Refusal r → let n = held_number r in (n ≡ 0) ⊎ ((n ≡ 1) ⊎ ((n ≡ 3) ⊎ (n ≡ 4)))
    go (Ok true) h = inl refl
    go (Ok false) h = inr (inl refl)
    go (Err e) h = inr (inr (refusal (h.only e refl)))
