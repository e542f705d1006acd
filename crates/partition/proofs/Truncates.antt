-- Truncate of an Int or a Long, by way of 64 bits. Assumes nothing.
use Rattle.std.specs.Prelude.{◌≡◌, refl, ℕ, Bool, true, false, not, ◌||◌, cond, ℤ, Ok, Err, Some, None, nat_lt, nat_le}
use Rattle.std.proofs.Common.{true≢false, sym}
use Rattle.values.specs.Outcomes.{Res, need, ◌>>◌, Row, present}
use Rattle.values.specs.Types.{same_type, in_type}
use Rattle.values.specs.laws.RangeLaws.{in_long, in_type_long}
use Rattle.values.specs.declared.error.ErrorKind.TheVariants.{Overflow}
use Rattle.values.specs.declared.datatypes.PrimitiveType.{PrimitiveType}
use Rattle.values.specs.declared.datatypes.PrimitiveType.TheVariants.{Int, Long}
use Rattle.transform.specs.Truncate.{truncated}
use Rattle.transform.specs.code.TransformAnswers.{truncated_long}
use Rattle.partition.specs.Partition.{widest_int_width, truncate_number}

-- what 64 bits do not hold no type does
pub beyond : (ty : PrimitiveType) (w : ℕ) (v : ℤ) → (not (same_type ty Int) || nat_le w widest_int_width) ≡ true → truncated_long w v ≡ None → truncate_number ty w v ≡ Err Overflow
beyond ty w v takes e =
    let z = truncated w v in
    rw takes (go z (nat_lt 0 w) (in_type Long z) (in_type ty z) (λ h. (in_long z).1 (in_type_long ty z h)) e)
  where
    go : (z : ℤ) (wide long held : Bool) → (held ≡ true → long ≡ true) → cond wide (cond long (Some z) None) None ≡ None
        → ◌≡◌ {A = Res (Row ℤ)} (need wide Overflow >> (need held Overflow >> Ok (present z))) (Err Overflow)
    go z false long held h e = refl
    go z true true held h e = cc
    go z true false true h e = absurd (true≢false (sym (h refl)))
    go z true false false h e = refl
