-- The steps for numbers and times: document 01's table, a column each, with T the transform. Assumes nothing.
use Rattle.std.specs.Prelude.{◌≡◌, refl, ℤ, pos, Ok}
use Rattle.std.proofs.Math.IntN.{suc_ℤ, pred_ℤ}
use Rattle.values.specs.Order.{compare_numbers}
use Rattle.values.specs.Outcomes.{Res, need, ◌>>◌}
use Rattle.values.specs.Types.{in_type}
use Rattle.values.specs.declared.datatypes.PrimitiveType.{PrimitiveType}
use Rattle.values.specs.declared.datatypes.PrimitiveType.TheVariants.{Int}
use Rattle.values.specs.declared.error.ErrorKind.TheVariants.{Overflow}
use Rattle.expr.specs.Operators.{less_than, less_than_or_eq, greater_than, greater_than_or_eq, eq, not_eq, starts_with, not_starts_with, is_in, not_in}
use Rattle.expr.specs.Predicates.{Test, binary, set}
use Rattle.projection.specs.Steps.{Projected, some, none, with_literal, with_each}

module _ (column : PrimitiveType) (T : ℤ → Res ℤ) where
  -- T(L−1) and T(L+1). 01, 8: "L−1 or L+1 leaves the type"; "boundary before transform"
  abbrev pub one_below : ℤ → Res ℤ
  one_below l = do
    need (in_type column (pred_ℤ l)) Overflow
    T (pred_ℤ l)

  abbrev pub one_above : ℤ → Res ℤ
  one_above l = do
    need (in_type column (suc_ℤ l)) Overflow
    T (suc_ℤ l)

  -- 01's table, its column Inclusive
  abbrev pub inclusive_number : Test ℤ → Res (Projected (Test ℤ))
  inclusive_number (binary less_than l) = with_literal less_than_or_eq (one_below l)
  inclusive_number (binary less_than_or_eq l) = with_literal less_than_or_eq (T l)
  inclusive_number (binary greater_than l) = with_literal greater_than_or_eq (one_above l)
  inclusive_number (binary greater_than_or_eq l) = with_literal greater_than_or_eq (T l)
  inclusive_number (binary eq l) = with_literal eq (T l)
  inclusive_number (binary not_eq l) = Ok none
  inclusive_number (binary starts_with l) = with_literal starts_with (T l)
  inclusive_number (binary not_starts_with l) = with_literal not_starts_with (T l)
  inclusive_number (set is_in ls) = with_each compare_numbers is_in T ls
  inclusive_number (set not_in ls) = Ok none

  -- 01's table, its column Strict
  abbrev pub strict_number : Test ℤ → Res (Projected (Test ℤ))
  strict_number (binary less_than l) = with_literal less_than (T l)
  strict_number (binary less_than_or_eq l) = with_literal less_than (one_above l)
  strict_number (binary greater_than l) = with_literal greater_than (T l)
  strict_number (binary greater_than_or_eq l) = with_literal greater_than (one_below l)
  strict_number (binary eq l) = Ok none
  strict_number (binary not_eq l) = with_literal not_eq (T l)
  strict_number (binary starts_with l) = Ok none
  strict_number (binary not_starts_with l) = Ok none
  strict_number (set is_in ls) = Ok none
  strict_number (set not_in ls) = with_each compare_numbers not_in T ls

-- with a transform that changes nothing: < 3 is ≤ 2, and stays < 3
less_inclusive : inclusive_number Int Ok (binary less_than (pos 3)) ≡ Ok (some (binary less_than_or_eq (pos 2)))
unfolding in_type
less_inclusive = refl

less_strict : strict_number Int Ok (binary less_than (pos 3)) ≡ Ok (some (binary less_than (pos 3)))
less_strict = refl
