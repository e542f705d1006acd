-- Lifting, the Rust's `adjust_time_projection`: an inclusive predicate asks for the value above a negative one too; and what 02 asks of a strict one for files of
-- older writers. Assumes nothing.
use Rattle.std.specs.Prelude.{Bool, true, false, List, [], ◌∷◌, ◌≡◌, refl, ℤ, pos, negsuc}
use Rattle.std.proofs.Math.IntN.{suc_ℤ}
use Rattle.values.specs.Ascending.{ascending}
use Rattle.values.specs.Order.{compare_numbers}
use Rattle.values.specs.Types.{same_type}
use Rattle.values.specs.declared.datatypes.PrimitiveType.{PrimitiveType}
use Rattle.values.specs.declared.datatypes.PrimitiveType.TheVariants.{Timestamp}
use Rattle.values.specs.declared.transform.Transform.{Transform}
use Rattle.values.specs.declared.transform.Transform.TheVariants.{Identity, Truncate, Year, Month, Day, Hour, Void, Unknown}
use Rattle.expr.specs.Operators.{less_than, less_than_or_eq, greater_than, greater_than_or_eq, eq, not_eq, starts_with, not_starts_with, is_in, not_in}
use Rattle.expr.specs.Predicates.{Test, binary, set}

-- 01: "Lifted: Year, Month, and Day of Timestamp only"
abbrev pub lifted : PrimitiveType → Transform → Bool
lifted column Identity = false
lifted column (Truncate width) = false
lifted column Year = true
lifted column Month = true
lifted column Day = same_type column Timestamp
lifted column Hour = false
lifted column Void = false
lifted column Unknown = false

-- a value, and the one above it where it is negative
abbrev pub with_next : ℤ → List ℤ → List ℤ
with_next (pos n) ts = pos n ∷ ts
with_next (negsuc n) ts = negsuc n ∷ suc_ℤ (negsuc n) ∷ ts

abbrev pub with_nexts : List ℤ → List ℤ
with_nexts [] = []
with_nexts (t ∷ ts) = with_next t (with_nexts ts)

-- 01: "Inclusive with a negative T: < and ≤ use T+1; Eq becomes In of T and T+1; In adds T+1"; both < and ≤ have become ≤
abbrev pub lift : Test ℤ → Test ℤ
lift (binary less_than t) = binary less_than t
lift (binary less_than_or_eq (pos n)) = binary less_than_or_eq (pos n)
lift (binary less_than_or_eq (negsuc n)) = binary less_than_or_eq (suc_ℤ (negsuc n))
lift (binary greater_than t) = binary greater_than t
lift (binary greater_than_or_eq t) = binary greater_than_or_eq t
lift (binary eq (pos n)) = binary eq (pos n)
lift (binary eq (negsuc n)) = set is_in (with_next (negsuc n) [])
lift (binary not_eq t) = binary not_eq t
lift (binary starts_with t) = binary starts_with t
lift (binary not_starts_with t) = binary not_starts_with t
lift (set is_in ts) = set is_in (ascending compare_numbers (with_nexts ts))
lift (set not_in ts) = set not_in ts

-- 02, #107: "the strict answer, but a bound after > rises by one where it is negative, NotEq with a negative value becomes NotIn of it and the next, and NotIn
-- gains the next of each negative value"
abbrev pub older : Test ℤ → Test ℤ
older (binary less_than t) = binary less_than t
older (binary less_than_or_eq t) = binary less_than_or_eq t
older (binary greater_than (pos n)) = binary greater_than (pos n)
older (binary greater_than (negsuc n)) = binary greater_than (suc_ℤ (negsuc n))
older (binary greater_than_or_eq t) = binary greater_than_or_eq t
older (binary eq t) = binary eq t
older (binary not_eq (pos n)) = binary not_eq (pos n)
older (binary not_eq (negsuc n)) = set not_in (with_next (negsuc n) [])
older (binary starts_with t) = binary starts_with t
older (binary not_starts_with t) = binary not_starts_with t
older (set is_in ts) = set is_in ts
older (set not_in ts) = set not_in (ascending compare_numbers (with_nexts ts))

-- "For other transforms it equals strict"
abbrev pub older_if : Bool → Test ℤ → Test ℤ
older_if true q = older q
older_if false q = q

-- NotEq −1 becomes NotIn of −1 and 0; > −1 becomes > 0, and > 0 stays
not_equal_older : older (binary not_eq (negsuc 0)) ≡ set not_in (negsuc 0 ∷ pos 0 ∷ [])
not_equal_older = refl

greater_older : (older (binary greater_than (negsuc 0)) ≡ binary greater_than (pos 0)) × (older (binary greater_than (pos 0)) ≡ binary greater_than (pos 0))
greater_older = (refl, refl)

-- Eq −1 becomes In of −1 and 0
eq_lifted : lift (binary eq (negsuc 0)) ≡ set is_in (negsuc 0 ∷ pos 0 ∷ [])
eq_lifted = refl
