-- When a predicate holds of a value, which may be missing: document 01's holds-test, with 02's sentence on missing values. A row meets a leaf, and a partition
-- value meets a predicate, where it holds. Assumes nothing.
use Rattle.std.specs.Prelude.{ℕ, Bool, true, false, not, List, [], ◌≡◌, refl, ℤ, pos, negsuc}
use Rattle.values.specs.Outcomes.{Row, missing, present}
use Rattle.values.specs.Order.{compare_numbers, compare_bytes, starts_with, is_less, is_equal}
use Rattle.values.specs.Ascending.{elem}
use Rattle.std.specs.declared.cmp.Ordering.{Ordering}
use Rattle.expr.specs.Operators as operators
use Rattle.expr.specs.Predicates.{Test, binary, set, Predicate, unary, test, by_arity_in}

-- how values of a kind are tested: `begins v l` says that v begins with l
pub record Tests (A : Type 0) : Type 0 where
  pub compare : A → A → Ordering
  pub begins : A → A → Bool

-- 01: "numbers signed"; "207 holds of no number, 208 of every present one"
abbrev pub number_tests : Tests ℤ
number_tests = record { compare = compare_numbers; begins = λ v l. false }

-- 01: "207 holds of a string or binary whose first bytes are L's, 208 of every other present one"
abbrev pub bytes_tests : Tests (List ℕ)
bytes_tests = record { compare = compare_bytes; begins = starts_with }

-- 02, #106: "a missing value meets NotEq, NotIn and NotStartsWith, numbers included, besides IsNull. This replaces document 01's sentence on missing values"
abbrev pub missing_meets : operators.Operator → Bool
missing_meets (operators.none operators.is_null) = true
missing_meets (operators.none operators.not_null) = false
missing_meets (operators.none operators.is_nan) = false
missing_meets (operators.none operators.not_nan) = false
missing_meets (operators.one operators.less_than) = false
missing_meets (operators.one operators.less_than_or_eq) = false
missing_meets (operators.one operators.greater_than) = false
missing_meets (operators.one operators.greater_than_or_eq) = false
missing_meets (operators.one operators.eq) = false
missing_meets (operators.one operators.not_eq) = true
missing_meets (operators.one operators.starts_with) = false
missing_meets (operators.one operators.not_starts_with) = true
missing_meets (operators.many operators.is_in) = false
missing_meets (operators.many operators.not_in) = true

-- of a present value, 01: "NotNull of every present value"; "IsNan holds of nothing, NotNan of every present value"; IsNull is the missing value's
abbrev pub unary_meets : operators.Unary → Bool
unary_meets operators.is_null = false
unary_meets operators.not_null = true
unary_meets operators.is_nan = false
unary_meets operators.not_nan = true

module _ {A : Type 0} (by : Tests A) where
  -- 01: "201 to 206 compare a present value with L"
  abbrev pub binary_meets : operators.Binary → A → A → Bool
  binary_meets operators.less_than v l = is_less (by.compare v l)
  binary_meets operators.less_than_or_eq v l = not (is_less (by.compare l v))
  binary_meets operators.greater_than v l = is_less (by.compare l v)
  binary_meets operators.greater_than_or_eq v l = not (is_less (by.compare v l))
  binary_meets operators.eq v l = is_equal (by.compare v l)
  binary_meets operators.not_eq v l = not (is_equal (by.compare v l))
  binary_meets operators.starts_with v l = by.begins v l
  binary_meets operators.not_starts_with v l = not (by.begins v l)

  -- 01: "In holds of a present value that equals some literal, NotIn of one that equals none"
  abbrev pub set_meets : operators.SetOperator → A → List A → Bool
  set_meets operators.is_in v ls = elem by.compare v ls
  set_meets operators.not_in v ls = not (elem by.compare v ls)

  abbrev pub meets : Test A → A → Bool
  meets (binary o l) v = binary_meets o v l
  meets (set o ls) v = set_meets o v ls

  abbrev pub present_meets : Predicate A → A → Bool
  present_meets (unary o) v = unary_meets o
  present_meets (test t) v = meets t v

  abbrev pub holds : Predicate A → Row A → Bool
  holds p missing = missing_meets (by_arity_in p)
  holds p (present v) = present_meets p v

-- a missing number meets NotEq 5, NotStartsWith 5 and NotIn of no literal, and neither < 5 nor ≥ 5
missing_differs : (holds number_tests (test (binary operators.not_eq (pos 5))) missing ≡ true)
    × (holds number_tests (test (binary operators.not_starts_with (pos 5))) missing ≡ true)
    × (holds number_tests (test (set operators.not_in [])) missing ≡ true)
missing_differs = (refl, refl, refl)

missing_has_no_order : (holds number_tests (test (binary operators.less_than (pos 5))) missing ≡ false)
    × (holds number_tests (test (binary operators.greater_than_or_eq (pos 5))) missing ≡ false)
missing_has_no_order = (refl, refl)

-- -1 < 0 holds
signed_order : holds number_tests (test (binary operators.less_than (pos 0))) (present (negsuc 0)) ≡ true
unfolding compare_numbers
signed_order = refl
