-- The steps for strings and binaries under Truncate, with T the transform and w its width. Assumes nothing.
use Rattle.std.specs.Prelude.{ℕ, cond, List, [], ◌∷◌, ◌≡◌, refl, ◌==◌, nat_lt, nat_le, length, Ok}
use Rattle.values.specs.Order.{compare_bytes}
use Rattle.values.specs.Outcomes.{Res}
use Rattle.values.specs.Types.{same_type}
use Rattle.values.specs.declared.datatypes.PrimitiveType.{PrimitiveType}
use Rattle.values.specs.declared.datatypes.PrimitiveType.TheVariants.{String}
use Rattle.expr.specs.Operators.{less_than, less_than_or_eq, greater_than, greater_than_or_eq, eq, not_eq, starts_with, not_starts_with, is_in, not_in}
use Rattle.expr.specs.Predicates.{Test, binary, set}
use Rattle.projection.specs.Steps.{Projected, some, none, with_literal, with_each}

-- what a step gives
abbrev pub Step : Type 0
Step = Res (Projected (Test (List ℕ)))

-- 01: "Let n be L's code points, w the width"; of a Binary, 02: "counting bytes". What n = w gives, what n < w gives, what n > w gives
abbrev pub by_length : ℕ → ℕ → Projected (Test (List ℕ)) → Projected (Test (List ℕ)) → Step → Step
by_length n w whole short long = cond (n == w) (Ok whole) (cond (nat_lt n w) (Ok short) long)

-- ---- inclusive StartsWith and NotStartsWith. `count` says how long a literal is

-- 02, #102, of a Binary: "inclusive StartsWith keeps its operator with T(L)"
abbrev pub binary_starts : (List ℕ → Res (List ℕ)) → List ℕ → Step
binary_starts T l = with_literal starts_with (T l)

module _ (T : List ℕ → Res (List ℕ)) (count : List ℕ → ℕ) (w : ℕ) where
  -- 01, of a String: "StartsWith: n = w gives Eq L; n < w gives StartsWith L; n > w gives StartsWith T(L) inclusive"
  abbrev pub string_starts : List ℕ → Step
  string_starts l = by_length (count l) w (some (binary eq l)) (some (binary starts_with l)) (with_literal starts_with (T l))

  -- 01: "NotStartsWith: n = w gives NotEq L; n < w NotStartsWith L; n > w none inclusive"
  abbrev pub string_not_starts : List ℕ → Step
  string_not_starts l = by_length (count l) w (some (binary not_eq l)) (some (binary not_starts_with l)) (Ok none)

  -- 02, #102, of a Binary: "inclusive NotStartsWith does so up to the width and has no predicate for a longer literal"
  abbrev pub binary_not_starts : List ℕ → Step
  binary_not_starts l = cond (nat_le (count l) w) (with_literal not_starts_with (T l)) (Ok none)

-- ---- inclusive. 01: "inclusive < and ≤ give ≤ T(L); > and ≥ give ≥ T(L)"; "Eq, NotEq, In, NotIn as in the table"; of a Binary, 02: "The rest goes as for strings,
-- counting bytes"
module _ (column : PrimitiveType) (T : List ℕ → Res (List ℕ)) (count : List ℕ → ℕ) (w : ℕ) where
  abbrev pub inclusive_bytes : Test (List ℕ) → Step
  inclusive_bytes (binary less_than l) = with_literal less_than_or_eq (T l)
  inclusive_bytes (binary less_than_or_eq l) = with_literal less_than_or_eq (T l)
  inclusive_bytes (binary greater_than l) = with_literal greater_than_or_eq (T l)
  inclusive_bytes (binary greater_than_or_eq l) = with_literal greater_than_or_eq (T l)
  inclusive_bytes (binary eq l) = with_literal eq (T l)
  inclusive_bytes (binary not_eq l) = Ok none
  inclusive_bytes (binary starts_with l) = cond (same_type column String) (string_starts T count w l) (binary_starts T l)
  inclusive_bytes (binary not_starts_with l) = cond (same_type column String) (string_not_starts T count w l) (binary_not_starts T count w l)
  inclusive_bytes (set is_in ls) = with_each compare_bytes is_in T ls
  inclusive_bytes (set not_in ls) = Ok none

-- ---- strict, of Strings and of Binaries. 01: "strict gives < and > with T(L)"; "StartsWith: n = w gives Eq L; n < w gives StartsWith L; n > w gives .. none strict";
-- "NotStartsWith: n = w gives NotEq L; n < w NotStartsWith L; n > w .. NotStartsWith T(L) strict"; of a Binary, 01: "strict 207 and 208 as for strings, counting bytes",
-- and 02's sentence above
module _ (T : List ℕ → Res (List ℕ)) (count : List ℕ → ℕ) (w : ℕ) where
  abbrev pub strict_bytes : Test (List ℕ) → Step
  strict_bytes (binary less_than l) = with_literal less_than (T l)
  strict_bytes (binary less_than_or_eq l) = with_literal less_than (T l)
  strict_bytes (binary greater_than l) = with_literal greater_than (T l)
  strict_bytes (binary greater_than_or_eq l) = with_literal greater_than (T l)
  strict_bytes (binary eq l) = Ok none
  strict_bytes (binary not_eq l) = with_literal not_eq (T l)
  strict_bytes (binary starts_with l) = by_length (count l) w (some (binary eq l)) (some (binary starts_with l)) (Ok none)
  strict_bytes (binary not_starts_with l) = by_length (count l) w (some (binary not_eq l)) (some (binary not_starts_with l)) (with_literal not_starts_with (T l))
  strict_bytes (set is_in ls) = Ok none
  strict_bytes (set not_in ls) = with_each compare_bytes not_in T ls

-- a literal as long as the width is all of a String's prefix, while a Binary keeps the operator
string_prefix : string_starts Ok length 2 (97 ∷ 98 ∷ []) ≡ Ok (some (binary eq (97 ∷ 98 ∷ [])))
string_prefix = refl

binary_prefix : binary_starts Ok (97 ∷ 98 ∷ []) ≡ Ok (some (binary starts_with (97 ∷ 98 ∷ [])))
binary_prefix = refl

-- 02: since "abx" doesn't start with "abc" yet shares its two-byte part
longer_binary : binary_not_starts Ok length 2 (97 ∷ 98 ∷ 99 ∷ []) ≡ Ok none
longer_binary = refl
