-- The operators of predicates: their numbers, and how many literals each takes. Assumes nothing.
use Rattle.std.specs.Prelude.{ℕ, Bool, true, false, List, [], ◌∷◌}
use Rattle.values.specs.Numbered.{Numbered, ◌is◌}
use Rattle.expr.specs.declared.operator.PredicateOperator.{PredicateOperator}
use Rattle.expr.specs.declared.operator.PredicateOperator.TheVariants.{IsNull, NotNull, IsNan, NotNan, LessThan, LessThanOrEq, GreaterThan, GreaterThanOrEq, Eq, NotEq, StartsWith, NotStartsWith, In, NotIn}

-- 01: "Operators keep the crate's codes: IsNull 101, NotNull 102, IsNan 103, NotNan 104, < 201, ≤ 202, > 203, ≥ 204, Eq 205, NotEq 206, StartsWith 207,
-- NotStartsWith 208, In 301, NotIn 302"
abbrev pub operators : List (Numbered PredicateOperator)
operators =
    101 is IsNull ∷ 102 is NotNull ∷ 103 is IsNan ∷ 104 is NotNan
    ∷ 201 is LessThan ∷ 202 is LessThanOrEq ∷ 203 is GreaterThan ∷ 204 is GreaterThanOrEq ∷ 205 is Eq ∷ 206 is NotEq
    ∷ 207 is StartsWith ∷ 208 is NotStartsWith ∷ 301 is In ∷ 302 is NotIn ∷ []

abbrev pub operator_number : PredicateOperator → ℕ
operator_number IsNull = 101
operator_number NotNull = 102
operator_number IsNan = 103
operator_number NotNan = 104
operator_number LessThan = 201
operator_number LessThanOrEq = 202
operator_number GreaterThan = 203
operator_number GreaterThanOrEq = 204
operator_number Eq = 205
operator_number NotEq = 206
operator_number StartsWith = 207
operator_number NotStartsWith = 208
operator_number In = 301
operator_number NotIn = 302

-- ---- by how many literals they take: the same operators once more, so that a predicate cannot have a wrong number of literals

pub data Unary : Type 0 where
  is_null not_null is_nan not_nan : Unary

pub data Binary : Type 0 where
  less_than less_than_or_eq greater_than greater_than_or_eq eq not_eq starts_with not_starts_with : Binary

pub data SetOperator : Type 0 where
  is_in not_in : SetOperator

-- an operator, told by how many literals it takes. 01: "101–104 take no literal, 201–208 one, 301–302 from 0 to 64"
pub data Operator : Type 0 where
  none : Unary → Operator
  one : Binary → Operator
  many : SetOperator → Operator

-- that 64, the most literals of a sheet to be projected; and the most of one to be tested, 01: "up to 128 literals after 301 or 302"
abbrev pub project_limit : ℕ
project_limit = 64

abbrev pub holds_limit : ℕ
holds_limit = 128

abbrev pub by_arity : PredicateOperator → Operator
by_arity IsNull = none is_null
by_arity NotNull = none not_null
by_arity IsNan = none is_nan
by_arity NotNan = none not_nan
by_arity LessThan = one less_than
by_arity LessThanOrEq = one less_than_or_eq
by_arity GreaterThan = one greater_than
by_arity GreaterThanOrEq = one greater_than_or_eq
by_arity Eq = one eq
by_arity NotEq = one not_eq
by_arity StartsWith = one starts_with
by_arity NotStartsWith = one not_starts_with
by_arity In = many is_in
by_arity NotIn = many not_in

abbrev pub operator_of : Operator → PredicateOperator
operator_of (none is_null) = IsNull
operator_of (none not_null) = NotNull
operator_of (none is_nan) = IsNan
operator_of (none not_nan) = NotNan
operator_of (one less_than) = LessThan
operator_of (one less_than_or_eq) = LessThanOrEq
operator_of (one greater_than) = GreaterThan
operator_of (one greater_than_or_eq) = GreaterThanOrEq
operator_of (one eq) = Eq
operator_of (one not_eq) = NotEq
operator_of (one starts_with) = StartsWith
operator_of (one not_starts_with) = NotStartsWith
operator_of (many is_in) = In
operator_of (many not_in) = NotIn

-- 02: "its opposite operator": it holds of a present value exactly where the other does not
abbrev pub opposite_binary : Binary → Binary
opposite_binary less_than = greater_than_or_eq
opposite_binary less_than_or_eq = greater_than
opposite_binary greater_than = less_than_or_eq
opposite_binary greater_than_or_eq = less_than
opposite_binary eq = not_eq
opposite_binary not_eq = eq
opposite_binary starts_with = not_starts_with
opposite_binary not_starts_with = starts_with

-- <, ≤, > and ≥ ask for an order to the literal, the others whether the value is it or starts with it
abbrev pub ordered : Binary → Bool
ordered less_than = true
ordered less_than_or_eq = true
ordered greater_than = true
ordered greater_than_or_eq = true
ordered eq = false
ordered not_eq = false
ordered starts_with = false
ordered not_starts_with = false
