-- When the ends of a file of strings or binaries rule out a match: document 02's own table, #104. Assumes nothing.
use Rattle.std.specs.Prelude.{ℕ, Bool, true, false, not, ◌&&◌, ◌||◌, List}
use Rattle.values.specs.SomeEvery.{some, every}
use Rattle.values.specs.Order as order
use Rattle.values.specs.Order.{compare_bytes, is_less, is_equal}
use Rattle.expr.specs.Operators.{Unary, is_null, not_null, is_nan, not_nan, Binary, less_than, less_than_or_eq, greater_than, greater_than_or_eq, eq, not_eq, starts_with, not_starts_with, SetOperator, is_in, not_in}
use Rattle.expr.specs.Predicates.{Predicate, unary, test, binary, set}
use Rattle.summary.specs.Summaries.{Ends, none_present, ◌to◌}
use Rattle.summary.specs.EndValues.{lies_in}

-- "101 and 103 always, 102 and 104 never"
abbrev pub unary_ruled_out : Unary → Bool
unary_ruled_out is_null = true
unary_ruled_out not_null = false
unary_ruled_out is_nan = true
unary_ruled_out not_nan = false

-- the lowest and the highest of the present values
module _ (low high : List ℕ) where
  -- "lies outside the ends"
  abbrev pub outside : List ℕ → Bool
  outside l = not (lies_in compare_bytes (low to high) l)

  -- "both ends are one excluded literal"
  abbrev pub both_are : List ℕ → Bool
  both_are l = is_equal (compare_bytes low l) && is_equal (compare_bytes high l)

  -- "< when the lowest is not below L, ≤ when it is above, > when the highest is not above L, ≥ when it is below; Eq and In when every literal lies outside the
  -- ends; NotEq and NotIn when both ends are one excluded literal; 207 when the highest is below L or the lowest is above L and doesn't start with it; 208 when
  -- both ends start with L"
  abbrev pub binary_ruled_out : Binary → List ℕ → Bool
  binary_ruled_out less_than l = not (is_less (compare_bytes low l))
  binary_ruled_out less_than_or_eq l = is_less (compare_bytes l low)
  binary_ruled_out greater_than l = not (is_less (compare_bytes l high))
  binary_ruled_out greater_than_or_eq l = is_less (compare_bytes high l)
  binary_ruled_out eq l = outside l
  binary_ruled_out not_eq l = both_are l
  binary_ruled_out starts_with l = is_less (compare_bytes high l) || (is_less (compare_bytes l low) && not (order.starts_with low l))
  binary_ruled_out not_starts_with l = order.starts_with low l && order.starts_with high l

  abbrev pub set_ruled_out : SetOperator → List (List ℕ) → Bool
  set_ruled_out is_in ls = every outside ls
  set_ruled_out not_in ls = some both_are ls

-- 02: "present values rule out a match exactly so"; "all where none is present"
abbrev pub ruled_out : Predicate (List ℕ) → Ends (List ℕ) → Bool
ruled_out p none_present = true
ruled_out (unary o) (low to high) = unary_ruled_out o
ruled_out (test (binary o l)) (low to high) = binary_ruled_out low high o l
ruled_out (test (set o ls)) (low to high) = set_ruled_out low high o ls
