-- What each enum of the code says, as the definitions have it. Assumes nothing.
use Rattle.std.specs.Prelude.{ℕ, Bool, true, false, not, List, [], ◌∷◌, ◌==◌}
use Rattle.values.specs.Order.{is_less, is_equal}
use Rattle.values.specs.code.Places.{flip}
use Rattle.std.specs.declared.cmp.Ordering.{Ordering}
use Rattle.expr.specs.Operators.{Operator, none, one, many}
use Rattle.expr.specs.Operators as operators
use Rattle.expr.specs.Holds.{Tests, binary_meets}
use Rattle.expr.specs.Predicates.{Predicate, unary, test, binary, set}
use Rattle.expr.specs.declared.operator.PredicateOperator.{PredicateOperator}
use Rattle.expr.specs.declared.operator.PredicateOperator.TheVariants.{IsNull, NotNull, IsNan, NotNan, LessThan, LessThanOrEq, GreaterThan, GreaterThanOrEq, Eq, NotEq, StartsWith, NotStartsWith, In, NotIn}

-- the Rust's `negate`
abbrev pub negated : PredicateOperator → PredicateOperator
negated IsNull = NotNull
negated NotNull = IsNull
negated IsNan = NotNan
negated NotNan = IsNan
negated LessThan = GreaterThanOrEq
negated LessThanOrEq = GreaterThan
negated GreaterThan = LessThanOrEq
negated GreaterThanOrEq = LessThan
negated Eq = NotEq
negated NotEq = Eq
negated StartsWith = NotStartsWith
negated NotStartsWith = StartsWith
negated In = NotIn
negated NotIn = In

-- an operator of the arity takes so many literals
abbrev pub takes : Operator → ℕ → Bool
takes (none o) n = n == 0
takes (one o) n = n == 1
takes (many o) n = true

-- a leaf by its operator and its literals in their order: of an operator that takes one the first counts, and `other` stands for it where there is none
abbrev pub leaf_of : {A : Type 0} → A → Operator → List A → Predicate A
leaf_of other (none o) ls = unary o
leaf_of other (one o) [] = test (binary o other)
leaf_of other (one o) (l ∷ ls) = test (binary o l)
leaf_of other (many o) ls = test (set o ls)

-- the Rust's `is_unary`, `is_binary` and `is_set`
abbrev pub takes_none : Operator → Bool
takes_none (none o) = true
takes_none (one o) = false
takes_none (many o) = false

abbrev pub takes_one : Operator → Bool
takes_one (none o) = false
takes_one (one o) = true
takes_one (many o) = false

abbrev pub takes_many : Operator → Bool
takes_many (none o) = false
takes_many (one o) = false
takes_many (many o) = true

-- a present value against the one literal of an operator that takes one
abbrev pub meets_one : {A : Type 0} → Tests A → Operator → A → A → Bool
meets_one by (none o) v l = false
meets_one by (one o) v l = binary_meets by o v l
meets_one by (many o) v l = false

-- whether an order of a value to a literal is one that a comparison asks for, where `flip o` is that of the literal to the value; a beginning asks for
-- none
abbrev pub comparison_asks : operators.Binary → Ordering → Bool
comparison_asks operators.less_than o = is_less o
comparison_asks operators.less_than_or_eq o = not (is_less (flip o))
comparison_asks operators.greater_than o = is_less (flip o)
comparison_asks operators.greater_than_or_eq o = not (is_less o)
comparison_asks operators.eq o = is_equal o
comparison_asks operators.not_eq o = not (is_equal o)
comparison_asks operators.starts_with o = false
comparison_asks operators.not_starts_with o = false

abbrev pub asks_for : Operator → Ordering → Bool
asks_for (none o) order = false
asks_for (one o) order = comparison_asks o order
asks_for (many o) order = false
