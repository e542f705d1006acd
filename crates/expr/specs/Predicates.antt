-- A leaf, which is a predicate on one column: an operator with as many literals as it takes, of values of any kind `A`. Assumes nothing.
use Rattle.std.specs.Prelude.{List, [], ◌∷◌, Ok, Err}
use Rattle.values.specs.Outcomes.{Res}
use Rattle.values.specs.declared.error.ErrorKind.TheVariants.{Malformed}
use Rattle.expr.specs.Operators.{Unary, Binary, SetOperator, Operator, none, one, many, by_arity, operator_of}
use Rattle.expr.specs.declared.operator.PredicateOperator.{PredicateOperator}

-- a test of a value against literals
pub data Test (A : Type 0) : Type 0 where
  binary : Binary → A → Test A
  set : SetOperator → List A → Test A

pub data Predicate (A : Type 0) : Type 0 where
  unary : Unary → Predicate A
  test : Test A → Predicate A

abbrev pub by_arity_in : {A : Type 0} → Predicate A → Operator
by_arity_in (unary o) = none o
by_arity_in (test (binary o l)) = one o
by_arity_in (test (set o ls)) = many o

abbrev pub operator_in : {A : Type 0} → Predicate A → PredicateOperator
operator_in p = operator_of (by_arity_in p)

abbrev pub literals_in : {A : Type 0} → Predicate A → List A
literals_in (unary o) = []
literals_in (test (binary o l)) = l ∷ []
literals_in (test (set o ls)) = ls

-- the predicate of an operator and literals: 3 where they are too few or too many
abbrev pub with_literals : {A : Type 0} → Operator → List A → Res (Predicate A)
with_literals (none o) [] = Ok (unary o)
with_literals (none o) (l ∷ ls) = Err Malformed
with_literals (one o) [] = Err Malformed
with_literals (one o) (l ∷ []) = Ok (test (binary o l))
with_literals (one o) (l ∷ k ∷ ls) = Err Malformed
with_literals (many o) ls = Ok (test (set o ls))

abbrev pub predicate : {A : Type 0} → PredicateOperator → List A → Res (Predicate A)
predicate operator literals = with_literals (by_arity operator) literals
