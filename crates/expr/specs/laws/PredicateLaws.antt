-- Operators have one number each and predicates one operator and one list of literals each: what is written of them can be read back.
-- Assumes nothing.
use Rattle.std.specs.Prelude.{ℕ, suc, true, false, List, [], ◌∷◌, ◌≡◌, refl, eqb, length, Ok}
use Rattle.std.proofs.Common.{arith, true≢false, ◌∙◌, eqb-true}
use Rattle.std.proofs.lemmas.Bool.{false≢true}
use Rattle.values.specs.Numbered.{find}
use Rattle.values.specs.laws.OutcomeLaws.{ok_inj, ok_not_err}
use Rattle.values.specs.laws.TypesLaws.{found_number}
use Rattle.expr.specs.Operators.{operators, operator_number, Operator, none, one, many, by_arity, operator_of}
use Rattle.expr.specs.code.OperatorAnswers.{negated, takes, leaf_of, takes_none, takes_one, takes_many}
use Rattle.expr.specs.Operators.{is_null, not_null, is_nan, not_nan, less_than, less_than_or_eq, greater_than, greater_than_or_eq, eq, not_eq, starts_with, not_starts_with, is_in, not_in}
use Rattle.expr.specs.Predicates.{Predicate, unary, test, binary, set, by_arity_in, operator_in, literals_in, with_literals, predicate}
use Rattle.expr.specs.declared.operator.PredicateOperator.{PredicateOperator}
use Rattle.expr.specs.declared.operator.PredicateOperator.TheVariants.{IsNull, NotNull, IsNan, NotNan, LessThan, LessThanOrEq, GreaterThan, GreaterThanOrEq, Eq, NotEq, StartsWith, NotStartsWith, In, NotIn}

-- ---- numbers
pub operator_found : (o : PredicateOperator) → find operators (operator_number o) ≡ Ok o
operator_found IsNull = refl
operator_found NotNull = refl
operator_found IsNan = refl
operator_found NotNan = refl
operator_found LessThan = refl
operator_found LessThanOrEq = refl
operator_found GreaterThan = refl
operator_found GreaterThanOrEq = refl
operator_found Eq = refl
operator_found NotEq = refl
operator_found StartsWith = refl
operator_found NotStartsWith = refl
operator_found In = refl
operator_found NotIn = refl

pub operator_number_lem : (n : ℕ) (o : PredicateOperator) → find operators n ≡ Ok o → operator_number o ≡ n
operator_number_lem n o e =
    found_number
    operator_number
    operators
    n
    o
    (refl, (refl, (refl, (refl, (refl, (refl, (refl, (refl, (refl, (refl, (refl, (refl, (refl, (refl, tt))))))))))))))
    e

-- ---- how many literals
pub arity_of : (a : Operator) → by_arity (operator_of a) ≡ a
arity_of (none is_null) = refl
arity_of (none not_null) = refl
arity_of (none is_nan) = refl
arity_of (none not_nan) = refl
arity_of (one less_than) = refl
arity_of (one less_than_or_eq) = refl
arity_of (one greater_than) = refl
arity_of (one greater_than_or_eq) = refl
arity_of (one eq) = refl
arity_of (one not_eq) = refl
arity_of (one starts_with) = refl
arity_of (one not_starts_with) = refl
arity_of (many is_in) = refl
arity_of (many not_in) = refl

pub operator_of_lem : (o : PredicateOperator) → operator_of (by_arity o) ≡ o
operator_of_lem IsNull = refl
operator_of_lem NotNull = refl
operator_of_lem IsNan = refl
operator_of_lem NotNan = refl
operator_of_lem LessThan = refl
operator_of_lem LessThanOrEq = refl
operator_of_lem GreaterThan = refl
operator_of_lem GreaterThanOrEq = refl
operator_of_lem Eq = refl
operator_of_lem NotEq = refl
operator_of_lem StartsWith = refl
operator_of_lem NotStartsWith = refl
operator_of_lem In = refl
operator_of_lem NotIn = refl

-- what takes neither none nor many takes one
pub takes_one_else : (a : Operator) → takes_none a ≡ false → takes_many a ≡ false → takes_one a ≡ true
takes_one_else (none o) h k = absurd (true≢false h)
takes_one_else (one o) h k = refl
takes_one_else (many o) h k = absurd (true≢false k)

-- how many literals each kind takes
pub takes_none_lem : (a : Operator) (n : ℕ) → takes_none a ≡ true → eqb n 0 ≡ takes a n
takes_none_lem (none o) n h = refl
takes_none_lem (one o) n h = absurd (false≢true h)
takes_none_lem (many o) n h = absurd (false≢true h)

pub takes_one_lem : (a : Operator) (n : ℕ) → takes_one a ≡ true → eqb n 1 ≡ takes a n
takes_one_lem (none o) n h = absurd (false≢true h)
takes_one_lem (one o) n h = refl
takes_one_lem (many o) n h = absurd (false≢true h)

pub takes_many_lem : (a : Operator) (n : ℕ) → takes_many a ≡ true → true ≡ takes a n
takes_many_lem (none o) n h = absurd (false≢true h)
takes_many_lem (one o) n h = absurd (false≢true h)
takes_many_lem (many o) n h = refl

-- an operator and its opposite take alike
pub takes_negated : (o : PredicateOperator) (n : ℕ) → takes (by_arity (negated o)) n ≡ takes (by_arity o) n
takes_negated IsNull n = refl
takes_negated NotNull n = refl
takes_negated IsNan n = refl
takes_negated NotNan n = refl
takes_negated LessThan n = refl
takes_negated LessThanOrEq n = refl
takes_negated GreaterThan n = refl
takes_negated GreaterThanOrEq n = refl
takes_negated Eq n = refl
takes_negated NotEq n = refl
takes_negated StartsWith n = refl
takes_negated NotStartsWith n = refl
takes_negated In n = refl
takes_negated NotIn n = refl

-- ---- predicates
module _ {A : Type 0} where
  pub predicate_back : (p : Predicate A) → predicate (operator_in p) (literals_in p) ≡ Ok p
  predicate_back (unary o) = rw (arity_of (none o))
  predicate_back (test (binary o l)) = rw (arity_of (one o))
  predicate_back (test (set o ls)) = rw (arity_of (many o))

  -- a leaf is that of its operator and its literals, of which it has as many as the operator takes
  pub leaf_of_lem : (other : A) (p : Predicate A) → leaf_of other (by_arity (operator_in p)) (literals_in p) ≡ p
  leaf_of_lem other (unary o) = rw (arity_of (none o))
  leaf_of_lem other (test (binary o l)) = rw (arity_of (one o))
  leaf_of_lem other (test (set o ls)) = rw (arity_of (many o))

  pub takes_its : (p : Predicate A) → takes (by_arity (operator_in p)) (length (literals_in p)) ≡ true
  takes_its (unary o) = rw (arity_of (none o))
  takes_its (test (binary o l)) = rw (arity_of (one o))
  takes_its (test (set o ls)) = rw (arity_of (many o))

  -- a leaf of an operator has its literals, where they are as many as the operator takes; what stands for a literal that is not there then does not matter
  pub leaf_arity : (other : A) (a : Operator) (ls : List A) → by_arity_in (leaf_of other a ls) ≡ a
  leaf_arity other (none o) ls = refl
  leaf_arity other (one o) [] = refl
  leaf_arity other (one o) (l ∷ ls) = refl
  leaf_arity other (many o) ls = refl

  pub leaf_literals : (other : A) (a : Operator) (ls : List A) → takes a (length ls) ≡ true → literals_in (leaf_of other a ls) ≡ ls
  leaf_literals other (none o) [] h = refl
  leaf_literals other (none o) (l ∷ ls) h = absurd (omega (arith, eqb-true (suc (length ls)) 0 h))
  leaf_literals other (one o) [] h = absurd (omega (arith, eqb-true 0 1 h))
  leaf_literals other (one o) (l ∷ []) h = refl
  leaf_literals other (one o) (l ∷ k ∷ ls) h = absurd (omega (arith, eqb-true (suc (suc (length ls))) 1 h))
  leaf_literals other (many o) ls h = refl

  pub other_literal : (d e : A) (a : Operator) (ls : List A) → takes a (length ls) ≡ true → leaf_of d a ls ≡ leaf_of e a ls
  other_literal d e (none o) ls h = refl
  other_literal d e (one o) [] h = absurd (omega (arith, eqb-true 0 1 h))
  other_literal d e (one o) (l ∷ ls) h = refl
  other_literal d e (many o) ls h = refl

  with_literals_lem : (a : Operator) (ls : List A) (p : Predicate A) → with_literals a ls ≡ Ok p → (operator_in p ≡ operator_of a) × (literals_in p ≡ ls)
  with_literals_lem (none o) [] p e = rw (← ok_inj e) (refl, refl)
  with_literals_lem (none o) (l ∷ ls) p e = ok_not_err e
  with_literals_lem (one o) [] p e = ok_not_err e
  with_literals_lem (one o) (l ∷ []) p e = rw (← ok_inj e) (refl, refl)
  with_literals_lem (one o) (l ∷ k ∷ ls) p e = ok_not_err e
  with_literals_lem (many o) ls p e = rw (← ok_inj e) (refl, refl)

  pub predicate_parts : (o : PredicateOperator) (ls : List A) (p : Predicate A) → predicate o ls ≡ Ok p → (operator_in p ≡ o) × (literals_in p ≡ ls)
  predicate_parts o ls p e = let h = with_literals_lem (by_arity o) ls p e in (h.0 ∙ operator_of_lem o, h.1)
