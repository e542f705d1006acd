-- The steps for numbers in the words of the code: the operator of a row with T of the row's boundary. Assumes nothing.
use Rattle.std.specs.Prelude.{Bool, true, false, ◌≡◌, refl, ℤ, pos, negsuc, Ok, Err}
use Rattle.std.proofs.Common.{sym, ap, ◌∙◌}
use Rattle.std.proofs.Math.IntN.{suc_ℤ, pred_ℤ}
use Rattle.values.specs.Outcomes.{Res, need, ◌>>=◌, ◌>>◌}
use Rattle.values.specs.Types.{in_type}
use Rattle.values.specs.declared.datatypes.PrimitiveType.{PrimitiveType}
use Rattle.values.specs.declared.error.ErrorKind.TheVariants.{Overflow}
use Rattle.values.specs.declared.transform.Transform.{Transform}
use Rattle.expr.specs.Operators as operators
use Rattle.expr.specs.Operators.{Binary, Operator, by_arity}
use Rattle.expr.specs.Predicates.{Test, binary}
use Rattle.expr.specs.declared.operator.PredicateOperator.{PredicateOperator}
use Rattle.expr.specs.declared.operator.PredicateOperator.TheVariants.{LessThan, LessThanOrEq, GreaterThan, GreaterThanOrEq}
use Rattle.projection.specs.code.OneLiteral.{one_test}
use Rattle.numbers.specs.code.Boundaries.{number_leaf, at_neighbour, inclusive_boundary, strict_boundary, raised_by, at_boundary}
use Rattle.projection.specs.Lifting.{lifted, older_if}
use Rattle.projection.specs.NumberSteps.{one_below, one_above}
use Rattle.projection.specs.Projection.{lifted_by, number_under}
use Rattle.projection.specs.Steps.{Projected, some, none, mapped, with_literal}
use Rattle.projection.specs.declared.question.Question.TheVariants.{Inclusive, Strict, Older}

-- lifting leaves none as it is
pub lifted_none : (b : Bool) → none ≡ lifted_by b none
lifted_none true = refl
lifted_none false = refl

-- an operator with a value, raised: where raising it is what a question does with its answer
raised_literal : (lifts : Bool) (f : Bool → Projected (Test ℤ) → Projected (Test ℤ)) (o : Binary) (r : Res ℤ)
    → ((b : Bool) (t : ℤ) → f b (some (binary o t)) ≡ raised_by b (some (binary o t)))
    → (with_literal o r >>= λ q. Ok (f lifts q)) ≡ (r >>= λ t. Ok (raised_by lifts (some (binary o t))))
raised_literal lifts f o (Ok t) same = ap Ok (same lifts t)
raised_literal lifts f o (Err e) same = refl

-- the rows of Inclusive
at_most_raised : (b : Bool) (t : ℤ) → lifted_by b (some (binary operators.less_than_or_eq t)) ≡ raised_by b (some (binary operators.less_than_or_eq t))
at_most_raised true (pos n) = refl
at_most_raised true (negsuc n) = refl
at_most_raised false t = refl

at_least_raised : (b : Bool) (t : ℤ) → lifted_by b (some (binary operators.greater_than_or_eq t)) ≡ raised_by b (some (binary operators.greater_than_or_eq t))
at_least_raised true t = refl
at_least_raised false t = refl

equal_raised : (b : Bool) (t : ℤ) → lifted_by b (some (binary operators.eq t)) ≡ raised_by b (some (binary operators.eq t))
equal_raised true (pos n) = refl
equal_raised true (negsuc n) = refl
equal_raised false t = refl

starts_raised : (b : Bool) (t : ℤ) → lifted_by b (some (binary operators.starts_with t)) ≡ raised_by b (some (binary operators.starts_with t))
starts_raised true t = refl
starts_raised false t = refl

not_starts_raised : (b : Bool) (t : ℤ) → lifted_by b (some (binary operators.not_starts_with t)) ≡ raised_by b (some (binary operators.not_starts_with t))
not_starts_raised true t = refl
not_starts_raised false t = refl

-- those of Strict, for older files
abbrev older_by : Bool → Projected (Test ℤ) → Projected (Test ℤ)
older_by lifts q = mapped (older_if lifts) q

less_raised : (b : Bool) (t : ℤ) → older_by b (some (binary operators.less_than t)) ≡ raised_by b (some (binary operators.less_than t))
less_raised true t = refl
less_raised false t = refl

greater_raised : (b : Bool) (t : ℤ) → older_by b (some (binary operators.greater_than t)) ≡ raised_by b (some (binary operators.greater_than t))
greater_raised true t = refl
greater_raised false t = refl

not_equal_raised : (b : Bool) (t : ℤ) → older_by b (some (binary operators.not_eq t)) ≡ raised_by b (some (binary operators.not_eq t))
not_equal_raised true t = refl
not_equal_raised false t = refl

module _ (column : PrimitiveType) (transform : Transform) where
  abbrev T : ℤ → Res ℤ
  T = number_under column transform

  abbrev lifts : Bool
  lifts = lifted column transform

  neighbour_at : (b : Bool) (o : PredicateOperator) (z : ℤ)
      → ((need (in_type column z) Overflow >> T z) >>= λ t. Ok (raised_by b (one_test (by_arity o) t))) ≡ (at_neighbour column o z >>= at_boundary b T)
  neighbour_at b o z = go (in_type column z)
    where
      go : (held : Bool)
          → ((need held Overflow >> T z) >>= λ t. Ok (raised_by b (one_test (by_arity o) t)))
          ≡ (((need held Overflow >> Ok z) >>= λ n. Ok (some (o, n))) >>= at_boundary b T)
      go true = refl
      go false = refl

  pub inclusive_at : (a : Operator) (l : ℤ) → number_leaf Inclusive column transform a l ≡ (inclusive_boundary column a l >>= at_boundary lifts T)
  inclusive_at (operators.none o) l = refl
  inclusive_at (operators.one operators.less_than) l =
      raised_literal lifts lifted_by operators.less_than_or_eq (one_below column T l) at_most_raised ∙ neighbour_at lifts LessThanOrEq (pred_ℤ l)
  inclusive_at (operators.one operators.less_than_or_eq) l = raised_literal lifts lifted_by operators.less_than_or_eq (T l) at_most_raised
  inclusive_at (operators.one operators.greater_than) l =
      raised_literal lifts lifted_by operators.greater_than_or_eq (one_above column T l) at_least_raised ∙ neighbour_at lifts GreaterThanOrEq (suc_ℤ l)
  inclusive_at (operators.one operators.greater_than_or_eq) l = raised_literal lifts lifted_by operators.greater_than_or_eq (T l) at_least_raised
  inclusive_at (operators.one operators.eq) l = raised_literal lifts lifted_by operators.eq (T l) equal_raised
  inclusive_at (operators.one operators.not_eq) l = ap Ok (sym (lifted_none lifts))
  inclusive_at (operators.one operators.starts_with) l = raised_literal lifts lifted_by operators.starts_with (T l) starts_raised
  inclusive_at (operators.one operators.not_starts_with) l = raised_literal lifts lifted_by operators.not_starts_with (T l) not_starts_raised
  inclusive_at (operators.many o) l = refl

  pub strict_at : (a : Operator) (l : ℤ) → number_leaf Strict column transform a l ≡ (strict_boundary column a l >>= at_boundary false T)
  strict_at (operators.none o) l = refl
  strict_at (operators.one operators.less_than) l = refl
  strict_at (operators.one operators.less_than_or_eq) l = neighbour_at false LessThan (suc_ℤ l)
  strict_at (operators.one operators.greater_than) l = refl
  strict_at (operators.one operators.greater_than_or_eq) l = neighbour_at false GreaterThan (pred_ℤ l)
  strict_at (operators.one operators.eq) l = refl
  strict_at (operators.one operators.not_eq) l = refl
  strict_at (operators.one operators.starts_with) l = refl
  strict_at (operators.one operators.not_starts_with) l = refl
  strict_at (operators.many o) l = refl

  pub older_at : (a : Operator) (l : ℤ) → number_leaf Older column transform a l ≡ (strict_boundary column a l >>= at_boundary lifts T)
  older_at (operators.none o) l = refl
  older_at (operators.one operators.less_than) l = raised_literal lifts older_by operators.less_than (T l) less_raised
  older_at (operators.one operators.less_than_or_eq) l =
      raised_literal lifts older_by operators.less_than (one_above column T l) less_raised ∙ neighbour_at lifts LessThan (suc_ℤ l)
  older_at (operators.one operators.greater_than) l = raised_literal lifts older_by operators.greater_than (T l) greater_raised
  older_at (operators.one operators.greater_than_or_eq) l =
      raised_literal lifts older_by operators.greater_than (one_below column T l) greater_raised ∙ neighbour_at lifts GreaterThan (pred_ℤ l)
  older_at (operators.one operators.eq) l = refl
  older_at (operators.one operators.not_eq) l = raised_literal lifts older_by operators.not_eq (T l) not_equal_raised
  older_at (operators.one operators.starts_with) l = refl
  older_at (operators.one operators.not_starts_with) l = refl
  older_at (operators.many o) l = refl
