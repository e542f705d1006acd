-- What the rows of the table ask of the code: neighbours of 64 bits, and operators that take one literal. Assumes nothing.
use Rattle.std.specs.Prelude.{◌≡◌, refl, Bool, true, false, Option, Some, None, Ok, ℤ, pos, ◌+ℤ◌, ◌-ℤ◌, SomeIff, IfOk, FitsSigned}
use Rattle.std.proofs.Common.{ap, ◌∙◌, to_z, of_z}
use Rattle.std.proofs.Math.IntN.{suc_ℤ, pred_ℤ, +ℤ_one, -ℤ_one}
use Rattle.std.specs.Int.{w64}
use Rattle.values.specs.laws.SignedLaws.{back}
use Rattle.values.specs.laws.RangeLaws.{in_type_long}
use Rattle.values.specs.laws.TestLaws.{refuted}
use Rattle.values.specs.Outcomes.{Res, need, ◌>>=◌, ◌>>◌}
use Rattle.values.specs.Types.{in_type}
use Rattle.values.specs.declared.datatypes.PrimitiveType.{PrimitiveType}
use Rattle.values.specs.declared.error.ErrorKind.TheVariants.{Overflow}
use Rattle.values.specs.declared.transform.Transform.{Transform}
use Rattle.expr.specs.Operators as operators
use Rattle.expr.specs.Operators.{Operator, by_arity}
use Rattle.expr.specs.code.OperatorAnswers.{takes_one}
use Rattle.expr.specs.declared.operator.PredicateOperator.{PredicateOperator}
use Rattle.expr.specs.declared.operator.PredicateOperator.TheVariants.{LessThan, LessThanOrEq, GreaterThan, GreaterThanOrEq}
use Rattle.projection.specs.code.OneLiteral.{lifts_for}
use Rattle.expr.specs.Predicates.{Test}
use Rattle.projection.specs.Steps.{Projected}
use denote.Enum.Bare.{sameb}
use Rattle.projection.specs.contracts.question.Question.{the_type}
use Rattle.projection.specs.declared.question.Question.{Question}
use Rattle.projection.specs.declared.question.Question.TheVariants.{Inclusive, Strict, Older}
use Rattle.numbers.specs.code.Boundaries.{number_leaf, neighbour, held, at_neighbour, Boundary, inclusive_boundary, strict_boundary, strict_leaf, OneAt}
use Rattle.numbers.specs.laws.BoundaryLaws.{strict_at, older_at}

-- ---- no type holds a number that 64 bits do not
module _ (column : PrimitiveType) where
  checked : (z : ℤ) (o : Option ℤ) → SomeIff o (FitsSigned w64 z) z → held column o ≡ neighbour column z
  checked z (Some x) h = ap (neighbour column) h.1
  checked z None h = rw (refuted (in_type column z) (λ e. h (in_type_long column z e)))

  module _ (v : ℤ) (f : FitsSigned w64 v) (o : Option ℤ) where
    pub one_above : SomeIff o (FitsSigned w64 (to_z w64 (of_z w64 v) +ℤ pos 1)) (to_z w64 (of_z w64 v) +ℤ pos 1) → held column o ≡ neighbour column (suc_ℤ v)
    one_above h = checked (suc_ℤ v) o (rw (back f, +ℤ_one v) at h)

    pub one_below : SomeIff o (FitsSigned w64 (to_z w64 (of_z w64 v) -ℤ pos 1)) (to_z w64 (of_z w64 v) -ℤ pos 1) → held column o ≡ neighbour column (pred_ℤ v)
    one_below h = checked (pred_ℤ v) o (rw (back f, -ℤ_one v) at h)

-- ---- the rows have operators that take one literal, and numbers of the column's type
module _ (column : PrimitiveType) where
  neighbour_one : (o : PredicateOperator) (z : ℤ) → takes_one (by_arity o) ≡ true → IfOk (at_neighbour column o z) (OneAt column)
  neighbour_one o z h = go (in_type column z) refl
    where
      go : (b : Bool) → in_type column z ≡ b → IfOk ((need b Overflow >> Ok z) >>= λ n. Ok (Some (o, n))) (OneAt column)
      go true e = (h, e)
      go false e = tt

  inclusive_rows : (a : Operator) (l : ℤ) → in_type column l ≡ true → IfOk (inclusive_boundary column a l) (OneAt column)
  inclusive_rows (operators.none o) l h = tt
  inclusive_rows (operators.one operators.less_than) l h = neighbour_one LessThanOrEq (pred_ℤ l) refl
  inclusive_rows (operators.one operators.less_than_or_eq) l h = (refl, h)
  inclusive_rows (operators.one operators.greater_than) l h = neighbour_one GreaterThanOrEq (suc_ℤ l) refl
  inclusive_rows (operators.one operators.greater_than_or_eq) l h = (refl, h)
  inclusive_rows (operators.one operators.eq) l h = (refl, h)
  inclusive_rows (operators.one operators.not_eq) l h = tt
  inclusive_rows (operators.one operators.starts_with) l h = (refl, h)
  inclusive_rows (operators.one operators.not_starts_with) l h = (refl, h)
  inclusive_rows (operators.many o) l h = tt

  strict_rows : (a : Operator) (l : ℤ) → in_type column l ≡ true → IfOk (strict_boundary column a l) (OneAt column)
  strict_rows (operators.none o) l h = tt
  strict_rows (operators.one operators.less_than) l h = (refl, h)
  strict_rows (operators.one operators.less_than_or_eq) l h = neighbour_one LessThan (suc_ℤ l) refl
  strict_rows (operators.one operators.greater_than) l h = (refl, h)
  strict_rows (operators.one operators.greater_than_or_eq) l h = neighbour_one GreaterThan (pred_ℤ l) refl
  strict_rows (operators.one operators.eq) l h = tt
  strict_rows (operators.one operators.not_eq) l h = (refl, h)
  strict_rows (operators.one operators.starts_with) l h = tt
  strict_rows (operators.one operators.not_starts_with) l h = tt
  strict_rows (operators.many o) l h = tt

  module _ (a : Operator) (l : ℤ) (f : FitsSigned w64 l) (b : Boundary) where
    pub inclusive_one : in_type column l ≡ true → Ok b ≡ inclusive_boundary column a (to_z w64 (of_z w64 l)) → OneAt column b
    inclusive_one h e = let k : Ok b ≡ inclusive_boundary column a l = rw (back f) at e in rw (← k) at (inclusive_rows a l h)

    pub strict_one : in_type column l ≡ true → Ok b ≡ strict_boundary column a (to_z w64 (of_z w64 l)) → OneAt column b
    strict_one h e = let k : Ok b ≡ strict_boundary column a l = rw (back f) at e in rw (← k) at (strict_rows a l h)

-- ---- a leaf by its row, where the question is not inclusive
pub strict_is : (column : PrimitiveType) (transform : Transform) (a : Operator) (l : ℤ) (f : FitsSigned w64 l) (r : Res (Projected (Test ℤ))) (question : Question) (raised : Bool)
    → sameb the_type question Inclusive ≡ false → raised ≡ lifts_for question column transform
    → r ≡ strict_leaf raised column transform a (to_z w64 (of_z w64 l)) → r ≡ number_leaf question column transform a l
strict_is column transform a l f r Inclusive raised n is h = cc
strict_is column transform a l f r Strict raised n is h = h ∙ rw (is, back f, strict_at column transform a l)
strict_is column transform a l f r Older raised n is h = h ∙ rw (is, back f, older_at column transform a l)
