-- What is answered of a row and of a partition value, by the operator, the result type and the transform. Assumes nothing.
use Rattle.std.specs.Prelude.{ℕ, Bool, true, false, List, ◌≡◌, ℤ, Ok, Err}
use Rattle.std.proofs.Math.Path.{refl}
use Rattle.std.proofs.Common.{ap}
use Rattle.values.specs.Order.{compare_numbers, compare_bytes}
use Rattle.values.specs.Outcomes.{Res, ◌>>=◌, Row, missing, present}
use Rattle.values.specs.declared.datatypes.PrimitiveType.{PrimitiveType}
use Rattle.values.specs.declared.error.ErrorKind.{ErrorKind}
use Rattle.values.specs.declared.error.ErrorKind.TheVariants.{FeatureUnsupported}
use Rattle.std.specs.declared.cmp.Ordering.{Ordering}
use Rattle.values.specs.declared.transform.Transform.{Transform}
use Rattle.values.specs.declared.transform.Transform.TheVariants.{Identity, Void, Unknown}
use Rattle.values.specs.laws.TestLaws.{clash}
use Rattle.partition.specs.ResultType.{result_type}
use Rattle.expr.specs.Holds.{Tests, number_tests, bytes_tests, holds}
use Rattle.expr.specs.Operators as operators
use Rattle.expr.specs.Operators.{Operator, Binary, one}
use Rattle.expr.specs.Predicates.{Test, Predicate, binary, test}
use Rattle.expr.specs.code.OperatorAnswers.{takes_one, takes_many}
use Rattle.projection.specs.Projection.{by_transform, number_step, project_numbers, bytes_step, project_bytes}
use Rattle.projection.specs.Steps.{Projected, mapped}
use Rattle.projection.specs.code.OneLiteral.{one_test}
use Rattle.projection.specs.declared.question.Question.{Question}
use Rattle.numbers.specs.code.Boundaries.{number_leaf, two_test}
use Rattle.strings.specs.code.Prefixes.{bytes_leaf}
use Rattle.answers.specs.code.Leaves.{has_steps, is_identity}
use Rattle.answers.specs.laws.StepsLaws.{steps_through}
use Rattle.ask.specs.LeafAnswers.{without_predicate, accepted}
use Rattle.ask.specs.code.Askings.{leaf_held, one_held, number_row, number_answer, text_answer, meets_row, meets_two, step_held}
use Rattle.ask.specs.declared.asked.Asked.TheVariants as asked

-- ---- values of either kind
module _ {A : Type 0} (by : Tests A) where
  meets_row_lem : (o : Binary) (l : A) (r : Row A) → holds by (test (binary o l)) r ≡ meets_row by (one o) l r
  meets_row_lem o l missing = refl
  meets_row_lem o l (present v) = refl

  -- what a step gave with one literal
  pub step_one : (question : Question) (a : Operator) (l : A) (p : Row A) → takes_one a ≡ true
      → step_held by question (Ok (one_test a l)) p ≡ Ok (meets_row by a l p)
  step_one question (operators.none o) l p h = clash h refl
  step_one question (one o) l p h = ap Ok (meets_row_lem o l p)
  step_one question (operators.many o) l p h = clash h refl

  module _ (to : Res PrimitiveType) (project : Question → Predicate A → Res (Projected (Predicate A))) where
    row_held : (a : Operator) (l : A) (r : Row A) → takes_one a ≡ true → one_held by to project asked.Row a l r ≡ Ok (meets_row by a l r)
    row_held (operators.none o) l r h = clash h refl
    row_held (one o) l r h = ap Ok (meets_row_lem o l r)
    row_held (operators.many o) l r h = clash h refl

-- and with a set of two
pub step_two : (question : Question) (a : Operator) (t : ℤ) (p : Row ℤ) → takes_many a ≡ true
    → step_held number_tests question (Ok (two_test a t)) p ≡ Ok (meets_two a t p)
step_two question (operators.none o) t p h = clash h refl
step_two question (one o) t p h = clash h refl
step_two question (operators.many o) t p h = refl

-- ---- a partition value's answer: 5, Unknown's 7, what is answered without a predicate, by the leaf itself, and by its step
pub record PartAnswer (answer : Res Bool) (to : Res PrimitiveType) (transform : Transform) (without itself : Bool) (step : Res Bool) : Type 0 where
  pub no_type : (e : ErrorKind) → to ≡ Err e → answer ≡ Err e
  pub unknown : (type : PrimitiveType) → to ≡ Ok type → transform ≡ Unknown → answer ≡ Err FeatureUnsupported
  pub void : (type : PrimitiveType) → to ≡ Ok type → transform ≡ Void → answer ≡ Ok without
  pub identity : (type : PrimitiveType) → to ≡ Ok type → transform ≡ Identity → answer ≡ Ok itself
  pub stepped : (type : PrimitiveType) → to ≡ Ok type → has_steps transform ≡ true → is_identity transform ≡ false → answer ≡ step

module _ {A : Type 0} (by : Tests A) (compare : A → A → Ordering) (step : Question → Test A → Res (Projected (Test A))) (question : Question) (o : Binary)
    (l : A) (p : Row A) (to : Res PrimitiveType) (transform : Transform) where
  abbrev leaf : Predicate A
  leaf = test (binary o l)

  abbrev project : Question → Predicate A → Res (Projected (Predicate A))
  project q f = by_transform compare (step q) transform f

  by_step : (r : Res (Projected (Test A))) → ((r >>= λ q. Ok (mapped test q)) >>= λ q. Ok (accepted by question q p)) ≡ step_held by question r p
  by_step (Ok q) = refl
  by_step (Err e) = refl

  part_answer_lem : PartAnswer (leaf_held by to project (asked.Part question) leaf p) to transform
      (without_predicate question) (meets_row by (one o) l p) (step_held by question (step question (binary o l)) p)
  part_answer_lem = record {
    no_type = λ e t. rw t;
    unknown = λ type t is. rw (t, is);
    void = λ type t is. rw (t, is);
    identity = λ type t is. rw (t, is) (ap Ok (meets_row_lem by o l p));
    stepped = λ type t known other. rw (t, steps_through compare (step question) transform leaf known other) (by_step (step question (binary o l)));
  }

-- ---- numbers: a row's answer, and a partition value's
abbrev pub NumberPart : Question → PrimitiveType → Transform → Operator → ℤ → Row (List ℕ) → Type 0
NumberPart question column transform a l r =
    PartAnswer (number_answer (asked.Part question) column transform a l r) (result_type transform column) transform
    (without_predicate question) (meets_row number_tests a l (number_row r))
    (step_held number_tests question (number_leaf question column transform a l) (number_row r))

module _ (column : PrimitiveType) (transform : Transform) (l : ℤ) (r : Row (List ℕ)) where
  pub number_of_row : (a : Operator) → takes_one a ≡ true → number_answer asked.Row column transform a l r ≡ Ok (meets_row number_tests a l (number_row r))
  unfolding number_answer
  number_of_row a h = row_held number_tests (result_type transform column) (λ q leaf. project_numbers q column transform leaf) a l (number_row r) h

  pub number_of_part : (question : Question) (a : Operator) → takes_one a ≡ true → NumberPart question column transform a l r
  unfolding number_answer project_numbers
  number_of_part question (operators.none o) h = clash h refl
  number_of_part question (one o) h =
      part_answer_lem number_tests compare_numbers (λ q. number_step column transform q) question o l (number_row r) (result_type transform column) transform
  number_of_part question (operators.many o) h = clash h refl

-- ---- texts: a row's answer, and a partition value's
abbrev pub TextPart : Question → PrimitiveType → Transform → Operator → List ℕ → Row (List ℕ) → Type 0
TextPart question column transform a l r =
    PartAnswer (text_answer (asked.Part question) column transform a l r) (result_type transform column) transform
    (without_predicate question) (meets_row bytes_tests a l r)
    (step_held bytes_tests question (bytes_leaf question column transform a l) r)

module _ (column : PrimitiveType) (transform : Transform) (l : List ℕ) (r : Row (List ℕ)) where
  pub text_of_row : (a : Operator) → takes_one a ≡ true → text_answer asked.Row column transform a l r ≡ Ok (meets_row bytes_tests a l r)
  unfolding text_answer
  text_of_row a h = row_held bytes_tests (result_type transform column) (λ q leaf. project_bytes q column transform leaf) a l r h

  pub text_of_part : (question : Question) (a : Operator) → takes_one a ≡ true → TextPart question column transform a l r
  unfolding text_answer project_bytes
  text_of_part question (operators.none o) h = clash h refl
  text_of_part question (one o) h =
      part_answer_lem bytes_tests compare_bytes (λ q. bytes_step column transform q) question o l r (result_type transform column) transform
  text_of_part question (operators.many o) h = clash h refl
