-- What the steps give of a leaf, by the kind of its column, its transform and its operator. Assumes nothing.
use Rattle.std.specs.Prelude.{ℕ, true, false, List, [], map, ◌≡◌, refl, ℤ, pos, length, Ok, Err}
use Rattle.std.proofs.Common.{sym, ap, ◌∙◌}
use Rattle.values.specs.Order.{compare_numbers, compare_bytes}
use Rattle.values.specs.Outcomes.{Res}
use Rattle.values.specs.laws.TestLaws.{clash, or_neither}
use Rattle.values.specs.Types.{Layout, number, bytes, layout}
use Rattle.values.specs.Words.{le_number, signed}
use Rattle.values.specs.declared.datatypes.PrimitiveType.{PrimitiveType}
use Rattle.values.specs.declared.datatypes.PrimitiveType.TheVariants.{Int, Long, Date, Time, String, Binary}
use Rattle.values.specs.declared.datatypes.PrimitiveType.TheVariants.{Timestamp, Timestamptz, TimestampNs, TimestamptzNs}
use Rattle.values.specs.declared.error.ErrorKind.TheVariants.{FeatureUnsupported}
use Rattle.std.specs.declared.cmp.Ordering.{Ordering}
use Rattle.values.specs.declared.transform.Transform.{Transform}
use Rattle.values.specs.declared.transform.Transform.TheVariants.{Identity, Truncate, Year, Month, Day, Hour, Void, Unknown}
use Rattle.expr.specs.Operators as operators
use Rattle.expr.specs.Operators.{Unary, SetOperator, is_in, not_in, Operator, one, many, by_arity, operator_of}
use Rattle.expr.specs.code.OperatorAnswers.{leaf_of, takes_none, takes_many}
use Rattle.expr.specs.laws.PredicateLaws.{operator_of_lem}
use Rattle.expr.specs.Predicates.{Test, Predicate, unary, test, set}
use Rattle.expr.specs.declared.operator.PredicateOperator.{PredicateOperator}
use Rattle.numbers.specs.laws.BoundaryLaws.{lifted_none}
use Rattle.projection.specs.Lifting.{lifted}
use Rattle.projection.specs.Projection.{through, by_transform, number_step, bytes_step}
use Rattle.projection.specs.Steps.{Projected, some, none}
use Rattle.projection.specs.declared.question.Question.{Question}
use Rattle.projection.specs.declared.question.Question.TheVariants.{Inclusive, Strict, Older}
use Rattle.sheet.specs.code.Placed.{Placed, contents_at, numbers_at}
use Rattle.write.specs.Written.{answer_bytes, answer_sheet}
use Rattle.sheet.specs.code.Contents.{number_in}
use Rattle.sheet.specs.laws.ReadLaws.{map_leaf, placed_numbers}
use Rattle.sheet.specs.Values.{by_layout, map_literals}
use Rattle.answers.specs.code.Leaves.{number_steps_under, byte_steps_under, steps_under, number_steps, steps, number_leaf_of, bytes_leaf_of}
use Rattle.answers.specs.code.Leaves.{has_steps, is_identity, kept_by, keeps, NumberColumn, BytesColumn}
use Rattle.answers.specs.declared.leaf.Leaf.{Leaf}

-- ---- leaves of either kind of column
module _ {A : Type 0} (compare : A → A → Ordering) (step : Test A → Res (Projected (Test A))) where
  unary_through : (t : Transform) (o : Unary) → has_steps t ≡ true → by_transform compare step t (unary o) ≡ Ok (some (unary o))
  unary_through Identity o h = refl
  unary_through (Truncate width) o h = refl
  unary_through Year o h = refl
  unary_through Month o h = refl
  unary_through Day o h = refl
  unary_through Hour o h = refl
  unary_through Void o h = cc
  unary_through Unknown o h = cc

  -- every other transform than Identity that has steps
  pub steps_through : (t : Transform) (leaf : Predicate A) → has_steps t ≡ true → is_identity t ≡ false → by_transform compare step t leaf ≡ through step leaf
  steps_through Identity leaf h other = clash refl other
  steps_through (Truncate width) leaf h other = refl
  steps_through Year leaf h other = refl
  steps_through Month leaf h other = refl
  steps_through Day leaf h other = refl
  steps_through Hour leaf h other = refl
  steps_through Void leaf h other = clash h refl
  steps_through Unknown leaf h other = clash h refl

  step_none : (t : Transform) (u : Test A) → has_steps t ≡ true → is_identity t ≡ false → step u ≡ Ok none
      → by_transform compare step t (test u) ≡ Ok none
  step_none t u h other e = steps_through t (test u) h other ∙ rw e

module _ (column : PrimitiveType) (transform : Transform) where
  numbers_not_kept : (question : Question) (o : SetOperator) (ls : List ℤ) → kept_by question (many o) ≡ false
      → number_step column transform question (set o ls) ≡ Ok none
  numbers_not_kept Inclusive is_in ls h = clash refl h
  numbers_not_kept Inclusive not_in ls h = ap Ok (sym (lifted_none (lifted column transform)))
  numbers_not_kept Strict is_in ls h = refl
  numbers_not_kept Strict not_in ls h = clash refl h
  numbers_not_kept Older is_in ls h = refl
  numbers_not_kept Older not_in ls h = clash refl h

  bytes_not_kept : (question : Question) (o : SetOperator) (ls : List (List ℕ)) → kept_by question (many o) ≡ false
      → bytes_step column transform question (set o ls) ≡ Ok none
  bytes_not_kept Inclusive is_in ls h = clash refl h
  bytes_not_kept Inclusive not_in ls h = refl
  bytes_not_kept Strict is_in ls h = refl
  bytes_not_kept Strict not_in ls h = clash refl h
  bytes_not_kept Older is_in ls h = refl
  bytes_not_kept Older not_in ls h = clash refl h

zero_number : (column : PrimitiveType) → number_in (layout column) [] ≡ pos 0
zero_number Int = refl
zero_number Long = refl
zero_number Date = refl
zero_number Time = refl
zero_number Timestamp = refl
zero_number Timestamptz = refl
zero_number TimestampNs = refl
zero_number TimestamptzNs = refl
zero_number String = refl
zero_number Binary = refl

module _ (question : Question) (column to : PrimitiveType) (transform : Transform) where
  -- ---- by the kind of the column
  either_kind : (leaf : Predicate (List ℕ)) {r : Res (Projected (List ℕ))}
      → ((n : ℕ) → number_steps_under question column to transform (map_literals (λ bs. signed n (le_number bs)) leaf) ≡ r)
      → byte_steps_under question column to transform leaf ≡ r → steps_under question column to transform leaf ≡ r
  either_kind leaf {r} f g = go (layout column)
    where
      go : (l : Layout) → by_layout l
          (λ n. number_steps_under question column to transform (map_literals (λ bs. signed n (le_number bs)) leaf))
          (byte_steps_under question column to transform leaf)
          ≡ r
      go (number n) = f n
      go (bytes n) = g

  pub bytes_steps : (leaf : Predicate (List ℕ)) → BytesColumn column
      → steps_under question column to transform leaf ≡ byte_steps_under question column to transform leaf
  bytes_steps leaf is = rw is

  number_kind : (leaf : Predicate (List ℕ)) → NumberColumn column
      → steps_under question column to transform leaf ≡ number_steps_under question column to transform (map_literals (number_in (layout column)) leaf)
  number_kind leaf is = rw is.is

  pub number_steps_lem : (a : Operator) (s records : List ℕ) (count : ℕ) → NumberColumn column → Placed (layout column) s records count
      → steps_under question column to transform (leaf_of [] a (contents_at s records count))
      ≡ number_steps_under question column to transform (leaf_of (pos 0) a (numbers_at (layout column) s records count))
  number_steps_lem a s records count is placed =
      number_kind (leaf_of [] a (contents_at s records count)) is
      ∙ ap (number_steps_under question column to transform) (map_leaf (number_in (layout column)) [] a (contents_at s records count)
      ∙ rw (zero_number column, placed_numbers (layout column) s records count placed))

  -- ---- by the transform: those without steps
  pub void_steps : (leaf : Predicate (List ℕ)) → transform ≡ Void → steps_under question column to transform leaf ≡ Ok none
  unfolding number_steps_under byte_steps_under
  void_steps leaf is = either_kind leaf (λ n. rw is) (rw is)

  pub unknown_steps : (leaf : Predicate (List ℕ)) → transform ≡ Unknown → steps_under question column to transform leaf ≡ Err FeatureUnsupported
  unfolding number_steps_under byte_steps_under
  unknown_steps leaf is = either_kind leaf (λ n. rw is) (rw is)

  -- ---- by the operator
  module _ (known : has_steps transform ≡ true) where
    abbrev number_test : Test ℤ → Res (Projected (Test ℤ))
    number_test u = number_step column transform question u

    abbrev bytes_test : Test (List ℕ) → Res (Projected (Test (List ℕ)))
    bytes_test u = bytes_step column transform question u

    unary_leaf : (operator : PredicateOperator) (o : Unary) → operator ≡ operator_of (operators.none o)
        → steps_under question column to transform (unary o) ≡ Ok (some (answer_bytes operator to []))
    unfolding number_steps_under byte_steps_under answer_sheet
    unary_leaf operator o is =
        either_kind
        (unary o)
        (λ n. rw (unary_through compare_numbers number_test transform o known, is))
        (rw (unary_through compare_bytes bytes_test transform o known, is))

    pub unary_steps : (operator : PredicateOperator) (ls : List (List ℕ)) → takes_none (by_arity operator) ≡ true
        → steps_under question column to transform (leaf_of [] (by_arity operator) ls) ≡ Ok (some (answer_bytes operator to []))
    unary_steps operator ls h = go (by_arity operator) (sym (operator_of_lem operator)) h
      where
        go : (a : Operator) → operator ≡ operator_of a → takes_none a ≡ true
            → steps_under question column to transform (leaf_of [] a ls) ≡ Ok (some (answer_bytes operator to []))
        go (operators.none o) e h = unary_leaf operator o e
        go (one o) e h = clash h refl
        go (many o) e h = clash h refl

    module _ (o : SetOperator) (left_out : keeps transform question (many o) ≡ false) where
      numbers_none : (zs : List ℤ) → by_transform compare_numbers number_test transform (test (set o zs)) ≡ Ok none
      numbers_none zs =
          let k = or_neither (is_identity transform) (kept_by question (many o)) left_out in
          step_none compare_numbers number_test transform (set o zs) known k.0 (numbers_not_kept column transform question o zs k.1)

      bytes_none : (ls : List (List ℕ)) → by_transform compare_bytes bytes_test transform (test (set o ls)) ≡ Ok none
      bytes_none ls =
          let k = or_neither (is_identity transform) (kept_by question (many o)) left_out in
          step_none compare_bytes bytes_test transform (set o ls) known k.0 (bytes_not_kept column transform question o ls k.1)

      set_leaf : (ls : List (List ℕ)) → steps_under question column to transform (test (set o ls)) ≡ Ok none
      unfolding number_steps_under byte_steps_under
      set_leaf ls = either_kind (test (set o ls)) (λ n. rw (numbers_none (map (λ bs. signed n (le_number bs)) ls))) (rw (bytes_none ls))

    pub set_not_kept : (a : Operator) (ls : List (List ℕ)) → takes_many a ≡ true → keeps transform question a ≡ false
        → steps_under question column to transform (leaf_of [] a ls) ≡ Ok none
    set_not_kept (operators.none o) ls h k = clash h refl
    set_not_kept (one o) ls h k = clash h refl
    set_not_kept (many o) ls h k = set_leaf o k ls

-- the numbers of a leaf that was read are in their records
pub number_steps_of : (x : Leaf) → NumberColumn x.sheet.literals.column → steps x (bytes_leaf_of x) ≡ number_steps x (number_leaf_of x)
number_steps_of x is =
    let y = x.sheet in
    let l = y.literals in
    number_steps_lem x.question l.column x.to y.transform (by_arity y.operator) l.sheet.now l.records.now (length l.records.now) is l.placed
