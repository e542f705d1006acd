-- The opposite of a test, what a missing value meets of the two, sets whatever their order and repeats, leaves by operator and literals. Assumes nothing.
use Rattle.std.specs.Prelude.{Bool, true, false, not, List, [], ◌∷◌, ◌≡◌, refl}
use Rattle.std.proofs.Common.{true≢false, sym, ap, ◌∙◌}
use Rattle.std.proofs.lemmas.Bool.{false≢true}
use Rattle.values.specs.Ascending.{elem, ascending}
use Rattle.values.specs.laws.AscendingLaws.{elem_ascending}
use Rattle.values.specs.Outcomes.{missing}
use Rattle.values.specs.laws.TestLaws.{not_not}
use Rattle.std.specs.declared.cmp.Ordering.TheVariants.{Equal}
use Rattle.expr.specs.Holds.{Tests, missing_meets, set_meets, meets, present_meets, holds}
use Rattle.expr.specs.Operators as operators
use Rattle.expr.specs.code.OperatorAnswers.{negated, leaf_of}
use Rattle.expr.specs.declared.operator.PredicateOperator.{PredicateOperator}
use Rattle.expr.specs.declared.operator.PredicateOperator.TheVariants.{IsNull, NotNull, IsNan, NotNan, LessThan, LessThanOrEq, GreaterThan, GreaterThanOrEq, Eq, NotEq, StartsWith, NotStartsWith, In, NotIn}
use Rattle.expr.specs.laws.PredicateLaws.{leaf_arity}
use Rattle.expr.specs.Predicates.{Test, binary, set, test, operator_in, literals_in}

-- ---- opposites
abbrev pub opposite_set : operators.SetOperator → operators.SetOperator
opposite_set operators.is_in = operators.not_in
opposite_set operators.not_in = operators.is_in

abbrev pub opposite : {A : Type 0} → Test A → Test A
opposite (binary o l) = binary (operators.opposite_binary o) l
opposite (set o ls) = set (opposite_set o) ls

pub opposite_twice : {A : Type 0} (t : Test A) → opposite (opposite t) ≡ t
opposite_twice (binary operators.less_than l) = refl
opposite_twice (binary operators.less_than_or_eq l) = refl
opposite_twice (binary operators.greater_than l) = refl
opposite_twice (binary operators.greater_than_or_eq l) = refl
opposite_twice (binary operators.eq l) = refl
opposite_twice (binary operators.not_eq l) = refl
opposite_twice (binary operators.starts_with l) = refl
opposite_twice (binary operators.not_starts_with l) = refl
opposite_twice (set operators.is_in ls) = refl
opposite_twice (set operators.not_in ls) = refl

-- the code's `negate`
pub opposite_operator : {A : Type 0} (t : Test A) → operator_in (test (opposite t)) ≡ negated (operator_in (test t))
opposite_operator (binary operators.less_than l) = refl
opposite_operator (binary operators.less_than_or_eq l) = refl
opposite_operator (binary operators.greater_than l) = refl
opposite_operator (binary operators.greater_than_or_eq l) = refl
opposite_operator (binary operators.eq l) = refl
opposite_operator (binary operators.not_eq l) = refl
opposite_operator (binary operators.starts_with l) = refl
opposite_operator (binary operators.not_starts_with l) = refl
opposite_operator (set operators.is_in ls) = refl
opposite_operator (set operators.not_in ls) = refl

pub opposite_literals : {A : Type 0} (t : Test A) → literals_in (test (opposite t)) ≡ literals_in (test t)
opposite_literals (binary o l) = refl
opposite_literals (set o ls) = refl

module _ {A : Type 0} (by : Tests A) where
  -- a present value meets the opposite exactly where it does not meet the test. This asks nothing of the comparison: "at most" is defined as not greater
  pub meets_opposite : (t : Test A) (v : A) → meets by (opposite t) v ≡ not (meets by t v)
  meets_opposite (binary operators.less_than l) v = refl
  meets_opposite (binary operators.less_than_or_eq l) v = sym (not_not _)
  meets_opposite (binary operators.greater_than l) v = refl
  meets_opposite (binary operators.greater_than_or_eq l) v = sym (not_not _)
  meets_opposite (binary operators.eq l) v = refl
  meets_opposite (binary operators.not_eq l) v = sym (not_not _)
  meets_opposite (binary operators.starts_with l) v = refl
  meets_opposite (binary operators.not_starts_with l) v = sym (not_not _)
  meets_opposite (set operators.is_in ls) v = refl
  meets_opposite (set operators.not_in ls) v = sym (not_not _)

  pub meets_false : (t : Test A) (v : A) → meets by (opposite t) v ≡ true → meets by t v ≡ false
  meets_false t v h = sym (not_not _) ∙ ap not (sym (meets_opposite t v) ∙ h)

  pub opposite_true : (t : Test A) (v : A) → meets by t v ≡ false → meets by (opposite t) v ≡ true
  opposite_true t v h = meets_opposite t v ∙ ap not h

  -- ---- sets: only their members matter
  pub set_members : (o : operators.SetOperator) (v : A) (ks ls : List A)
      → elem by.compare v ks ≡ elem by.compare v ls → set_meets by o v ks ≡ set_meets by o v ls
  set_members operators.is_in v ks ls e = e
  set_members operators.not_in v ks ls e = ap not e

  pub meets_ascending : ((a b : A) → by.compare a b ≡ Equal → a ≡ b) → (o : operators.SetOperator) (ls : List A) (v : A)
      → meets by (set o (ascending by.compare ls)) v ≡ meets by (set o ls) v
  meets_ascending equal o ls v = set_members o v (ascending by.compare ls) ls (elem_ascending by.compare equal v ls)

-- ---- a missing value, after 02, #106. Of Eq, NotEq, StartsWith, NotStartsWith, In and NotIn it meets one and not its opposite, as every present value does
pub missing_opposite : (o : operators.Binary) → operators.ordered o ≡ false
    → missing_meets (operators.one (operators.opposite_binary o)) ≡ not (missing_meets (operators.one o))
missing_opposite operators.less_than h = absurd (true≢false h)
missing_opposite operators.less_than_or_eq h = absurd (true≢false h)
missing_opposite operators.greater_than h = absurd (true≢false h)
missing_opposite operators.greater_than_or_eq h = absurd (true≢false h)
missing_opposite operators.eq h = refl
missing_opposite operators.not_eq h = refl
missing_opposite operators.starts_with h = refl
missing_opposite operators.not_starts_with h = refl

pub missing_opposite_set : (o : operators.SetOperator) → missing_meets (operators.many (opposite_set o)) ≡ not (missing_meets (operators.many o))
missing_opposite_set operators.is_in = refl
missing_opposite_set operators.not_in = refl

-- of <, ≤, > and ≥ it meets none, and so neither one nor its opposite
pub missing_unordered : (o : operators.Binary) → operators.ordered o ≡ true
    → (missing_meets (operators.one o) ≡ false) × (missing_meets (operators.one (operators.opposite_binary o)) ≡ false)
missing_unordered operators.less_than h = (refl, refl)
missing_unordered operators.less_than_or_eq h = (refl, refl)
missing_unordered operators.greater_than h = (refl, refl)
missing_unordered operators.greater_than_or_eq h = (refl, refl)
missing_unordered operators.eq h = absurd (false≢true h)
missing_unordered operators.not_eq h = absurd (false≢true h)
missing_unordered operators.starts_with h = absurd (false≢true h)
missing_unordered operators.not_starts_with h = absurd (false≢true h)

-- ---- a leaf by its operator and its literals
module _ {A : Type 0} (by : Tests A) (other : A) (ls : List A) where
  pub missing_leaf : (a : operators.Operator) → holds by (leaf_of other a ls) missing ≡ missing_meets a
  missing_leaf a = ap missing_meets (leaf_arity other a ls)

  abbrev met : operators.Operator → A → Bool
  met a v = present_meets by (leaf_of other a ls) v

  opposite_one : (o : operators.Binary) (v : A) → met (operators.one (operators.opposite_binary o)) v ≡ not (met (operators.one o) v)
  opposite_one o v = go ls
    where
      go : (ls : List A)
          → present_meets by (leaf_of other (operators.one (operators.opposite_binary o)) ls) v ≡ not (present_meets by (leaf_of other (operators.one o) ls) v)
      go [] = meets_opposite by (binary o other) v
      go (l ∷ ls) = meets_opposite by (binary o l) v

  -- a present value meets the negated operator exactly where it does not meet the operator
  pub negated_leaf : (o : PredicateOperator) (v : A) → met (operators.by_arity (negated o)) v ≡ not (met (operators.by_arity o) v)
  negated_leaf IsNull v = refl
  negated_leaf NotNull v = refl
  negated_leaf IsNan v = refl
  negated_leaf NotNan v = refl
  negated_leaf LessThan v = opposite_one operators.less_than v
  negated_leaf LessThanOrEq v = opposite_one operators.less_than_or_eq v
  negated_leaf GreaterThan v = opposite_one operators.greater_than v
  negated_leaf GreaterThanOrEq v = opposite_one operators.greater_than_or_eq v
  negated_leaf Eq v = opposite_one operators.eq v
  negated_leaf NotEq v = opposite_one operators.not_eq v
  negated_leaf StartsWith v = opposite_one operators.starts_with v
  negated_leaf NotStartsWith v = opposite_one operators.not_starts_with v
  negated_leaf In v = meets_opposite by (set operators.is_in ls) v
  negated_leaf NotIn v = meets_opposite by (set operators.not_in ls) v
