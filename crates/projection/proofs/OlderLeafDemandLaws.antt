-- Files of older writers: inclusive predicates lose none of their rows, and those of the third question let in none that fails. One argument for all transforms
-- that are lifted, over any partial map that keeps the order. Assumes nothing.
use Rattle.std.specs.Prelude.{ℕ, Bool, true, false, List, ◌⊎◌, ◌≡◌, refl, ℤ, pos, ◌≤ℤ◌, ◌<ℤ◌, Ok, Err}
use Rattle.std.proofs.Common.{inl, inr, ⊎_elim, sym, ap, ◌∙◌}
use Rattle.std.proofs.Math.Path.{fun_ext}
use Rattle.std.proofs.Math.IntN.{suc_ℤ}
use Rattle.values.specs.code.Places.{AllOf}
use Rattle.values.specs.Order.{compare_numbers, compare_bytes}
use Rattle.values.specs.laws.OrderLaws.{number_order}
use Rattle.values.specs.Outcomes.{Res, ◌>>=◌, Row, missing, present}
use Rattle.values.specs.laws.OutcomeLaws.{ok_inj, present_inj, missing_not_present}
use Rattle.values.specs.laws.TestLaws.{stable, clash}
use Rattle.values.specs.declared.datatypes.PrimitiveType.{PrimitiveType}
use Rattle.values.specs.declared.transform.Transform.{Transform}
use Rattle.values.specs.declared.transform.Transform.TheVariants.{Identity}
use Rattle.partition.specs.code.PartitionAnswers.{InType}
use Rattle.partition.specs.Partition.{of_row, transform_number}
use Rattle.partition.specs.laws.PartitionRowLaws.{number_rows}
use Rattle.expr.specs.Holds.{number_tests, meets, holds}
use Rattle.expr.specs.laws.HoldsLaws.{opposite, opposite_literals, meets_false, opposite_true}
use Rattle.expr.specs.Operators.{Unary}
use Rattle.expr.specs.Predicates.{Test, Predicate, unary, test, literals_in}
use Rattle.projection.specs.Lifting.{lifted, older_if}
use Rattle.projection.specs.NumberSteps.{inclusive_number, strict_number}
use Rattle.projection.specs.Projection.{in_order, through, by_transform, lifted_by, number_under, number_step, project_numbers, project_bytes}
use Rattle.projection.specs.Steps.{Projected, some, none, mapped}
use Rattle.projection.specs.declared.question.Question.{Question}
use Rattle.projection.specs.declared.question.Question.TheVariants.{Inclusive, Strict, Older}
use Rattle.projection.specs.laws.LeafDemand.{RowOf}
use Rattle.projection.proofs.LeafDemandLaws.{under_mono, never_missing, identity_row}
use Rattle.projection.specs.laws.LiftingLaws.{lift_if, returned_lifted, lift_keeps}
use Rattle.projection.specs.laws.MissingLaws.{SameMissing}
use Rattle.projection.proofs.MissingLaws.{number_step_missing}
use Rattle.projection.specs.laws.NumberLaws.{Has, Exact}
use Rattle.projection.proofs.NumberLaws.{inclusive_exact, strict_by}
use Rattle.projection.specs.laws.OlderLeafDemand.{Filed, NumbersNoOlderRowLost, NumbersOlderIsSafe}
use Rattle.projection.proofs.OppositeLaws.{older_if_opposite}
use Rattle.projection.specs.laws.ProjectionLaws.{by_steps, Course, leaf_itself, stepped, course, in_order_holds}
use Rattle.projection.specs.laws.RowLaws.{literal_value}
use Rattle.projection.specs.laws.SoundLaws.{Demanded, demanded_same}
use Rattle.projection.specs.laws.StepLaws.{Returned, returned, returned_map, returned_weaken, returned_both}

-- ---- over the numbers of a column's type, under any partial map

-- a number of p is filed under f
abbrev FiledNumber : Bool → ℤ → ℤ → Type 0
FiledNumber lifts p f = (p ≡ f) ⊎ ((lifts ≡ true) × (p <ℤ pos 0) × (f ≡ suc_ℤ p))

module _ (column : PrimitiveType) (T : ℤ → Res ℤ) where
  abbrev Keeps : Bool → Test ℤ → Test ℤ → Type 0
  Keeps lifts x q = (v p f : ℤ) → Has column T v p → FiledNumber lifts p f → meets number_tests x v ≡ true → meets number_tests q f ≡ true

  abbrev Safe : Bool → Test ℤ → Test ℤ → Type 0
  Safe lifts x q = (v p f : ℤ) → Has column T v p → FiledNumber lifts p f → meets number_tests q f ≡ true → meets number_tests x v ≡ true

  -- the one argument: q keeps v's own value, and rises with it
  follows : (lifts : Bool) (x q : Test ℤ) → Exact column T x q → Keeps lifts x (lift_if lifts q)
  follows true x q e v p f h (inl s) m = rw (← s) (lift_keeps q p (e.kept v p h m))
  follows true x q e v p f h (inr a) m = rw a.2 (e.rises p a.1 (e.kept v p h m))
  follows false x q e v p f h (inl s) m = rw (← s) (e.kept v p h m)
  follows false x q e v p f h (inr a) m = clash a.0 refl

  -- and its opposite
  leads : (lifts : Bool) (x q : Test ℤ) → Exact column T (opposite x) q → Safe lifts x (opposite (lift_if lifts q))
  leads lifts x q e v p f h d m =
      stable _ (λ z. clash (follows lifts (opposite x) q e v p f h d (opposite_true number_tests x v z)) (meets_false number_tests (lift_if lifts q) f m))

  module _ (mono : (v w p q : ℤ) → T v ≡ Ok p → T w ≡ Ok q → v ≤ℤ w → p ≤ℤ q) (lifts : Bool) (x : Test ℤ) where
    inclusive_keeps : AllOf (InType column) (literals_in (test x)) → Returned (inclusive_number column T x >>= λ q. Ok (lifted_by lifts q)) (Keeps lifts x)
    inclusive_keeps fine =
        returned_lifted lifts (inclusive_number column T x) (Exact column T x) (Keeps lifts x) (follows lifts x) (inclusive_exact column T mono x fine)

    older_safe : AllOf (InType column) (literals_in (test (opposite x)))
        → Returned (strict_number column T x >>= λ q. Ok (mapped (older_if lifts) q)) (Safe lifts x)
    older_safe fine =
        returned_map
        (older_if lifts)
        (strict_number column T x)
        (λ q. Safe lifts x (older_if lifts q))
        (Safe lifts x)
        (λ q k. k)
        (strict_by column T
        (λ q. Safe lifts x (older_if lifts q))
        x
        (returned_weaken
        (inclusive_number column T (opposite x))
        (Exact column T (opposite x))
        (λ q. Safe lifts x (older_if lifts (opposite q)))
        (λ q e. rw (older_if_opposite lifts q) (leads lifts x q e))
        (inclusive_exact column T mono (opposite x) fine)))

-- ---- from numbers to rows, for any question: a missing row is filed under the missing value
module _ (column : PrimitiveType) (transform : Transform) where
  abbrev under : ℤ → Res ℤ
  under = number_under column transform

  abbrev lifting : Bool
  lifting = lifted column transform

  abbrev value : ℤ → Res (Row ℤ)
  value = transform_number column transform

  abbrev Filing : Question → Test ℤ → Test ℤ → Type 0
  Filing question x q = (v p f : ℤ) → Has column under v p → FiledNumber lifting p f → Demanded question (meets number_tests x v) (meets number_tests q f)

  filed_missing : (f : Row ℤ) → Filed lifting missing f → missing ≡ f
  filed_missing f (inl e) = e
  filed_missing f (inr a) = missing_not_present a.2

  filed_present : {X : Type 0} (z : ℤ) → Filed lifting (present z) missing → X
  filed_present z (inl e) = missing_not_present (sym e)
  filed_present z (inr a) = missing_not_present a.4

  filed_number : (z y : ℤ) → Filed lifting (present z) (present y) → FiledNumber lifting z y
  filed_number z y (inl e) = inl (present_inj e)
  filed_number z y (inr a) = let s = present_inj a.2 in inr (a.0, rw s a.3, rw s (present_inj a.4))

  abbrev Demands : Question → Predicate ℤ → Predicate ℤ → Type 0
  Demands question leaf q = (r p f : Row ℤ) → RowOf (InType column) (of_row value) r p → Filed lifting p f
      → Demanded question (holds number_tests leaf r) (holds number_tests q f)

  module _ (never : (v : ℤ) → value v ≡ Ok missing → ⊥) (question : Question) where
    tests_filed : (x q : Test ℤ) → SameMissing x q → Filing question x q → Demands question (test x) (test q)
    tests_filed x q same k missing missing f e d = rw (← filed_missing f d) (demanded_same question (sym same))
    tests_filed x q same k missing (present z) f e d = missing_not_present (ok_inj e.1)
    tests_filed x q same k (present v) missing f e d = absurd (never v e.1)
    tests_filed x q same k (present v) (present z) missing e d = filed_present z d
    tests_filed x q same k (present v) (present z) (present y) e d = k v z y (e.0, (literal_value value v z).1 e.1) (filed_number z y d)

    unary_filed : (o : Unary) → Demands question (unary o) (unary o)
    unary_filed o missing missing f e d = rw (← filed_missing f d) (demanded_same question refl)
    unary_filed o missing (present z) f e d = missing_not_present (ok_inj e.1)
    unary_filed o (present v) missing f e d = absurd (never v e.1)
    unary_filed o (present v) (present z) missing e d = filed_present z d
    unary_filed o (present v) (present z) (present y) e d = demanded_same question refl

  itself_filed : transform ≡ Identity → (question : Question) (leaf : Predicate ℤ) → Demands question leaf (in_order compare_numbers leaf)
  itself_filed t question leaf r p f e d =
      let own : p ≡ f = ⊎_elim (λ s. s) (λ a. clash a.0 (ap (lifted column) t)) d in
      let same : r ≡ f = identity_row column transform t r p e.1 ∙ own in
      rw same (demanded_same question (sym (in_order_holds number_tests number_order.equal leaf f)))

  -- the steps of the two questions
  inclusive_filing : (x : Test ℤ) → AllOf (InType column) (literals_in (test x)) → Returned (number_step column transform Inclusive x) (Filing Inclusive x)
  inclusive_filing x fine = inclusive_keeps column under (under_mono column transform) lifting x fine

  older_filing : (x : Test ℤ) → AllOf (InType column) (literals_in (test x)) → Returned (number_step column transform Older x) (Filing Older x)
  older_filing x fine = older_safe column under (under_mono column transform) lifting x (rw (opposite_literals x) fine)

  module _ (question : Question)
      (filing : (x : Test ℤ) → AllOf (InType column) (literals_in (test x)) → Returned (number_step column transform question x) (Filing question x)) where
    steps_filed : by_steps transform ≡ true → (leaf : Predicate ℤ) → AllOf (InType column) (literals_in leaf)
        → Returned (through (number_step column transform question) leaf) (Demands question leaf)
    steps_filed h (unary o) fine = unary_filed (never_missing column transform h) question o
    steps_filed h (test x) fine =
        returned_map
        test
        (number_step column transform question x)
        (λ q. Filing question x q × SameMissing x q)
        (Demands question (test x))
        (λ q k. tests_filed (never_missing column transform h) question x q k.1 k.0)
        (returned_both
        (number_step column transform question x)
        (Filing question x)
        (λ q. SameMissing x q)
        (filing x fine)
        (number_step_missing question column transform x))

    course_filed : (leaf q : Predicate ℤ) → AllOf (InType column) (literals_in leaf) → Course compare_numbers (number_step column transform question) transform leaf q
        → Demands question leaf q
    course_filed leaf q fine (leaf_itself t e) = rw e (itself_filed t question leaf)
    course_filed leaf q fine (stepped h e) = returned (through (number_step column transform question) leaf) _ (steps_filed h leaf fine) e

pub numbers_no_older_row_lost : NumbersNoOlderRowLost
unfolding project_numbers
numbers_no_older_row_lost column transform leaf q fine e r p f row d =
    let c = course compare_numbers (number_step column transform Inclusive) transform leaf q e in
    course_filed column transform Inclusive (inclusive_filing column transform) leaf q fine c.1 r p f (rw (number_rows column transform c.0) at row) d

pub numbers_older_is_safe : NumbersOlderIsSafe
unfolding project_numbers
numbers_older_is_safe column transform leaf q fine e r p f row d =
    let c = course compare_numbers (number_step column transform Older) transform leaf q e in
    course_filed column transform Older (older_filing column transform) leaf q fine c.1 r p f (rw (number_rows column transform c.0) at row) d

-- ---- "For other transforms it equals strict"
unraised : (r : Res (Projected (Test ℤ))) → (r >>= λ q. Ok (mapped (older_if false) q)) ≡ r
unraised (Ok (some q)) = refl
unraised (Ok none) = refl
unraised (Err e) = refl

pub numbers_older_is_strict : (column : PrimitiveType) (transform : Transform) (leaf : Predicate ℤ) → lifted column transform ≡ false
    → project_numbers Older column transform leaf ≡ project_numbers Strict column transform leaf
unfolding project_numbers
numbers_older_is_strict column transform leaf plain =
    ap (λ step. by_transform compare_numbers step transform leaf) (fun_ext (λ t. rw plain (unraised (strict_number column (number_under column transform) t))))

pub bytes_older_is_strict : (column : PrimitiveType) (transform : Transform) (leaf : Predicate (List ℕ))
    → project_bytes Older column transform leaf ≡ project_bytes Strict column transform leaf
unfolding project_bytes
bytes_older_is_strict column transform leaf = ap (λ step. by_transform compare_bytes step transform leaf) (fun_ext (λ t. refl))
