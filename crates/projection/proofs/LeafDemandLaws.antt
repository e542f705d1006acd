-- Demand 3 over leaves, of every type, transform and width. Assumes nothing.
use Rattle.std.specs.Prelude.{ℕ, ◌≤◌, Bool, true, false, cond, not, ◌||◌, List, ◌≡◌, ℤ, length, ◌≤ℤ◌, Ok}
use Rattle.std.proofs.Common.{⊎_elim, sym, ap, ◌∙◌}
use Rattle.values.specs.code.Places.{AllOf}
use Rattle.values.specs.Outcomes.{Res, Row, missing, present}
use Rattle.values.specs.laws.OutcomeLaws.{ok_inj, present_inj}
use Rattle.values.specs.Order.{compare_numbers, compare_bytes}
use Rattle.values.specs.laws.OrderLaws.{bytes_order}
use Rattle.values.specs.laws.TestLaws.{clash}
use Rattle.values.specs.Types.{same_type}
use Rattle.values.specs.Utf8.{code_points, utf8}
use Rattle.values.specs.declared.datatypes.PrimitiveType.{PrimitiveType}
use Rattle.values.specs.declared.datatypes.PrimitiveType.TheVariants.{String}
use Rattle.values.specs.declared.transform.Transform.{Transform}
use Rattle.values.specs.declared.transform.Transform.TheVariants.{Identity, Truncate}
use Rattle.partition.specs.Partition.{of_row, truncate_bytes, transform_number, transform_bytes, bytes_partition}
use Rattle.partition.specs.code.PartitionAnswers.{InType}
use Rattle.partition.specs.laws.BytesPartitionLaws.{bytes_present, bytes_missing, bytes_identity, bytes_truncates}
use Rattle.partition.specs.laws.PartitionLaws.{number_mono, number_identity, number_missing}
use Rattle.partition.specs.laws.PartitionRowLaws.{number_rows, bytes_rows}
use Rattle.transform.specs.Truncate.{first_code_points, first_bytes}
use Rattle.transform.specs.laws.BinaryLaws.{binary_cutting}
use Rattle.transform.specs.laws.Cutting.{Cutting}
use Rattle.transform.specs.laws.StringLaws.{string_cutting}
use Rattle.expr.specs.Holds.{bytes_tests, meets}
use Rattle.expr.specs.Predicates.{Test, Predicate, unary, test, literals_in}
use Rattle.projection.specs.laws.ByteLaws.{follows, leads}
use Rattle.projection.specs.laws.LeafDemand.{HeldIn, StrictExact, InclusiveExact, NumbersStrictExact, NumbersInclusiveExact, BytesNoRowLost, BytesStrictIsSafe}
use Rattle.projection.specs.Lifting.{lifted}
use Rattle.projection.specs.laws.NumberLaws.{LiftedExact, AllExact}
use Rattle.projection.proofs.NumberLaws.{lifted_exact, strict_exact}
use Rattle.projection.specs.laws.NumberRowLaws.{strict_rows, inclusive_rows, strict_unary, inclusive_unary, strict_itself, inclusive_itself}
use Rattle.projection.specs.Projection.{length_of, through, number_under, number_step, project_numbers, bytes_under, bytes_step, project_bytes}
use Rattle.projection.specs.laws.ProjectionLaws.{by_steps, Course, leaf_itself, stepped, course}
use Rattle.projection.specs.laws.MissingLaws.{SameMissing}
use Rattle.projection.proofs.MissingLaws.{number_step_missing, bytes_step_missing}
use Rattle.projection.specs.laws.RowLaws.{literal_value, same_row}
use Rattle.projection.specs.laws.SoundLaws.{Demanded, Sound, tests_sound, unary_sound, itself_sound}
use Rattle.projection.specs.laws.StepLaws.{Returned, returned, returned_by, returned_both, returned_map}
use Rattle.projection.specs.Steps.{some}
use Rattle.projection.specs.declared.question.Question.{Question}
use Rattle.projection.specs.declared.question.Question.TheVariants.{Inclusive, Strict, Older}

-- ---- numbers
module _ (column : PrimitiveType) (transform : Transform) where
  pub under_mono : (v w p q : ℤ) → number_under column transform v ≡ Ok p → number_under column transform w ≡ Ok q → v ≤ℤ w → p ≤ℤ q
  under_mono v w p q a b h =
      number_mono
      column
      transform
      v
      w
      ((literal_value (transform_number column transform) v p).0 a)
      ((literal_value (transform_number column transform) w q).0 b)
      h

  pub never_missing : by_steps transform ≡ true → (v : ℤ) → transform_number column transform v ≡ Ok missing → ⊥
  never_missing h v e = clash h (ap by_steps (number_missing column transform v e))

  steps_strict : by_steps transform ≡ true → (leaf : Predicate ℤ) → AllOf (InType column) (literals_in leaf)
      → Returned (through (number_step column transform Strict) leaf) (StrictExact (InType column) (of_row (transform_number column transform)) leaf)
  steps_strict h (unary o) fine = strict_unary column (transform_number column transform) (never_missing h) o
  steps_strict h (test x) fine =
      returned_map
      test
      (number_step column transform Strict x)
      (λ q. AllExact column (number_under column transform) x q × SameMissing x q)
      (StrictExact (InType column) (of_row (transform_number column transform)) (test x))
      (strict_rows column (transform_number column transform) (never_missing h) x)
      (returned_both
      (number_step column transform Strict x)
      (AllExact column (number_under column transform) x)
      (λ q. SameMissing x q)
      (strict_exact column (number_under column transform) under_mono x fine)
      (number_step_missing Strict column transform x))

  steps_inclusive : by_steps transform ≡ true → (leaf : Predicate ℤ) → AllOf (InType column) (literals_in leaf)
      → Returned (through (number_step column transform Inclusive) leaf)
      (InclusiveExact (InType column) (of_row (transform_number column transform)) leaf (lifted column transform))
  steps_inclusive h (unary o) fine = inclusive_unary column (transform_number column transform) (never_missing h) (lifted column transform) o
  steps_inclusive h (test x) fine =
      returned_map
      test
      (number_step column transform Inclusive x)
      (λ q. LiftedExact column (number_under column transform) (lifted column transform) x q × SameMissing x q)
      (InclusiveExact (InType column) (of_row (transform_number column transform)) (test x) (lifted column transform))
      (inclusive_rows column (transform_number column transform) (never_missing h) (lifted column transform) x)
      (returned_both
      (number_step column transform Inclusive x)
      (LiftedExact column (number_under column transform) (lifted column transform) x)
      (λ q. SameMissing x q)
      (lifted_exact column (number_under column transform) under_mono (lifted column transform) x fine)
      (number_step_missing Inclusive column transform x))

  -- under Identity a row is its own partition value
  pub identity_row : transform ≡ Identity → (r p : Row ℤ) → of_row (transform_number column transform) r ≡ Ok p → r ≡ p
  identity_row t r p e = same_row (transform_number column transform) own r p e
    where
      own : (v : ℤ) (p : Row ℤ) → transform_number column transform v ≡ Ok p → present v ≡ p
      own v p e = ok_inj (sym (number_identity column v) ∙ (rw t at e))

  strict_course : (leaf q : Predicate ℤ) → AllOf (InType column) (literals_in leaf) → Course compare_numbers (number_step column transform Strict) transform leaf q
      → StrictExact (InType column) (of_row (transform_number column transform)) leaf q
  strict_course leaf q fine (leaf_itself t e) = rw e (strict_itself (InType column) (of_row (transform_number column transform)) (identity_row t) leaf)
  strict_course leaf q fine (stepped h e) = returned (through (number_step column transform Strict) leaf) _ (steps_strict h leaf fine) e

  inclusive_course : (leaf q : Predicate ℤ) → AllOf (InType column) (literals_in leaf)
      → Course compare_numbers (number_step column transform Inclusive) transform leaf q
      → InclusiveExact (InType column) (of_row (transform_number column transform)) leaf (lifted column transform) q
  inclusive_course leaf q fine (leaf_itself t e) =
      rw e
      (inclusive_itself (InType column) (of_row (transform_number column transform)) (identity_row t) leaf (lifted column transform) (ap (lifted column) t))
  inclusive_course leaf q fine (stepped h e) = returned (through (number_step column transform Inclusive) leaf) _ (steps_inclusive h leaf fine) e

pub numbers_strict_exact : NumbersStrictExact
unfolding project_numbers
numbers_strict_exact column transform leaf q fine e =
    let c = course compare_numbers (number_step column transform Strict) transform leaf q e in
    rw (number_rows column transform c.0) (strict_course column transform leaf q fine c.1)

pub numbers_inclusive_exact : NumbersInclusiveExact
unfolding project_numbers
numbers_inclusive_exact column transform leaf q fine e =
    let c = course compare_numbers (number_step column transform Inclusive) transform leaf q e in
    rw (number_rows column transform c.0) (inclusive_course column transform leaf q fine c.1)

-- ---- strings and binaries, of any question

-- Truncate cuts a String by its code points, a Binary by its bytes
bytes_cutting : (column : PrimitiveType) (w : ℕ) → Cutting (HeldIn column) (length_of column) w (truncate_bytes column w)
bytes_cutting column w = go (same_type column String)
  where
    go : (b : Bool)
        → Cutting (λ s. (not b || utf8 s) ≡ true) (λ s. cond b (length (code_points s)) (length s)) w (λ s. cond b (first_code_points w s) (first_bytes w s))
    go true = string_cutting w
    go false = binary_cutting w

-- a literal no longer than the width stays whole
pub whole_stays : (column : PrimitiveType) (w : ℕ) (l : List ℕ) → length_of column l ≤ w → truncate_bytes column w l ≡ l
whole_stays column w l h = (bytes_cutting column w).whole l h

truncated_value : (question : Question) (column : PrimitiveType) (w : ℕ) (x q : Test (List ℕ)) → AllOf (HeldIn column) (literals_in (test x))
    → bytes_step column (Truncate w) question x ≡ Ok (some q)
    → (v p : List ℕ) → HeldIn column v → transform_bytes column (Truncate w) v ≡ Ok (present p)
    → Demanded question (meets bytes_tests x v) (meets bytes_tests q p)
truncated_value question column w x q fine d v p held e = rw (present_inj (ok_inj (sym e ∙ bytes_truncates column w v))) (go question d)
  where
    T : List ℕ → Res (List ℕ)
    T = bytes_under column (Truncate w)

    gives : (s : List ℕ) → T s ≡ Ok (truncate_bytes column w s)
    gives s = (literal_value (transform_bytes column (Truncate w)) s (truncate_bytes column w s)).1 (bytes_truncates column w s)

    go : (question : Question) → bytes_step column (Truncate w) question x ≡ Ok (some q)
        → Demanded question (meets bytes_tests x v) (meets bytes_tests q (truncate_bytes column w v))
    go Inclusive d = returned (bytes_step column (Truncate w) Inclusive x) _ (follows (bytes_cutting column w) T gives column x fine) d v held
    go Strict d = returned (bytes_step column (Truncate w) Strict x) _ (leads (bytes_cutting column w) T gives x fine) d v held
    go Older d = returned (bytes_step column (Truncate w) Older x) _ (leads (bytes_cutting column w) T gives x fine) d v held

module _ (question : Question) (column : PrimitiveType) (transform : Transform) where
  -- projections go by steps under Truncate alone
  bytes_value_lem : by_steps transform ≡ true → (x q : Test (List ℕ)) → AllOf (HeldIn column) (literals_in (test x))
      → bytes_step column transform question x ≡ Ok (some q)
      → (v p : List ℕ) → HeldIn column v → transform_bytes column transform v ≡ Ok (present p)
      → Demanded question (meets bytes_tests x v) (meets bytes_tests q p)
  bytes_value_lem h x q fine d v p held e =
      ⊎_elim
      (λ t. clash h (ap by_steps t))
      (λ k. truncated_value question column k.0 x q fine (rw k.1 at d) v p held (rw k.1 at e))
      (bytes_present column transform v p e)

  bytes_never : by_steps transform ≡ true → (v : List ℕ) → transform_bytes column transform v ≡ Ok missing → ⊥
  bytes_never h v e = clash h (ap by_steps (bytes_missing column transform v e))

  bytes_steps : by_steps transform ≡ true → (leaf : Predicate (List ℕ)) → AllOf (HeldIn column) (literals_in leaf)
      → Returned (through (bytes_step column transform question) leaf) (Sound bytes_tests bytes_tests (HeldIn column) question (of_row (transform_bytes column transform)) leaf)
  bytes_steps h (unary o) fine = unary_sound bytes_tests bytes_tests (HeldIn column) (transform_bytes column transform) (bytes_never h) question o
  bytes_steps h (test x) fine =
      returned_map
      test
      (bytes_step column transform question x)
      (λ q. bytes_step column transform question x ≡ Ok (some q))
      (Sound bytes_tests bytes_tests (HeldIn column) question (of_row (transform_bytes column transform)) (test x))
      (λ q d. tests_sound bytes_tests bytes_tests (HeldIn column) (transform_bytes column transform) (bytes_never h) question x q (same q d) (bytes_value_lem h x q fine d))
      (returned_by (bytes_step column transform question x) (λ q. bytes_step column transform question x ≡ Ok (some q)) (λ q d. d))
    where
      same : (q : Test (List ℕ)) → bytes_step column transform question x ≡ Ok (some q) → SameMissing x q
      same q d = returned (bytes_step column transform question x) (λ p. SameMissing x p) (bytes_step_missing question column transform x) d

  bytes_own : transform ≡ Identity → (r p : Row (List ℕ)) → of_row (transform_bytes column transform) r ≡ Ok p → r ≡ p
  bytes_own t r p e = same_row (transform_bytes column transform) (λ v p e. ok_inj (sym (bytes_identity column v) ∙ (rw t at e))) r p e

  bytes_course : (leaf q : Predicate (List ℕ)) → AllOf (HeldIn column) (literals_in leaf)
      → Course compare_bytes (bytes_step column transform question) transform leaf q
      → Sound bytes_tests bytes_tests (HeldIn column) question (of_row (transform_bytes column transform)) leaf q
  bytes_course leaf q fine (leaf_itself t e) =
      rw e (itself_sound bytes_tests bytes_order.equal (HeldIn column) (of_row (transform_bytes column transform)) (bytes_own t) question leaf)
  bytes_course leaf q fine (stepped h e) = returned (through (bytes_step column transform question) leaf) _ (bytes_steps h leaf fine) e

  bytes_sound : (leaf q : Predicate (List ℕ)) → AllOf (HeldIn column) (literals_in leaf) → project_bytes question column transform leaf ≡ Ok (some q)
      → Sound bytes_tests bytes_tests (HeldIn column) question (bytes_partition column transform) leaf q
  unfolding project_bytes
  bytes_sound leaf q fine e =
      let c = course compare_bytes (bytes_step column transform question) transform leaf q e in
      rw (bytes_rows column transform c.0) (bytes_course leaf q fine c.1)

pub bytes_no_row_lost : BytesNoRowLost
bytes_no_row_lost column transform leaf q fine e = bytes_sound Inclusive column transform leaf q fine e

pub bytes_strict_is_safe : BytesStrictIsSafe
bytes_strict_is_safe column transform leaf q fine e = bytes_sound Strict column transform leaf q fine e
