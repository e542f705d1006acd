-- A returned test has of a missing value what the leaf has: row by row of both tables, lifted or not. Assumes nothing.
use Rattle.std.specs.Prelude.{ℕ, Bool, true, false, List, ◌≡◌, refl, leb, ℤ, pos, negsuc, Ok}
use Rattle.std.proofs.Common.{◌∙◌}
use Rattle.values.specs.Order.{compare_numbers, compare_bytes}
use Rattle.values.specs.Outcomes.{Res}
use Rattle.values.specs.Transforms.{width_of}
use Rattle.values.specs.Types.{same_type}
use Rattle.values.specs.declared.datatypes.PrimitiveType.{PrimitiveType}
use Rattle.values.specs.declared.datatypes.PrimitiveType.TheVariants.{String}
use Rattle.std.specs.declared.cmp.Ordering.{Ordering}
use Rattle.values.specs.declared.transform.Transform.{Transform}
use Rattle.expr.specs.Holds.{missing_meets}
use Rattle.expr.specs.Operators.{Binary, SetOperator, one, many, less_than, less_than_or_eq, greater_than, greater_than_or_eq, eq, not_eq, starts_with, not_starts_with, is_in, not_in}
use Rattle.expr.specs.Predicates.{Test, binary, set}
use Rattle.projection.specs.ByteSteps.{Step, by_length, string_starts, string_not_starts, binary_starts, binary_not_starts, inclusive_bytes, strict_bytes}
use Rattle.projection.specs.Lifting.{lift, lifted, older, older_if}
use Rattle.projection.specs.NumberSteps.{one_below, one_above, inclusive_number, strict_number}
use Rattle.projection.specs.Projection.{number_under, number_step, bytes_under, bytes_step, length_of}
use Rattle.projection.specs.Steps.{some, none, with_literal, with_each}
use Rattle.projection.specs.declared.question.Question.{Question}
use Rattle.projection.specs.declared.question.Question.TheVariants.{Inclusive, Strict, Older}
use Rattle.projection.specs.laws.LiftingLaws.{lift_if, returned_lifted}
use Rattle.projection.specs.laws.StepLaws.{Returned, returned_map, returned_literal, returned_each, returned_cond, returned_length}
use Rattle.projection.specs.laws.MissingLaws.{meets_missing, SameMissing}

module _ {A B : Type 0} (x : Test A) where
  one_missing : (o : Binary) (r : Res B) → missing_meets (one o) ≡ meets_missing x → Returned (with_literal o r) (λ q. SameMissing x q)
  one_missing o r e = returned_literal o r (λ q. SameMissing x q) (λ t d. e)

  each_missing : (compare : B → B → Ordering) (o : SetOperator) (T : A → Res B) (ls : List A) → missing_meets (many o) ≡ meets_missing x
      → Returned (with_each compare o T ls) (λ q. SameMissing x q)
  each_missing compare o T ls e = returned_each compare o T ls (λ q. SameMissing x q) (λ ts d. e)

-- ---- numbers
module _ (column : PrimitiveType) (T : ℤ → Res ℤ) where
  inclusive_missing : (x : Test ℤ) → Returned (inclusive_number column T x) (λ q. SameMissing x q)
  inclusive_missing (binary less_than l) = one_missing (binary less_than l) less_than_or_eq (one_below column T l) refl
  inclusive_missing (binary less_than_or_eq l) = one_missing (binary less_than_or_eq l) less_than_or_eq (T l) refl
  inclusive_missing (binary greater_than l) = one_missing (binary greater_than l) greater_than_or_eq (one_above column T l) refl
  inclusive_missing (binary greater_than_or_eq l) = one_missing (binary greater_than_or_eq l) greater_than_or_eq (T l) refl
  inclusive_missing (binary eq l) = one_missing (binary eq l) eq (T l) refl
  inclusive_missing (binary not_eq l) = tt
  inclusive_missing (binary starts_with l) = one_missing (binary starts_with l) starts_with (T l) refl
  inclusive_missing (binary not_starts_with l) = one_missing (binary not_starts_with l) not_starts_with (T l) refl
  inclusive_missing (set is_in ls) = each_missing (set is_in ls) compare_numbers is_in T ls refl
  inclusive_missing (set not_in ls) = tt

  strict_missing : (x : Test ℤ) → Returned (strict_number column T x) (λ q. SameMissing x q)
  strict_missing (binary less_than l) = one_missing (binary less_than l) less_than (T l) refl
  strict_missing (binary less_than_or_eq l) = one_missing (binary less_than_or_eq l) less_than (one_above column T l) refl
  strict_missing (binary greater_than l) = one_missing (binary greater_than l) greater_than (T l) refl
  strict_missing (binary greater_than_or_eq l) = one_missing (binary greater_than_or_eq l) greater_than (one_below column T l) refl
  strict_missing (binary eq l) = tt
  strict_missing (binary not_eq l) = one_missing (binary not_eq l) not_eq (T l) refl
  strict_missing (binary starts_with l) = tt
  strict_missing (binary not_starts_with l) = tt
  strict_missing (set is_in ls) = tt
  strict_missing (set not_in ls) = each_missing (set not_in ls) compare_numbers not_in T ls refl

lift_missing : (q : Test ℤ) → SameMissing q (lift q)
lift_missing (binary less_than t) = refl
lift_missing (binary less_than_or_eq (pos n)) = refl
lift_missing (binary less_than_or_eq (negsuc n)) = refl
lift_missing (binary greater_than t) = refl
lift_missing (binary greater_than_or_eq t) = refl
lift_missing (binary eq (pos n)) = refl
lift_missing (binary eq (negsuc n)) = refl
lift_missing (binary not_eq t) = refl
lift_missing (binary starts_with t) = refl
lift_missing (binary not_starts_with t) = refl
lift_missing (set is_in ts) = refl
lift_missing (set not_in ts) = refl

lifted_missing : (lifts : Bool) (x q : Test ℤ) → SameMissing x q → SameMissing x (lift_if lifts q)
lifted_missing true x q e = lift_missing q ∙ e
lifted_missing false x q e = e

older_missing : (q : Test ℤ) → SameMissing q (older q)
older_missing (binary less_than t) = refl
older_missing (binary less_than_or_eq t) = refl
older_missing (binary greater_than (pos n)) = refl
older_missing (binary greater_than (negsuc n)) = refl
older_missing (binary greater_than_or_eq t) = refl
older_missing (binary eq t) = refl
older_missing (binary not_eq (pos n)) = refl
older_missing (binary not_eq (negsuc n)) = refl
older_missing (binary starts_with t) = refl
older_missing (binary not_starts_with t) = refl
older_missing (set is_in ts) = refl
older_missing (set not_in ts) = refl

older_if_missing : (lifts : Bool) (x q : Test ℤ) → SameMissing x q → SameMissing x (older_if lifts q)
older_if_missing true x q e = older_missing q ∙ e
older_if_missing false x q e = e

pub number_step_missing : (question : Question) (column : PrimitiveType) (transform : Transform) (x : Test ℤ)
    → Returned (number_step column transform question x) (λ q. SameMissing x q)
number_step_missing Inclusive column transform x =
    returned_lifted
    (lifted column transform)
    (inclusive_number column (number_under column transform) x)
    (λ q. SameMissing x q)
    (λ q. SameMissing x q)
    (lifted_missing (lifted column transform) x)
    (inclusive_missing column (number_under column transform) x)
number_step_missing Strict column transform x = strict_missing column (number_under column transform) x
number_step_missing Older column transform x =
    returned_map
    (older_if (lifted column transform))
    (strict_number column (number_under column transform) x)
    (λ q. SameMissing x q)
    (λ q. SameMissing x q)
    (older_if_missing (lifted column transform) x)
    (strict_missing column (number_under column transform) x)

-- ---- strings and binaries
module _ (T : List ℕ → Res (List ℕ)) (count : List ℕ → ℕ) (w : ℕ) where
  cut_missing : (o : Binary) (l : List ℕ) → Returned (with_literal o (T l)) (λ q. SameMissing (binary o l) q)
  cut_missing o l = one_missing (binary o l) o (T l) refl

  length_missing : (x : Test (List ℕ)) (l : List ℕ) (whole short : Binary) (long : Step) → missing_meets (one whole) ≡ meets_missing x
      → missing_meets (one short) ≡ meets_missing x → Returned long (λ q. SameMissing x q)
      → Returned (by_length (count l) w (some (binary whole l)) (some (binary short l)) long) (λ q. SameMissing x q)
  length_missing x l whole short long a b c =
      returned_length (count l) w (some (binary whole l)) (some (binary short l)) long (λ q. SameMissing x q) (λ d. a) (λ d. b) (λ d. c)

  inclusive_bytes_missing : (column : PrimitiveType) (x : Test (List ℕ)) → Returned (inclusive_bytes column T count w x) (λ q. SameMissing x q)
  inclusive_bytes_missing column (binary less_than l) = one_missing (binary less_than l) less_than_or_eq (T l) refl
  inclusive_bytes_missing column (binary less_than_or_eq l) = cut_missing less_than_or_eq l
  inclusive_bytes_missing column (binary greater_than l) = one_missing (binary greater_than l) greater_than_or_eq (T l) refl
  inclusive_bytes_missing column (binary greater_than_or_eq l) = cut_missing greater_than_or_eq l
  inclusive_bytes_missing column (binary eq l) = cut_missing eq l
  inclusive_bytes_missing column (binary not_eq l) = tt
  inclusive_bytes_missing column (binary starts_with l) =
      returned_cond (same_type column String) (string_starts T count w l) (binary_starts T l) (λ q. SameMissing (binary starts_with l) q)
      (length_missing (binary starts_with l) l eq starts_with (with_literal starts_with (T l)) refl refl (cut_missing starts_with l))
      (cut_missing starts_with l)
  inclusive_bytes_missing column (binary not_starts_with l) =
      returned_cond (same_type column String) (string_not_starts T count w l) (binary_not_starts T count w l) (λ q. SameMissing (binary not_starts_with l) q)
      (length_missing (binary not_starts_with l) l not_eq not_starts_with (Ok none) refl refl tt)
      (returned_cond (leb (count l) w) (with_literal not_starts_with (T l)) (Ok none) (λ q. SameMissing (binary not_starts_with l) q) (cut_missing not_starts_with l) tt)
  inclusive_bytes_missing column (set is_in ls) = each_missing (set is_in ls) compare_bytes is_in T ls refl
  inclusive_bytes_missing column (set not_in ls) = tt

  strict_bytes_missing : (x : Test (List ℕ)) → Returned (strict_bytes T count w x) (λ q. SameMissing x q)
  strict_bytes_missing (binary less_than l) = cut_missing less_than l
  strict_bytes_missing (binary less_than_or_eq l) = one_missing (binary less_than_or_eq l) less_than (T l) refl
  strict_bytes_missing (binary greater_than l) = cut_missing greater_than l
  strict_bytes_missing (binary greater_than_or_eq l) = one_missing (binary greater_than_or_eq l) greater_than (T l) refl
  strict_bytes_missing (binary eq l) = tt
  strict_bytes_missing (binary not_eq l) = cut_missing not_eq l
  strict_bytes_missing (binary starts_with l) = length_missing (binary starts_with l) l eq starts_with (Ok none) refl refl tt
  strict_bytes_missing (binary not_starts_with l) =
      length_missing (binary not_starts_with l) l not_eq not_starts_with (with_literal not_starts_with (T l)) refl refl (cut_missing not_starts_with l)
  strict_bytes_missing (set is_in ls) = tt
  strict_bytes_missing (set not_in ls) = each_missing (set not_in ls) compare_bytes not_in T ls refl

pub bytes_step_missing : (question : Question) (column : PrimitiveType) (transform : Transform) (x : Test (List ℕ))
    → Returned (bytes_step column transform question x) (λ q. SameMissing x q)
bytes_step_missing Inclusive column transform x = inclusive_bytes_missing (bytes_under column transform) (length_of column) (width_of transform) column x
bytes_step_missing Strict column transform x = strict_bytes_missing (bytes_under column transform) (length_of column) (width_of transform) x
bytes_step_missing Older column transform x = strict_bytes_missing (bytes_under column transform) (length_of column) (width_of transform) x
