-- What a leaf is answered, by the checks before the steps: 4, then 5, then the steps. Assumes nothing.
use Rattle.std.specs.Prelude.{ℕ, Bool, true, false, not, ◌||◌, List, ◌≡◌, ℤ, Ok, Err}
use Rattle.std.proofs.Math.Path.{refl}
use Rattle.std.proofs.Common.{◌∙◌}
use Rattle.values.specs.Outcomes.{Res, need, ◌>>=◌, ◌>>◌}
use Rattle.values.specs.laws.OutcomeLaws.{passing, failing}
use Rattle.values.specs.Types.{Layout, number, bytes, layout, same_type}
use Rattle.values.specs.Words.{le_number, signed}
use Rattle.values.specs.declared.datatypes.PrimitiveType.{PrimitiveType}
use Rattle.values.specs.declared.datatypes.PrimitiveType.TheVariants.{Int, Long, Date, Time, Timestamp, Timestamptz, TimestampNs, TimestamptzNs, String, Binary}
use Rattle.values.specs.declared.error.ErrorKind.{ErrorKind}
use Rattle.values.specs.declared.error.ErrorKind.TheVariants.{NotUtf8}
use Rattle.values.specs.declared.transform.Transform.{Transform}
use Rattle.partition.specs.ResultType.{result_type}
use Rattle.expr.specs.Predicates.{Predicate, literals_in}
use Rattle.projection.specs.Projection.{project_numbers, project_bytes}
use Rattle.projection.specs.Steps.{Projected}
use Rattle.projection.specs.declared.question.Question.{Question}
use Rattle.answers.specs.Answers.{projected, projected_leaf}
use Rattle.sheet.specs.code.Contents.{all_utf8}
use Rattle.answers.specs.Kinds.{numbers, byte_strings}
use Rattle.sheet.specs.Values.{by_layout, map_literals}
use Rattle.answers.specs.code.Leaves.{numbers_written, bytes_written, number_steps_under, byte_steps_under, steps_under}
use Rattle.sheet.specs.laws.ReadLaws.{number_literals, bytes_literals}

-- no column of numbers is a String
pub numbers_string : (column : PrimitiveType) (n : ℕ) → layout column ≡ number n → same_type column String ≡ false
numbers_string Int n e = refl
numbers_string Long n e = refl
numbers_string Date n e = refl
numbers_string Time n e = refl
numbers_string Timestamp n e = refl
numbers_string Timestamptz n e = refl
numbers_string TimestampNs n e = refl
numbers_string TimestamptzNs n e = refl
numbers_string String n e = cc
numbers_string Binary n e = cc

pub then_on : {A B : Type 0} (x : A) (b : Bool) (f : A → Res B) → ((need b NotUtf8 >> Ok x) >>= f) ≡ (need b NotUtf8 >> f x)
then_on x true f = refl
then_on x false f = refl

-- ---- the checks before the steps
abbrev asked : PrimitiveType → Predicate (List ℕ) → Bool
asked column leaf = not (same_type column String) || all_utf8 (literals_in leaf)

module _ (question : Question) (column : PrimitiveType) (transform : Transform) (leaf : Predicate (List ℕ)) where
  abbrev number_leaf : ℕ → Predicate ℤ
  number_leaf n = map_literals (λ bs. signed n (le_number bs)) leaf

  -- what comes after 4
  abbrev rest : Res (Projected (List ℕ))
  rest = by_layout (layout column)
      (λ n. result_type transform column >>= λ to. numbers_written to (project_numbers question column transform (number_leaf n)))
      (result_type transform column >>= λ to. bytes_written to (project_bytes question column transform leaf))

  checked_leaf : projected_leaf question column transform leaf ≡ (need (asked column leaf) NotUtf8 >> rest)
  unfolding projected_leaf
  checked_leaf = go (layout column) refl
    where
      go : (l : Layout) → layout column ≡ l
          → by_layout l
          (λ n. projected (numbers column transform n) column transform question leaf)
          (projected (byte_strings column transform) column transform question leaf)
          ≡ (need (asked column leaf) NotUtf8 >> by_layout l
          (λ n. result_type transform column >>= λ to. numbers_written to (project_numbers question column transform (number_leaf n)))
          (result_type transform column >>= λ to. bytes_written to (project_bytes question column transform leaf)))
      go (number n) e = rw (number_literals n leaf, numbers_string column n e)
      go (bytes n) e = rw (bytes_literals column leaf) (then_on leaf (asked column leaf) _)

  pub leaf_not_utf8 : asked column leaf ≡ false → projected_leaf question column transform leaf ≡ Err NotUtf8
  leaf_not_utf8 h = checked_leaf ∙ failing NotUtf8 rest h

  pub leaf_no_type : {e : ErrorKind} → asked column leaf ≡ true → result_type transform column ≡ Err e → projected_leaf question column transform leaf ≡ Err e
  leaf_no_type {e} h r = checked_leaf ∙ passing NotUtf8 rest h ∙ go (layout column)
    where
      go : (l : Layout) → by_layout l
          (λ n. result_type transform column >>= λ to. numbers_written to (project_numbers question column transform (number_leaf n)))
          (result_type transform column >>= λ to. bytes_written to (project_bytes question column transform leaf))
          ≡ Err e
      go (number n) = rw r
      go (bytes n) = rw r

  pub leaf_steps : {to : PrimitiveType} → asked column leaf ≡ true → result_type transform column ≡ Ok to
      → projected_leaf question column transform leaf ≡ steps_under question column to transform leaf
  unfolding number_steps_under byte_steps_under project_numbers project_bytes
  leaf_steps {to} h r = checked_leaf ∙ passing NotUtf8 rest h ∙ go (layout column)
    where
      go : (l : Layout) → by_layout l
          (λ n. result_type transform column >>= λ to. numbers_written to (project_numbers question column transform (number_leaf n)))
          (result_type transform column >>= λ to. bytes_written to (project_bytes question column transform leaf))
          ≡ by_layout l (λ n. number_steps_under question column to transform (number_leaf n)) (byte_steps_under question column to transform leaf)
      go (number n) = rw r
      go (bytes n) = rw r
