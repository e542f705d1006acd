-- A leaf by its operator and the literals in the order of the chain, as the code has it, and what the steps give of it as bytes. Assumes nothing.
use Rattle.std.specs.Prelude.{ℕ, Bool, true, false, ◌||◌, List, [], ◌≡◌, ℤ, pos, Ok, Option, Some, None}
use Rattle.std.proofs.Math.IntN.{suc_ℤ}
use Rattle.values.specs.Order.{compare_numbers, compare_bytes}
use Rattle.values.specs.Outcomes.{Res, ◌>>=◌}
use Rattle.values.specs.Types.{number, bytes, layout, content_size, in_type}
use Rattle.values.specs.Words.{le_number, signed}
use Rattle.values.specs.declared.datatypes.PrimitiveType.{PrimitiveType}
use Rattle.values.specs.declared.transform.Transform.{Transform}
use Rattle.values.specs.declared.transform.Transform.TheVariants.{Identity, Truncate, Year, Month, Day, Hour, Void, Unknown}
use Rattle.expr.specs.Operators.{Operator, none, one, many, is_in, not_in, by_arity}
use Rattle.expr.specs.code.OperatorAnswers.{takes_one, takes_many, leaf_of}
use Rattle.expr.specs.Predicates.{Test, Predicate, test}
use Rattle.projection.specs.Projection.{by_transform, number_step, bytes_step}
use Rattle.projection.specs.Steps.{Projected, mapped}
use Rattle.numbers.specs.declared.steps.NumberTest.{NumberTest}
use Rattle.numbers.specs.declared.steps.NumberTest.TheVariants.{One, Two}
use Rattle.projection.specs.declared.question.Question.{Question}
use Rattle.projection.specs.declared.question.Question.TheVariants.{Inclusive, Strict, Older}
use Rattle.write.specs.Written.{answer_sheet, number_bytes}
use Rattle.sheet.specs.Values.{by_layout, map_literals}
use Rattle.sheet.specs.Sheets as sheets
use Rattle.sheet.specs.code.SheetAnswers.{contents_of, numbers_of}
use Rattle.answers.specs.Answers.{projected_leaf}
use Rattle.answers.specs.declared.leaf.Leaf.{Leaf}

-- what a sheet's leaf is answered
abbrev pub projected_at : Question → sheets.Sheet → Res (Projected (List ℕ))
projected_at question x = projected_leaf question x.head.column x.head.transform x.leaf

-- ---- what the steps give, as bytes
abbrev pub numbers_written : PrimitiveType → Res (Projected (Predicate ℤ)) → Res (Projected (List ℕ))
numbers_written to r = do
  q ← r
  Ok (mapped (λ p. answer_sheet to (map_literals (λ z. number_bytes (layout to) z) p)) q)

abbrev pub bytes_written : PrimitiveType → Res (Projected (Predicate (List ℕ))) → Res (Projected (List ℕ))
bytes_written to r = do
  q ← r
  Ok (mapped (λ p. answer_sheet to (map_literals (λ s. s) p)) q)

-- by what is asked, the column, the type of its partition values and the transform
module _ (question : Question) (column to : PrimitiveType) (transform : Transform) where
  unfoldable pub number_steps_under : Predicate ℤ → Res (Projected (List ℕ))
  number_steps_under l = numbers_written to (by_transform compare_numbers (number_step column transform question) transform l)

  unfoldable pub byte_steps_under : Predicate (List ℕ) → Res (Projected (List ℕ))
  byte_steps_under l = bytes_written to (by_transform compare_bytes (bytes_step column transform question) transform l)

  abbrev pub steps_under : Predicate (List ℕ) → Res (Projected (List ℕ))
  steps_under l = by_layout (layout column) (λ n. number_steps_under (map_literals (λ bs. signed n (le_number bs)) l)) (byte_steps_under l)

-- and those of the code's leaf
module _ (x : Leaf) where
  abbrev pub number_steps : Predicate ℤ → Res (Projected (List ℕ))
  number_steps l = number_steps_under x.question x.sheet.literals.column x.to x.sheet.transform l

  abbrev pub byte_steps : Predicate (List ℕ) → Res (Projected (List ℕ))
  byte_steps l = byte_steps_under x.question x.sheet.literals.column x.to x.sheet.transform l

  abbrev pub steps : Predicate (List ℕ) → Res (Projected (List ℕ))
  steps l = steps_under x.question x.sheet.literals.column x.to x.sheet.transform l

-- the leaf, with its literals in the order of the chain
abbrev pub number_leaf_of : Leaf → Predicate ℤ
number_leaf_of x = leaf_of (pos 0) (by_arity x.sheet.operator) (numbers_of x.sheet.literals)

abbrev pub bytes_leaf_of : Leaf → Predicate (List ℕ)
bytes_leaf_of x = leaf_of [] (by_arity x.sheet.operator) (contents_of x.sheet.literals)

-- a test on one literal, written
abbrev pub one_written : PrimitiveType → Res (Projected (Test ℤ)) → Res (Projected (List ℕ))
one_written to r = numbers_written to (do
  q ← r
  Ok (mapped test q))

abbrev pub one_bytes_written : PrimitiveType → Res (Projected (Test (List ℕ))) → Res (Projected (List ℕ))
one_bytes_written to r = bytes_written to (do
  q ← r
  Ok (mapped test q))

-- numbers that an answer sheet of the type can hold
abbrev pub NumbersIn : PrimitiveType → Option NumberTest → Type 0
NumbersIn to None = Unit {0}
NumbersIn to (Some (One o t)) = (in_type to t ≡ true) × (takes_one (by_arity o) ≡ true)
NumbersIn to (Some (Two o t)) = (in_type to t ≡ true) × (in_type to (suc_ℤ t) ≡ true) × (takes_many (by_arity o) ≡ true)

-- Void and Unknown have no steps
abbrev pub has_steps : Transform → Bool
has_steps Identity = true
has_steps (Truncate width) = true
has_steps Year = true
has_steps Month = true
has_steps Day = true
has_steps Hour = true
has_steps Void = false
has_steps Unknown = false

abbrev pub is_identity : Transform → Bool
is_identity Identity = true
is_identity (Truncate width) = false
is_identity Year = false
is_identity Month = false
is_identity Day = false
is_identity Hour = false
is_identity Void = false
is_identity Unknown = false

-- ---- sets

-- inclusive keeps In, strict NotIn, for older files too
abbrev pub kept_by : Question → Operator → Bool
kept_by question (none o) = false
kept_by question (one o) = false
kept_by Inclusive (many is_in) = true
kept_by Inclusive (many not_in) = false
kept_by Strict (many is_in) = false
kept_by Strict (many not_in) = true
kept_by Older (many is_in) = false
kept_by Older (many not_in) = true

-- Identity keeps both
abbrev pub keeps : Transform → Question → Operator → Bool
keeps transform question a = is_identity transform || kept_by question a

-- a column of numbers
pub record NumberColumn (column : PrimitiveType) : Type 0 where
  pub size : ℕ
  pub is : layout column ≡ number size

-- a column of byte strings
abbrev pub BytesColumn : PrimitiveType → Type 0
BytesColumn column = layout column ≡ bytes content_size
