-- The projections of a leaf, by the question: what it comes to on the partition values of a column's transform. Assumes nothing.
use Rattle.std.specs.Prelude.{ℕ, Bool, true, false, cond, List, ℤ, length, Ok, Err}
use Rattle.values.specs.Ascending.{ascending}
use Rattle.values.specs.Order.{compare_numbers, compare_bytes}
use Rattle.values.specs.Outcomes.{Res, ◌>>=◌}
use Rattle.values.specs.Transforms.{width_of}
use Rattle.values.specs.Types.{same_type}
use Rattle.values.specs.Utf8.{code_points}
use Rattle.values.specs.declared.datatypes.PrimitiveType.{PrimitiveType}
use Rattle.values.specs.declared.datatypes.PrimitiveType.TheVariants.{String}
use Rattle.values.specs.declared.error.ErrorKind.TheVariants.{FeatureUnsupported}
use Rattle.std.specs.declared.cmp.Ordering.{Ordering}
use Rattle.values.specs.declared.transform.Transform.{Transform}
use Rattle.values.specs.declared.transform.Transform.TheVariants.{Identity, Truncate, Year, Month, Day, Hour, Void, Unknown}
use Rattle.partition.specs.Partition.{transform_number, transform_bytes}
use Rattle.expr.specs.Predicates.{Test, binary, set, Predicate, unary, test}
use Rattle.projection.specs.declared.question.Question.{Question}
use Rattle.projection.specs.declared.question.Question.TheVariants.{Inclusive, Strict, Older}
use Rattle.projection.specs.ByteSteps.{Step, inclusive_bytes, strict_bytes}
use Rattle.projection.specs.Lifting.{lifted, lift, older_if}
use Rattle.projection.specs.NumberSteps.{inclusive_number, strict_number}
use Rattle.projection.specs.Steps.{Projected, some, none, mapped, literal_under}

-- ---- a leaf of either kind

-- the leaf itself, its literals as an answer sheet has them: ascending and without repeats
abbrev pub in_order : {A : Type 0} → (A → A → Ordering) → Predicate A → Predicate A
in_order compare (unary o) = unary o
in_order compare (test (binary o l)) = test (binary o l)
in_order compare (test (set o ls)) = test (set o (ascending compare ls))

-- 01: "101–104 pass through unchanged"
abbrev pub through : {A B : Type 0} → (Test A → Res (Projected (Test B))) → Predicate A → Res (Projected (Predicate B))
through step (unary o) = Ok (some (unary o))
through step (test t) = do
  q ← step t
  Ok (mapped test q)

-- 01: "Checks run .. 5, then Unknown (7), then the steps below"; "Void: no predicate for any operator"; "Identity: the leaf itself"
module _ {A : Type 0} (compare : A → A → Ordering) (step : Test A → Res (Projected (Test A))) where
  abbrev pub by_transform : Transform → Predicate A → Res (Projected (Predicate A))
  by_transform Identity leaf = Ok (some (in_order compare leaf))
  by_transform (Truncate width) leaf = through step leaf
  by_transform Year leaf = through step leaf
  by_transform Month leaf = through step leaf
  by_transform Day leaf = through step leaf
  by_transform Hour leaf = through step leaf
  by_transform Void leaf = Ok none
  by_transform Unknown leaf = Err FeatureUnsupported

-- ---- numbers and times
abbrev pub lifted_by : Bool → Projected (Test ℤ) → Projected (Test ℤ)
lifted_by true q = mapped lift q
lifted_by false q = q

module _ (column : PrimitiveType) (transform : Transform) where
  abbrev pub number_under : ℤ → Res ℤ
  number_under l = literal_under (transform_number column transform) l

  abbrev pub number_step : Question → Test ℤ → Res (Projected (Test ℤ))
  number_step Inclusive t = do
    q ← inclusive_number column number_under t
    Ok (lifted_by (lifted column transform) q)
  number_step Strict t = strict_number column number_under t
  number_step Older t = do
    q ← strict_number column number_under t
    Ok (mapped (older_if (lifted column transform)) q)

unfoldable pub project_numbers : Question → PrimitiveType → Transform → Predicate ℤ → Res (Projected (Predicate ℤ))
project_numbers question column transform leaf = by_transform compare_numbers (number_step column transform question) transform leaf

-- ---- strings and binaries

-- how long a literal is. 01: "Let n be L's code points"; of a Binary, 02: "counting bytes"
abbrev pub length_of : PrimitiveType → List ℕ → ℕ
length_of column s = cond (same_type column String) (length (code_points s)) (length s)

module _ (column : PrimitiveType) (transform : Transform) where
  abbrev pub bytes_under : List ℕ → Res (List ℕ)
  bytes_under l = literal_under (transform_bytes column transform) l

  abbrev pub bytes_step : Question → Test (List ℕ) → Step
  bytes_step Inclusive t = inclusive_bytes column bytes_under (length_of column) (width_of transform) t
  bytes_step Strict t = strict_bytes bytes_under (length_of column) (width_of transform) t
  -- no transform of byte strings is lifted
  bytes_step Older t = strict_bytes bytes_under (length_of column) (width_of transform) t

unfoldable pub project_bytes : Question → PrimitiveType → Transform → Predicate (List ℕ) → Res (Projected (Predicate (List ℕ)))
project_bytes question column transform leaf = by_transform compare_bytes (bytes_step column transform question) transform leaf
