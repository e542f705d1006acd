-- Demand 3 over leaves: what is to be shown of a leaf, the predicate that a projection returns for it, and the partition value that each row has.
-- Assumes nothing.
use Rattle.std.specs.Prelude.{ℕ, Bool, true, not, ◌||◌, List, ◌⊎◌, ◌↔◌, ◌≡◌, ℤ, pos, ◌<ℤ◌, Ok}
use Rattle.std.proofs.Math.IntN.{suc_ℤ}
use Rattle.values.specs.code.Places.{AllOf}
use Rattle.values.specs.Outcomes.{Res, Row, present}
use Rattle.values.specs.Types.{same_type}
use Rattle.values.specs.Utf8.{utf8}
use Rattle.values.specs.declared.datatypes.PrimitiveType.{PrimitiveType}
use Rattle.values.specs.declared.datatypes.PrimitiveType.TheVariants.{String}
use Rattle.values.specs.declared.transform.Transform.{Transform}
use Rattle.partition.specs.Partition.{number_partition, bytes_partition}
use Rattle.partition.specs.code.PartitionAnswers.{InType, OfPresent}
use Rattle.expr.specs.Holds.{Tests, number_tests, bytes_tests, holds}
use Rattle.expr.specs.Predicates.{Predicate, literals_in}
use Rattle.projection.specs.Lifting.{lifted}
use Rattle.projection.specs.Projection.{project_numbers, project_bytes}
use Rattle.projection.specs.Steps.{some}
use Rattle.projection.specs.declared.question.Question.TheVariants.{Inclusive, Strict}

-- r is a row of p. `Held` says which values a row of the column can have, `part` which partition value it has, maybe of another kind
abbrev pub RowOf : {A B : Type 0} → (A → Type 0) → (Row A → Res (Row B)) → Row A → Row B → Type 0
RowOf Held part r p = OfPresent Held r × (part r ≡ Ok p)

-- ---- nothing is lost
module _ {A B : Type 0} (rows : Tests A) (parts : Tests B) (Held : A → Type 0) (part : Row A → Res (Row B)) (leaf : Predicate A) (q : Predicate B) where
  -- "If that row has a partition value and meets the leaf, its partition value meets any inclusive predicate returned"
  abbrev pub NoRowLost : Type 0
  NoRowLost = (r : Row A) (p : Row B) → RowOf Held part r p → holds rows leaf r ≡ true → holds parts q p ≡ true

  -- "if its partition value meets a returned strict predicate, the row meets the leaf"
  abbrev pub StrictIsSafe : Type 0
  StrictIsSafe = (r : Row A) (p : Row B) → RowOf Held part r p → holds parts q p ≡ true → holds rows leaf r ≡ true

-- ---- whole numbers and times: nothing is kept that need not be
module _ (Held : ℤ → Type 0) (part : Row ℤ → Res (Row ℤ)) (leaf : Predicate ℤ) where
  abbrev pub SomeRow : Row ℤ → Type 0
  SomeRow p = (r : Row ℤ) × RowOf Held part r p × (holds number_tests leaf r ≡ true)

  abbrev pub AllRows : Row ℤ → Type 0
  AllRows p = (r : Row ℤ) → RowOf Held part r p → holds number_tests leaf r ≡ true

  -- "it is one above a negative partition value of which some row meets the leaf"
  abbrev pub OneAbove : Row ℤ → Type 0
  OneAbove p = (z : ℤ) × (p ≡ present (suc_ℤ z)) × (z <ℤ pos 0) × SomeRow (present z)

  -- "take any partition value that some row has. A strict predicate returned accepts it exactly when all its rows meet the leaf"
  abbrev pub StrictExact : Predicate ℤ → Type 0
  StrictExact q = (r p : Row ℤ) → RowOf Held part r p → (holds number_tests q p ≡ true) ↔ AllRows p

  -- "An inclusive one accepts it exactly when some row of it meets the leaf, or, for transforms that document 01 lifts, when it is one above .."
  abbrev pub InclusiveExact : Bool → Predicate ℤ → Type 0
  InclusiveExact lifts q = (r p : Row ℤ) → RowOf Held part r p → (holds number_tests q p ≡ true) ↔ (SomeRow p ⊎ ((lifts ≡ true) × OneAbove p))

-- ---- of every leaf, type, transform and width. Rows and literals are of the column's type: numbers `InType`, and a String's values are UTF-8
abbrev pub HeldIn : PrimitiveType → List ℕ → Type 0
HeldIn column s = (not (same_type column String) || utf8 s) ≡ true

abbrev pub NumbersStrictExact : Type 0
NumbersStrictExact = (column : PrimitiveType) (transform : Transform) (leaf q : Predicate ℤ) → AllOf (InType column) (literals_in leaf)
    → project_numbers Strict column transform leaf ≡ Ok (some q)
    → StrictExact (InType column) (number_partition column transform) leaf q

abbrev pub NumbersInclusiveExact : Type 0
NumbersInclusiveExact = (column : PrimitiveType) (transform : Transform) (leaf q : Predicate ℤ) → AllOf (InType column) (literals_in leaf)
    → project_numbers Inclusive column transform leaf ≡ Ok (some q)
    → InclusiveExact (InType column) (number_partition column transform) leaf (lifted column transform) q

abbrev pub BytesNoRowLost : Type 0
BytesNoRowLost = (column : PrimitiveType) (transform : Transform) (leaf q : Predicate (List ℕ)) → AllOf (HeldIn column) (literals_in leaf)
    → project_bytes Inclusive column transform leaf ≡ Ok (some q)
    → NoRowLost bytes_tests bytes_tests (HeldIn column) (bytes_partition column transform) leaf q

abbrev pub BytesStrictIsSafe : Type 0
BytesStrictIsSafe = (column : PrimitiveType) (transform : Transform) (leaf q : Predicate (List ℕ)) → AllOf (HeldIn column) (literals_in leaf)
    → project_bytes Strict column transform leaf ≡ Ok (some q)
    → StrictIsSafe bytes_tests bytes_tests (HeldIn column) (bytes_partition column transform) leaf q
