-- 02, #107, over leaves: a row with a negative partition value may be filed under it or under the next one. Assumes nothing.
use Rattle.std.specs.Prelude.{Bool, true, ◌⊎◌, ◌≡◌, ℤ, pos, ◌<ℤ◌, Ok}
use Rattle.std.proofs.Math.IntN.{suc_ℤ}
use Rattle.values.specs.code.Places.{AllOf}
use Rattle.values.specs.Outcomes.{Row, present}
use Rattle.values.specs.declared.datatypes.PrimitiveType.{PrimitiveType}
use Rattle.values.specs.declared.transform.Transform.{Transform}
use Rattle.partition.specs.Partition.{number_partition}
use Rattle.partition.specs.code.PartitionAnswers.{InType}
use Rattle.expr.specs.Holds.{number_tests, holds}
use Rattle.expr.specs.Predicates.{Predicate, literals_in}
use Rattle.projection.specs.Lifting.{lifted}
use Rattle.projection.specs.Projection.{project_numbers}
use Rattle.projection.specs.Steps.{some}
use Rattle.projection.specs.declared.question.Question.TheVariants.{Inclusive, Older}
use Rattle.projection.specs.laws.LeafDemand.{RowOf}

-- where a row of p is filed. 02: "a row with a negative partition value p may be filed under p or p+1", under the transforms that document 01 lifts
abbrev pub Filed : Bool → Row ℤ → Row ℤ → Type 0
Filed lifts p f = (p ≡ f) ⊎ ((lifts ≡ true) × (z : ℤ) × (p ≡ present z) × (z <ℤ pos 0) × (f ≡ present (suc_ℤ z)))

-- "every inclusive predicate the port returns today still loses no such row"
abbrev pub NumbersNoOlderRowLost : Type 0
NumbersNoOlderRowLost = (column : PrimitiveType) (transform : Transform) (leaf q : Predicate ℤ) → AllOf (InType column) (literals_in leaf)
    → project_numbers Inclusive column transform leaf ≡ Ok (some q)
    → (r p f : Row ℤ) → RowOf (InType column) (number_partition column transform) r p → Filed (lifted column transform) p f
    → holds number_tests leaf r ≡ true → holds number_tests q f ≡ true

-- "For it, a predicate accepting either filing implies the leaf"
abbrev pub NumbersOlderIsSafe : Type 0
NumbersOlderIsSafe = (column : PrimitiveType) (transform : Transform) (leaf q : Predicate ℤ) → AllOf (InType column) (literals_in leaf)
    → project_numbers Older column transform leaf ≡ Ok (some q)
    → (r p f : Row ℤ) → RowOf (InType column) (number_partition column transform) r p → Filed (lifted column transform) p f
    → holds number_tests q f ≡ true → holds number_tests leaf r ≡ true
