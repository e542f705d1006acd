-- What is to be shown of the steps for numbers: that they are exact (`proofs/NumberLaws` shows it). Assumes nothing.
use Rattle.std.specs.Prelude.{Bool, true, ◌⊎◌, ◌↔◌, ◌≡◌, ℤ, Ok}
use mathlib.Core.List.{Memᴰ as Isin}
use Rattle.values.specs.Outcomes.{Res}
use Rattle.values.specs.declared.datatypes.PrimitiveType.{PrimitiveType}
use Rattle.partition.specs.code.PartitionAnswers.{InType}
use Rattle.expr.specs.Holds.{number_tests, meets}
use Rattle.expr.specs.Predicates.{Test, test, literals_in}
use Rattle.projection.specs.laws.LiftingLaws.{Above, Rises}

module _ (column : PrimitiveType) (T : ℤ → Res ℤ) where
  -- p is the partition value of v, a number of the column's type
  abbrev pub Has : ℤ → ℤ → Type 0
  Has v p = InType column v × (T v ≡ Ok p)

  abbrev pub SomeNumber : Test ℤ → ℤ → Type 0
  SomeNumber x p = (v : ℤ) × Has v p × (meets number_tests x v ≡ true)

  abbrev pub AllNumbers : Test ℤ → ℤ → Type 0
  AllNumbers x p = (v : ℤ) → Has v p → meets number_tests x v ≡ true

  -- q accepts a partition value exactly where some number of it meets x. What lifting asks besides: q rises, and its literals are partition values
  pub record Exact (x q : Test ℤ) : Type 0 where
    pub kept : (v p : ℤ) → Has v p → meets number_tests x v ≡ true → meets number_tests q p ≡ true
    pub needed : (v p : ℤ) → Has v p → meets number_tests q p ≡ true → SomeNumber x p
    pub rises : Rises q
    pub literals : (t : ℤ) → Isin t (literals_in (test q)) → (v : ℤ) × Has v t

  -- what is to be shown of the numbers of a partition value: of an inclusive test, lifted or not, and of a strict one
  abbrev pub LiftedExact : Bool → Test ℤ → Test ℤ → Type 0
  LiftedExact lifts x q = (v p : ℤ) → Has v p → (meets number_tests q p ≡ true) ↔ (SomeNumber x p ⊎ ((lifts ≡ true) × Above p (SomeNumber x)))

  abbrev pub AllExact : Test ℤ → Test ℤ → Type 0
  AllExact x q = (v p : ℤ) → Has v p → (meets number_tests q p ≡ true) ↔ AllNumbers x p
