-- Where a returned predicate's literals and partition values lie: numbers in the result type, byte strings at beginnings of what they are made of.
-- Assumes nothing.
use Rattle.std.specs.Prelude.{ℕ, ◌*◌, ◌≤◌, Bool, true, false, not, ◌||◌, List, ◌≡◌, refl, ℤ, length, take, Ok}
use Rattle.std.proofs.Common.{arith}
use borrow.Table.Elements.{take-le}
use Rattle.values.specs.code.Places.{AllOf}
use Rattle.values.specs.Order.{compare_numbers, compare_bytes}
use Rattle.values.specs.Outcomes.{Res, Row, missing, present}
use Rattle.values.specs.laws.OutcomeLaws.{ok_inj, missing_not_present}
use Rattle.values.specs.laws.RangeLaws.{next_in_type}
use Rattle.values.specs.Transforms.{width_of}
use Rattle.values.specs.Types.{same_type}
use Rattle.values.specs.Utf8.{utf8}
use Rattle.values.specs.declared.datatypes.PrimitiveType.{PrimitiveType}
use Rattle.values.specs.declared.datatypes.PrimitiveType.TheVariants.{String}
use Rattle.values.specs.declared.transform.Transform.{Transform}
use Rattle.values.specs.declared.transform.Transform.TheVariants.{Identity}
use Rattle.partition.specs.code.PartitionAnswers.{InType, OfPresent}
use Rattle.partition.specs.Partition.{known, of_row, transform_number, transform_bytes, number_partition, bytes_partition}
use Rattle.partition.specs.laws.PartitionRowLaws.{number_row_lem, bytes_row}
use Rattle.partition.specs.laws.BytesPartitionLaws.{bytes_begin}
use Rattle.values.specs.laws.TypesLaws.{same_type_lem}
use Rattle.partition.specs.laws.PartitionLaws.{number_lands, number_identity, string_result}
use Rattle.partition.specs.ResultType.{result_type}
use Rattle.expr.specs.Predicates.{Test, Predicate, test, literals_in}
use Rattle.projection.specs.laws.LeafDemand.{HeldIn}
use Rattle.projection.specs.Lifting.{lifted, older_if}
use Rattle.projection.specs.laws.LiteralLaws.{Landed}
use Rattle.projection.proofs.LiteralLaws.{lands, lift_lands, older_lands, inclusive_numbers, strict_numbers, inclusive_bytes_lem, strict_bytes_lem}
use Rattle.projection.specs.laws.LiftingLaws.{lift_if, returned_lifted}
use Rattle.projection.specs.NumberSteps.{inclusive_number, strict_number}
use Rattle.projection.specs.Projection.{length_of, number_under, number_step, project_numbers, bytes_under, bytes_step, project_bytes}
use Rattle.projection.specs.laws.RowLaws.{literal_value}
use Rattle.projection.specs.laws.ProjectionLaws.{course}
use Rattle.projection.specs.laws.StepLaws.{Returned, returned_weaken, returned_map}
use Rattle.projection.specs.Steps.{some}
use Rattle.projection.specs.declared.question.Question.{Question}
use Rattle.projection.specs.declared.question.Question.TheVariants.{Inclusive, Strict, Older}

-- ---- numbers
module _ (column to : PrimitiveType) (transform : Transform) (r : result_type transform column ≡ Ok to) where
  gives : (l t : ℤ) → number_under column transform l ≡ Ok t → InType column l → InType to t
  gives l t e h = number_lands column to transform l t r h ((literal_value (transform_number column transform) l t).0 e)

  itself : transform ≡ Identity → (v : ℤ) → InType column v → InType to v
  itself t v h = number_lands column to transform v v r h (rw t (number_identity column v))

  lift_if_lem : (lifts : Bool) (n : ℕ) (q : Test ℤ) → Landed (InType to) n (test q) → Landed (InType to) (2 * n) (test (lift_if lifts q))
  lift_if_lem true n q k = lift_lands (InType to) (λ z below h. next_in_type to z h below) n q k
  lift_if_lem false n q k = record { all = k.all; count = omega (arith, k.count) }

  older_if_lem : (lifts : Bool) (n : ℕ) (q : Test ℤ) → Landed (InType to) n (test q) → Landed (InType to) (2 * n) (test (older_if lifts q))
  older_if_lem true n q k = older_lands (InType to) (λ z below h. next_in_type to z h below) n q k
  older_if_lem false n q k = record { all = k.all; count = omega (arith, k.count) }

  steps : (question : Question) (y : Test ℤ) → AllOf (InType column) (literals_in (test y))
      → Returned (number_step column transform question y) (λ q. Landed (InType to) (2 * length (literals_in (test y))) (test q))
  steps Inclusive y x =
      returned_lifted
      (lifted column transform)
      (inclusive_number column (number_under column transform) y)
      (λ q. Landed (InType to) (length (literals_in (test y))) (test q))
      (λ q. Landed (InType to) (2 * length (literals_in (test y))) (test q))
      (λ q k. lift_if_lem (lifted column transform) (length (literals_in (test y))) q k)
      (inclusive_numbers column (number_under column transform) (InType to) gives y x)
  steps Strict y x =
      returned_weaken
      (strict_number column (number_under column transform) y)
      (λ q. Landed (InType to) (length (literals_in (test y))) (test q))
      (λ q. Landed (InType to) (2 * length (literals_in (test y))) (test q))
      (λ q k. lift_if_lem false (length (literals_in (test y))) q k)
      (strict_numbers column (number_under column transform) (InType to) gives y x)
  steps Older y x =
      returned_map
      (older_if (lifted column transform))
      (strict_number column (number_under column transform) y)
      (λ q. Landed (InType to) (length (literals_in (test y))) (test q))
      (λ q. Landed (InType to) (2 * length (literals_in (test y))) (test q))
      (λ q k. older_if_lem (lifted column transform) (length (literals_in (test y))) q k)
      (strict_numbers column (number_under column transform) (InType to) gives y x)

-- a returned predicate's numbers are of the result type, and lifting at most doubles their count
pub numbers_land : (question : Question) (column to : PrimitiveType) (transform : Transform) (leaf x : Predicate ℤ)
    → result_type transform column ≡ Ok to → AllOf (InType column) (literals_in leaf)
    → project_numbers question column transform leaf ≡ Ok (some x)
    → Landed (InType to) (2 * length (literals_in leaf)) x
unfolding project_numbers
numbers_land question column to transform leaf x r fine e =
    lands
    compare_numbers
    (InType to)
    (number_step column transform question)
    transform
    (InType column)
    (λ n. 2 * n)
    (λ n. omega arith)
    (itself column to transform r)
    (steps column to transform r question)
    leaf
    x
    fine
    e

-- ---- strings and binaries
module _ (question : Question) (column : PrimitiveType) (transform : Transform) (g h : List ℕ → Type 0)
    (gives : (l t : List ℕ) → transform_bytes column transform l ≡ Ok (present t) → g l → h t) (keeps : (l : List ℕ) → g l → h l) where
  under : (l t : List ℕ) → bytes_under column transform l ≡ Ok t → g l → h t
  under l t e x = gives l t ((literal_value (transform_bytes column transform) l t).0 e) x

  byte_steps_lem : (question : Question) (y : Test (List ℕ)) → AllOf g (literals_in (test y))
      → Returned (bytes_step column transform question y) (λ q. Landed h (length (literals_in (test y))) (test q))
  byte_steps_lem Inclusive y x = inclusive_bytes_lem (bytes_under column transform) (length_of column) (width_of transform) g h under keeps column y x
  byte_steps_lem Strict y x = strict_bytes_lem (bytes_under column transform) (length_of column) (width_of transform) g h under keeps y x
  byte_steps_lem Older y x = strict_bytes_lem (bytes_under column transform) (length_of column) (width_of transform) g h under keeps y x

  land : (leaf x : Predicate (List ℕ)) → AllOf g (literals_in leaf) → project_bytes question column transform leaf ≡ Ok (some x)
      → Landed h (length (literals_in leaf)) x
  unfolding project_bytes
  land leaf x fine e =
      lands compare_bytes h (bytes_step column transform question) transform g (λ n. n) (λ n. omega arith) (λ t v k. keeps v k) (byte_steps_lem question) leaf x fine e

-- what every beginning keeps, a value has from the byte string it is made of, and a returned predicate's literals have from the leaf's
module _ (g : List ℕ → Type 0) (begins : (s : List ℕ) (k : ℕ) → g s → g (take k s)) where
  begin_keeps : (column : PrimitiveType) (transform : Transform) (s t : List ℕ) → transform_bytes column transform s ≡ Ok (present t) → g s → g t
  begin_keeps column transform s t e x = rw (bytes_begin column transform s t e).beginning (begins s (length t) x)

  pub bytes_hand_on : (question : Question) (column : PrimitiveType) (transform : Transform) (leaf x : Predicate (List ℕ)) → AllOf g (literals_in leaf)
      → project_bytes question column transform leaf ≡ Ok (some x) → AllOf g (literals_in x)
  bytes_hand_on question column transform leaf x fine e =
      (land question column transform g g (begin_keeps column transform) (λ l k. k) leaf x fine e).all

-- a String's values are UTF-8 as it is
held_to : (column to : PrimitiveType) (transform : Transform) → known transform ≡ true → result_type transform column ≡ Ok to
    → (s t : List ℕ) → (column ≡ String → utf8 s ≡ true → utf8 t ≡ true) → HeldIn column s → HeldIn to t
held_to column to transform n r s t k held = go (same_type to String) refl
  where
    go : (b : Bool) → same_type to String ≡ b → (not b || utf8 t) ≡ true
    go false e = refl
    go true e = let string = string_result transform column n (rw (same_type_lem to String e) at r) in k string (rw string at held)

pub bytes_land : (question : Question) (column to : PrimitiveType) (transform : Transform) (leaf x : Predicate (List ℕ))
    → result_type transform column ≡ Ok to → AllOf (HeldIn column) (literals_in leaf) → project_bytes question column transform leaf ≡ Ok (some x)
    → Landed (HeldIn to) (length (literals_in leaf)) x
unfolding project_bytes
bytes_land question column to transform leaf x r fine e =
    let n = (course compare_bytes (bytes_step column transform question) transform leaf x e).0 in
    land
    question
    column
    transform
    (HeldIn column)
    (HeldIn to)
    (λ l t d k. held_to column to transform n r l t (bytes_begin column transform l t d).string k)
    (λ l k. held_to column to transform n r l l (λ c u. u) k)
    leaf
    x
    fine
    e

take_short : (n : ℕ) (s : List ℕ) (k : ℕ) → length s ≤ n → length (take k s) ≤ n
take_short n s k h = omega (arith, take-le k s)

pub bytes_short : (n : ℕ) (question : Question) (column : PrimitiveType) (transform : Transform) (leaf x : Predicate (List ℕ))
    → AllOf (λ s. length s ≤ n) (literals_in leaf) → project_bytes question column transform leaf ≡ Ok (some x)
    → AllOf (λ t. length t ≤ n) (literals_in x)
bytes_short n question column transform leaf x fine e =
    bytes_hand_on (λ s. length s ≤ n) (take_short n) question column transform leaf x fine e

-- ---- partition values

module _ {A B : Type 0} (g : A → Type 0) (h : B → Type 0) (value : A → Res (Row B)) (gives : (v : A) (t : B) → value v ≡ Ok (present t) → g v → h t) where
  row_lands : (r : Row A) (p : Row B) → of_row value r ≡ Ok p → OfPresent g r → OfPresent h p
  row_lands r missing e x = tt
  row_lands missing (present t) e x = missing_not_present (ok_inj e)
  row_lands (present v) (present t) e x = gives v t e x

pub number_partition_lands : (column to : PrimitiveType) (transform : Transform) (r p : Row ℤ) → result_type transform column ≡ Ok to
    → number_partition column transform r ≡ Ok p → OfPresent (InType column) r → OfPresent (InType to) p
number_partition_lands column to transform r p t e x =
    row_lands
    (InType column)
    (InType to)
    (transform_number column transform)
    (λ v z d h. number_lands column to transform v z t h d)
    r
    p
    (number_row_lem column transform r p e).1
    x

pub bytes_partition_lands : (column to : PrimitiveType) (transform : Transform) (r p : Row (List ℕ)) → result_type transform column ≡ Ok to
    → bytes_partition column transform r ≡ Ok p → OfPresent (HeldIn column) r → OfPresent (HeldIn to) p
bytes_partition_lands column to transform r p t e x =
    let a = bytes_row column transform r p e in
    row_lands
    (HeldIn column)
    (HeldIn to)
    (transform_bytes column transform)
    (λ s z d k. held_to column to transform a.0 t s z (bytes_begin column transform s z d).string k)
    r
    p
    a.1
    x

-- what every beginning keeps, as that it is short, a partition value has from its row
pub bytes_partition_hand_on : (g : List ℕ → Type 0) → ((s : List ℕ) (k : ℕ) → g s → g (take k s))
    → (column : PrimitiveType) (transform : Transform) (r p : Row (List ℕ)) → bytes_partition column transform r ≡ Ok p → OfPresent g r → OfPresent g p
bytes_partition_hand_on g begins column transform r p e x =
    row_lands g g (transform_bytes column transform) (begin_keeps g begins column transform) r p (bytes_row column transform r p e).1 x

pub bytes_partition_short : (n : ℕ) (column : PrimitiveType) (transform : Transform) (r p : Row (List ℕ)) → bytes_partition column transform r ≡ Ok p
    → OfPresent (λ s. length s ≤ n) r → OfPresent (λ t. length t ≤ n) p
bytes_partition_short n column transform r p e x = bytes_partition_hand_on (λ s. length s ≤ n) (take_short n) column transform r p e x
