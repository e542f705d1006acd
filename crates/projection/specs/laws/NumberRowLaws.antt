-- From the numbers of a partition value to its rows: what is exact of present values is exact of rows. Assumes nothing.
use Rattle.std.specs.Prelude.{Bool, false, ◌≡◌, ℤ, Ok}
use Rattle.std.proofs.Common.{inl, inr, ⊎_elim, sym, ap, ◌∙◌}
use Rattle.values.specs.Order.{compare_numbers}
use Rattle.values.specs.laws.OrderLaws.{number_order}
use Rattle.values.specs.Outcomes.{Res, Row, missing, present}
use Rattle.values.specs.laws.OutcomeLaws.{present_inj, missing_not_present}
use Rattle.values.specs.laws.TestLaws.{clash}
use Rattle.values.specs.declared.datatypes.PrimitiveType.{PrimitiveType}
use Rattle.partition.specs.code.PartitionAnswers.{InType}
use Rattle.partition.specs.Partition.{of_row}
use Rattle.expr.specs.Holds.{number_tests, holds}
use Rattle.expr.specs.Operators.{Unary}
use Rattle.expr.specs.Predicates.{Test, Predicate, unary, test}
use Rattle.projection.specs.laws.LeafDemand.{RowOf, SomeRow, AllRows, StrictExact, InclusiveExact}
use Rattle.projection.specs.laws.NumberLaws.{Has, SomeNumber, AllNumbers, LiftedExact, AllExact}
use Rattle.projection.specs.Projection.{in_order}
use Rattle.projection.specs.laws.ProjectionLaws.{in_order_holds}
use Rattle.projection.specs.laws.MissingLaws.{SameMissing}
use Rattle.projection.specs.laws.RowLaws.{literal_value, missing_row, present_row, unary_row}
use Rattle.projection.specs.Steps.{literal_under}

module _ (column : PrimitiveType) (value : ℤ → Res (Row ℤ)) (never : (v : ℤ) → value v ≡ Ok missing → ⊥) where
  row_of : {p : ℤ} (r : Row ℤ) → RowOf (InType column) (of_row value) r (present p) → (v : ℤ) × (r ≡ present v) × Has column (literal_under value) v p
  row_of {p} r e = let a = present_row value never r e.1 in (a.0, a.1, (rw a.1 at e.0, (literal_value value a.0 p).1 a.2))

  module _ (x : Test ℤ) {p : ℤ} where
    some_row : SomeNumber column (literal_under value) x p → SomeRow (InType column) (of_row value) (test x) (present p)
    some_row s = (present s.0, (s.1.0, (literal_value value s.0 p).0 s.1.1), s.2)

    some_number : SomeRow (InType column) (of_row value) (test x) (present p) → SomeNumber column (literal_under value) x p
    some_number s = let a = row_of s.0 s.1 in (a.0, a.2, rw a.1 at s.2)

    all_rows : AllNumbers column (literal_under value) x p → AllRows (InType column) (of_row value) (test x) (present p)
    all_rows all r e = let a = row_of r e in rw a.1 (all a.0 a.2)

    all_numbers : AllRows (InType column) (of_row value) (test x) (present p) → AllNumbers column (literal_under value) x p
    all_numbers all v e = all (present v) (e.0, (literal_value value v p).0 e.1)

  -- the rows of the missing partition value are missing
  missing_meets_lem : (x : Test ℤ) (r : Row ℤ) → of_row value r ≡ Ok missing → holds number_tests (test x) r ≡ holds number_tests (test x) missing
  missing_meets_lem x r e = ap (holds number_tests (test x)) (missing_row value never r e)

  pub strict_rows : (x q : Test ℤ) → AllExact column (literal_under value) x q × SameMissing x q → StrictExact (InType column) (of_row value) (test x) (test q)
  strict_rows x q exact r missing e = (
    λ m s k. missing_meets_lem x s k.1 ∙ sym exact.1 ∙ m,
    λ all. exact.1 ∙ sym (missing_meets_lem x r e.1) ∙ all r e,
  )
  strict_rows x q exact r (present p) e =
      let a = row_of r e in
      let k = exact.0 a.0 p a.2 in
      (λ m. all_rows x (k.0 m), λ all. k.1 (all_numbers x all))

  pub inclusive_rows : (lifts : Bool) (x q : Test ℤ) → LiftedExact column (literal_under value) lifts x q × SameMissing x q
      → InclusiveExact (InType column) (of_row value) (test x) lifts (test q)
  inclusive_rows lifts x q exact r missing e = (
    λ m. inl (r, e, missing_meets_lem x r e.1 ∙ sym exact.1 ∙ m),
    λ o. ⊎_elim
        (λ s. exact.1 ∙ sym (missing_meets_lem x s.0 s.1.1) ∙ s.2)
        (λ a. missing_not_present a.1.1)
        o,
  )
  inclusive_rows lifts x q exact r (present p) e =
      let a = row_of r e in
      let k = exact.0 a.0 p a.2 in (
        λ m. ⊎_elim (λ s. inl (some_row x s)) (λ b. inr (b.0, (b.1.0, ap present b.1.1, b.1.2, some_row x b.1.3))) (k.0 m),
        λ o. k.1 (⊎_elim (λ s. inl (some_number x s)) (λ b. inr (b.0, (b.1.0, present_inj b.1.1, b.1.2, some_number x b.1.3))) o),
      )

  -- ---- 101 to 104
  same_unary : (o : Unary) (r p : Row ℤ) → of_row value r ≡ Ok p → holds number_tests (unary o) r ≡ holds number_tests (unary o) p
  same_unary o r p e = unary_row value never number_tests number_tests o r p e

  pub strict_unary : (o : Unary) → StrictExact (InType column) (of_row value) (unary o) (unary o)
  strict_unary o r p e = (λ m s k. same_unary o s p k.1 ∙ m, λ all. sym (same_unary o r p e.1) ∙ all r e)

  pub inclusive_unary : (lifts : Bool) (o : Unary) → InclusiveExact (InType column) (of_row value) (unary o) lifts (unary o)
  inclusive_unary lifts o r p e = (
    λ m. inl (r, e, same_unary o r p e.1 ∙ m),
    λ a. ⊎_elim
        (λ s. sym (same_unary o s.0 p s.1.1) ∙ s.2)
        (λ b. let s = b.1.3 in rw b.1.1 (sym (same_unary o s.0 (present b.1.0) s.1.1) ∙ s.2))
        a,
  )

-- ---- where each row is its own partition value
module _ (Held : ℤ → Type 0) (part : Row ℤ → Res (Row ℤ)) (same : (r p : Row ℤ) → part r ≡ Ok p → r ≡ p) (leaf : Predicate ℤ) where
  ordered : (p : Row ℤ) → holds number_tests (in_order compare_numbers leaf) p ≡ holds number_tests leaf p
  ordered p = in_order_holds number_tests number_order.equal leaf p

  own : (r p : Row ℤ) → RowOf Held part r p → RowOf Held part p p
  own r p e = rw (same r p e.1) at e

  pub strict_itself : StrictExact Held part leaf (in_order compare_numbers leaf)
  strict_itself r p e = (λ m s k. rw (same s p k.1) (sym (ordered p) ∙ m), λ all. ordered p ∙ all p (own r p e))

  pub inclusive_itself : (lifts : Bool) → lifts ≡ false → InclusiveExact Held part leaf lifts (in_order compare_numbers leaf)
  inclusive_itself lifts unlifted r p e = (
    λ m. inl (p, own r p e, sym (ordered p) ∙ m),
    λ o. ordered p ∙ ⊎_elim (λ s. rw (same s.0 p s.1.1) at s.2) (λ a. clash a.0 unlifted) o,
  )
