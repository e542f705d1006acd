-- The steps for numbers are exact, over the numbers of a column's type, under any partial map that keeps the order: one argument for all transforms of
-- numbers. Assumes nothing.
use Rattle.std.specs.Prelude.{Bool, true, false, ◌⊎◌, ◌↔◌, ◌≡◌, refl, ℤ, ◌≤ℤ◌, Ok, Err}
use mathlib.Core.List.Memᴰ.{eq_of_singleton}
use mathlib.Core.List.{[], ◌∷◌}
use Rattle.std.proofs.Common.{inl, inr, ⊎_elim, sym, ap, ◌∙◌}
use Rattle.std.proofs.Math.IntN.{suc_ℤ, pred_ℤ}
use Rattle.values.specs.code.Places.{AllOf}
use Rattle.values.specs.Ascending.{ascending}
use Rattle.values.specs.laws.AscendingLaws.{all_isin}
use Rattle.values.specs.laws.IntLaws.{ints, le_or_lt, ≤ℤ_antisym}
use Rattle.values.specs.Order.{compare_numbers}
use Rattle.values.specs.laws.OrderLaws.{is_at_most}
use Rattle.values.specs.Outcomes.{Res, ◌>>=◌}
use Rattle.values.specs.laws.OutcomeLaws.{passed}
use Rattle.values.specs.laws.TestLaws.{stable, refuted, clash}
use Rattle.values.specs.Types.{in_type}
use Rattle.values.specs.declared.datatypes.PrimitiveType.{PrimitiveType}
use Rattle.values.specs.declared.error.ErrorKind.TheVariants.{Overflow}
use Rattle.partition.specs.code.PartitionAnswers.{InType}
use Rattle.expr.specs.Holds.{number_tests, meets}
use Rattle.expr.specs.laws.EqualityLaws.{number_tells}
use Rattle.expr.specs.laws.HoldsLaws.{opposite, opposite_literals, meets_false, opposite_true}
use Rattle.expr.specs.Operators.{less_than, less_than_or_eq, greater_than, greater_than_or_eq, eq, not_eq, starts_with, not_starts_with, is_in, not_in}
use Rattle.expr.specs.Predicates.{Test, binary, set, test, literals_in}
use Rattle.projection.specs.Lifting.{lift}
use Rattle.projection.specs.laws.LiftingLaws.{less_is, greater_is, lift_if, returned_lifted, lift_keeps, Rises, at_most_rises, at_least_rises, equal_rises, within_rises, lift_back}
use Rattle.projection.specs.NumberSteps.{one_below, one_above, inclusive_number, strict_number}
use Rattle.projection.specs.Projection.{lifted_by}
use Rattle.projection.specs.laws.EqualLaws.{Equals, eq_equals, in_equals}
use Rattle.projection.specs.laws.StepLaws.{Returned, returned_map, returned_weaken, returned_literal, returned_each, opposite_literal, opposite_each, Literal}
use Rattle.projection.specs.Steps.{Projected, some, none, mapped, with_literal, with_each}
use Rattle.projection.specs.laws.NumberLaws.{Has, Exact, LiftedExact, AllExact}

-- ---- inclusive

-- an order of numbers: ≤, or ≥
record Order (before : ℤ → ℤ → Type 0) : Type 0 where
  self : (a : ℤ) → before a a
  either : (a b : ℤ) → before a b ⊎ before b a
  both : (a b : ℤ) → before a b → before b a → a ≡ b

upwards : Order (λ a b. a ≤ℤ b)
upwards = record {
  self = λ a. omega ints;
  either = λ a b. ⊎_elim inl (λ h. inr (omega ints)) (le_or_lt a b);
  both = λ a b h k. ≤ℤ_antisym h k;
}

downwards : Order (λ a b. b ≤ℤ a)
downwards = record {
  self = λ a. omega ints;
  either = λ a b. ⊎_elim inl (λ h. inr (omega ints)) (le_or_lt b a);
  both = λ a b h k. ≤ℤ_antisym k h;
}

-- x asks for the numbers before k, and q for those before T(k). Of a number v after k, T(v) is before T(k) only where they are equal: then k itself
-- meets x
module _ (column : PrimitiveType) (T : ℤ → Res ℤ) (before : ℤ → ℤ → Type 0) (order : Order before)
    (mono : (v w p q : ℤ) → T v ≡ Ok p → T w ≡ Ok q → before v w → before p q) (k t : ℤ) (e : Has column T k t) (x q : Test ℤ)
    (x_is : (v : ℤ) → (meets number_tests x v ≡ true) ↔ before v k) (q_is : (p : ℤ) → (meets number_tests q p ≡ true) ↔ before p t) where
  bound : Rises q → literals_in (test q) ≡ t ∷ [] → Exact column T x q
  bound r one = record {
    kept = λ v p h m. (q_is p).1 (mono v k p t h.1 e.1 ((x_is v).0 m));
    needed = λ v p h m. ⊎_elim
        (λ b. (v, h, (x_is v).1 b))
        (λ b. (k, (e.0, e.1 ∙ ap Ok (order.both t p (mono k v t p e.1 h.1 b) ((q_is p).0 m))), (x_is k).1 (order.self k)))
        (order.either v k);
    rises = r;
    literals = λ l m. (k, (e.0, e.1 ∙ ap Ok (sym (eq_of_singleton (rw one at m)))));
  }

-- ---- strict: the opposite of the inclusive answer to the opposite leaf, where strict has one
module _ (column : PrimitiveType) (T : ℤ → Res ℤ) (g : Test ℤ → Type 0) where
  turned : (x : Test ℤ) → Returned (inclusive_number column T (opposite x)) (λ q. g (opposite q))
      → Returned (inclusive_number column T (opposite x) >>= λ q. Ok (mapped opposite q)) g
  turned x r = returned_map opposite (inclusive_number column T (opposite x)) (λ q. g (opposite q)) g (λ q k. k) r

  pub strict_by : (x : Test ℤ) → Returned (inclusive_number column T (opposite x)) (λ q. g (opposite q)) → Returned (strict_number column T x) g
  strict_by (binary less_than l) r = rw (opposite_literal greater_than_or_eq (T l)) at (turned (binary less_than l) r)
  strict_by (binary less_than_or_eq l) r = rw (opposite_literal greater_than_or_eq (one_above column T l)) at (turned (binary less_than_or_eq l) r)
  strict_by (binary greater_than l) r = rw (opposite_literal less_than_or_eq (T l)) at (turned (binary greater_than l) r)
  strict_by (binary greater_than_or_eq l) r = rw (opposite_literal less_than_or_eq (one_below column T l)) at (turned (binary greater_than_or_eq l) r)
  strict_by (binary eq l) r = tt
  strict_by (binary not_eq l) r = rw (opposite_literal eq (T l)) at (turned (binary not_eq l) r)
  strict_by (binary starts_with l) r = tt
  strict_by (binary not_starts_with l) r = tt
  strict_by (set is_in ls) r = tt
  strict_by (set not_in ls) r = rw (opposite_each compare_numbers is_in T ls) at (turned (set not_in ls) r)

module _ (column : PrimitiveType) (T : ℤ → Res ℤ) (mono : (v w p q : ℤ) → T v ≡ Ok p → T w ≡ Ok q → v ≤ℤ w → p ≤ℤ q) where
  at_most : (k t : ℤ) (x : Test ℤ) → Has column T k t → ((v : ℤ) → (meets number_tests x v ≡ true) ↔ (v ≤ℤ k)) → Exact column T x (binary less_than_or_eq t)
  at_most k t x e is = bound column T (λ a b. a ≤ℤ b) upwards mono k t e x (binary less_than_or_eq t) is (λ p. is_at_most p t) (at_most_rises t) refl

  at_least : (k t : ℤ) (x : Test ℤ) → Has column T k t → ((v : ℤ) → (meets number_tests x v ≡ true) ↔ (k ≤ℤ v)) → Exact column T x (binary greater_than_or_eq t)
  at_least k t x e is =
      bound
      column
      T
      (λ a b. b ≤ℤ a)
      downwards
      (λ v w p q a b h. mono w v q p b a h)
      k
      t
      e
      x
      (binary greater_than_or_eq t)
      is
      (λ p. is_at_most t p)
      (at_least_rises t)
      refl

  -- Eq and In ask no order
  equals_exact : (x : Test ℤ) (r : Res (Projected (Test ℤ))) → AllOf (InType column) (literals_in (test x))
      → Returned r (Equals number_tests number_tests number_tells number_tells T x) → Returned r Rises → Returned r (Exact column T x)
  equals_exact x (Ok none) fine s rise = tt
  equals_exact x (Err e) fine s rise = tt
  equals_exact x (Ok (some q)) fine s rise = record {
    kept = λ v p h m. s.kept v p h.1 m;
    needed = λ v p h m. let l = s.needed p m in (l.0, from l, s.own l.0 l.2);
    rises = rise;
    literals = λ t m. let l = s.literals t m in (l.0, from l);
  }
    where
      from : {p : ℤ} (l : Literal T (literals_in (test x)) p) → Has column T l.0 p
      from l = (all_isin (InType column) l.0 (literals_in (test x)) fine l.2, l.1)

  pub inclusive_exact : (x : Test ℤ) → AllOf (InType column) (literals_in (test x)) → Returned (inclusive_number column T x) (Exact column T x)
  inclusive_exact (binary less_than l) fine =
      returned_literal
      less_than_or_eq
      (one_below column T l)
      (Exact column T (binary less_than l))
      (λ t e. at_most (pred_ℤ l) t (binary less_than l) (passed (in_type column (pred_ℤ l)) Overflow _ e) (λ v. less_is v l))
  inclusive_exact (binary less_than_or_eq l) fine =
      returned_literal
      less_than_or_eq
      (T l)
      (Exact column T (binary less_than_or_eq l))
      (λ t e. at_most l t (binary less_than_or_eq l) (fine.0, e) (λ v. is_at_most v l))
  inclusive_exact (binary greater_than l) fine =
      returned_literal
      greater_than_or_eq
      (one_above column T l)
      (Exact column T (binary greater_than l))
      (λ t e. at_least (suc_ℤ l) t (binary greater_than l) (passed (in_type column (suc_ℤ l)) Overflow _ e) (λ v. greater_is v l))
  inclusive_exact (binary greater_than_or_eq l) fine =
      returned_literal
      greater_than_or_eq
      (T l)
      (Exact column T (binary greater_than_or_eq l))
      (λ t e. at_least l t (binary greater_than_or_eq l) (fine.0, e) (λ v. is_at_most l v))
  inclusive_exact (binary eq l) fine =
      equals_exact
      (binary eq l)
      (with_literal eq (T l))
      fine
      (eq_equals number_tests number_tests number_tells number_tells T l)
      (returned_literal eq (T l) Rises (λ t e. equal_rises t))
  inclusive_exact (binary not_eq l) fine = tt
  inclusive_exact (binary starts_with l) fine =
      returned_literal starts_with (T l) (Exact column T (binary starts_with l)) (λ t e. record {
        kept = λ v p h m. m;
        needed = λ v p h m. clash m refl;
        rises = λ z g m. m;
        literals = λ k m. (l, (fine.0, e ∙ ap Ok (sym (eq_of_singleton m))));
      })
  inclusive_exact (binary not_starts_with l) fine =
      returned_literal not_starts_with (T l) (Exact column T (binary not_starts_with l)) (λ t e. record {
        kept = λ v p h m. m;
        needed = λ v p h m. (v, h, m);
        rises = λ z g m. m;
        literals = λ k m. (l, (fine.0, e ∙ ap Ok (sym (eq_of_singleton m))));
      })
  inclusive_exact (set is_in ls) fine =
      equals_exact
      (set is_in ls)
      (with_each compare_numbers is_in T ls)
      fine
      (in_equals number_tests number_tests number_tells number_tells T ls)
      (returned_each compare_numbers is_in T ls Rises (λ ts e. within_rises (ascending compare_numbers ts)))
  inclusive_exact (set not_in ls) fine = tt

  -- ---- lifted
  lift_exact : (x q : Test ℤ) → Exact column T x q → LiftedExact column T true x (lift q)
  lift_exact x q exact v p h = (
    λ m. ⊎_elim
        (λ k. inl (exact.needed v p h k))
        (λ a. let l = exact.literals a.0 a.3.1 in inr (refl, (a.0, a.1, a.2, exact.needed l.0 a.0 l.1 a.3.0)))
        (lift_back q p m),
    λ o. ⊎_elim
        (λ k. lift_keeps q p (exact.kept k.0 p k.1 k.2))
        (λ a. let k = a.1.3 in rw a.1.1 (exact.rises a.1.0 a.1.2 (exact.kept k.0 a.1.0 k.1 k.2)))
        o,
  )

  same_exact : (x q : Test ℤ) → Exact column T x q → LiftedExact column T false x q
  same_exact x q exact v p h = (λ m. inl (exact.needed v p h m), λ o. ⊎_elim (λ k. exact.kept k.0 p k.1 k.2) (λ a. clash a.0 refl) o)

  pub lifted_exact : (lifts : Bool) (x : Test ℤ) → AllOf (InType column) (literals_in (test x))
      → Returned (inclusive_number column T x >>= λ q. Ok (lifted_by lifts q)) (LiftedExact column T lifts x)
  lifted_exact lifts x fine =
      returned_lifted lifts (inclusive_number column T x) (Exact column T x) (LiftedExact column T lifts x) (go lifts) (inclusive_exact x fine)
    where
      go : (lifts : Bool) (q : Test ℤ) → Exact column T x q → LiftedExact column T lifts x (lift_if lifts q)
      go true q exact = lift_exact x q exact
      go false q exact = same_exact x q exact

  -- ---- strict
  opposite_exact : (x q : Test ℤ) → Exact column T (opposite x) q → AllExact column T x (opposite q)
  opposite_exact x q exact v p h = (
    λ m w k. stable _ (λ z. clash (exact.kept w p k (opposite_true number_tests x w z)) (meets_false number_tests q p m)),
    λ a. opposite_true number_tests q p (refuted _ (λ z. let s = exact.needed v p h z in clash (a s.0 s.1) (meets_false number_tests x s.0 s.2))),
  )

  pub strict_exact : (x : Test ℤ) → AllOf (InType column) (literals_in (test x)) → Returned (strict_number column T x) (AllExact column T x)
  strict_exact x fine =
      strict_by column T (AllExact column T x) x
      (returned_weaken
      (inclusive_number column T (opposite x))
      (Exact column T (opposite x))
      (λ q. AllExact column T x (opposite q))
      (opposite_exact x)
      (inclusive_exact (opposite x) (rw (opposite_literals x) fine)))
