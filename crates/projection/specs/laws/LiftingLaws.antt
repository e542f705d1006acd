-- Laws of lifting: a lifted test accepts what the test accepts, and what is one above a negative literal that it accepts. Assumes nothing.
use Rattle.std.specs.Prelude.{ℕ, Bool, true, false, ◌⊎◌, ◌↔◌, ◌≡◌, refl, ℤ, pos, negsuc, ◌≤ℤ◌, ◌<ℤ◌, Ok, Err}
use mathlib.Core.List.Memᴰ.{eq_of_singleton}
use mathlib.Core.List.Memᴰ.{head as here}
use mathlib.Core.List.Memᴰ.{tail as there}
use mathlib.Core.List.{List, [], ◌∷◌, Memᴰ as Isin}
use Rattle.std.proofs.Common.{inl, inr, ⊎_elim, ap}
use Rattle.std.proofs.Math.IntN.{suc_ℤ, pred_ℤ, suc-pred}
use Rattle.values.specs.laws.IntLaws.{ints, le_or_lt}
use Rattle.values.specs.laws.OrderLaws.{is_below, is_at_most}
use Rattle.values.specs.Outcomes.{Res, ◌>>=◌}
use Rattle.values.specs.laws.RangeLaws.{next}
use Rattle.expr.specs.laws.EqualityLaws.{number_tells, is_same, is_member, is_ascending_member}
use Rattle.expr.specs.Holds.{number_tests, meets}
use Rattle.expr.specs.Operators.{less_than, less_than_or_eq, greater_than, greater_than_or_eq, eq, not_eq, starts_with, not_starts_with, is_in, not_in}
use Rattle.expr.specs.Predicates.{Test, binary, set, test, literals_in}
use Rattle.projection.specs.Lifting.{with_nexts, lift}
use Rattle.projection.specs.Projection.{lifted_by}
use Rattle.projection.specs.Steps.{Projected, some, none}
use Rattle.projection.specs.laws.StepLaws.{Returned, returned_map}

-- ---- the tests of numbers, as orders

-- < L is ≤ L−1, and > L is ≥ L+1
pub less_is : (v l : ℤ) → (meets number_tests (binary less_than l) v ≡ true) ↔ (v ≤ℤ pred_ℤ l)
less_is v l = (
  λ h. let k = (is_below v l).0 h in omega (ints, next (pred_ℤ l), suc-pred l),
  λ h. (is_below v l).1 (omega (ints, next (pred_ℤ l), suc-pred l)),
)

pub greater_is : (v l : ℤ) → (meets number_tests (binary greater_than l) v ≡ true) ↔ (suc_ℤ l ≤ℤ v)
greater_is v l = (λ h. let k = (is_below l v).0 h in omega (ints, next l), λ h. (is_below l v).1 (omega (ints, next l)))

-- ---- lists

-- p is one above a negative number of which g holds
abbrev pub Above : ℤ → (ℤ → Type 0) → Type 0
Above p g = (z : ℤ) × (p ≡ suc_ℤ z) × (z <ℤ pos 0) × g z

keeps_member : {p : ℤ} (ts : List ℤ) → Isin p ts → Isin p (with_nexts ts)
keeps_member {p = p} [] x' = elim x' [ ]
keeps_member (pos n ∷ ts) (here e) = here e
keeps_member (pos n ∷ ts) (there m) = there (keeps_member ts m)
keeps_member (negsuc n ∷ ts) (here e) = here e
keeps_member (negsuc n ∷ ts) (there m) = there (there (keeps_member ts m))

adds_next : {z : ℤ} (ts : List ℤ) → z <ℤ pos 0 → Isin z ts → Isin (suc_ℤ z) (with_nexts ts)
adds_next {z = z} [] g x'' = elim x'' [ ]
adds_next (pos n ∷ ts) g (here e) = absurd (omega ints)
adds_next (pos n ∷ ts) g (there m) = there (adds_next ts g m)
adds_next (negsuc n ∷ ts) g (here e) = there (here (ap suc_ℤ e))
adds_next (negsuc n ∷ ts) g (there m) = there (there (adds_next ts g m))

further : {p t : ℤ} {ts : List ℤ} → Isin p ts ⊎ Above p (λ z. Isin z ts) → Isin p (t ∷ ts) ⊎ Above p (λ z. Isin z (t ∷ ts))
further (inl m) = inl (there m)
further (inr a) = inr (a.0, a.1, a.2, there a.3)

negative : (n : ℕ) → negsuc n <ℤ pos 0
negative n = omega ints

member_or_next : {p : ℤ} (ts : List ℤ) → Isin p (with_nexts ts) → Isin p ts ⊎ Above p (λ z. Isin z ts)
member_or_next {p = p} [] x' = elim x' [ ]
member_or_next (pos n ∷ ts) (here e) = inl (here e)
member_or_next (pos n ∷ ts) (there m) = further (member_or_next ts m)
member_or_next (negsuc n ∷ ts) (here e) = inl (here e)
member_or_next (negsuc n ∷ ts) (there (here e)) = inr (negsuc n, e, negative n, here refl)
member_or_next (negsuc n ∷ ts) (there (there m)) = further (member_or_next ts m)

-- ---- a lifted test accepts what the test does
pub lift_keeps : (q : Test ℤ) (p : ℤ) → meets number_tests q p ≡ true → meets number_tests (lift q) p ≡ true
lift_keeps (binary less_than t) p h = h
lift_keeps (binary less_than_or_eq (pos n)) p h = h
lift_keeps (binary less_than_or_eq (negsuc n)) p h = let k = (is_at_most p (negsuc n)).0 h in (is_at_most p (suc_ℤ (negsuc n))).1 (omega (ints, next (negsuc n)))
lift_keeps (binary greater_than t) p h = h
lift_keeps (binary greater_than_or_eq t) p h = h
lift_keeps (binary eq (pos n)) p h = h
lift_keeps (binary eq (negsuc n)) p h = (is_member number_tests number_tells p (with_nexts (negsuc n ∷ []))).1 (here ((is_same number_tests number_tells p (negsuc n)).0 h))
lift_keeps (binary not_eq t) p h = h
lift_keeps (binary starts_with t) p h = h
lift_keeps (binary not_starts_with t) p h = h
lift_keeps (set is_in ts) p h = (is_ascending_member number_tests number_tells p (with_nexts ts)).1 (keeps_member ts ((is_member number_tests number_tells p ts).0 h))
lift_keeps (set not_in ts) p h = h

-- ---- and what is one above a negative number that it accepts: so for each test that an inclusive projection returns
abbrev pub Rises : Test ℤ → Type 0
Rises q = (z : ℤ) → z <ℤ pos 0 → meets number_tests q z ≡ true → meets number_tests (lift q) (suc_ℤ z) ≡ true

pub at_most_rises : (t : ℤ) → Rises (binary less_than_or_eq t)
at_most_rises (pos n) z g h = (is_at_most (suc_ℤ z) (pos n)).1 (omega (ints, next z))
at_most_rises (negsuc n) z g h =
    let k = (is_at_most z (negsuc n)).0 h in (is_at_most (suc_ℤ z) (suc_ℤ (negsuc n))).1 (omega (ints, next z, next (negsuc n)))

pub at_least_rises : (t : ℤ) → Rises (binary greater_than_or_eq t)
at_least_rises t z g h = let k = (is_at_most t z).0 h in (is_at_most t (suc_ℤ z)).1 (omega (ints, next z))

pub equal_rises : (t : ℤ) → Rises (binary eq t)
equal_rises (pos n) z g h = let e = (is_same number_tests number_tells z (pos n)).0 h in absurd (omega ints)
equal_rises (negsuc n) z g h = (is_member number_tests number_tells (suc_ℤ z) (with_nexts (negsuc n ∷ []))).1 (there (here (ap suc_ℤ ((is_same number_tests number_tells z (negsuc n)).0 h))))

pub within_rises : (ts : List ℤ) → Rises (set is_in ts)
within_rises ts z g h = (is_ascending_member number_tests number_tells (suc_ℤ z) (with_nexts ts)).1 (adds_next ts g ((is_member number_tests number_tells z ts).0 h))

-- ---- and nothing else
pub lift_back : (q : Test ℤ) (p : ℤ) → meets number_tests (lift q) p ≡ true
    → (meets number_tests q p ≡ true) ⊎ Above p (λ z. (meets number_tests q z ≡ true) × Isin z (literals_in (test q)))
lift_back (binary less_than t) p h = inl h
lift_back (binary less_than_or_eq (pos n)) p h = inl h
lift_back (binary less_than_or_eq (negsuc n)) p h =
    let k = (is_at_most p (suc_ℤ (negsuc n))).0 h in
    ⊎_elim
    (λ j. inl ((is_at_most p (negsuc n)).1 j))
    (λ j. inr (negsuc n, omega (ints, next (negsuc n)), negative n, ((is_at_most (negsuc n) (negsuc n)).1 (omega ints), here refl)))
    (le_or_lt p (negsuc n))
lift_back (binary greater_than t) p h = inl h
lift_back (binary greater_than_or_eq t) p h = inl h
lift_back (binary eq (pos n)) p h = inl h
lift_back (binary eq (negsuc n)) p h =
    ⊎_elim
    (λ m. inl ((is_same number_tests number_tells p (negsuc n)).1 (eq_of_singleton m)))
    (λ a. inr (a.0, a.1, a.2, ((is_same number_tests number_tells a.0 (negsuc n)).1 (eq_of_singleton a.3), a.3)))
    (member_or_next (negsuc n ∷ []) ((is_member number_tests number_tells p (with_nexts (negsuc n ∷ []))).0 h))
lift_back (binary not_eq t) p h = inl h
lift_back (binary starts_with t) p h = inl h
lift_back (binary not_starts_with t) p h = inl h
lift_back (set is_in ts) p h =
    ⊎_elim
    (λ m. inl ((is_member number_tests number_tells p ts).1 m))
    (λ a. inr (a.0, a.1, a.2, ((is_member number_tests number_tells a.0 ts).1 a.3, a.3)))
    (member_or_next ts ((is_ascending_member number_tests number_tells p (with_nexts ts)).0 h))
lift_back (set not_in ts) p h = inl h

-- ---- lifting an answer
abbrev pub lift_if : Bool → Test ℤ → Test ℤ
lift_if true q = lift q
lift_if false q = q

pub returned_lifted : (lifts : Bool) (r : Res (Projected (Test ℤ))) (g h : Test ℤ → Type 0) → ((q : Test ℤ) → g q → h (lift_if lifts q))
    → Returned r g → Returned (r >>= λ q. Ok (lifted_by lifts q)) h
returned_lifted true r g h k x = returned_map lift r g h k x
returned_lifted false (Ok (some q)) g h k x = k q x
returned_lifted false (Ok none) g h k x = tt
returned_lifted false (Err e) g h k x = tt
