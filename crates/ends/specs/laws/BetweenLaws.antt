-- The numbers between two ends: which they are, and what some of them meet. Assumes nothing.
use Rattle.std.specs.Prelude.{◌≡◌, ℕ, zero, suc, ◌+◌, ◌≤◌, Bool, true, not, ◌||◌, ◌↔◌, List, [], ◌∷◌, ℤ, pos, negsuc, ◌-ℤ◌, ◌≤ℤ◌, ◌<ℤ◌, ◌≢◌, unsigned_abs, refl}
use mathlib.Core.List.Memᴰ.{head as here}
use mathlib.Core.List.Memᴰ.{tail as there}
use mathlib.Core.List.{Memᴰ as Isin}
use Rattle.std.proofs.Common.{⊎_elim}
use Rattle.std.proofs.Math.IntN.{suc_ℤ}
use Rattle.std.proofs.lemmas.Bool.{not-true, not-false}
use Rattle.values.specs.SomeEvery.{some}
use Rattle.values.specs.Ascending.{elem}
use Rattle.values.specs.Order.{compare_numbers, is_less, is_equal}
use Rattle.values.specs.laws.IntLaws.{ints, up, dn, minus, le_or_lt, ≤ℤ_antisym}
use Rattle.values.specs.laws.OrderLaws.{is_below, is_at_most}
use Rattle.values.specs.laws.RangeLaws.{next}
use Rattle.values.specs.laws.TestLaws.{stable, clash, same_test, or_cases, or_left, or_right, or_neither, and_both, both_and}
use Rattle.expr.specs.Holds.{number_tests, binary_meets}
use Rattle.expr.specs.laws.EqualityLaws.{number_tells, is_same, is_member}
use Rattle.expr.specs.Operators.{Binary, less_than, less_than_or_eq, greater_than, greater_than_or_eq, eq, not_eq, starts_with, not_starts_with}
use Rattle.summary.specs.EndValues.{lies_in}
use Rattle.summary.specs.Summaries.{◌to◌}
use Rattle.ends.specs.Between.{from, between}
use Rattle.values.specs.laws.SomeLaws.{some_iff}

-- ---- which numbers they are

abs_up : (z : ℤ) → pos 0 ≤ℤ z → (unsigned_abs z ≡ up z) × (dn z ≡ 0)
abs_up (pos n) h = (refl, refl)
abs_up (negsuc n) h = absurd (let z : ⊥ = omega ints in z)

-- how many numbers lie above v, up to h
pub distance : (v h : ℤ) → v ≤ℤ h → up v + dn h + unsigned_abs (h -ℤ v) ≡ up h + dn v
distance v h l =
    let a = abs_up (h -ℤ v) (omega (ints, minus h v)) in
    omega (ints, a.0, a.1, minus h v)

pub from_in : (z : ℤ) (n : ℕ) (v : ℤ) → Isin v (from z n) → (z ≤ℤ v) × (up v + dn z ≤ up z + dn v + n)
from_in z zero v (there m) = elim m [ ]
from_in z zero v (here e) = (omega ints, omega ints)
from_in z (suc n) v (here e) = (omega ints, omega ints)
from_in z (suc n) v (there m) = let h = from_in (suc_ℤ z) n v m in (omega (ints, next z), omega (ints, next z))

from_has : (z : ℤ) (n : ℕ) (v : ℤ) → z ≤ℤ v → up v + dn z ≤ up z + dn v + n → Isin v (from z n)
from_has z zero v h k = here (≤ℤ_antisym (omega ints) h)
from_has z (suc n) v h k =
    ⊎_elim (λ l. here (≤ℤ_antisym l h)) (λ l. there (from_has (suc_ℤ z) n v (omega (ints, next z)) (omega (ints, next z)))) (le_or_lt v z)

pub between_iff : (low high v : ℤ) → low ≤ℤ high → Isin v (between low high) ↔ ((low ≤ℤ v) × (v ≤ℤ high))
unfolding between
between_iff low high v h = (
  λ m. let k = from_in low (unsigned_abs (high -ℤ low)) v m in (k.0, omega (ints, k.1, distance low high h)),
  λ k. from_has low (unsigned_abs (high -ℤ low)) v k.0 (omega (ints, k.1, distance low high h)),
)

-- the first of them, and the others
pub between_self : (z : ℤ) → between z z ≡ z ∷ []
unfolding between
between_self z = let e : unsigned_abs (z -ℤ z) ≡ 0 = omega (ints, distance z z (omega ints)) in rw e

pub between_less : (v h : ℤ) → v <ℤ h → between v h ≡ v ∷ between (suc_ℤ v) h
unfolding between
between_less v h l =
    let up_to : suc_ℤ v ≤ℤ h = omega (ints, next v) in
    let e : unsigned_abs (h -ℤ v) ≡ suc (unsigned_abs (h -ℤ suc_ℤ v)) = omega (ints, next v, distance v h (omega ints), distance (suc_ℤ v) h up_to) in
    rw e

-- ---- which numbers lie between the ends

pub lies_iff : (low high v : ℤ) → (lies_in compare_numbers (low to high) v ≡ true) ↔ ((low ≤ℤ v) × (v ≤ℤ high))
lies_iff low high v = (
  λ h. let k = and_both (not (is_less (compare_numbers v low))) (not (is_less (compare_numbers high v))) h in
      ((is_at_most low v).0 k.0, (is_at_most v high).0 k.1),
  λ h. both_and ((is_at_most low v).1 h.0) ((is_at_most v high).1 h.1),
)

-- ---- what some of them meet

pub some_between : (test : ℤ → Bool) (low high : ℤ) → low ≤ℤ high
    → (some test (between low high) ≡ true) ↔ ((v : ℤ) × (low ≤ℤ v) × (v ≤ℤ high) × (test v ≡ true))
some_between test low high h = (
  λ s. let m = (some_iff test (between low high)).0 s in let k = (between_iff low high m.0 h).0 m.1 in (m.0, k.0, k.1, m.2),
  λ m. (some_iff test (between low high)).1 (m.0, (between_iff low high m.0 h).1 (m.1, m.2), m.3),
)

-- some of them pass a test where b says so
some_is : (test : ℤ → Bool) (b : Bool) (low high : ℤ) → low ≤ℤ high → ((v : ℤ) → low ≤ℤ v → v ≤ℤ high → test v ≡ true → b ≡ true)
    → (b ≡ true → (v : ℤ) × (low ≤ℤ v) × (v ≤ℤ high) × (test v ≡ true)) → some test (between low high) ≡ b
some_is test b low high h says shows =
    same_test
    (some test (between low high))
    b
    (λ s. let m = (some_between test low high h).0 s in says m.0 m.1 m.2 m.3)
    (λ e. (some_between test low high h).1 (shows e))

pub some_equal : (l low high : ℤ) → low ≤ℤ high → some (λ v. binary_meets number_tests eq v l) (between low high) ≡ lies_in compare_numbers (low to high) l
some_equal l low high h =
    some_is
    (λ v. binary_meets number_tests eq v l)
    (lies_in compare_numbers (low to high) l)
    low
    high
    h
    (λ v a b m. let e = (is_same number_tests number_tells v l).0 m in (lies_iff low high l).1 (omega ints, omega ints))
    (λ m. let b = (lies_iff low high l).0 m in (l, b.0, b.1, (is_same number_tests number_tells l l).1 refl))

pub some_member : (ls : List ℤ) (low high : ℤ) → low ≤ℤ high
    → some (λ v. elem compare_numbers v ls) (between low high) ≡ some (lies_in compare_numbers (low to high)) ls
some_member ls low high h =
    let lies = some_iff (lies_in compare_numbers (low to high)) ls in
    some_is
    (λ v. elem compare_numbers v ls)
    (some (lies_in compare_numbers (low to high)) ls)
    low
    high
    h
    (λ v a b m. lies.1 (v, (is_member number_tests number_tells v ls).0 m, (lies_iff low high v).1 (a, b)))
    (λ s. let m = lies.0 s in let b = (lies_iff low high m.0).0 m.2 in (m.0, b.0, b.1, (is_member number_tests number_tells m.0 ls).1 m.1))

-- what a number between the ends meets, one of the two ends meets, but for Eq
module _ (l low high v : ℤ) (a : low ≤ℤ v) (b : v ≤ℤ high) where
  one_end : (o : Binary) → (o ≢ eq) → binary_meets number_tests o v l ≡ true
      → (binary_meets number_tests o low l || binary_meets number_tests o high l) ≡ true
  one_end less_than other m = or_left _ ((is_below low l).1 (let k = (is_below v l).0 m in omega ints))
  one_end less_than_or_eq other m = or_left _ ((is_at_most low l).1 (let k = (is_at_most v l).0 m in omega ints))
  one_end greater_than other m = or_right (is_less (compare_numbers l low)) ((is_below l high).1 (let k = (is_below l v).0 m in omega ints))
  one_end greater_than_or_eq other m = or_right (not (is_less (compare_numbers low l))) ((is_at_most l high).1 (let k = (is_at_most l v).0 m in omega ints))
  one_end eq other m = absurd (other refl)
  one_end not_eq other m =
      stable
      _
      (λ e. let ends = or_neither (not (is_equal (compare_numbers low l))) (not (is_equal (compare_numbers high l))) e in
      let at_low = (is_same number_tests number_tells low l).0 (not-false _ ends.0) in
      let at_high = (is_same number_tests number_tells high l).0 (not-false _ ends.1) in
      clash ((is_same number_tests number_tells v l).1 (omega ints)) (not-true _ m))
  one_end starts_with other m = clash m refl
  one_end not_starts_with other m = refl

pub by_both_ends : (o : Binary) (l low high : ℤ) → (o ≢ eq) → low ≤ℤ high
    → some (λ v. binary_meets number_tests o v l) (between low high) ≡ (binary_meets number_tests o low l || binary_meets number_tests o high l)
by_both_ends o l low high other h =
    some_is
    (λ v. binary_meets number_tests o v l)
    (binary_meets number_tests o low l || binary_meets number_tests o high l)
    low
    high
    h
    (λ v a b m. one_end l low high v a b o other m)
    (λ e. ⊎_elim
    (λ m. (low, omega ints, h, m))
    (λ m. (high, h, omega ints, m))
    (or_cases (binary_meets number_tests o low l) (binary_meets number_tests o high l) e))
