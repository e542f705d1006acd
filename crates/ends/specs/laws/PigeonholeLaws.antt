-- More numbers than literals: they are not all among the literals. Assumes nothing.
use Rattle.std.specs.Prelude.{◌≡◌, ℕ, zero, suc, ◌<◌, ◌≤◌, false, List, [], ◌∷◌, length, ℤ, ◌-ℤ◌, ◌≤ℤ◌, ◌≢◌, unsigned_abs, refl}
use Rattle.std.proofs.Common.{arith, sym, ap, ◌∙◌}
use mathlib.Core.List.Memᴰ.{head as here}
use mathlib.Core.List.Memᴰ.{tail as there}
use mathlib.Core.List.{Memᴰ as Isin}
use Rattle.std.proofs.Math.IntN.{suc_ℤ}
use Rattle.values.specs.SomeEvery.{every}
use Rattle.values.specs.Ascending.{elem}
use Rattle.values.specs.Order.{compare_numbers}
use Rattle.values.specs.laws.IntLaws.{ints}
use Rattle.values.specs.laws.RangeLaws.{next}
use Rattle.values.specs.laws.TestLaws.{refuted}
use Rattle.expr.specs.Holds.{number_tests}
use Rattle.expr.specs.laws.EqualityLaws.{number_tells, is_member}
use Rattle.ends.specs.Between.{from, between}
use Rattle.ends.specs.laws.BetweenLaws.{from_in}
use Rattle.values.specs.laws.SomeLaws.{every_iff}

module _ {A : Type 0} (x : A) where
  -- a list without one of its members: it is shorter, and has all the others
  record Without (ys : List A) : Type 0 where
    pub rest : List A
    pub shorter : length ys ≡ suc (length rest)
    pub others : (v : A) → Isin v ys → (v ≢ x) → Isin v rest

  without : (ys : List A) → Isin x ys → Without ys
  without [] m = elim m [ ]
  without (y ∷ ys) (here is) = record { rest = ys; shorter = refl; others = go }
    where
      go : (v : A) → Isin v (y ∷ ys) → (v ≢ x) → Isin v ys
      go v (here e) other = absurd (other (e ∙ sym is))
      go v (there m) other = m
  without (y ∷ ys) (there m) = let w = without ys m in record { rest = y ∷ w.rest; shorter = ap suc w.shorter; others = go w }
    where
      go : (w : Without ys) (v : A) → Isin v (y ∷ ys) → (v ≢ x) → Isin v (y ∷ w.rest)
      go w v (here e) other = here e
      go w v (there k) other = there (w.others v k other)

-- n + 1 numbers in a list: it has more than n members
enough : (z : ℤ) (n : ℕ) (ys : List ℤ) → ((v : ℤ) → Isin v (from z n) → Isin v ys) → n < length ys
enough z zero ys h = let w = without z ys (h z (here refl)) in omega (arith, w.shorter)
enough z (suc n) ys h =
    let w = without z ys (h z (here refl)) in
    let above : (v : ℤ) → Isin v (from (suc_ℤ z) n) → v ≡ z → ⊥ = λ v m e. let k = (from_in (suc_ℤ z) n v m).0 in omega (ints, next z) in
    let k = enough (suc_ℤ z) n w.rest (λ v m. w.others v (h v (there m)) (above v m)) in
    omega (arith, w.shorter)

pub too_few : (ls : List ℤ) (low high : ℤ) → low ≤ℤ high → length ls ≤ unsigned_abs (high -ℤ low) → every (λ v. elem compare_numbers v ls) (between low high) ≡ false
unfolding between
too_few ls low high h few =
    refuted
    (every (λ v. elem compare_numbers v ls) (between low high))
    (λ e. let all = (every_iff (λ v. elem compare_numbers v ls) (between low high)).0 e in
    let k = enough low (unsigned_abs (high -ℤ low)) ls (λ v m. (is_member number_tests number_tells v ls).0 (all v m)) in
    omega arith)
