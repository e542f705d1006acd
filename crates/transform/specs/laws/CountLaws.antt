-- The laws of counting off: it finds the part in which a day lies, and a day lies in one part only. Assumes nothing.
use Prim.Native.Nat.{ℕ, zero, suc, ◌+◌, ◌-◌, ◌≤◌, ◌<◌}
use Rattle.std.specs.Prelude.{◌≡◌, ◌↔◌, Bool, true, false, cond, ltb}
use Rattle.std.proofs.Math.Path.{refl, ap}
use Rattle.std.proofs.Common.{subst, ⊎_elim, eq-or-lt_of_le, le_antisymm, lt_of_not-le}
use native.Mathlib.Omega.{arith}
use Rattle.std.proofs.Math.Decide.{dec_le}
use borrow.Author.Tests.{ltb-true, ltb-false}
use Rattle.transform.specs.Count.{before, count_off}

-- day d lies in part k
pub record Lies (len : ℕ → ℕ) (d k : ℕ) : Type 0 where
  pub from : before len k ≤ d
  pub until : d < before len (suc k)

by_test : {A : Type 0} (P : A → Type 0) (b : Bool) {x y : A} → (b ≡ true → P x) → (b ≡ false → P y) → P (cond b x y)
by_test P true f g = f refl
by_test P false f g = g refl

module _ (len : ℕ → ℕ) where
  pub before_zero : before len 0 ≡ 0
  unfolding before
  before_zero = refl

  pub before_suc : (k : ℕ) → before len (suc k) ≡ before len k + len k
  unfolding before
  before_suc k = refl

  pub before_mono : (j k : ℕ) → j ≤ k → before len j ≤ before len k
  before_mono j zero h = let e : j ≡ 0 = omega arith in omega (arith, ap (before len) e)
  before_mono j (suc k) h =
      ⊎_elim (λ e. omega (arith, ap (before len) e))
      (λ l. let h' : j ≤ k = omega arith in omega (arith, before_mono j k h', before_suc k))
      (eq-or-lt_of_le h)

  -- parts come in the order of their days
  pub lies_ordered : {d e j k : ℕ} → d ≤ e → Lies len d j → Lies len e k → j ≤ k
  lies_ordered {d} {e} {j} {k} h p q = go (dec_le j k)
    where
      go : Dec (j ≤ k) → j ≤ k
      go (yes l) = l
      go (no f) = absurd (let l : suc k ≤ j = lt_of_not-le f in omega (arith, before_mono (suc k) j l))

  -- a day lies in one part only
  pub lies_only : {d j k : ℕ} → Lies len d j → Lies len d k → j ≡ k
  lies_only p q = le_antisymm (lies_ordered (omega arith) p q) (lies_ordered (omega arith) q p)

  pub lies_exactly : {d j : ℕ} → Lies len d j → (k : ℕ) → Lies len d k ↔ (j ≡ k)
  lies_exactly p k = (lies_only p, λ e. subst (Lies len _) e p)

  -- d days after the first day of part k, with n parts to count off
  count_from : (n k d : ℕ) → before len k + d < before len (k + n) → Lies len (before len k + d) (count_off len n k d) × (count_off len n k d < k + n)
  unfolding count_off
  count_from zero k d h = absurd (let r : k + 0 ≡ k = omega arith in omega (arith, ap (before len) r))
  count_from (suc n) k d h =
      by_test (λ (p : ℕ). Lies len (before len k + d) p × (p < k + suc n)) (ltb d (len k))
      (λ t. (record { from = omega arith; until = omega (arith, before_suc k, ltb-true d (len k) t) }, omega arith))
      (λ t.
      let g : len k ≤ d = ltb-false d (len k) t in
      let e : before len (suc k) + (d - len k) ≡ before len k + d = omega (arith, before_suc k) in
      let s : suc k + n ≡ k + suc n = omega arith in
      rw (e, s) at (count_from n (suc k) (d - len k) (rw (e, s) h)))

  -- counting off finds the part
  pub count_lies : (n d : ℕ) → d < before len n → Lies len d (count_off len n 0 d) × (count_off len n 0 d < n)
  count_lies n d h =
      let e : before len 0 + d ≡ d = omega (arith, before_zero) in
      let s : 0 + n ≡ n = omega arith in
      rw (e, s) at (count_from n 0 d (rw (e, s) h))
