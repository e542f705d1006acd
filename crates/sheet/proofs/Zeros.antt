-- Runs of zeros that are tested part by part: the test of the first bytes and what is left answer for the whole. Assumes nothing.
use Prim.Native.Nat.{ℕ, zero, suc, ◌+◌, ◌-◌, ◌≤◌}
use native.Mathlib.Nat.{add-zero, add_assoc, sub-zero}
use native.Mathlib.Omega.{arith}
use mathlib.Core.Bool.{Bool, true, false, ◌&&◌, and-true, and-false, and_assoc}
use mathlib.Core.List.{List}
use mathlib.Core.Path.{◌≡◌, refl, sym, ap, ◌∙◌}
use lib.Bits.{bit_or, or_add_and, and_le_r}
use lib.Dec.{eqb}
use lib.ListN.{get_or}
use borrow.Author.Tests.{eq-eqb, ne_eqb}
use Rattle.values.specs.laws.WordLaws.{word_one}
use Rattle.values.specs.Words.{word, zero_at}
use Rattle.sheet.specs.laws.PartLaws.{zero_split}

-- t is a test of some bytes of a run, the first i among them, so it and the bytes after those answer for the run
pub record Run (s : List ℕ) (at n i : ℕ) (t : Bool) : Type 0 where
  pub within : i ≤ n
  pub same : (t && zero_at (at + i) (n - i) s) ≡ zero_at at n s

split : (s : List ℕ) (at n m : ℕ) → m ≤ n → zero_at at n s ≡ (zero_at at m s && zero_at (at + m) (n - m) s)
split s at n m h = let e : m + (n - m) ≡ n = omega arith in ap (λ (k : ℕ). zero_at at k s) (sym e) ∙ zero_split at m (n - m) s

pub none : (s : List ℕ) (at n : ℕ) → Run s at n 0 true
none s at n = record { within = omega arith; same = rw (add-zero, sub-zero) refl }

twice : (a b c : Bool) → ((a && b) && (b && c)) ≡ ((a && b) && c)
twice true true c = refl
twice true false c = refl
twice false b c = refl

-- the first m bytes, of which those from index i on are tested again
pub begun : (s : List ℕ) (at n i m : ℕ) {b : ℕ} → b ≡ word at m s → i ≤ m → m ≤ n → Run s at n i (eqb b 0)
begun s at n i m is h k =
    let place : (at + i) + (m - i) ≡ at + m = omega arith in
    let size : n - i - (m - i) ≡ n - m = omega arith in
    let low = split s at m i h in
    let rest = rw (place, size) at (split s (at + i) (n - i) (m - i) (omega arith)) in
    let joined = twice (zero_at at i s) (zero_at (at + i) (m - i) s) (zero_at (at + m) (n - m) s) in
    record { within = omega arith; same = rw (split s at n m k, is, rest, low) joined }

-- two numbers are 0 where the bits of both together are
or_zero : (a b : ℕ) → eqb (bit_or a b) 0 ≡ (eqb a 0 && eqb b 0)
or_zero zero b = refl
or_zero (suc a) b =
    rw (ne_eqb (suc a) 0 (λ e. omega arith)) (ne_eqb (bit_or (suc a) b) 0 (λ e. omega (arith, or_add_and (suc a) b, and_le_r (suc a) b)))

-- the next m bytes, and the number that they are
module _ {s : List ℕ} {at n i : ℕ} {t : Bool} (run : Run s at n i t) (m : ℕ) {b : ℕ} (is : b ≡ word (at + i) m s) (some : i + m ≤ n) where
  next : Run s at n (i + m) (t && eqb b 0)
  next =
      let left : n - (i + m) ≡ n - i - m = omega arith in
      record { within = some; same = rw (and_assoc, left, ← add_assoc at i m, is, ← split s (at + i) (n - i) m (omega arith)) run.same }

  pub ends : (b ≡ 0 → ⊥) → false ≡ zero_at at n s
  ends h = rw (ne_eqb b 0 h, and-false) at next.same

  pub goes_on : b ≡ 0 → Run s at n (i + m) t
  goes_on h = rw (eq-eqb b 0 h, and-true) at next

-- the same where their bits are gathered
pub gathered : {s : List ℕ} {at n i : ℕ} (a : ℕ) → Run s at n i (eqb a 0) → (m : ℕ) {b : ℕ} → b ≡ word (at + i) m s → i + m ≤ n
    → Run s at n (i + m) (eqb (bit_or a b) 0)
gathered a run m {b} is some = rw (or_zero a b) (next run m is some)

pub ended : {s : List ℕ} {at n i : ℕ} {t : Bool} → Run s at n i t → n ≤ i → t ≡ zero_at at n s
ended {s} {at} {n} {i} {t} run h = let none : n - i ≡ 0 = omega arith in sym (and-true t) ∙ rw none at run.same

-- one byte is left
pub last : {s : List ℕ} {at n i : ℕ} → Run s at n i true → i + 1 ≡ n → eqb (get_or s (at + i) 0) 0 ≡ zero_at at n s
last {s} {at} {n} {i} run h =
    let one : 1 ≡ n - i = omega arith in
    ap (λ (x : ℕ). eqb x 0) (sym (word_one (at + i) s)) ∙ rw one run.same
