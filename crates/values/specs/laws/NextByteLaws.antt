-- The bytes that are left of a code point: n of them, the next from lo to hi, the others each a UTF8-tail. Assumes nothing.
use Rattle.std.specs.Prelude.{◌≡◌, ℕ, zero, suc, ◌-◌, ◌<◌, ◌≤◌, Bool, true, false, List, [], ◌∷◌, ◌==◌, ◌≢◌, nat_le, nat_lt, replicate}
use Rattle.std.proofs.Common.{arith, sub-one}
use Rattle.std.proofs.Math.Bool.{and-false}
use Rattle.std.proofs.Math.Path.{refl}
use borrow.Author.Tests.{ltb-true, ltb-false, le-leb, lt-leb, ne_eqb}
use Rattle.values.specs.Utf8.{Range, ◌to◌, tail, code_points, utf8}
use Rattle.values.specs.code.Utf8Rests.{follows}

abbrev pub ranges : ℕ → Range → List Range
ranges zero r = []
ranges (suc n) r = r ∷ replicate n tail

module _ (lo hi : ℕ) where
  pub next_in_lem : (n b : ℕ) → (n ≢ 0) → lo ≤ b → b ≤ hi → (s : List ℕ) → follows (ranges n (lo to hi)) (b ∷ s) ≡ follows (ranges (n - 1) tail) s
  next_in_lem zero b z h k s = absurd (z refl)
  next_in_lem (suc zero) b z h k s = rw (le-leb lo b h, le-leb b hi k)
  next_in_lem (suc (suc n)) b z h k s = rw (le-leb lo b h, le-leb b hi k, sub-one (suc (suc n)))

  pub next_below : (n b : ℕ) → (n ≢ 0) → b < lo → (s : List ℕ) → follows (ranges n (lo to hi)) (b ∷ s) ≡ false
  next_below zero b z h s = absurd (z refl)
  next_below (suc n) b z h s = rw (lt-leb lo b h)

  pub next_above : (n b : ℕ) → (n ≢ 0) → hi < b → (s : List ℕ) → follows (ranges n (lo to hi)) (b ∷ s) ≡ false
  next_above zero b z h s = absurd (z refl)
  next_above (suc n) b z h s = rw (lt-leb b hi h, and-false (nat_le lo b))

  -- no byte is in an empty range
  pub next_none : (n : ℕ) → (n ≢ 0) → hi < lo → (s : List ℕ) → follows (ranges n (lo to hi)) s ≡ false
  next_none zero z h s = absurd (z refl)
  next_none (suc n) z h [] = refl
  next_none (suc n) z h (b ∷ s) = go (nat_lt b lo) refl
    where
      go : (t : Bool) → nat_lt b lo ≡ t → follows (ranges (suc n) (lo to hi)) (b ∷ s) ≡ false
      go true e = next_below (suc n) b z (ltb-true b lo e) s
      go false e = next_above (suc n) b z (omega (arith, ltb-false b lo e)) s

  -- a string may end where no byte is left
  pub next_end : (n : ℕ) → (n == 0) ≡ follows (ranges n (lo to hi)) []
  unfolding utf8 code_points
  next_end zero = refl
  next_end (suc n) = ne_eqb (suc n) 0 (λ e. omega arith)
