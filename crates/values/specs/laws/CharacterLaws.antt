-- The bytes that a text begins with, as far as they pass a test, and the text after them. Assumes nothing.
use Rattle.std.specs.Prelude.{◌≡◌, ℕ, zero, suc, ◌+◌, ◌-◌, ◌<◌, ◌≤◌, Bool, true, false, cond, List, [], ◌∷◌, ◌++◌, length, take, drop, slice_index, refl}
use Rattle.std.proofs.Common.{add-one, arith, sym, ap, ◌∙◌, length-append, length-drop, drop_of_length-le, drop-cons, take_at}
use Rattle.std.proofs.Math.Seq.{drop-nil, drop-append_seam}
use Rattle.values.specs.Characters.{leading, following}
use Rattle.values.specs.Words.{field}
use Rattle.values.specs.laws.TestLaws.{clash}

module _ (passes : ℕ → Bool) where
  pub leading_following : (s : List ℕ) → leading passes s ++ following passes s ≡ s
  leading_following [] = refl
  leading_following (b ∷ s) = go (passes b) (leading_following s)
    where
      go : (t : Bool) → leading passes s ++ following passes s ≡ s
          → cond t (b ∷ leading passes s) [] ++ cond t (following passes s) (b ∷ s) ≡ b ∷ s
      go true e = ap (λ (l : List ℕ). b ∷ l) e
      go false e = refl

  pub following_dropped : (s : List ℕ) → following passes s ≡ drop (length (leading passes s)) s
  following_dropped s = sym (drop-append_seam (leading passes s) (following passes s)) ∙ rw leading_following

  pub following_shorter : (s : List ℕ) → length (following passes s) ≤ length s
  following_shorter s = omega (arith, simp length-append at (ap length (leading_following s)))

  -- the bytes that pass, by where they begin and end
  pub leading_field : (s : List ℕ) (at r : ℕ) → at ≤ r → r ≤ length s → drop r s ≡ following passes (drop at s)
      → field at (r - at) s ≡ leading passes (drop at s)
  leading_field s at r h k e =
      let whole = leading_following (drop at s) in
      let counted : length (leading passes (drop at s)) ≡ r - at
      = omega (arith, simp (length-append, length-drop) at (ap length whole), simp length-drop at (ap length e)) in
      sym (ap (take (r - at)) whole) ∙ take_at (leading passes (drop at s)) (following passes (drop at s)) (r - at) counted

  -- a byte at a place of the text passes
  module _ (s : List ℕ) (i : ℕ) (inside : i < length s) (e : passes (slice_index s i) ≡ true) where
    pub leading_goes : leading passes (drop i s) ≡ slice_index s i ∷ leading passes (drop (i + 1) s)
    leading_goes = rw (drop-cons s i 0 inside, e, add-one)

    pub following_goes : following passes (drop i s) ≡ following passes (drop (i + 1) s)
    following_goes = rw (drop-cons s i 0 inside, e, add-one)

  -- it does not, or the text ends there
  pub leading_stops : (s : List ℕ) (i : ℕ) → passes (slice_index s i) ≡ false → leading passes (drop i s) ≡ []
  leading_stops [] i e = rw drop-nil
  leading_stops (b ∷ s) zero e = rw e
  leading_stops (b ∷ s) (suc i) e = leading_stops s i e

  pub following_stops : (s : List ℕ) (i : ℕ) → passes (slice_index s i) ≡ false → following passes (drop i s) ≡ drop i s
  following_stops [] i e = rw drop-nil
  following_stops (b ∷ s) zero e = rw e
  following_stops (b ∷ s) (suc i) e = following_stops s i e

  pub following_ends : (s : List ℕ) (i : ℕ) → length s ≤ i → following passes (drop i s) ≡ drop i s
  following_ends s i h = rw (drop_of_length-le s h)

  -- past the end `get_or` gives 0
  pub passing_inside : passes 0 ≡ false → (s : List ℕ) (i : ℕ) → passes (slice_index s i) ≡ true → i < length s
  passing_inside z [] i e = clash e z
  passing_inside z (b ∷ s) zero e = omega arith
  passing_inside z (b ∷ s) (suc i) e = omega (arith, passing_inside z s i e)
