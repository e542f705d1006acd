-- Letters, as the library counts them. Assumes nothing.
use Rattle.std.specs.Prelude.{◌≡◌, ℕ, suc, ◌+◌, ◌≤◌, Bool, true, false, cond, List, [], ◌∷◌, length, take, take_while, refl}
use Rattle.std.specs.List.{prefix_len}
use Rattle.std.proofs.Common.{arith, ap, length-append}
use Rattle.values.specs.Characters.{leading}
use Rattle.values.specs.laws.CharacterLaws.{leading_following}

module _ (passes : ℕ → Bool) where
  -- what a text begins with is as long as what the library takes of it
  pub leading_counted : (s : List ℕ) (n : ℕ) → n ≡ length (take_while passes s) → take n s ≡ leading passes s
  leading_counted s n e = rw e (go s)
    where
      go : (s : List ℕ) → take (length (take_while passes s)) s ≡ leading passes s
      go [] = refl
      go (b ∷ s) = by (passes b) (go s)
        where
          by : (t : Bool) → take (length (take_while passes s)) s ≡ leading passes s
              → take (length (take (cond t (1 + prefix_len passes s) 0) (b ∷ s))) (b ∷ s) ≡ cond t (b ∷ leading passes s) []
          by true e = let more : 1 + prefix_len passes s ≡ suc (prefix_len passes s) = omega arith in rw more (ap (λ (l : List ℕ). b ∷ l) e)
          by false e = refl

  pub leading_shorter : (s : List ℕ) → length (leading passes s) ≤ length s
  leading_shorter s = omega (arith, simp length-append at (ap length (leading_following passes s)))
