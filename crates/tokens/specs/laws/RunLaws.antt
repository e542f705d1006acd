-- Bytes in a row, by how many there are. Assumes nothing.
use Rattle.std.specs.Prelude.{ℕ, ◌+◌, ◌-◌, ◌≤◌, ◌<◌, Bool, true, false, cond, List, [], ◌∷◌, ◌≡◌, refl, length, take, drop, get_or}
use Rattle.std.proofs.Common.{arith, sym, length-drop, drop-cons, one-add}
use Rattle.std.proofs.lemmas.List.{drop-drop, take_all}
use Rattle.std.proofs.lemmas.List.Sums.{prefix_len-le-length}
use Rattle.std.specs.List.{prefix_len}
use Rattle.values.specs.Characters.{leading, following}
use Rattle.values.specs.Words.{field}

-- they are no more than the text has
pub ruleset runs = (prefix_len-le-length)

module _ (passes : ℕ → Bool) where
  leading_run : (s : List ℕ) → leading passes s ≡ take (prefix_len passes s) s
  leading_run [] = refl
  leading_run (b ∷ s) = go (passes b) (leading_run s)
    where
      go : (t : Bool) → leading passes s ≡ take (prefix_len passes s) s
          → cond t (b ∷ leading passes s) [] ≡ take (cond t (1 + prefix_len passes s) 0) (b ∷ s)
      go true e = rw (one-add, ← e)
      go false e = refl

  following_run : (s : List ℕ) → following passes s ≡ drop (prefix_len passes s) s
  following_run [] = refl
  following_run (b ∷ s) = go (passes b) (following_run s)
    where
      go : (t : Bool) → following passes s ≡ drop (prefix_len passes s) s
          → cond t (following passes s) (b ∷ s) ≡ drop (cond t (1 + prefix_len passes s) 0) (b ∷ s)
      go true e = rw (one-add, e)
      go false e = refl

-- so many bytes of s pass from `at` on, and then one does not, or the text ends
pub record Run (passes : ℕ → Bool) (s : List ℕ) (at n : ℕ) : Type 0 where
  pub within : at + n ≤ length s
  pub leads : field at n s ≡ leading passes (drop at s)
  pub follows : drop (at + n) s ≡ following passes (drop at s)

-- the slice of a text from a place on
pub rest_is : (s : List ℕ) (at : ℕ) → take (length s - at) (drop at s) ≡ drop at s
rest_is s at = take_all _ _ (omega (arith, length-drop at s))

pub run : (passes : ℕ → Bool) (s : List ℕ) (at n : ℕ) → at ≤ length s → n ≡ prefix_len passes (take (length s - at) (drop at s)) → Run passes s at n
run passes s at n h e =
    rw (e, rest_is) (record {
      within = omega (arith, prefix_len-le-length passes (drop at s), length-drop at s);
      leads = sym (leading_run passes (drop at s));
      follows = rw (← drop-drop) (sym (following_run passes (drop at s)));
    })

-- where the first byte passes, there is one at least
pub run_some : (passes : ℕ → Bool) (s : List ℕ) (at n : ℕ) → at < length s → passes (get_or s at 0) ≡ true
    → n ≡ prefix_len passes (take (length s - at) (drop at s)) → 0 < n
run_some passes s at n inside e is =
    rw (is, rest_is, drop-cons s at 0 inside, e) (omega arith)
