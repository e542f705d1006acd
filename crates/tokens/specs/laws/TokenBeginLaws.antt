-- What a byte begins: the longer of two tokens where an equals sign follows, and no token at all. Assumes nothing.
use Rattle.std.specs.Prelude.{ℕ, zero, suc, ◌+◌, ◌<◌, false, List, [], ◌∷◌, ◌≡◌, refl, eqb, length, drop, get_or}
use Prim.Native.Char.{code}
use Rattle.std.proofs.Common.{add-one, drop-cons, eq-eqb, ne_eqb}
use Rattle.std.proofs.Math.Seq.{drop-nil}
use Rattle.values.specs.Characters.{is_letter, is_digit}
use Rattle.values.specs.laws.CharacterLaws.{passing_inside}
use Rattle.values.specs.laws.TestLaws.{picks}
use Rattle.tokens.specs.Tokens.{Token, unreadable, taken, longest, token}

pub equals_inside : (s : List ℕ) (i : ℕ) → get_or s i 0 ≡ 61 → i < length s
equals_inside s i e = passing_inside (λ b. eqb b 61) refl s i (eq-eqb (get_or s i 0) 61 e)

module _ (with without : Token) where
  pub longest_with : (s : List ℕ) (i : ℕ) → get_or s i 0 ≡ 61 → longest with without (drop i s) ≡ taken with (drop (i + 1) s)
  longest_with s i e = rw (drop-cons s i 0 (equals_inside s i e), e, add-one)

  pub longest_without : (s : List ℕ) (i : ℕ) → (get_or s i 0 ≡ 61 → ⊥) → longest with without (drop i s) ≡ taken without (drop i s)
  longest_without [] i e = rw drop-nil
  longest_without (b ∷ s) zero e = rw (ne_eqb b 61 e)
  longest_without (b ∷ s) (suc i) e = longest_without s i e

-- a byte that begins no token
pub no_token : (b : ℕ) (s : List ℕ) → is_letter b ≡ false → is_digit b ≡ false
    → (b ≡ code "-" → ⊥) → (b ≡ code "'" → ⊥) → (b ≡ code "(" → ⊥) → (b ≡ code ")" → ⊥)
    → (b ≡ code "<" → ⊥) → (b ≡ code ">" → ⊥) → (b ≡ code "=" → ⊥) → (b ≡ code "!" → ⊥) → taken unreadable s ≡ token (b ∷ s)
no_token b s letter digit minus quote opens closes less greater equals exclaims = search picks depth 14
