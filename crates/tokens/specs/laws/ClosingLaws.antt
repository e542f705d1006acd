-- A closing bracket ends every token but text in quotes: the text before it is read as if it stood alone. Assumes nothing.
use Rattle.std.specs.Prelude.{ℕ, Bool, true, false, cond, List, [], ◌∷◌, ◌++◌, ◌≡◌, refl, eqb, ℤ, pos, neg_ℤ}
use Prim.Native.Char.{code}
use Rattle.values.specs.Characters.{is_letter, is_digit, leading, following}
use Rattle.tokens.specs.Tokens.{Token, Taken, taken, word_at, decimal_at, minus_at, longest, token}

abbrev pub closed_by : List ℕ → Taken → Taken
closed_by b (taken t rest) = taken t (rest ++ (code ")" ∷ b))

module _ (b : List ℕ) where
  leading_closed : (passes : ℕ → Bool) → passes (code ")") ≡ false → (a : List ℕ) → leading passes (a ++ (code ")" ∷ b)) ≡ leading passes a
  leading_closed passes z [] = rw z
  leading_closed passes z (c ∷ a) = rw (leading_closed passes z a)

  following_closed : (passes : ℕ → Bool) → passes (code ")") ≡ false → (a : List ℕ)
      → following passes (a ++ (code ")" ∷ b)) ≡ following passes a ++ (code ")" ∷ b)
  following_closed passes z [] = rw z
  following_closed passes z (c ∷ a) = go (passes c) (following_closed passes z a)
    where
      go : (t : Bool) → following passes (a ++ (code ")" ∷ b)) ≡ following passes a ++ (code ")" ∷ b)
          → cond t (following passes (a ++ (code ")" ∷ b))) (c ∷ (a ++ (code ")" ∷ b))) ≡ cond t (following passes a) (c ∷ a) ++ (code ")" ∷ b)
      go true e = e
      go false e = refl

  word_closed : (a : List ℕ) → word_at (a ++ (code ")" ∷ b)) ≡ closed_by b (word_at a)
  word_closed a = rw (leading_closed is_letter refl a, following_closed is_letter refl a)

  decimal_closed : (signed : ℕ → ℤ) (a : List ℕ) → decimal_at signed (a ++ (code ")" ∷ b)) ≡ closed_by b (decimal_at signed a)
  decimal_closed signed a = rw (leading_closed is_digit refl a, following_closed is_digit refl a)

  chosen : (t : Bool) (x y v w : Taken) → x ≡ closed_by b v → y ≡ closed_by b w → cond t x y ≡ closed_by b (cond t v w)
  chosen true x y v w e f = e
  chosen false x y v w e f = f

  minus_closed : (a : List ℕ) → minus_at (a ++ (code ")" ∷ b)) ≡ closed_by b (minus_at a)
  minus_closed [] = refl
  minus_closed (c ∷ a) = chosen (is_digit c) _ _ _ _ (decimal_closed (λ n. neg_ℤ (pos n)) (c ∷ a)) refl

  longest_closed : (with without : Token) (a : List ℕ) → longest with without (a ++ (code ")" ∷ b)) ≡ closed_by b (longest with without a)
  longest_closed with without [] = refl
  longest_closed with without (c ∷ a) = chosen (eqb c (code "=")) _ _ _ _ refl refl

  pub closing_ends : (c : ℕ) (a : List ℕ) → eqb c (code "'") ≡ false → token (c ∷ (a ++ (code ")" ∷ b))) ≡ closed_by b (token (c ∷ a))
  closing_ends c a other = rw other
      (chosen (is_letter c) _ _ _ _ (word_closed (c ∷ a))
      (chosen (is_digit c) _ _ _ _ (decimal_closed pos (c ∷ a))
      (chosen (eqb c (code "-")) _ _ _ _ (minus_closed a)
      (chosen (eqb c (code "(")) _ _ _ _ refl
      (chosen (eqb c (code ")")) _ _ _ _ refl
      (chosen (eqb c (code "<")) _ _ _ _ (longest_closed _ _ a)
      (chosen (eqb c (code ">")) _ _ _ _ (longest_closed _ _ a)
      (chosen (eqb c (code "=")) _ _ _ _ refl
      (chosen (eqb c (code "!")) _ _ _ _ (longest_closed _ _ a) refl)))))))))
