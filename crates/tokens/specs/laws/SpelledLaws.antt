-- `Tokens.token` finds just what a text begins with, as `Spelled` has it. Assumes nothing.
use Rattle.std.specs.Prelude.{ℕ, Bool, true, false, cond, List, [], ◌∷◌, ◌++◌, ◌≡◌, refl, eqb, leb, pos, neg_ℤ}
use Prim.Native.Char.{code}
use Rattle.std.proofs.Common.{arith, sym, subst, leb-true, eqb-true}
use Rattle.std.proofs.lemmas.Bool.{not-false}
use Rattle.values.specs.Characters.{is_letter, is_digit, leading, following}
use Rattle.values.specs.SomeEvery.{every}
use Rattle.values.specs.laws.CharacterLaws.{leading_following}
use Rattle.values.specs.laws.TestLaws.{clash, refuted, and_both, both_and}
use Rattle.tokens.specs.Tokens.{Token, word, decimal, quoted, unreadable, Taken, taken, number_after}
use Rattle.tokens.specs.Tokens.{word_at, decimal_at, minus_at, is_text, unquoted, quoted_at, longest, token}
use Rattle.tokens.specs.Spelled.{begins_with, is_equals, is_spelled, TokenMeans}
use Rattle.tokens.specs.Spelled.{Spelled, a_word, a_number, with_minus, in_quotes, opens, closes}
use Rattle.tokens.specs.Spelled.{less_or_equal, less, greater_or_equal, greater, equal, not_equal}
use Rattle.tokens.specs.laws.DecimalLaws.{digit_range}

-- ---- bytes of one class (letters, digits, text in quotes), as many as there are
module _ (passes : ℕ → Bool) where
  leading_passes : (s : List ℕ) → every passes (leading passes s) ≡ true
  leading_passes [] = refl
  leading_passes (b ∷ s) = go (passes b) refl (leading_passes s)
    where
      go : (t : Bool) → passes b ≡ t → every passes (leading passes s) ≡ true → every passes (cond t (b ∷ leading passes s) []) ≡ true
      go true e all = both_and e all
      go false e all = refl

  following_other : (s : List ℕ) → begins_with passes (following passes s) ≡ false
  following_other [] = refl
  following_other (b ∷ s) = go (passes b) refl (following_other s)
    where
      go : (t : Bool) → passes b ≡ t → begins_with passes (following passes s) ≡ false → begins_with passes (cond t (following passes s) (b ∷ s)) ≡ false
      go true e other = other
      go false e other = e

  -- what holds of any such bytes and a text after them that begins with none, holds of those that a text begins with
  run : (P : List ℕ → List ℕ → List ℕ → Type 0) → ((w rest : List ℕ) → every passes w ≡ true → begins_with passes rest ≡ false → P (w ++ rest) w rest)
      → (s : List ℕ) → P s (leading passes s) (following passes s)
  run P h s = subst (λ u. P u (leading passes s) (following passes s)) (leading_following passes s) (h _ _ (leading_passes s) (following_other s))

  -- and so where the text begins with at least one of them
  run_from : (P : List ℕ → List ℕ → List ℕ → Type 0) (b : ℕ) (s : List ℕ) → passes b ≡ true
      → ((w rest : List ℕ) → every passes (b ∷ w) ≡ true → begins_with passes rest ≡ false → P (b ∷ w ++ rest) (b ∷ w) rest)
      → P (b ∷ s) (leading passes (b ∷ s)) (following passes (b ∷ s))
  run_from P b s e h = rw e (run (λ u w. P (b ∷ u) (b ∷ w)) (λ w rest all other. h w rest (both_and e all) other) s)

  -- there is no other such run
  pub no_more : (rest : List ℕ) → begins_with passes rest ≡ false → (leading passes rest ≡ []) × (following passes rest ≡ rest)
  no_more [] other = (refl, refl)
  no_more (b ∷ s) other = (rw other, rw other)

  only_run : (w rest : List ℕ) → every passes w ≡ true → begins_with passes rest ≡ false
      → (leading passes (w ++ rest) ≡ w) × (following passes (w ++ rest) ≡ rest)
  only_run [] rest all other = no_more rest other
  only_run (b ∷ w) rest all other =
      let h = and_both (passes b) (every passes w) all in
      let k = only_run w rest h.1 other in
      (rw (h.0, k.0), rw (h.0, k.1))

  only_run_from : (b : ℕ) (w rest : List ℕ) → every passes (b ∷ w) ≡ true → begins_with passes rest ≡ false
      → (passes b ≡ true) × (leading passes (w ++ rest) ≡ w) × (following passes (w ++ rest) ≡ rest)
  only_run_from b w rest all other =
      let h = and_both (passes b) (every passes w) all in
      let k = only_run w rest h.1 other in
      (h.0, k.0, k.1)

-- ---- what is found is spelled

-- a text begins with what was taken from it, where that stands for something
abbrev Spells : List ℕ → Taken → Type 0
Spells s (taken t rest) = is_spelled t ≡ true → Spelled s t rest

none_spelled : (s rest : List ℕ) → Spells s (taken unreadable rest)
none_spelled s rest r = clash r refl

picked : (s : List ℕ) (c : Bool) (x y : Taken) → (c ≡ true → Spells s x) → Spells s y → Spells s (cond c x y)
picked s true x y h k = h refl
picked s false x y h k = k

-- by the byte that the text begins with
begun : (c b : ℕ) (s : List ℕ) (x y : Taken) → Spells (c ∷ s) x → Spells (b ∷ s) y → Spells (b ∷ s) (cond (eqb b c) x y)
begun c b s x y h k = picked (b ∷ s) (eqb b c) x y (λ e. subst (λ a. Spells (a ∷ s) x) (sym (eqb-true b c e)) h) k

word_spelled : (b : ℕ) (s : List ℕ) → is_letter b ≡ true → Spells (b ∷ s) (word_at (b ∷ s))
word_spelled b s e r = run_from is_letter (λ u w. Spelled u (word w)) b s e (λ w rest. a_word)

number_spelled : (d : ℕ) (s : List ℕ) → is_digit d ≡ true → Spells (d ∷ s) (decimal_at pos (d ∷ s))
number_spelled d s e r = run_from is_digit (λ u ds. Spelled u (decimal (pos (number_after 0 ds)))) d s e (λ ds rest. a_number d ds)

minus_spelled : (s : List ℕ) → Spells (code "-" ∷ s) (minus_at s)
minus_spelled [] = none_spelled _ _
minus_spelled (b ∷ s) =
    picked (code "-" ∷ b ∷ s) (is_digit b) _ (taken unreadable (b ∷ s))
    (λ e r. run_from is_digit (λ u ds. Spelled (code "-" ∷ u) (decimal (neg_ℤ (pos (number_after 0 ds))))) b s e (λ ds rest. with_minus b ds))
    (none_spelled _ _)

quoted_spelled : (s : List ℕ) → Spells (code "'" ∷ s) (quoted_at s)
quoted_spelled = run is_text (λ u text rest. Spells (code "'" ∷ u) (unquoted text rest)) closed
  where
    closed : (text rest : List ℕ) → every is_text text ≡ true → begins_with is_text rest ≡ false → Spells (code "'" ∷ text ++ rest) (unquoted text rest)
    closed text [] all other = none_spelled _ _
    closed text (q ∷ rest) all other =
        λ r. subst (λ b. Spelled (code "'" ∷ text ++ b ∷ rest) (quoted text) rest) (sym (eqb-true q (code "'") (not-false _ other))) (in_quotes all)

-- a sign is the longest that fits
longest_spelled : (b : ℕ) (with without : Token) → ((rest : List ℕ) → Spelled (b ∷ code "=" ∷ rest) with rest)
    → ((rest : List ℕ) → begins_with is_equals rest ≡ false → Spells (b ∷ rest) (taken without rest)) → (s : List ℕ) → Spells (b ∷ s) (longest with without s)
longest_spelled b with without h k [] = k [] refl
longest_spelled b with without h k (c ∷ s) = go (eqb c (code "=")) refl
  where
    go : (t : Bool) → eqb c (code "=") ≡ t → Spells (b ∷ c ∷ s) (cond t (taken with s) (taken without (c ∷ s)))
    go true e = λ r. rw (eqb-true c (code "=") e) (h s)
    go false e = k (c ∷ s) e

token_spelled : (s : List ℕ) → Spells s (token s)
token_spelled [] = none_spelled _ _
token_spelled (b ∷ s) =
    picked (b ∷ s) (is_letter b) _ _ (word_spelled b s)
    (picked (b ∷ s) (is_digit b) _ _ (number_spelled b s)
    (begun (code "-") b s _ _ (minus_spelled s)
    (begun (code "'") b s _ _ (quoted_spelled s)
    (begun (code "(") b s _ _ (λ r. opens)
    (begun (code ")") b s _ _ (λ r. closes)
    (begun (code "<") b s _ _ (longest_spelled _ _ _ (λ rest. less_or_equal) (λ rest other r. less other) s)
    (begun (code ">") b s _ _ (longest_spelled _ _ _ (λ rest. greater_or_equal) (λ rest other r. greater other) s)
    (begun (code "=") b s _ _ (λ r. equal)
    (begun (code "!") b s _ _ (longest_spelled _ _ _ (λ rest. not_equal) (λ rest other. none_spelled _ _) s) (none_spelled _ _))))))))))

-- ---- what is spelled is found
no_letter : (d : ℕ) → is_digit d ≡ true → is_letter d ≡ false
no_letter d e =
    refuted _ (λ l. omega (arith, (digit_range d e).high, leb-true (code "a") d (and_both (leb (code "a") d) (leb d (code "z")) l).0))

without_equals : (with without : Token) (rest : List ℕ) → begins_with is_equals rest ≡ false → longest with without rest ≡ taken without rest
without_equals with without [] other = refl
without_equals with without (b ∷ s) other = rw other

token_found : (s : List ℕ) (t : Token) (rest : List ℕ) → Spelled s t rest → (token s ≡ taken t rest) × (is_spelled t ≡ true)
token_found s t rest (a_word {b} {w} all other) = let k = only_run_from is_letter b w rest all other in (rw (k.0, k.1, k.2), refl)
token_found s t rest (a_number d ds all other) = let k = only_run_from is_digit d ds rest all other in (rw (no_letter d k.0, k.0, k.1, k.2), refl)
token_found s t rest (with_minus d ds all other) = let k = only_run_from is_digit d ds rest all other in (rw (k.0, k.1, k.2), refl)
token_found s t rest (in_quotes {text} all) = let k = only_run is_text text (code "'" ∷ rest) all refl in (rw (k.0, k.1), refl)
token_found s t rest opens = (refl, refl)
token_found s t rest closes = (refl, refl)
token_found s t rest less_or_equal = (refl, refl)
token_found s t rest (less other) = (without_equals _ _ rest other, refl)
token_found s t rest greater_or_equal = (refl, refl)
token_found s t rest (greater other) = (without_equals _ _ rest other, refl)
token_found s t rest equal = (refl, refl)
token_found s t rest not_equal = (refl, refl)

pub token_means : TokenMeans
token_means s t rest = (λ h. subst (Spells s) h.0 (token_spelled s) h.1, token_found s t rest)
