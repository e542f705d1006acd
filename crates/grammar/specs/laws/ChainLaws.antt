-- A chain of and, or of or: one law for both. Assumes nothing.
use Rattle.std.specs.Prelude.{ℕ, zero, suc, ◌<◌, Bool, true, false, cond, List, [], ◌∷◌, ◌≡◌, refl, length}
use Rattle.std.proofs.Common.{arith, true≢false, ◌∙◌}
use Rattle.values.specs.laws.TestLaws.{clash}
use Rattle.grammar.specs.Filters.{Filter}
use Rattle.grammar.specs.Grammar.{Symbol, leaf_of, and_word, or_word, not_word, opening, closing, unreadable}
use Rattle.grammar.specs.Parser.{Found, found, nothing, ◌>>=◌, Parser, is_and, is_or, more, chain}

module _ {L : Type 0} where
  pub no_filter_lem : {X : Type 0} {f : Filter L} {ts : List (Symbol L)} → nothing ≡ found f ts → X
  no_filter_lem e = absurd (true≢false (cc))

  pub same : (P : Filter L → List (Symbol L) → Type 0) {f h : Filter L} {us rest : List (Symbol L)} → P f us → found f us ≡ found h rest → P h rest
  same P {f} {h} {us} {rest} q e = let a : f ≡ h = cc in let b : us ≡ rest = cc in rw (← a, ← b) q

  -- what two parsers find, one after the other
  pub bound : (x : Found L) (then : Filter L → Parser L) {f : Filter L} {rest : List (Symbol L)} → (x >>= then) ≡ found f rest
      → (g : Filter L) × (r : List (Symbol L)) × (x ≡ found g r) × (then g r ≡ found f rest)
  bound nothing then e = no_filter_lem e
  bound (found g r) then e = (g, r, refl, e)

  pub only_and : (t : Symbol L) → is_and t ≡ true → t ≡ and_word
  only_and (leaf_of l) e = clash e refl
  only_and and_word e = refl
  only_and or_word e = clash e refl
  only_and not_word e = clash e refl
  only_and opening e = clash e refl
  only_and closing e = clash e refl
  only_and unreadable e = clash e refl

  pub only_or : (t : Symbol L) → is_or t ≡ true → t ≡ or_word
  only_or (leaf_of l) e = clash e refl
  only_or and_word e = clash e refl
  only_or or_word e = refl
  only_or not_word e = clash e refl
  only_or opening e = clash e refl
  only_or closing e = clash e refl
  only_or unreadable e = clash e refl

  -- the first symbol is the word
  abbrev pub begins : (Symbol L → Bool) → List (Symbol L) → Bool
  begins is_word [] = false
  begins is_word (t ∷ ts) = is_word t

  module _ (is_word : Symbol L → Bool) (join : Filter L → Filter L → Filter L) (p : Parser L) where
    pub stops : (k : ℕ) (f : Filter L) (ts : List (Symbol L)) → 0 < k → begins is_word ts ≡ false → more is_word join p k f ts ≡ found f ts
    stops zero f ts h other = absurd (omega arith)
    stops (suc k) f [] h other = refl
    stops (suc k) f (t ∷ ts) h other = rw other

    pub goes_on : (k : ℕ) (f : Filter L) (t : Symbol L) (ts : List (Symbol L)) → is_word t ≡ true
        → more is_word join p (suc k) f (t ∷ ts) ≡ (p ts >>= λ g rest. more is_word join p k (join f g) rest)
    goes_on k f t ts is = rw is

    -- what holds of each filter on the way, with the symbols after it, holds at the end, and no word follows there
    module _ (P : Filter L → List (Symbol L) → Type 0)
        (next : (f g : Filter L) (t : Symbol L) (us rest : List (Symbol L)) → P f (t ∷ us) → is_word t ≡ true → p us ≡ found g rest → P (join f g) rest) where
      abbrev pub Ends : Filter L → List (Symbol L) → Type 0
      Ends f rest = P f rest × (begins is_word rest ≡ false)

      more_ends : (k : ℕ) (f h : Filter L) (us rest : List (Symbol L)) → P f us → more is_word join p k f us ≡ found h rest → Ends h rest
      more_ends zero f h us rest q e = no_filter_lem e
      more_ends (suc k) f h [] rest q e = same Ends (q, refl) e
      more_ends (suc k) f h (t ∷ us) rest q e = go (λ g r. more_ends k (join f g) h r rest) (is_word t) refl e
        where
          go : ((g : Filter L) (r : List (Symbol L)) → P (join f g) r → more is_word join p k (join f g) r ≡ found h rest → Ends h rest)
              → (b : Bool) → is_word t ≡ b → cond b (p us >>= λ g r. more is_word join p k (join f g) r) (found f (t ∷ us)) ≡ found h rest → Ends h rest
          go again true is e = let x = bound (p us) _ e in again x.0 x.1 (next f x.0 t us x.1 q is x.2) x.3
          go again false is e = same Ends (q, is) e

      pub chain_ends : (ts : List (Symbol L)) (f : Filter L) (rest : List (Symbol L))
          → ((g : Filter L) (r : List (Symbol L)) → p ts ≡ found g r → P g r) → chain is_word join p ts ≡ found f rest → Ends f rest
      chain_ends ts f rest first e = let x = bound (p ts) _ e in more_ends (suc (length ts)) x.0 f x.1 rest (first x.0 x.1 x.2) x.3

    -- the chain from ts on has come to the symbols rest, and f is what stands before them
    pub record Reached (ts : List (Symbol L)) (f : Filter L) (rest : List (Symbol L)) : Type 0 where
      pub number : ℕ
      pub enough : length rest < number
      pub is : chain is_word join p ts ≡ more is_word join p number f rest

    module _ (ts : List (Symbol L)) (f : Filter L) where
      pub reached_first : (rest : List (Symbol L)) → p ts ≡ found f rest → length rest < length ts → Reached ts f rest
      reached_first rest e h = record { number = suc (length ts); enough = omega arith; is = rw e }

      pub reached_next : (t : Symbol L) (us : List (Symbol L)) (g : Filter L) (rest : List (Symbol L)) → is_word t ≡ true → Reached ts f (t ∷ us)
          → p us ≡ found g rest → length rest < length us → Reached ts (join f g) rest
      reached_next t us g rest word x e h = go x.number x.enough x.is
        where
          go : (k : ℕ) → length (t ∷ us) < k → chain is_word join p ts ≡ more is_word join p k f (t ∷ us) → Reached ts (join f g) rest
          go zero m i = absurd (omega arith)
          go (suc k) m i = record { number = k; enough = omega arith; is = i ∙ goes_on k f t us word ∙ rw e }

      pub reached_last : (rest : List (Symbol L)) → Reached ts f rest → begins is_word rest ≡ false → chain is_word join p ts ≡ found f rest
      reached_last rest x other = x.is ∙ stops x.number f rest (omega (arith, x.enough)) other
