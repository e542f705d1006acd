-- What is passed over is what the parser finds. Assumes nothing.
use Rattle.std.specs.Prelude.{ℕ, zero, suc, ◌<◌, Bool, true, false, cond, List, [], ◌∷◌, ◌≡◌, refl, length}
use Rattle.std.proofs.Common.{arith, ◌∙◌}
use Rattle.values.specs.laws.TestLaws.{clash}
use Rattle.grammar.specs.Filters.{Filter, either, both, opposite}
use Rattle.grammar.specs.Grammar.{Symbol, leaf_of, and_word, or_word, not_word, opening, closing, unreadable}
use Rattle.grammar.specs.Parser.{Found, found, nothing, ◌>>=◌, Parser, is_and, is_or, more, chain, closed, single_with, single, conjunction, disjunction}
use Rattle.grammar.specs.code.Skimming.{Skimmed, past, broken, closes, operand, between}
use Rattle.grammar.specs.laws.ChainLaws.{only_and, only_or, begins, chain_ends}
use Rattle.grammar.proofs.ParserLaws.{Shortens, single_is, single_shorter, conjunction_shorter}

-- from where a filter ended
abbrev pub onward : {L : Type 0} → (List (Symbol L) → Skimmed L) → Found L → Skimmed L
onward next nothing = broken
onward next (found f rest) = next rest

-- nothing is broken, found f rest is past rest
abbrev pub skimmed : {L : Type 0} → Found L → Skimmed L
skimmed = onward past

module _ {L : Type 0} where
  -- what is left to be passed over after what was found
  abbrev after : ℕ → Found L → Skimmed L
  after d = onward (λ rest. between rest d)

  -- of fewer than `most` symbols
  abbrev Skims : ℕ → Parser L → Type 0
  Skims most p = (ts : List (Symbol L)) (d : ℕ) → length ts < most → operand ts d ≡ after d (p ts)

  module _ (is_word : Symbol L → Bool) (join : Filter L → Filter L → Filter L) (p : Parser L) (most : ℕ) (skims : Skims most p) (shortens : Shortens p)
      (goes : (t : Symbol L) (us : List (Symbol L)) (d : ℕ) → is_word t ≡ true → between (t ∷ us) d ≡ operand us d) where
    more_skims : (k : ℕ) (f : Filter L) (us : List (Symbol L)) (d : ℕ) → length us < k → length us < most
        → between us d ≡ after d (more is_word join p k f us)
    more_skims zero f us d h m = absurd (omega arith)
    more_skims (suc k) f [] d h m = refl
    more_skims (suc k) f (t ∷ us) d h m = go (λ g r. more_skims k (join f g) r d) (is_word t) refl
      where
        right : ((g : Filter L) (r : List (Symbol L)) → length r < k → length r < most → between r d ≡ after d (more is_word join p k (join f g) r))
            → (x : Found L) → p us ≡ x → after d x ≡ after d (x >>= λ g r. more is_word join p k (join f g) r)
        right again nothing is = refl
        right again (found g r) is = again g r (omega (arith, shortens us g r is)) (omega (arith, shortens us g r is))

        go : ((g : Filter L) (r : List (Symbol L)) → length r < k → length r < most → between r d ≡ after d (more is_word join p k (join f g) r))
            → (b : Bool) → is_word t ≡ b → between (t ∷ us) d ≡ after d (cond b (p us >>= λ g r. more is_word join p k (join f g) r) (found f (t ∷ us)))
        go again true is = goes t us d is ∙ skims us d (omega arith) ∙ right again (p us) refl
        go again false is = refl

    chain_skims : Skims most (chain is_word join p)
    chain_skims ts d m = skims ts d m ∙ go (p ts) refl
      where
        go : (x : Found L) → p ts ≡ x → after d x ≡ after d (x >>= λ f rest. more is_word join p (suc (length ts)) f rest)
        go nothing is = refl
        go (found f rest) is = more_skims (suc (length ts)) f rest d (omega (arith, shortens ts f rest is)) (omega (arith, shortens ts f rest is))

  disjunction_skims : (n : ℕ) → Skims n (single n) → Skims n (disjunction n)
  unfolding disjunction conjunction
  disjunction_skims n h =
      let and_skims = chain_skims is_and both (single n) n h (single_shorter n) (λ t us d is. rw (only_and t is)) in
      chain_skims is_or either (conjunction n) n and_skims (conjunction_shorter n) (λ t us d is. rw (only_or t is))

  -- ---- after a disjunction neither word stands
  conjunction_ends : (n : ℕ) (ts : List (Symbol L)) (f : Filter L) (rest : List (Symbol L)) → conjunction n ts ≡ found f rest → begins is_and rest ≡ false
  unfolding conjunction
  conjunction_ends n ts f rest e = (chain_ends is_and both (single n) (λ g r. Unit {0}) (λ f g t us r q is e. tt) ts f rest (λ g r e. tt) e).1

  pub disjunction_ends : (n : ℕ) (ts : List (Symbol L)) (f : Filter L) (rest : List (Symbol L)) → disjunction n ts ≡ found f rest
      → (begins is_and rest ≡ false) × (begins is_or rest ≡ false)
  unfolding disjunction
  disjunction_ends n ts f rest e =
      chain_ends is_or either (conjunction n) (λ g r. begins is_and r ≡ false) (λ f g t us r q is e. conjunction_ends n us g r e) ts f rest
      (conjunction_ends n ts) e

  -- ---- so that a bracket closes there, or nothing is found
  bracket_ends : (d : ℕ) (f : Filter L) (rest : List (Symbol L)) → begins is_and rest ≡ false → begins is_or rest ≡ false
      → between rest d ≡ onward (λ r. closes d (past r) (between r)) (closed f rest)
  bracket_ends d f [] a o = refl
  bracket_ends d f (leaf_of l ∷ rest) a o = refl
  bracket_ends d f (and_word ∷ rest) a o = clash refl a
  bracket_ends d f (or_word ∷ rest) a o = clash refl o
  bracket_ends d f (not_word ∷ rest) a o = refl
  bracket_ends d f (opening ∷ rest) a o = refl
  bracket_ends d f (closing ∷ rest) a o = refl
  bracket_ends d f (unreadable ∷ rest) a o = refl

  bracket_skims : (n : ℕ) (ts : List (Symbol L)) (d : ℕ) (x : Found L) → disjunction n ts ≡ x
      → after d x ≡ onward (λ r. closes d (past r) (between r)) (x >>= closed)
  bracket_skims n ts d nothing is = refl
  bracket_skims n ts d (found f rest) is = let e = disjunction_ends n ts f rest is in bracket_ends d f rest e.0 e.1

  with_skims : (n : ℕ) → Skims n (single n) → Skims (suc n) (single_with (single n) (disjunction n))
  with_skims n h [] d m = refl
  with_skims n h (leaf_of l ∷ ts) d m = refl
  with_skims n h (and_word ∷ ts) d m = refl
  with_skims n h (or_word ∷ ts) d m = refl
  with_skims n h (not_word ∷ ts) d m = h ts d (omega arith) ∙ opposed (single n ts)
    where
      opposed : (x : Found L) → after d x ≡ after d (x >>= λ f rest. found (opposite f) rest)
      opposed nothing = refl
      opposed (found f rest) = refl
  with_skims n h (opening ∷ ts) d m = disjunction_skims n h ts (suc d) (omega arith) ∙ bracket_skims n ts (suc d) (disjunction n ts) refl
  with_skims n h (closing ∷ ts) d m = refl
  with_skims n h (unreadable ∷ ts) d m = refl

  single_skims : (n : ℕ) → Skims n (single n)
  single_skims zero ts d m = absurd (omega arith)
  single_skims (suc n) ts d m = rw (single_is n ts) (with_skims n (single_skims n) ts d m)

-- a bracket that has been opened
pub skimming : {L : Type 0} (n : ℕ) (ts : List (Symbol L)) → length ts < n → operand ts 0 ≡ skimmed (disjunction n ts >>= closed)
skimming n ts m = disjunction_skims n (single_skims n) ts 0 m ∙ bracket_skims n ts 0 (disjunction n ts) refl
