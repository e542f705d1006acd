-- `Symbols.symbols` finds just what a text is, as `TextIs` has it, where every symbol stands for something. Assumes nothing.
use Rattle.std.specs.Prelude.{ℕ, zero, suc, ◌-◌, ◌<◌, Bool, true, false, cond, ◌||◌, List, [], ◌∷◌, ◌⊎◌, ◌≡◌, length}
use Prim.Native.Char.{code}
use Prim.Native.String.{String}
use Rattle.std.proofs.Common.{arith, true≢false, inl, inr, ⊎_elim, sym, ap, subst, ◌∙◌, eqb-true}
use Rattle.std.proofs.Math.Option.{Option, some, none}
use Rattle.std.proofs.Math.Path.{refl}
use Rattle.values.specs.Characters.{ascii, following}
use Rattle.values.specs.Order.{compare_bytes, is_equal}
use Rattle.values.specs.SomeEvery.{every}
use Rattle.values.specs.laws.CharacterLaws.{following_shorter}
use Rattle.values.specs.laws.OrderLaws.{is_equal_lem, bytes_order}
use Rattle.values.specs.laws.TestLaws.{clash, and_both, refuted, both_and, or_neither}
use Rattle.columns.specs.Columns.{Column}
use Rattle.tokens.specs.Spelled.{Spelled, begins_with, is_spelled}
use Rattle.tokens.specs.Tokens as tokens
use Rattle.tokens.specs.Tokens.{Token, Taken, taken, token, is_space}
use Rattle.tokens.specs.laws.SpelledLaws.{no_more, token_means}
use Rattle.grammar.specs.Grammar as grammar
use Rattle.grammar.specs.Grammar.{Symbol}
use Rattle.leaves.specs.Fitting.{Leaf, leaf_of}
use Rattle.leaves.specs.Symbols.{Read, read, unread, or_else, on_taken, after_spaces, as_operator, as_literal}
use Rattle.leaves.specs.Symbols.{leaf_after, of_word, of_token, symbol, first_then, symbols}
use Rattle.leaves.specs.TextIs.{Spaced, at_once, after_space, joins, is_read, SymbolsMean}
use Rattle.leaves.specs.TextIs.{TextIs, no_symbol, and_word, or_word, not_word, opening, closing, a_leaf}
use Rattle.leaves.specs.laws.SymbolLaws.{ReadLeaves, symbol_leaves, symbols_none, symbols_first}

-- ---- spaces, and then a token
unread_token : {X : Type 0} {t : Token} {u rest : List ℕ} → taken tokens.unreadable u ≡ taken t rest → is_spelled t ≡ true → X
unread_token {X} {t} e r = let is : t ≡ tokens.unreadable = cc in clash r (ap is_spelled is)

-- no token begins with a space
unspaced : (s : List ℕ) (t : Token) (rest : List ℕ) → Spelled s t rest → begins_with is_space s ≡ false
unspaced [] t rest d = refl
unspaced (b ∷ s) t rest d = refuted (is_space b) (λ e. none ((token_means (b ∷ s) t rest).1 d) (eqb-true b (code " ") e))
  where
    none : (token (b ∷ s) ≡ taken t rest) × (is_spelled t ≡ true) → b ≡ code " " → ⊥
    none h is = unread_token (ap (λ c. token (c ∷ s)) (sym is) ∙ h.0) h.1

spaced_spelled : {s rest : List ℕ} {t : Token} → Spaced s t rest → Spelled (following is_space s) t rest
spaced_spelled (at_once {s} {rest} {t} d) = rw (no_more is_space s (unspaced s t rest d)).1 d
spaced_spelled (after_space d) = spaced_spelled d

spelled_spaced : (s rest : List ℕ) (t : Token) → Spelled (following is_space s) t rest → Spaced s t rest
spelled_spaced [] rest t d = at_once d
spelled_spaced (b ∷ s) rest t d = go (is_space b) refl (spelled_spaced s rest t) d
  where
    go : (c : Bool) → is_space b ≡ c → (Spelled (following is_space s) t rest → Spaced s t rest)
        → Spelled (cond c (following is_space s) (b ∷ s)) t rest → Spaced (b ∷ s) t rest
    go true e again d = subst (λ a. Spaced (a ∷ s) t rest) (sym (eqb-true b (code " ") e)) (after_space (again d))
    go false e again d = at_once d

spaced_token : {s rest : List ℕ} {t : Token} → Spaced s t rest → (token (following is_space s) ≡ taken t rest) × (is_spelled t ≡ true)
spaced_token {s} {rest} {t} d = (token_means (following is_space s) t rest).1 (spaced_spelled d)

-- ---- what is only spaces
all_spaces : (s : List ℕ) → following is_space s ≡ [] → every is_space s ≡ true
all_spaces [] e = refl
all_spaces (b ∷ s) e = go (is_space b) refl (all_spaces s) e
  where
    go : (c : Bool) → is_space b ≡ c → (following is_space s ≡ [] → every is_space s ≡ true)
        → cond c (following is_space s) (b ∷ s) ≡ [] → every is_space (b ∷ s) ≡ true
    go true e again f = both_and e (again f)
    go false e again f = absurd (true≢false (cc))

only_spaces : (s : List ℕ) → every is_space s ≡ true → following is_space s ≡ []
only_spaces [] e = refl
only_spaces (b ∷ s) e = let h = and_both (is_space b) (every is_space s) e in rw h.0 (only_spaces s h.1)

-- ---- what is read stands there

-- a token stands for something, or is the one that does not
spelled_or_not : (t : Token) → (is_spelled t ≡ true) ⊎ (t ≡ tokens.unreadable)
spelled_or_not (tokens.word w) = inl refl
spelled_or_not (tokens.sign o) = inl refl
spelled_or_not (tokens.decimal z) = inl refl
spelled_or_not (tokens.quoted s) = inl refl
spelled_or_not tokens.opening = inl refl
spelled_or_not tokens.closing = inl refl
spelled_or_not tokens.unreadable = inr refl

equal_bytes : (a b : List ℕ) → is_equal (compare_bytes a b) ≡ true → a ≡ b
equal_bytes a b e = bytes_order.equal a b ((is_equal_lem (compare_bytes a b)).0 e)

module _ (cs : List Column) where
  -- what a text is that begins with what was read of it
  abbrev Reads : List ℕ → Read → Type 0
  Reads s (read y rest) = is_read y ≡ true → (ys : List (Symbol Leaf)) → TextIs cs rest ys → TextIs cs s (y ∷ ys)

  none_reads : (s : List ℕ) → Reads s unread
  none_reads s r ys d = clash r refl

  after_reads : (s u : List ℕ) (f : Token → List ℕ → Read) → ((rest : List ℕ) → f tokens.unreadable rest ≡ unread)
      → ((t : Token) (rest : List ℕ) → Spaced u t rest → Reads s (f t rest)) → Reads s (after_spaces u f)
  after_reads s u f nothing h = go (token (following is_space u)) refl
    where
      go : (x : Taken) → token (following is_space u) ≡ x → Reads s (on_taken f x)
      go (taken t rest) e =
          ⊎_elim
          (λ r. h t rest (spelled_spaced u rest t ((token_means (following is_space u) t rest).0 (e, r))))
          (λ is. subst (Reads s) (sym (ap (λ k. f k rest) is ∙ nothing rest)) (none_reads s))
          (spelled_or_not t)

  some_reads : {A : Type 0} (s : List ℕ) (x : Option A) (f : A → Read) → ((a : A) → x ≡ some a → Reads s (f a)) → Reads s (or_else x f)
  some_reads s none f h = none_reads s
  some_reads s (some a) f h = h a refl

  leaf_reads : (s name u : List ℕ) → Spaced s (tokens.word name) u → joins name ≡ false → Reads s (leaf_after cs name u)
  leaf_reads s name u d other =
      after_reads s u _ (λ rest. refl) (λ t v operator. some_reads s (as_operator t) _ (λ o is_operator.
      after_reads s v _ (λ rest. refl) (λ k rest literal. some_reads s (as_literal k) _ (λ l is-literal.
      some_reads s (leaf_of cs name o l) _ (λ leaf found r ys after. a_leaf d other operator is_operator literal is-literal found after)))))

  word_reads : (s w u : List ℕ) → Spaced s (tokens.word w) u → Reads s (of_word cs w u)
  word_reads s w u d = go (is_equal (compare_bytes w (ascii "and"))) refl (is_equal (compare_bytes w (ascii "or"))) refl (is_equal (compare_bytes w (ascii "not"))) refl
    where
      spelled : (v : List ℕ) → is_equal (compare_bytes w v) ≡ true → Spaced s (tokens.word v) u
      spelled v e = subst (λ k. Spaced s (tokens.word k) u) (equal_bytes w v e) d

      go : (a : Bool) → is_equal (compare_bytes w (ascii "and")) ≡ a → (b : Bool) → is_equal (compare_bytes w (ascii "or")) ≡ b
          → (c : Bool) → is_equal (compare_bytes w (ascii "not")) ≡ c
          → Reads s (cond a (read grammar.and_word u) (cond b (read grammar.or_word u) (cond c (read grammar.not_word u) (leaf_after cs w u))))
      go true e b f c g = λ r ys. and_word (spelled (ascii "and") e)
      go false e true f c g = λ r ys. or_word (spelled (ascii "or") f)
      go false e false f true g = λ r ys. not_word (spelled (ascii "not") g)
      go false e false f false g = leaf_reads s w u d (rw (e, f, g))

  token_reads : (s : List ℕ) (t : Token) (u : List ℕ) → Spaced s t u → Reads s (of_token cs t u)
  token_reads s (tokens.word w) u d = word_reads s w u d
  token_reads s (tokens.sign o) u d = none_reads s
  token_reads s (tokens.decimal z) u d = none_reads s
  token_reads s (tokens.quoted v) u d = none_reads s
  token_reads s tokens.opening u d = λ r ys. opening d
  token_reads s tokens.closing u d = λ r ys. closing d
  token_reads s tokens.unreadable u d = none_reads s

  symbol_reads : (s : List ℕ) → Reads s (symbol cs s)
  symbol_reads s = after_reads s s (of_token cs) (λ rest. refl) (token_reads s)

  symbols_next : (s : List ℕ) (b : ℕ) (t : List ℕ) → following is_space s ≡ b ∷ t → symbols cs s ≡ first_then cs (symbols cs) (symbol cs s)
  symbols_next s b t e = rw e (symbols_first cs s b t e)

  -- a text is the symbols found of it, where each stands for something
  abbrev Stands : List ℕ → Type 0
  Stands s = every is_read (symbols cs s) ≡ true → TextIs cs s (symbols cs s)

  text_read : (n : ℕ) (s : List ℕ) → length s < n → Stands s
  text_read zero s h = absurd (omega arith)
  text_read (suc n) s h = go (text_read n) (following is_space s) refl
    where
      first : ((u : List ℕ) → length u < n → Stands u) → 0 < length s → (x : Read) → ReadLeaves (length s - 1) x → Reads s x
          → every is_read (first_then cs (symbols cs) x) ≡ true → TextIs cs s (first_then cs (symbols cs) x)
      first again begun (read y rest) short reads all =
          let k = and_both (is_read y) (every is_read (symbols cs rest)) all in
          reads k.0 _ (again rest (omega arith) k.1)

      go : ((u : List ℕ) → length u < n → Stands u) → (v : List ℕ) → following is_space s ≡ v → Stands s
      go again [] e = λ all. rw (symbols_none cs s e) (no_symbol (all_spaces s e))
      go again (b ∷ t) e =
          rw (symbols_next s b t e)
          (first again (omega (arith, following_shorter is_space s, ap length e)) (symbol cs s) (symbol_leaves cs s) (symbol_reads s))

  -- ---- what stands there is read
  symbols_spaced : (s : List ℕ) (t : Token) (rest : List ℕ) → Spaced s t rest → symbols cs s ≡ first_then cs (symbols cs) (of_token cs t rest)
  symbols_spaced s t rest d = go (following is_space s) refl (spaced_token d)
    where
      go : (v : List ℕ) → following is_space s ≡ v → (token v ≡ taken t rest) × (is_spelled t ≡ true) → symbols cs s ≡ first_then cs (symbols cs) (of_token cs t rest)
      go [] e h = unread_token h.0 h.1
      go (b ∷ v) e h = symbols_first cs s b v e ∙ ap (λ x. first_then cs (symbols cs) (on_taken (of_token cs) x)) h.0

  abbrev Is : List ℕ → List (Symbol Leaf) → Type 0
  Is s ys = (symbols cs s ≡ ys) × (every is_read ys ≡ true)

  then_is : {s u rest : List ℕ} {t : Token} {y : Symbol Leaf} {ys : List (Symbol Leaf)} → Spaced s t u → of_token cs t u ≡ read y rest → is_read y ≡ true
      → Is rest ys → Is s (y ∷ ys)
  then_is {s} {u} {rest} {t} {y} d e r h =
      (symbols_spaced s t u d ∙ ap (first_then cs (symbols cs)) e ∙ ap (λ (k : List (Symbol Leaf)). y ∷ k) h.0, both_and r h.1)

  no_join : (name u : List ℕ) → joins name ≡ false → of_word cs name u ≡ leaf_after cs name u
  no_join name u other =
      let h = or_neither (is "and" || is "or") (is "not") other in
      let k = or_neither (is "and") (is "or") h.0 in
      rw (k.0, k.1, h.1)
    where
      is : String → Bool
      is w = is_equal (compare_bytes name (ascii w))

  text_found : {s : List ℕ} {ys : List (Symbol Leaf)} → TextIs cs s ys → Is s ys
  unfolding compare_bytes
  text_found (no_symbol {s} e) = (symbols_none cs s (only_spaces s e), refl)
  text_found (and_word d after) = then_is d refl refl (text_found after)
  text_found (or_word d after) = then_is d refl refl (text_found after)
  text_found (not_word d after) = then_is d refl refl (text_found after)
  text_found (opening d after) = then_is d refl refl (text_found after)
  text_found (closing d after) = then_is d refl refl (text_found after)
  text_found (a_leaf {s} {u} {v} {rest} {name} d other operator is_operator literal is-literal found after) =
      then_is d (no_join name u other ∙ rw ((spaced_token operator).0, is_operator, (spaced_token literal).0, is-literal, found)) refl (text_found after)

pub symbols_mean : SymbolsMean
symbols_mean cs s ys = (λ h. subst (TextIs cs s) h.0 (text_read cs (suc (length s)) s (omega arith) (ap (every is_read) h.0 ∙ h.1)), text_found cs)
