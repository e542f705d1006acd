-- Laws of the symbols of a text: the first, and those of the text after it; and the leaf of a name. Assumes nothing.
use Rattle.std.specs.Prelude.{ℕ, zero, suc, ◌+◌, ◌-◌, ◌≤◌, ◌<◌, Bool, true, false, cond, List, [], ◌∷◌, ◌≡◌, ◌≢◌, refl, eqb, pos, neg_ℤ}
use Rattle.std.specs.Prelude.{length, map, Option, Some, None, option_and_then}
use Rattle.std.specs.List.{position_from}
use Rattle.std.proofs.Common.{add-one, arith, sym, ap, subst, ◌∙◌}
use Rattle.std.proofs.lemmas.List.{length-map}
use Rattle.std.proofs.Math.Option as maybe
use Rattle.std.proofs.Math.Option.{some, none}
use Rattle.values.specs.Characters.{ascii, is_letter, is_digit, leading, following}
use Rattle.values.specs.Order.{compare_bytes, is_equal}
use Rattle.values.specs.laws.CharacterLaws.{following_shorter}
use Rattle.expr.specs.Operators.{Binary}
use Rattle.columns.specs.Columns.{Column}
use Rattle.columns.specs.code.ColumnAnswers.{column_at, place_of}
use Rattle.tokens.specs.Tokens as tokens
use Rattle.tokens.specs.Tokens.{Token, Taken, taken, is_space, is_text, decimal_at, minus_at, unquoted, quoted_at, longest, token}
use Rattle.grammar.specs.Grammar as grammar
use Rattle.grammar.specs.Grammar.{Symbol}
use Rattle.leaves.specs.Fitting.{Literal, Leaf, fits, content_of, leaf_from, leaf_of}
use Rattle.leaves.specs.Symbols.{Read, read, unread, or_else, on_taken, after_spaces, as_operator, as_literal}
use Rattle.leaves.specs.Symbols.{leaf_after, of_word, of_token, symbol, first_then, symbols_from, symbols_within, symbols}
use Rattle.leaves.specs.code.SymbolAnswers.{token_in, with_rest, fitting, literal_in, leaf_with, leaf_on, leaf_in}

-- ---- each symbol takes at least one byte

-- a text after a token, after a symbol, is no longer than n
abbrev Leaves : ℕ → Taken → Type 0
Leaves n (taken t rest) = length rest ≤ n

abbrev pub ReadLeaves : ℕ → Read → Type 0
ReadLeaves n (read y rest) = length rest ≤ n

picked : (n : ℕ) (t : Bool) (x y : Taken) → (t ≡ true → Leaves n x) → Leaves n y → Leaves n (cond t x y)
picked n true x y h k = h refl
picked n false x y h k = k

module _ (passes : ℕ → Bool) (b : ℕ) (s : List ℕ) where
  passed_shorter : passes b ≡ true → length (following passes (b ∷ s)) ≤ length s
  passed_shorter e = rw e (following_shorter passes s)

unquoted_leaves : (text s : List ℕ) → Leaves (length s) (unquoted text s)
unquoted_leaves text [] = omega arith
unquoted_leaves text (q ∷ s) = omega arith

quoted_leaves : (s : List ℕ) → Leaves (length s) (quoted_at s)
quoted_leaves s = wider (quoted_at s) (unquoted_leaves (leading is_text s) (following is_text s))
  where
    wider : (x : Taken) → Leaves (length (following is_text s)) x → Leaves (length s) x
    wider (taken t rest) h = omega (arith, following_shorter is_text s)

minus_leaves : (s : List ℕ) → Leaves (length s) (minus_at s)
minus_leaves [] = omega arith
minus_leaves (b ∷ s) =
    picked (suc (length s)) (is_digit b) (decimal_at (λ n. neg_ℤ (pos n)) (b ∷ s)) (taken tokens.unreadable (b ∷ s))
    (λ e. following_shorter is_digit (b ∷ s))
    (omega arith)

longest_leaves : (with without : Token) (s : List ℕ) → Leaves (length s) (longest with without s)
longest_leaves with without [] = omega arith
longest_leaves with without (b ∷ s) = picked (suc (length s)) (eqb b 61) (taken with s) (taken without (b ∷ s)) (λ e. omega arith) (omega arith)

begun_leaves : (b : ℕ) (s : List ℕ) → Leaves (length s) (token (b ∷ s))
begun_leaves b s =
    picked (length s) (is_letter b) _ _ (passed_shorter is_letter b s)
    (picked (length s) (is_digit b) _ _ (passed_shorter is_digit b s)
    (picked (length s) (eqb b 45) _ _ (λ e. minus_leaves s)
    (picked (length s) (eqb b 39) _ _ (λ e. quoted_leaves s)
    (picked (length s) (eqb b 40) _ _ (λ e. omega arith)
    (picked (length s) (eqb b 41) _ _ (λ e. omega arith)
    (picked (length s) (eqb b 60) _ _ (λ e. longest_leaves _ _ s)
    (picked (length s) (eqb b 62) _ _ (λ e. longest_leaves _ _ s)
    (picked (length s) (eqb b 61) _ _ (λ e. omega arith)
    (picked (length s) (eqb b 33) _ _ (λ e. longest_leaves _ _ s) (omega arith))))))))))

token_leaves : (s : List ℕ) → Leaves (length s - 1) (token s)
token_leaves [] = omega arith
token_leaves (b ∷ s) =
    let less : suc (length s) - 1 ≡ length s = omega arith in
    rw less (begun_leaves b s)

unread_leaves : (n : ℕ) → ReadLeaves n unread
unread_leaves n = omega arith

-- what is read of the text after a token
on_token : (n : ℕ) (s : List ℕ) (f : Token → List ℕ → Read) → length s - 1 ≤ n
    → ((t : Token) (rest : List ℕ) → length rest ≤ n → ReadLeaves n (f t rest)) → ReadLeaves n (after_spaces s f)
on_token n s f h go = on (token (following is_space s)) (token_leaves (following is_space s))
  where
    on : (x : Taken) → Leaves (length (following is_space s) - 1) x → ReadLeaves n (on_taken f x)
    on (taken t rest) k = go t rest (omega (arith, following_shorter is_space s))

on_some : {A : Type 0} (n : ℕ) (x : maybe.Option A) (f : A → Read) → ((a : A) → ReadLeaves n (f a)) → ReadLeaves n (or_else x f)
on_some n none f go = unread_leaves n
on_some n (some a) f go = go a

module _ (cs : List Column) where
  leaf_leaves : (n : ℕ) (name s : List ℕ) → length s ≤ n → ReadLeaves n (leaf_after cs name s)
  leaf_leaves n name s h =
      on_token n s _ (omega arith) (λ t rest k. on_some n (as_operator t) _ (λ o.
      on_token n rest _ (omega arith) (λ u after m. on_some n (as_literal u) _ (λ l. on_some n (leaf_of cs name o l) _ (λ leaf. m)))))

  word_leaves : (n : ℕ) (w s : List ℕ) → length s ≤ n → ReadLeaves n (of_word cs w s)
  word_leaves n w s h =
      go (is_equal (compare_bytes w (ascii "and"))) (is_equal (compare_bytes w (ascii "or"))) (is_equal (compare_bytes w (ascii "not"))) (leaf_leaves n w s h)
    where
      go : (a b c : Bool) → ReadLeaves n (leaf_after cs w s)
          → ReadLeaves n (cond a (read grammar.and_word s) (cond b (read grammar.or_word s) (cond c (read grammar.not_word s) (leaf_after cs w s))))
      go true b c k = h
      go false true c k = h
      go false false true k = h
      go false false false k = k

  of_token_leaves : (n : ℕ) (t : Token) (s : List ℕ) → length s ≤ n → ReadLeaves n (of_token cs t s)
  of_token_leaves n (tokens.word w) s h = word_leaves n w s h
  of_token_leaves n (tokens.sign o) s h = unread_leaves n
  of_token_leaves n (tokens.decimal z) s h = unread_leaves n
  of_token_leaves n (tokens.quoted t) s h = unread_leaves n
  of_token_leaves n tokens.opening s h = h
  of_token_leaves n tokens.closing s h = h
  of_token_leaves n tokens.unreadable s h = unread_leaves n

  pub symbol_leaves : (s : List ℕ) → ReadLeaves (length s - 1) (symbol cs s)
  symbol_leaves s = on_token (length s - 1) s _ (omega arith) (of_token_leaves (length s - 1))

  -- ---- the number that ends the recursion does not matter where it is enough
  first_same : (f g : List ℕ → List (Symbol Leaf)) (n : ℕ) (x : Read) → ReadLeaves n x → ((t : List ℕ) → length t ≤ n → f t ≡ g t)
      → first_then cs f x ≡ first_then cs g x
  first_same f g n (read y rest) h same = ap (λ (ys : List (Symbol Leaf)). y ∷ ys) (same rest h)

  begun_same : (f g : List ℕ → List (Symbol Leaf)) (b : ℕ) (s : List ℕ) → ((t : List ℕ) → length t ≤ length s → f t ≡ g t)
      → first_then cs f (symbol cs (b ∷ s)) ≡ first_then cs g (symbol cs (b ∷ s))
  begun_same f g b s same =
      let less : suc (length s) - 1 ≡ length s = omega arith in
      first_same f g (length s) (symbol cs (b ∷ s)) (rw less at (symbol_leaves (b ∷ s))) same

  within_same : (n m : ℕ) (s : List ℕ) → length s < n → length s < m → symbols_within cs n s ≡ symbols_within cs m s
  within_same zero m s h k = absurd (omega arith)
  within_same (suc n) zero s h k = absurd (omega arith)
  within_same (suc n) (suc m) s h k = go (following is_space s) (following_shorter is_space s) (within_same n m)
    where
      go : (t : List ℕ) → length t ≤ length s → ((u : List ℕ) → length u < n → length u < m → symbols_within cs n u ≡ symbols_within cs m u)
          → symbols_from cs (symbols_within cs n) t ≡ symbols_from cs (symbols_within cs m) t
      go [] l same = refl
      go (b ∷ t) l same = begun_same (symbols_within cs n) (symbols_within cs m) b t (λ u d. same u (omega arith) (omega arith))

  pub symbols_within_lem : (n : ℕ) (s : List ℕ) → length s < n → symbols_within cs n s ≡ symbols cs s
  unfolding symbols
  symbols_within_lem n s h = within_same n (suc (length s)) s h (omega arith)

  -- ---- the first symbol, and those of the text after it
  spaces_gone : (s : List ℕ) → following is_space (following is_space s) ≡ following is_space s
  spaces_gone [] = refl
  spaces_gone (b ∷ s) = go (is_space b) refl (spaces_gone s)
    where
      go : (t : Bool) → is_space b ≡ t → following is_space (following is_space s) ≡ following is_space s
          → following is_space (cond t (following is_space s) (b ∷ s)) ≡ cond t (following is_space s) (b ∷ s)
      go true e same = same
      go false e same = rw e

  -- no symbol begins what is spaces only
  pub symbols_none : (s : List ℕ) → following is_space s ≡ [] → symbols cs s ≡ []
  unfolding symbols
  symbols_none s e = rw e

  pub symbols_first : (s : List ℕ) (b : ℕ) (t : List ℕ) → following is_space s ≡ b ∷ t
      → symbols cs s ≡ first_then cs (symbols cs) (on_taken (of_token cs) (token (b ∷ t)))
  symbols_first s b t e =
      let short : suc (length t) ≤ length s = omega (arith, following_shorter is_space s, ap length e) in
      let begun : following is_space (b ∷ t) ≡ b ∷ t = ap (following is_space) (sym e) ∙ spaces_gone s ∙ e in
      sym (symbols_within_lem (suc (length s)) s (omega arith))
      ∙ ap (symbols_from cs (symbols_within cs (length s))) e
      ∙ begun_same (symbols_within cs (length s)) (symbols cs) b t (λ u d. symbols_within_lem (length s) u (omega arith))
      ∙ ap (λ u. first_then cs (symbols cs) (on_taken (of_token cs) (token u))) begun

  pub symbols_begun : (s : List ℕ) → following is_space s ≢ [] → symbols cs s ≡ first_then cs (symbols cs) (on_taken (of_token cs) (token_in s))
  symbols_begun s begun = go (following is_space s) refl
    where
      go : (u : List ℕ) → following is_space s ≡ u → symbols cs s ≡ first_then cs (symbols cs) (on_taken (of_token cs) (token u))
      go [] e = absurd (begun e)
      go (b ∷ t) e = symbols_first s b t e

-- ---- the place of a name
module _ (test : List ℕ → Bool) where
  position_within : (ns : List (List ℕ)) (k j : ℕ) → position_from test k ns ≡ Some j → j < k + length ns
  position_within [] k j e = cc
  position_within (n ∷ ns) k j e = go (test n) (position_within ns (k + 1) j) e
    where
      go : (t : Bool) → (position_from test (k + 1) ns ≡ Some j → j < k + 1 + length ns) → cond t (Some k) (position_from test (k + 1) ns) ≡ Some j
          → j < k + suc (length ns)
      go true h e = let same : k ≡ j = cc in omega arith
      go false h e = omega (arith, h e)

pub place_within : (cs : List Column) (name : List ℕ) (k : ℕ) → place_of name cs ≡ Some k → k < length cs
place_within cs name k e =
    omega (arith, length-map cs (λ d. d.name), position_within (λ n. is_equal (compare_bytes name n)) (map (λ d. d.name) cs) 0 k e)

-- ---- the leaf of a name
module _ (name : List ℕ) (o : Binary) (l : Literal) where
  -- of the column d at place k
  abbrev pub one_leaf : ℕ → Column → maybe.Option Leaf
  one_leaf k d =
      let leaf : Leaf = record { place = k; head = d.head; operator = o; content = content_of d.head.column l } in
      cond (fits d.head.column l) (some leaf) none

  abbrev Placed : ℕ → List Column → Option ℕ → maybe.Option Leaf → Type 0
  Placed k cs None x = x ≡ none
  Placed k cs (Some j) x = (i : ℕ) × (j ≡ k + i) × (x ≡ one_leaf j (column_at cs i))

  later : (k : ℕ) (c : Column) (cs : List Column) (p : Option ℕ) (x : maybe.Option Leaf) → Placed (k + 1) cs p x → Placed k (c ∷ cs) p x
  later k c cs None x h = h
  later k c cs (Some j) x h = (suc h.0, omega (arith, h.1), h.2)

  placed : (cs : List Column) (k : ℕ) → Placed k cs (position_from (λ n. is_equal (compare_bytes name n)) k (map (λ d. d.name) cs)) (leaf_from k cs name o l)
  placed [] k = refl
  placed (c ∷ cs) k = go (is_equal (compare_bytes name c.name)) (rw add-one (placed cs (suc k)))
    where
      others : Option ℕ
      others = position_from (λ n. is_equal (compare_bytes name n)) (k + 1) (map (λ d. d.name) cs)

      go : (t : Bool) → Placed (k + 1) cs others (leaf_from (suc k) cs name o l)
          → Placed k (c ∷ cs) (cond t (Some k) others) (cond t (one_leaf k c) (leaf_from (suc k) cs name o l))
      go true h = (0, omega arith, refl)
      go false h = later k c cs _ _ h

  module _ (cs : List Column) where
    placed_as : (p : Option ℕ) → place_of name cs ≡ p → Placed 0 cs p (leaf_of cs name o l)
    placed_as p e = subst (λ p. Placed 0 cs p (leaf_of cs name o l)) e (placed cs 0)

    pub leaf_none : place_of name cs ≡ None → leaf_of cs name o l ≡ none
    leaf_none e = placed_as None e

    pub leaf_some : (k : ℕ) → place_of name cs ≡ Some k → leaf_of cs name o l ≡ one_leaf k (column_at cs k)
    leaf_some k e =
        let h = placed_as (Some k) e in
        let same : h.0 ≡ k = omega (arith, h.1) in
        rw same at h.2

-- ---- what the code finds step by step is what the definitions read
abbrev pub leaf_read : Option (Leaf × List ℕ) → Read
leaf_read None = unread
leaf_read (Some x) = read (grammar.leaf_of x.0) x.1

module _ (cs : List Column) (name : List ℕ) where
  -- a leaf from its literal on, and from its operator on
  abbrev by_literal : Binary → Taken → Read
  by_literal o = on_taken (λ u after. or_else (as_literal u) (λ l. or_else (leaf_of cs name o l) (λ leaf. read (grammar.leaf_of leaf) after)))

  abbrev by_operator : Taken → Read
  by_operator = on_taken (λ t rest. or_else (as_operator t) (λ o. by_literal o (token_in rest)))

  -- no column has the name
  module _ (e : place_of name cs ≡ None) where
    none_by_literal : (o : Binary) (x : Taken) → by_literal o x ≡ unread
    none_by_literal o (taken u after) = go (as_literal u)
      where
        go : (y : maybe.Option Literal) → or_else y (λ l. or_else (leaf_of cs name o l) (λ leaf. read (grammar.leaf_of leaf) after)) ≡ unread
        go none = refl
        go (some l) = rw (leaf_none name o l cs e)

    none_by_operator : (x : Taken) → by_operator x ≡ unread
    none_by_operator (taken t rest) = go (as_operator t)
      where
        go : (y : maybe.Option Binary) → or_else y (λ o. by_literal o (token_in rest)) ≡ unread
        go none = refl
        go (some o) = none_by_literal o (token_in rest)

  module _ (k : ℕ) (e : place_of name cs ≡ Some k) where
    abbrev d : Column
    d = column_at cs k

    some_by_literal : (o : Binary) (x : Taken) → by_literal o x ≡ leaf_read (option_and_then (λ l. Some (leaf_with k d o l)) (literal_in d.head.column x))
    some_by_literal o (taken u after) = go (as_literal u)
      where
        go : (y : maybe.Option Literal) → or_else y (λ l. or_else (leaf_of cs name o l) (λ leaf. read (grammar.leaf_of leaf) after))
            ≡ leaf_read (option_and_then (λ l. Some (leaf_with k d o l)) (option_and_then (fitting d.head.column) (with_rest after y)))
        go none = refl
        go (some l) = rw (leaf_some name o l cs k e) (fit l (fits d.head.column l))
          where
            fit : (l : Literal) (b : Bool) → or_else (cond b (some (leaf_with k d o (l, after)).0) none) (λ leaf. read (grammar.leaf_of leaf) after)
                ≡ leaf_read (option_and_then (λ x. Some (leaf_with k d o x)) (cond b (Some (l, after)) None))
            fit l true = refl
            fit l false = refl

    some_by_operator : (x : Taken) → by_operator x ≡ leaf_read (leaf_on k d x)
    some_by_operator (taken t rest) = go (as_operator t)
      where
        go : (y : maybe.Option Binary) → or_else y (λ o. by_literal o (token_in rest))
            ≡ leaf_read (option_and_then (λ o. option_and_then (λ l. Some (leaf_with k d o.0 l)) (literal_in d.head.column (token_in o.1))) (with_rest rest y))
        go none = refl
        go (some o) = some_by_literal o (token_in rest)

  pub leaf_after_lem : (s : List ℕ) → leaf_after cs name s ≡ leaf_read (leaf_in cs name s)
  leaf_after_lem s = go (place_of name cs) refl
    where
      go : (p : Option ℕ) → place_of name cs ≡ p → by_operator (token_in s) ≡ leaf_read (option_and_then (λ k. leaf_on k (column_at cs k) (token_in s)) p)
      go None e = none_by_operator e (token_in s)
      go (Some k) e = some_by_operator k e (token_in s)
