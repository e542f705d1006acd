-- What is so of every leaf that a text's words are read as is so of every leaf of the filter that is found in the text. Assumes nothing.
use Rattle.std.specs.Prelude.{Ok}
use Prim.Native.Nat.{ℕ, zero, suc}
use mathlib.Core.Bool.{Bool, true, false, cond}
use mathlib.Core.List.{List, [], ◌∷◌}
use mathlib.Core.Option.{Option, some, none}
use mathlib.Core.Path.{◌≡◌, refl, ap, ◌∙◌}
use lib.Dec.{leb}
use lib.ListN.{length}
use Rattle.values.specs.code.Places.{AllOf}
use Rattle.values.specs.Characters.{ascii, following}
use Rattle.values.specs.Order.{compare_bytes, is_equal}
use Rattle.values.specs.laws.OutcomeLaws.{ok_inj, ok_not_err, passed, gone}
use Rattle.values.specs.declared.error.ErrorKind.TheVariants.{TooLarge}
use Rattle.expr.specs.Operators.{Binary}
use Rattle.columns.specs.Columns.{Column}
use Rattle.tokens.specs.Tokens as tokens
use Rattle.tokens.specs.Tokens.{Token, Taken, taken, token, is_space}
use Rattle.grammar.specs.Filters.{Filter, leaves, depth}
use Rattle.grammar.specs.Grammar as grammar
use Rattle.grammar.specs.Grammar.{Symbol, Single, a_leaf, a_not, in_brackets, Conjunction, one_single, and_single, Disjunction, one_conjunction, or_conjunction}
use Rattle.grammar.specs.Parser.{Found, found, nothing, disjunction}
use Rattle.grammar.proofs.ParserLaws.{disjunction_sound}
use Rattle.leaves.specs.Fitting.{Literal, Leaf, leaf_of}
use Rattle.leaves.specs.Symbols.{as_operator, as_literal, Read, read, or_else, on_taken, after_spaces, leaf_after, of_token}
use Rattle.leaves.specs.Symbols.{symbol, first_then, symbols_from, symbols_within, symbols}
use Rattle.parse.specs.FilterText.{text_limit, leaf_limit, bracket_limit, whole, filter_in}
use Rattle.filterdemand.proofs.JoinedLaws.{EveryLeaf}

-- ---- filters: a leaf of what is derived is one of the symbols
abbrev pub OfSymbol : {L : Type 0} → (L → Type 0) → Symbol L → Type 0
OfSymbol g (grammar.leaf_of l) = g l
OfSymbol g grammar.and_word = Unit {0}
OfSymbol g grammar.or_word = Unit {0}
OfSymbol g grammar.not_word = Unit {0}
OfSymbol g grammar.opening = Unit {0}
OfSymbol g grammar.closing = Unit {0}
OfSymbol g grammar.unreadable = Unit {0}

module _ {L : Type 0} (g : L → Type 0) where
  abbrev EverySymbol : List (Symbol L) → Type 0
  EverySymbol ts = AllOf (OfSymbol g) ts

  mutual
    single_every : {ts rest : List (Symbol L)} {f : Filter L} → Single ts f rest → EverySymbol ts → EveryLeaf g f × EverySymbol rest
    single_every a_leaf h = h
    single_every (a_not d) h = single_every d h.1
    single_every (in_brackets d) h = let x = disjunction_every d h.1 in (x.0, x.1.1)

    conjunction_every : {ts rest : List (Symbol L)} {f : Filter L} → Conjunction ts f rest → EverySymbol ts → EveryLeaf g f × EverySymbol rest
    conjunction_every (one_single d) h = single_every d h
    conjunction_every (and_single d e) h =
        let x = conjunction_every d h in
        let y = single_every e x.1.1 in
        ((x.0, y.0), y.1)

    disjunction_every : {ts rest : List (Symbol L)} {f : Filter L} → Disjunction ts f rest → EverySymbol ts → EveryLeaf g f × EverySymbol rest
    disjunction_every (one_conjunction d) h = conjunction_every d h
    disjunction_every (or_conjunction d e) h =
        let x = disjunction_every d h in
        let y = conjunction_every e x.1.1 in
        ((x.0, y.0), y.1)

-- ---- symbols: a leaf among them is one that a name, an operator and a literal are read as
module _ (cs : List Column) (g : Leaf → Type 0) (fitted : (name : List ℕ) (o : Binary) (l : Literal) (x : Leaf) → leaf_of cs name o l ≡ some x → g x) where
  abbrev OfRead : Read → Type 0
  OfRead (read y rest) = OfSymbol g y

  or_else_lem : {A : Type 0} (r : Option A) (f : A → Read) → ((x : A) → r ≡ some x → OfRead (f x)) → OfRead (or_else r f)
  or_else_lem none f k = tt
  or_else_lem (some x) f k = k x refl

  on_taken_lem : (r : Taken) (f : Token → List ℕ → Read) → ((t : Token) (rest : List ℕ) → OfRead (f t rest)) → OfRead (on_taken f r)
  on_taken_lem (taken t rest) f k = k t rest

  after_spaces_lem : (s : List ℕ) (f : Token → List ℕ → Read) → ((t : Token) (rest : List ℕ) → OfRead (f t rest)) → OfRead (after_spaces s f)
  after_spaces_lem s f k = on_taken_lem (token (following is_space s)) f k

  leaf_after_lem : (name s : List ℕ) → OfRead (leaf_after cs name s)
  leaf_after_lem name s =
      after_spaces_lem s _ (λ t rest. or_else_lem (as_operator t) _ (λ o a. after_spaces_lem rest _ (λ u after.
      or_else_lem (as_literal u) _ (λ l b. or_else_lem (leaf_of cs name o l) _ (λ x c. fitted name o l x c)))))

  -- one of the three words, or a leaf
  of_word : (is_and is_or is_not : Bool) (s : List ℕ) (r : Read) → OfRead r
      → OfRead (cond is_and (read grammar.and_word s) (cond is_or (read grammar.or_word s) (cond is_not (read grammar.not_word s) r)))
  of_word true is_or is_not s r h = tt
  of_word false true is_not s r h = tt
  of_word false false true s r h = tt
  of_word false false false s r h = h

  abbrev says : List ℕ → List ℕ → Bool
  says w word = is_equal (compare_bytes w word)

  of_token_lem : (t : Token) (s : List ℕ) → OfRead (of_token cs t s)
  of_token_lem (tokens.word w) s = of_word (says w (ascii "and")) (says w (ascii "or")) (says w (ascii "not")) s (leaf_after cs w s) (leaf_after_lem w s)
  of_token_lem (tokens.sign o) s = tt
  of_token_lem (tokens.decimal z) s = tt
  of_token_lem (tokens.quoted t) s = tt
  of_token_lem tokens.opening s = tt
  of_token_lem tokens.closing s = tt
  of_token_lem tokens.unreadable s = tt

  first_then_lem : (others : List ℕ → List (Symbol Leaf)) (r : Read) → OfRead r → ((s : List ℕ) → EverySymbol g (others s))
      → EverySymbol g (first_then cs others r)
  first_then_lem others (read y rest) h k = (h, k rest)

  symbols_from_lem : (others : List ℕ → List (Symbol Leaf)) (s : List ℕ) → ((s : List ℕ) → EverySymbol g (others s)) → EverySymbol g (symbols_from cs others s)
  symbols_from_lem others [] k = tt
  symbols_from_lem others (b ∷ s) k = first_then_lem others (symbol cs (b ∷ s)) (after_spaces_lem (b ∷ s) (of_token cs) of_token_lem) k

  symbols_within_lem : (n : ℕ) (s : List ℕ) → EverySymbol g (symbols_within cs n s)
  symbols_within_lem zero s = tt
  symbols_within_lem (suc n) s = symbols_from_lem (symbols_within cs n) (following is_space s) (symbols_within_lem n)

  symbols_every : (s : List ℕ) → EverySymbol g (symbols cs s)
  unfolding symbols
  symbols_every s = symbols_within_lem (suc (length s)) s

  -- ---- a whole text
  whole_found : (r : Found Leaf) {f : Filter Leaf} → whole r ≡ Ok f → r ≡ found f []
  whole_found (found f []) e = ap (λ x. found x []) (ok_inj e)
  whole_found (found f (y ∷ ys)) e = ok_not_err e
  whole_found nothing e = ok_not_err e

  pub filter_every : (t : List ℕ) (f : Filter Leaf) → filter_in cs t ≡ Ok f → EveryLeaf g f
  unfolding filter_in
  filter_every t f e =
      let n = suc (length (symbols cs t)) in
      let short = passed (leb (length t) text_limit) TooLarge _ e in
      let w = gone (whole (disjunction n (symbols cs t))) _ short.1 in
      let few = passed (leb (leaves w.0) leaf_limit) TooLarge _ w.2 in
      let flat = passed (leb (depth w.0) bracket_limit) TooLarge _ few.1 in
      let is = whole_found _ w.1 ∙ ap (λ x. found x []) (ok_inj {x = w.0} flat.1) in
      (disjunction_every g (disjunction_sound n (symbols cs t) f [] is) (symbols_every t)).0
