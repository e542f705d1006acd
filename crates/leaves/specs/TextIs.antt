-- A text is these symbols: document 02's words on spaces, words and leaves, beside each rule. `Symbols.symbols` finds just that. Assumes nothing.
use Rattle.std.specs.Prelude.{ℕ, Bool, true, false, ◌||◌, List, [], ◌∷◌, ◌↔◌, ◌≡◌}
use Prim.Native.Char.{code}
use Rattle.std.proofs.Math.Option.{some}
use Rattle.values.specs.Characters.{ascii}
use Rattle.values.specs.Order.{compare_bytes, is_equal}
use Rattle.values.specs.SomeEvery.{every}
use Rattle.expr.specs.Operators.{Binary}
use Rattle.columns.specs.Columns.{Column}
use Rattle.tokens.specs.Spelled.{Spelled}
use Rattle.tokens.specs.Tokens as tokens
use Rattle.tokens.specs.Tokens.{Token, is_space}
use Rattle.grammar.specs.Grammar as grammar
use Rattle.grammar.specs.Grammar.{Symbol}
use Rattle.leaves.specs.Fitting.{Literal, Leaf, leaf_of}
use Rattle.leaves.specs.Symbols.{as_operator, as_literal, symbols}

-- "Spaces may stand around words, signs and literals": spaces, or none, and then a token
pub data Spaced : List ℕ → Token → List ℕ → Type 0 where
  at_once : {s rest : List ℕ} {t : Token} → Spelled s t rest → Spaced s t rest
  after_space : {s rest : List ℕ} {t : Token} → Spaced s t rest → Spaced (code " " ∷ s) t rest

-- the words that are no column's name: "`not` binds tightest, then `and`, then `or`"
abbrev pub joins : List ℕ → Bool
joins w = is_equal (compare_bytes w (ascii "and")) || is_equal (compare_bytes w (ascii "or")) || is_equal (compare_bytes w (ascii "not"))

pub data TextIs (cs : List Column) : List ℕ → List (Symbol Leaf) → Type 0 where
  no_symbol : {s : List ℕ} → every is_space s ≡ true → TextIs cs s []
  and_word : {s rest : List ℕ} {ys : List (Symbol Leaf)} → Spaced s (tokens.word (ascii "and")) rest → TextIs cs rest ys → TextIs cs s (grammar.and_word ∷ ys)
  or_word : {s rest : List ℕ} {ys : List (Symbol Leaf)} → Spaced s (tokens.word (ascii "or")) rest → TextIs cs rest ys → TextIs cs s (grammar.or_word ∷ ys)
  not_word : {s rest : List ℕ} {ys : List (Symbol Leaf)} → Spaced s (tokens.word (ascii "not")) rest → TextIs cs rest ys → TextIs cs s (grammar.not_word ∷ ys)
  opening : {s rest : List ℕ} {ys : List (Symbol Leaf)} → Spaced s tokens.opening rest → TextIs cs rest ys → TextIs cs s (grammar.opening ∷ ys)
  closing : {s rest : List ℕ} {ys : List (Symbol Leaf)} → Spaced s tokens.closing rest → TextIs cs rest ys → TextIs cs s (grammar.closing ∷ ys)
  -- "A leaf is a column name, an operator .. and a literal"; the name is declared and the literal fits its column (`Fitting.leaf_of`)
  a_leaf : {s u v rest name : List ℕ} {operator literal : Token} {o : Binary} {l : Literal} {found : Leaf} {ys : List (Symbol Leaf)}
      → Spaced s (tokens.word name) u → joins name ≡ false
      → Spaced u operator v → as_operator operator ≡ some o
      → Spaced v literal rest → as_literal literal ≡ some l
      → leaf_of cs name o l ≡ some found
      → TextIs cs rest ys → TextIs cs s (grammar.leaf_of found ∷ ys)

-- a symbol that stands for something
abbrev pub is_read : Symbol Leaf → Bool
is_read (grammar.leaf_of l) = true
is_read grammar.and_word = true
is_read grammar.or_word = true
is_read grammar.not_word = true
is_read grammar.opening = true
is_read grammar.closing = true
is_read grammar.unreadable = false

-- `symbols` finds the symbols that the text is, and one that stands for nothing where it is none (`TextLaws.symbols_mean`)
abbrev pub SymbolsMean : Type 0
SymbolsMean = (cs : List Column) (s : List ℕ) (ys : List (Symbol Leaf)) → ((symbols cs s ≡ ys) × (every is_read ys ≡ true)) ↔ TextIs cs s ys
