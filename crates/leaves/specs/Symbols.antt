-- From a filter's text to its symbols: leaves, words and brackets. Assumes nothing.
use Rattle.std.specs.Prelude.{ℕ, zero, suc, cond, List, [], ◌∷◌, length}
use Rattle.std.proofs.Math.Option.{Option, some, none}
use Rattle.values.specs.Characters.{ascii, following}
use Rattle.values.specs.Order.{compare_bytes, is_equal}
use Rattle.expr.specs.Operators.{Binary, starts_with}
use Rattle.columns.specs.Columns.{Column}
use Rattle.tokens.specs.Tokens as tokens
use Rattle.tokens.specs.Tokens.{Token, Taken, taken, token, is_space}
use Rattle.grammar.specs.Grammar as grammar
use Rattle.grammar.specs.Grammar.{Symbol}
use Rattle.leaves.specs.Fitting.{Literal, decimal, text, Leaf, leaf_of}

-- ---- what a token is in a leaf: an operator, a literal
abbrev pub as_operator : Token → Option Binary
as_operator (tokens.word w) = cond (is_equal (compare_bytes w (ascii "startswith"))) (some starts_with) none
as_operator (tokens.sign o) = some o
as_operator (tokens.decimal z) = none
as_operator (tokens.quoted s) = none
as_operator tokens.opening = none
as_operator tokens.closing = none
as_operator tokens.unreadable = none

abbrev pub as_literal : Token → Option Literal
as_literal (tokens.word w) = none
as_literal (tokens.sign o) = none
as_literal (tokens.decimal z) = some (decimal z)
as_literal (tokens.quoted s) = some (text s)
as_literal tokens.opening = none
as_literal tokens.closing = none
as_literal tokens.unreadable = none

-- ---- the symbol that a text begins with, and the text after it

pub data Read : Type 0 where
  read : Symbol Leaf → List ℕ → Read

abbrev pub unread : Read
unread = read grammar.unreadable []

abbrev pub or_else : {A : Type 0} → Option A → (A → Read) → Read
or_else none f = unread
or_else (some x) f = f x

abbrev pub on_taken : (Token → List ℕ → Read) → Taken → Read
on_taken f (taken t rest) = f t rest

-- the token after the spaces that a text begins with
abbrev pub after_spaces : List ℕ → (Token → List ℕ → Read) → Read
after_spaces s f = on_taken f (token (following is_space s))

module _ (cs : List Column) where
  -- 02: "A leaf is a column name, an operator .. and a literal"
  abbrev pub leaf_after : List ℕ → List ℕ → Read
  leaf_after name s = after_spaces s (λ t rest. or_else (as_operator t) (λ o. after_spaces rest (λ u after.
      or_else (as_literal u) (λ l. or_else (leaf_of cs name o l) (λ leaf. read (grammar.leaf_of leaf) after)))))

  abbrev pub of_word : List ℕ → List ℕ → Read
  of_word w s =
      cond (is_equal (compare_bytes w (ascii "and"))) (read grammar.and_word s)
      (cond (is_equal (compare_bytes w (ascii "or"))) (read grammar.or_word s)
      (cond (is_equal (compare_bytes w (ascii "not"))) (read grammar.not_word s)
      (leaf_after w s)))

  abbrev pub of_token : Token → List ℕ → Read
  of_token (tokens.word w) s = of_word w s
  of_token (tokens.sign o) s = unread
  of_token (tokens.decimal z) s = unread
  of_token (tokens.quoted t) s = unread
  of_token tokens.opening s = read grammar.opening s
  of_token tokens.closing s = read grammar.closing s
  of_token tokens.unreadable s = unread

  -- the first symbol of a text
  abbrev pub symbol : List ℕ → Read
  symbol s = after_spaces s of_token

  -- ---- all symbols of a text

  -- with what gives the symbols of the text after the first
  abbrev pub first_then : (List ℕ → List (Symbol Leaf)) → Read → List (Symbol Leaf)
  first_then others (read y rest) = y ∷ others rest

  abbrev pub symbols_from : (List ℕ → List (Symbol Leaf)) → List ℕ → List (Symbol Leaf)
  symbols_from others [] = []
  symbols_from others (b ∷ s) = first_then others (symbol (b ∷ s))

  -- the number ends the recursion: it is more than the bytes left, and so does not run out (`SymbolLaws.symbols_within_lem`)
  abbrev pub symbols_within : ℕ → List ℕ → List (Symbol Leaf)
  symbols_within zero s = []
  symbols_within (suc n) s = symbols_from (symbols_within n) (following is_space s)

  unfoldable pub symbols : List ℕ → List (Symbol Leaf)
  symbols s = symbols_within (suc (length s)) s
