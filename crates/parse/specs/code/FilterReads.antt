-- What the routines that read a filter take and give: what is asked, and a filter with the symbol after it. Assumes nothing.
use Rattle.std.specs.Prelude.{ℕ, ◌<◌, Bool, cond, List, ◌∷◌, ◌≡◌, Option, Some, None, length, drop}
use Rattle.values.specs.Outcomes.{Res}
use Rattle.columns.specs.Cells.{Cell}
use Rattle.columns.specs.Columns.{Column}
use Rattle.columns.specs.code.ColumnAnswers.{columns_in}
use Rattle.grammar.specs.Grammar.{Symbol, opening}
use Rattle.grammar.specs.Parser.{Parser, single, conjunction, disjunction}
use Rattle.leaves.specs.Fitting.{Leaf}
use Rattle.leaves.specs.Symbols.{symbols}
use Rattle.leaves.specs.code.SymbolAnswers.{IsLeaf, Symbolises}
use Rattle.leaves.specs.declared.leaf.Leaf as declared-leaf
use Rattle.leaves.specs.declared.symbol.Symbol as declared-symbol
use Rattle.leaves.specs.declared.symbol.Symbol.TheVariants as symbol
use Rattle.parse.specs.FilterText.{turn}
use Rattle.parse.specs.code.Asking.{side_for, ask_in, cells_in}
use Rattle.parse.specs.code.Reading.{FindsOne, FindsNone}
use Rattle.parse.specs.declared.read.Ahead.{Ahead}
use Rattle.parse.specs.declared.read.Ahead.TheVariants as ahead
use Rattle.parse.specs.declared.read.Read.{Read}
use Rattle.parse.specs.declared.read.Word.{Word}
use Rattle.parse.specs.declared.read.Word.TheVariants.{And, Or}
use Rattle.parse.specs.declared.request.Request.{Request}

-- ---- what is asked

abbrev pub columns_of : Request → List Column
columns_of q = columns_in q.columns.list.now

abbrev pub cells_for : Request → List Cell
cells_for q = cells_in (side_for q.asked) q.columns.list.now q.values.now

abbrev pub ask : Request → Leaf → Res Bool
ask q l = ask_in q.asked (cells_for q) l

-- the leaf x under nots is answered so
abbrev pub Asks : Request → Bool → declared-leaf.Leaf → Res Bool → Type 0
Asks q negate x answer = (l : Leaf) → IsLeaf (columns_of q) q.text.now x l → answer ≡ ask q (cond negate (turn l) l)

abbrev pub SomeLeaf : Request → declared-leaf.Leaf → Type 0
SomeLeaf q x = (l : Leaf) × IsLeaf (columns_of q) q.text.now x l

-- the symbols of the text from a place on
abbrev pub after : Request → ℕ → List (Symbol Leaf)
after q k = symbols (columns_of q) (drop k q.text.now)

-- ---- the symbol after a filter

-- what a symbol is to a filter that ends before it
abbrev pub ahead_of : declared-symbol.Symbol → Ahead
ahead_of symbol.End = ahead.End
ahead_of (symbol.Leaf leaf) = ahead.Leaf
ahead_of symbol.And = ahead.Word And
ahead_of symbol.Or = ahead.Word Or
ahead_of symbol.Not = ahead.Not
ahead_of symbol.Opening = ahead.Opening
ahead_of symbol.Closing = ahead.Closing
ahead_of symbol.Unreadable = ahead.Unreadable

-- the symbol of the text s at `next` is `ahead`, and the text after it begins at `past`
pub record Seen (cs : List Column) (s : List ℕ) (next : ℕ) (ahead : Ahead) (past : ℕ) : Type 0 where
  pub symbol : declared-symbol.Symbol
  pub is : Symbolises cs s next symbol past
  pub of_kind : ahead ≡ ahead_of symbol

-- ---- the routines

-- filters with a word between them, and what stands between two of the word
abbrev pub parser_of : Word → ℕ → Parser Leaf
parser_of And = conjunction
parser_of Or = disjunction

abbrev pub part_of : Word → ℕ → Parser Leaf
part_of And = single
part_of Or = conjunction

module _ (q : Request) where
  pub record ReadsOne (p : ℕ → Parser Leaf) (at : ℕ) (negate : Bool) (opened : ℕ) (r : Read) : Type 0 where
    pub one : FindsOne (after q) (length q.text.now) (ask q) p at negate opened r
    pub seen : Seen (columns_of q) q.text.now r.next r.ahead r.past

  abbrev pub Reads : (ℕ → Parser Leaf) → ℕ → Bool → ℕ → Option Read → Type 0
  Reads p at negate opened None = FindsNone (after q) (length q.text.now) (ask q) p at
  Reads p at negate opened (Some r) = ReadsOne p at negate opened r

  -- the bracket that was opened before `at`
  abbrev pub ReadsBracket : ℕ → Bool → ℕ → Option Read → Type 0
  ReadsBracket at negate opened r = (start : ℕ) → start < at → after q start ≡ opening ∷ after q at → Reads single start negate opened r
