-- The symbol after a filter, by what it is to that. Assumes nothing.
use Rattle.std.proofs.Common.{ℕ, ◌≤◌, ◌<◌, List, [], ◌∷◌, ◌≡◌, length, drop}
use Rattle.columns.specs.Columns.{Column}
use Rattle.grammar.specs.Grammar.{Symbol, leaf_of, and_word, or_word, not_word, opening, closing, unreadable}
use Rattle.leaves.specs.Fitting.{Leaf}
use Rattle.leaves.specs.Symbols.{symbols}
use Rattle.leaves.specs.code.SymbolAnswers.{Symbolises}
use Rattle.leaves.specs.declared.symbol.Symbol as declared-symbol
use Rattle.leaves.specs.declared.symbol.Symbol.TheVariants as symbol
use Rattle.parse.specs.code.FilterReads.{ahead_of, Seen}
use Rattle.parse.specs.declared.read.Ahead.{Ahead}
use Rattle.parse.specs.declared.read.Ahead.TheVariants as ahead
use Rattle.parse.specs.declared.read.Word.{Word}
use Rattle.parse.specs.declared.read.Word.TheVariants.{And, Or}

-- symbols that begin with what cannot stand after a filter
abbrev pub IsOther : List (Symbol Leaf) → Type 0
IsOther [] = ⊥
IsOther (leaf_of l ∷ ts) = Unit {0}
IsOther (and_word ∷ ts) = ⊥
IsOther (or_word ∷ ts) = ⊥
IsOther (not_word ∷ ts) = Unit {0}
IsOther (opening ∷ ts) = Unit {0}
IsOther (closing ∷ ts) = ⊥
IsOther (unreadable ∷ ts) = Unit {0}

abbrev pub symbol_of : Word → Symbol Leaf
symbol_of And = and_word
symbol_of Or = or_word

-- the symbols of s from `next` on begin so, and go on with those from `past` on
abbrev pub Goes : List Column → List ℕ → ℕ → Symbol Leaf → ℕ → Type 0
Goes cs s next y past = (symbols cs (drop next s) ≡ y ∷ symbols cs (drop past s)) × (next < past) × (past ≤ length s)

-- what is seen, by cases
abbrev pub Shows : List Column → List ℕ → ℕ → Ahead → ℕ → Type 0
Shows cs s next ahead.End past = symbols cs (drop next s) ≡ []
Shows cs s next (ahead.Word word) past = Goes cs s next (symbol_of word) past
Shows cs s next ahead.Closing past = Goes cs s next closing past
Shows cs s next ahead.Leaf past = IsOther (symbols cs (drop next s))
Shows cs s next ahead.Not past = IsOther (symbols cs (drop next s))
Shows cs s next ahead.Opening past = IsOther (symbols cs (drop next s))
Shows cs s next ahead.Unreadable past = IsOther (symbols cs (drop next s))

shown : (cs : List Column) (s : List ℕ) (next past : ℕ) (y : declared-symbol.Symbol) → Symbolises cs s next y past → Shows cs s next (ahead_of y) past
shown cs s next past symbol.End h = h.is
shown cs s next past (symbol.Leaf leaf) h = rw h.is.2 tt
shown cs s next past symbol.And h = (h.is, h.forward, h.within)
shown cs s next past symbol.Or h = (h.is, h.forward, h.within)
shown cs s next past symbol.Not h = rw h.is tt
shown cs s next past symbol.Opening h = rw h.is tt
shown cs s next past symbol.Closing h = (h.is, h.forward, h.within)
shown cs s next past symbol.Unreadable h = rw h.is.1 tt

pub shows : {cs : List Column} {s : List ℕ} {next past : ℕ} {k : Ahead} → Seen cs s next k past → Shows cs s next k past
shows {cs} {s} {next} {past} h = rw h.of_kind (shown cs s next past h.symbol h.is)
