-- The rest of a bracket, passed over without recursion: an operand is expected, or a word between two, and so many brackets are open within it. Assumes nothing.
use Rattle.std.specs.Prelude.{ℕ, zero, suc, List, [], ◌∷◌}
use Rattle.grammar.specs.Grammar.{Symbol, leaf_of, and_word, or_word, not_word, opening, closing, unreadable}

pub data Skimmed (L : Type 0) : Type 0 where
  past : List (Symbol L) → Skimmed L
  broken : Skimmed L

-- where the outermost bracket closes, and where an inner one does
abbrev pub closes : {L : Type 0} → ℕ → Skimmed L → (ℕ → Skimmed L) → Skimmed L
closes zero here inner = here
closes (suc d) here inner = inner d

module _ {L : Type 0} where
  abbrev mutual
    pub operand : List (Symbol L) → ℕ → Skimmed L
    operand [] d = broken
    operand (leaf_of l ∷ ts) d = between ts d
    operand (and_word ∷ ts) d = broken
    operand (or_word ∷ ts) d = broken
    operand (not_word ∷ ts) d = operand ts d
    operand (opening ∷ ts) d = operand ts (suc d)
    operand (closing ∷ ts) d = broken
    operand (unreadable ∷ ts) d = broken

    pub between : List (Symbol L) → ℕ → Skimmed L
    between [] d = broken
    between (leaf_of l ∷ ts) d = broken
    between (and_word ∷ ts) d = operand ts d
    between (or_word ∷ ts) d = operand ts d
    between (not_word ∷ ts) d = broken
    between (opening ∷ ts) d = broken
    between (closing ∷ ts) d = closes d (past ts) (between ts)
    between (unreadable ∷ ts) d = broken
