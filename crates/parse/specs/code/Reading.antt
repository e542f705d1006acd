-- What the routines that read a filter give, as the grammar has it. `after` gives the symbols of the text from a place on, `ask` a leaf's answer. Assumes nothing.
use Rattle.std.specs.Prelude.{ℕ, ◌+◌, ◌≤◌, ◌<◌, Bool, false, not, ◌||◌, List, ◌≡◌, nat_lt, length}
use Rattle.values.specs.Outcomes.{Res}
use Rattle.grammar.specs.Filters.{Filter, leaves, depth, joined, answered}
use Rattle.grammar.specs.Grammar.{Symbol}
use Rattle.grammar.specs.Parser.{found, nothing, Parser}
use Rattle.grammar.specs.laws.FilterLaws.{read, join_as}
use Rattle.leaves.specs.Fitting.{Leaf}
use Rattle.parse.specs.FilterText.{bracket_limit, turn}
use Rattle.parse.specs.declared.read.Ahead.{Ahead}
use Rattle.parse.specs.declared.read.Read.{Read}
use Rattle.parse.specs.declared.read.Word.{Word}
use Rattle.parse.specs.declared.read.Word.TheVariants.{And, Or}

-- whether a word joins two filters as and does: under an odd number of nots each becomes the other
abbrev pub all_of : Word → Bool → Bool
all_of And negate = not negate
all_of Or negate = negate

-- a filter up to `next`, with what stands after it
abbrev pub filter_to : ℕ → ℕ → Bool → Res Bool → Ahead → ℕ → Read
filter_to next count deep answer ahead past = record { next = next; past = past; leaves = count; ahead = ahead; deep = deep; answer = answer }

-- two filters with a word between them
abbrev pub join_read : Bool → Read → Read → Read
join_read all left right = record {
  next = right.next;
  past = right.past;
  leaves = left.leaves + right.leaves;
  ahead = right.ahead;
  deep = left.deep || right.deep;
  answer = joined (join_as all) left.answer right.answer;
}

module _ (after : ℕ → List (Symbol Leaf)) (size : ℕ) (ask : Leaf → Res Bool) where
  -- what is told of a filter under so many nots and open brackets: where too many are open, only that
  pub record Tells (negate : Bool) (opened : ℕ) (r : Read) (f : Filter Leaf) : Type 0 where
    pub deeper : r.deep ≡ nat_lt bracket_limit (opened + depth f)
    pub counted : r.deep ≡ false → r.leaves ≡ leaves f
    pub answers : r.deep ≡ false → r.answer ≡ answered ask (read turn negate f)

  -- a parser of the symbols from `at` on, with any number that is enough: it finds a filter, of which r tells, or nothing
  pub record FindsOne (p : ℕ → Parser Leaf) (at : ℕ) (negate : Bool) (opened : ℕ) (r : Read) : Type 0 where
    pub within : r.next ≤ size
    -- each leaf has taken a byte, and so has what is no leaf
    pub few : at + r.leaves < r.next + 1
    pub forward : at < r.next
    pub shorter : length (after r.next) < length (after at)
    pub says : (n : ℕ) → length (after at) < n → (f : Filter Leaf) × (p n (after at) ≡ found f (after r.next)) × Tells negate opened r f

  abbrev pub FindsNone : (ℕ → Parser Leaf) → ℕ → Type 0
  FindsNone p at = (n : ℕ) → length (after at) < n → p n (after at) ≡ nothing
