-- The grammar of filters, as document 02 has it: what stands in a row of symbols, and what is left after it. A symbol is a leaf, a word or a bracket. Assumes
-- nothing.
use Rattle.std.specs.Prelude.{List, [], ◌∷◌}
use Rattle.grammar.specs.Filters.{Filter, leaf, either, both, opposite, bracket}

-- `unreadable` stands for a text that no symbol begins: nothing is derived from it
pub data Symbol (L : Type 0) : Type 0 where
  leaf_of : L → Symbol L
  and_word or_word not_word opening closing unreadable : Symbol L

mutual
  -- "`not` binds tightest"; "brackets group"
  pub data Single {L : Type 0} : List (Symbol L) → Filter L → List (Symbol L) → Type 0 where
    a_leaf : {rest : List (Symbol L)} {l : L} → Single (leaf_of l ∷ rest) (leaf l) rest
    a_not : {us rest : List (Symbol L)} {f : Filter L} → Single us f rest → Single (not_word ∷ us) (opposite f) rest
    in_brackets : {us rest : List (Symbol L)} {f : Filter L} → Disjunction us f (closing ∷ rest) → Single (opening ∷ us) (bracket f) rest

  -- "then `and`", "from the left"
  pub data Conjunction {L : Type 0} : List (Symbol L) → Filter L → List (Symbol L) → Type 0 where
    one_single : {ts rest : List (Symbol L)} {f : Filter L} → Single ts f rest → Conjunction ts f rest
    and_single : {ts us rest : List (Symbol L)} {f g : Filter L} → Conjunction ts f (and_word ∷ us) → Single us g rest → Conjunction ts (both f g) rest

  -- "then `or`", "from the left"
  pub data Disjunction {L : Type 0} : List (Symbol L) → Filter L → List (Symbol L) → Type 0 where
    one_conjunction : {ts rest : List (Symbol L)} {f : Filter L} → Conjunction ts f rest → Disjunction ts f rest
    or_conjunction : {ts us rest : List (Symbol L)} {f g : Filter L} → Disjunction ts f (or_word ∷ us) → Conjunction us g rest → Disjunction ts (either f g) rest

-- a whole text
abbrev pub Derives : {L : Type 0} → List (Symbol L) → Filter L → Type 0
Derives symbols f = Disjunction symbols f []
