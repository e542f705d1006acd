-- The grammar as a parser: the filter that begins a row of symbols, and the symbols after it; and what it finds. Assumes nothing.
use Rattle.std.specs.Prelude.{ℕ, zero, suc, Bool, true, false, cond, List, [], ◌∷◌, ◌↔◌, ◌≡◌, refl, length}
use Rattle.grammar.specs.Filters.{Filter, leaf, either, both, opposite, bracket}
use Rattle.grammar.specs.Grammar.{Symbol, leaf_of, and_word, or_word, not_word, opening, closing, unreadable, Derives}

pub data Found (L : Type 0) : Type 0 where
  found : Filter L → List (Symbol L) → Found L
  nothing : Found L

infixr 20 ◌>>=◌
abbrev pub ◌>>=◌ : {L : Type 0} → Found L → (Filter L → List (Symbol L) → Found L) → Found L
◌>>=◌ (found f rest) k = k f rest
◌>>=◌ nothing k = nothing

abbrev pub Parser : Type 0 → Type 0
Parser L = List (Symbol L) → Found L

-- ---- the symbols apart
module _ {L : Type 0} where
  abbrev pub is_and : Symbol L → Bool
  is_and (leaf_of l) = false
  is_and and_word = true
  is_and or_word = false
  is_and not_word = false
  is_and opening = false
  is_and closing = false
  is_and unreadable = false

  abbrev pub is_or : Symbol L → Bool
  is_or (leaf_of l) = false
  is_or and_word = false
  is_or or_word = true
  is_or not_word = false
  is_or opening = false
  is_or closing = false
  is_or unreadable = false

-- as long as the word follows, one more of p, joined from the left. The first number ends the recursion: it is more than the symbols left
module _ {L : Type 0} (is_word : Symbol L → Bool) (join : Filter L → Filter L → Filter L) (p : Parser L) where
  abbrev pub more : ℕ → Filter L → Parser L
  more zero f ts = nothing
  more (suc k) f [] = found f []
  more (suc k) f (t ∷ ts) = cond (is_word t) (p ts >>= λ g rest. more k (join f g) rest) (found f (t ∷ ts))

  abbrev pub chain : Parser L
  chain ts = p ts >>= λ f rest. more (suc (length ts)) f rest

abbrev pub closed : {L : Type 0} → Filter L → Parser L
closed f [] = nothing
closed f (leaf_of l ∷ ts) = nothing
closed f (and_word ∷ ts) = nothing
closed f (or_word ∷ ts) = nothing
closed f (not_word ∷ ts) = nothing
closed f (opening ∷ ts) = nothing
closed f (closing ∷ ts) = found (bracket f) ts
closed f (unreadable ∷ ts) = nothing

-- of a parser for what stands after a `not`, and one for what stands in brackets
abbrev pub single_with : {L : Type 0} → Parser L → Parser L → Parser L
single_with again inner [] = nothing
single_with again inner (leaf_of l ∷ ts) = found (leaf l) ts
single_with again inner (and_word ∷ ts) = nothing
single_with again inner (or_word ∷ ts) = nothing
single_with again inner (not_word ∷ ts) = again ts >>= λ f rest. found (opposite f) rest
single_with again inner (opening ∷ ts) = inner ts >>= closed
single_with again inner (closing ∷ ts) = nothing
single_with again inner (unreadable ∷ ts) = nothing

-- the number is more than the symbols left
unfoldable pub single : {L : Type 0} → ℕ → Parser L
single zero ts = nothing
single (suc n) ts = single_with (single n) (chain is_or either (chain is_and both (single n))) ts

unfoldable pub conjunction : {L : Type 0} → ℕ → Parser L
conjunction n = chain is_and both (single n)

unfoldable pub disjunction : {L : Type 0} → ℕ → Parser L
disjunction n = chain is_or either (conjunction n)

-- what it finds: of a whole row of symbols what the grammar derives, and nothing else (`proofs/ParserLaws`, `parser_means`)
abbrev pub ParserMeans : Type 1
ParserMeans = (L : Type 0) (s : List (Symbol L)) (f : Filter L) → (disjunction (suc (length s)) s ≡ found f []) ↔ Derives s f

-- a or b or c is (a or b) or c
from_the_left : disjunction {L = ℕ} 9 (leaf_of 1 ∷ or_word ∷ leaf_of 2 ∷ or_word ∷ leaf_of 3 ∷ []) ≡ found (either (either (leaf 1) (leaf 2)) (leaf 3)) []
unfolding disjunction conjunction single
from_the_left = refl
