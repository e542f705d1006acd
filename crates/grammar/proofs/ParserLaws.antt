-- The parser finds a filter exactly where the grammar derives it. Assumes nothing.
use Prim.Native.Nat.{ℕ, zero, suc, ◌+◌, ◌≤◌, ◌<◌}
use Rattle.std.proofs.Common.{arith, ◌∙◌}
use Rattle.std.specs.Prelude.{false, List, [], ◌∷◌, ◌≡◌, length}
use Rattle.std.proofs.Math.Path.{refl}
use Rattle.grammar.specs.Filters.{Filter, leaf, either, both, opposite, bracket, leaves}
use Rattle.grammar.specs.Grammar.{Symbol, leaf_of, and_word, or_word, not_word, opening, closing, unreadable}
use Rattle.grammar.specs.Grammar.{Single, a_leaf, a_not, in_brackets}
use Rattle.grammar.specs.Grammar.{Conjunction, one_single, and_single, Disjunction, one_conjunction, or_conjunction}
use Rattle.grammar.specs.Parser.{found, Parser, is_and, is_or, chain, closed, single_with, single, conjunction, disjunction, ParserMeans}
use Rattle.grammar.specs.laws.ChainLaws.{no_filter_lem, same, bound, only_and, only_or, begins, chain_ends}
use Rattle.grammar.specs.laws.ChainLaws.{Reached, reached_first, reached_next, reached_last}

abbrev pub Sound : {L : Type 0} → Parser L → (List (Symbol L) → Filter L → List (Symbol L) → Type 0) → Type 0
Sound {L} p D = (ts : List (Symbol L)) (f : Filter L) (rest : List (Symbol L)) → p ts ≡ found f rest → D ts f rest

-- ---- what is found is derived
module _ {L : Type 0} where
  and_sound : (p : Parser L) → Sound p Single → Sound (chain is_and both p) Conjunction
  and_sound p h ts f rest e =
      (chain_ends is_and both p (Conjunction ts) (λ f g t us r d is e. and_single (rw (only_and t is) at d) (h us g r e)) ts f rest
      (λ g r e. one_single (h ts g r e)) e).0

  or_sound : (p : Parser L) → Sound p Conjunction → Sound (chain is_or either p) Disjunction
  or_sound p h ts f rest e =
      (chain_ends is_or either p (Disjunction ts) (λ f g t us r d is e. or_conjunction (rw (only_or t is) at d) (h us g r e)) ts f rest
      (λ g r e. one_conjunction (h ts g r e)) e).0

  closed_sound : (us : List (Symbol L)) (f g : Filter L) (r rest : List (Symbol L)) → Disjunction us g r → closed g r ≡ found f rest
      → Single (opening ∷ us) f rest
  closed_sound us f g [] rest d e = no_filter_lem e
  closed_sound us f g (leaf_of l ∷ r) rest d e = no_filter_lem e
  closed_sound us f g (and_word ∷ r) rest d e = no_filter_lem e
  closed_sound us f g (or_word ∷ r) rest d e = no_filter_lem e
  closed_sound us f g (not_word ∷ r) rest d e = no_filter_lem e
  closed_sound us f g (opening ∷ r) rest d e = no_filter_lem e
  closed_sound us f g (closing ∷ r) rest d e = same (Single (opening ∷ us)) (in_brackets d) e
  closed_sound us f g (unreadable ∷ r) rest d e = no_filter_lem e

  with_sound : (again inner : Parser L) → Sound again Single → Sound inner Disjunction → Sound (single_with again inner) Single
  with_sound again inner h k [] f rest e = no_filter_lem e
  with_sound again inner h k (leaf_of l ∷ ts) f rest e = same (Single (leaf_of l ∷ ts)) a_leaf e
  with_sound again inner h k (and_word ∷ ts) f rest e = no_filter_lem e
  with_sound again inner h k (or_word ∷ ts) f rest e = no_filter_lem e
  with_sound again inner h k (not_word ∷ ts) f rest e = let x = bound (again ts) _ e in same (Single (not_word ∷ ts)) (a_not (h ts x.0 x.1 x.2)) x.3
  with_sound again inner h k (opening ∷ ts) f rest e =
      let x = bound (inner ts) closed e in
      closed_sound ts f x.0 x.1 rest (k ts x.0 x.1 x.2) x.3
  with_sound again inner h k (closing ∷ ts) f rest e = no_filter_lem e
  with_sound again inner h k (unreadable ∷ ts) f rest e = no_filter_lem e

  pub single_sound : (n : ℕ) → Sound {L = L} (single n) Single
  unfolding single
  single_sound zero ts f rest e = no_filter_lem e
  single_sound (suc n) ts f rest e = with_sound _ _ (single_sound n) (or_sound _ (and_sound _ (single_sound n))) ts f rest e

  pub conjunction_sound : (n : ℕ) → Sound {L = L} (conjunction n) Conjunction
  unfolding conjunction
  conjunction_sound n = and_sound (single n) (single_sound n)

  pub disjunction_sound : (n : ℕ) → Sound {L = L} (disjunction n) Disjunction
  unfolding disjunction
  disjunction_sound n = or_sound (conjunction n) (conjunction_sound n)

-- ---- what is derived takes a symbol at least, and one for each leaf
pub record Takes {L : Type 0} (ts : List (Symbol L)) (f : Filter L) (rest : List (Symbol L)) : Type 0 where
  pub shorter : length rest < length ts
  pub for_leaves : leaves f + length rest ≤ length ts

module _ {L : Type 0} where
  then_takes : {ts us rest : List (Symbol L)} {t : Symbol L} {f g h : Filter L} → leaves h ≡ leaves f + leaves g
      → Takes ts f (t ∷ us) → Takes us g rest → Takes ts h rest
  then_takes e x y = record { shorter = omega (arith, x.shorter, y.shorter); for_leaves = omega (arith, e, x.for_leaves, y.for_leaves) }

  mutual
    single_takes : {ts rest : List (Symbol L)} {f : Filter L} → Single ts f rest → Takes ts f rest
    single_takes a_leaf = record { shorter = omega arith; for_leaves = omega arith }
    single_takes (a_not d) = let x = single_takes d in record { shorter = omega (arith, x.shorter); for_leaves = omega (arith, x.for_leaves) }
    single_takes (in_brackets d) = let x = disjunction_takes d in record { shorter = omega (arith, x.shorter); for_leaves = omega (arith, x.for_leaves) }

    conjunction_takes : {ts rest : List (Symbol L)} {f : Filter L} → Conjunction ts f rest → Takes ts f rest
    conjunction_takes (one_single d) = single_takes d
    conjunction_takes (and_single d e) = then_takes refl (conjunction_takes d) (single_takes e)

    pub disjunction_takes : {ts rest : List (Symbol L)} {f : Filter L} → Disjunction ts f rest → Takes ts f rest
    disjunction_takes (one_conjunction d) = conjunction_takes d
    disjunction_takes (or_conjunction d e) = then_takes refl (disjunction_takes d) (conjunction_takes e)

-- found filters leave fewer symbols
abbrev pub Shortens : {L : Type 0} → Parser L → Type 0
Shortens {L} p = (ts : List (Symbol L)) (f : Filter L) (rest : List (Symbol L)) → p ts ≡ found f rest → length rest < length ts

module _ {L : Type 0} where
  pub single_shorter : (n : ℕ) → Shortens {L = L} (single n)
  single_shorter n ts f rest e = (single_takes (single_sound n ts f rest e)).shorter

  pub conjunction_shorter : (n : ℕ) → Shortens {L = L} (conjunction n)
  conjunction_shorter n ts f rest e = (conjunction_takes (conjunction_sound n ts f rest e)).shorter

  pub disjunction_shorter : (n : ℕ) → Shortens {L = L} (disjunction n)
  disjunction_shorter n ts f rest e = (disjunction_takes (disjunction_sound n ts f rest e)).shorter

-- ---- what is derived is found
module _ {L : Type 0} where
  pub single_is : (n : ℕ) (ts : List (Symbol L)) → single (suc n) ts ≡ single_with (single n) (disjunction n) ts
  unfolding single disjunction conjunction
  single_is n ts = refl

  bracket_found : (n : ℕ) (us : List (Symbol L)) (f : Filter L) (rest : List (Symbol L))
      → Reached is_or either (chain is_and both (single n)) us f (closing ∷ rest) → single (suc n) (opening ∷ us) ≡ found (bracket f) rest
  unfolding single
  bracket_found n us f rest x = rw (reached_last is_or either (chain is_and both (single n)) us f (closing ∷ rest) x refl)

  mutual
    single_found : {ts rest : List (Symbol L)} {f : Filter L} → Single ts f rest → (n : ℕ) → length ts < n → single n ts ≡ found f rest
    single_found a_leaf zero h = absurd (omega arith)
    single_found a_leaf (suc n) h = single_is n _
    single_found (a_not d) zero h = absurd (omega arith)
    single_found (a_not d) (suc n) h = single_is n _ ∙ rw (single_found d n (omega arith))
    single_found (in_brackets d) zero h = absurd (omega arith)
    single_found (in_brackets d) (suc n) h = bracket_found n _ _ _ (disjunction_found d refl n (omega arith))

    conjunction_found : {ts rest : List (Symbol L)} {f : Filter L} → Conjunction ts f rest → (n : ℕ) → length ts < n
        → Reached is_and both (single n) ts f rest
    conjunction_found (one_single d) n h = reached_first is_and both _ _ _ _ (single_found d n h) (single_takes d).shorter
    conjunction_found (and_single d e) n h =
        reached_next is_and both _ _ _ _ _ _ _ refl (conjunction_found d n h) (single_found e n (omega (arith, (conjunction_takes d).shorter)))
        (single_takes e).shorter

    -- where no `and` follows, so that its last conjunction ends with it
    disjunction_found : {ts rest : List (Symbol L)} {f : Filter L} → Disjunction ts f rest → begins is_and rest ≡ false → (n : ℕ) → length ts < n
        → Reached is_or either (chain is_and both (single n)) ts f rest
    disjunction_found (one_conjunction d) other n h =
        reached_first is_or either _ _ _ _ (reached_last is_and both _ _ _ _ (conjunction_found d n h) other) (conjunction_takes d).shorter
    disjunction_found (or_conjunction d e) other n h =
        reached_next is_or either _ _ _ _ _ _ _ refl (disjunction_found d refl n h)
        (reached_last is_and both _ _ _ _ (conjunction_found e n (omega (arith, (disjunction_takes d).shorter))) other) (conjunction_takes e).shorter

-- ---- a whole text
pub parser_means : ParserMeans
unfolding disjunction conjunction
parser_means L s f = (
  disjunction_sound (suc (length s)) s f [],
  λ d. reached_last is_or either _ s f [] (disjunction_found d refl (suc (length s)) (omega arith)) refl,
)

-- one symbol was taken for each leaf, at least
pub found_leaves : {L : Type 0} (n : ℕ) (ts : List (Symbol L)) (f : Filter L) (rest : List (Symbol L)) → disjunction n ts ≡ found f rest
    → leaves f + length rest ≤ length ts
found_leaves n ts f rest e = (disjunction_takes (disjunction_sound n ts f rest e)).for_leaves

-- a or b and not c is a or (b and (not c)); 1, 2 and 3 stand for leaves
not_and_or : disjunction {L = ℕ} 9 (leaf_of 1 ∷ or_word ∷ leaf_of 2 ∷ and_word ∷ not_word ∷ leaf_of 3 ∷ []) ≡ found (either (leaf 1) (both (leaf 2) (opposite (leaf 3)))) []
unfolding disjunction conjunction single
not_and_or = refl
