-- The returns of the routines for not, for a leaf and for brackets: what a filter at one place comes to, by its first symbol. Assumes nothing.
use Rattle.std.specs.Prelude.{ℕ, zero, suc, ◌+◌, ◌≤◌, ◌<◌, Bool, true, false, not, cond, List, [], ◌∷◌, ◌≡◌, refl, length}
use Rattle.std.proofs.Common.{arith, sym, ap, ◌∙◌, le-ltb}
use Rattle.values.specs.Outcomes.{Res}
use Rattle.values.specs.laws.TestLaws.{clash}
use Rattle.grammar.specs.Filters.{Filter, leaf, opposite, answered}
use Rattle.grammar.specs.Grammar.{Symbol, leaf_of, and_word, or_word, not_word, opening, closing, unreadable}
use Rattle.grammar.specs.Parser.{found, nothing, ◌>>=◌, single_with, single, disjunction}
use Rattle.grammar.specs.laws.FilterLaws.{read_leaf, read_opposite}
use Rattle.grammar.proofs.ParserLaws.{single_is}
use Rattle.leaves.specs.Fitting.{Leaf}
use Rattle.parse.specs.FilterText.{bracket_limit, turn}
use Rattle.parse.specs.code.Reading.{filter_to, Tells, FindsOne, FindsNone}
use Rattle.parse.specs.declared.read.Ahead.{Ahead}
use Rattle.parse.specs.declared.read.Read.{Read}

-- a filter begins with a leaf, `not` or a bracket
abbrev pub begins_filter : List (Symbol Leaf) → Bool
begins_filter [] = false
begins_filter (leaf_of l ∷ ts) = true
begins_filter (and_word ∷ ts) = false
begins_filter (or_word ∷ ts) = false
begins_filter (not_word ∷ ts) = true
begins_filter (opening ∷ ts) = true
begins_filter (closing ∷ ts) = false
begins_filter (unreadable ∷ ts) = false

no_filter : (n : ℕ) (ts : List (Symbol Leaf)) → begins_filter ts ≡ false → single_with (single n) (disjunction n) ts ≡ nothing
no_filter n [] b = refl
no_filter n (leaf_of l ∷ ts) b = clash refl b
no_filter n (and_word ∷ ts) b = refl
no_filter n (or_word ∷ ts) b = refl
no_filter n (not_word ∷ ts) b = clash refl b
no_filter n (opening ∷ ts) b = clash refl b
no_filter n (closing ∷ ts) b = refl
no_filter n (unreadable ∷ ts) b = refl

module _ (after : ℕ → List (Symbol Leaf)) (size : ℕ) (ask : Leaf → Res Bool) (at : ℕ) where
  -- the parser's number is one more than what stands behind the first symbol needs
  pub none_found : ((n : ℕ) → length (after at) < suc n → single_with (single n) (disjunction n) (after at) ≡ nothing) → FindsNone after size ask single at
  none_found k n m = go n m
    where
      go : (n : ℕ) → length (after at) < n → single n (after at) ≡ nothing
      go zero m = absurd (omega arith)
      go (suc n) m = single_is n (after at) ∙ k n m

  pub other_read : begins_filter (after at) ≡ false → FindsNone after size ask single at
  other_read b = none_found (λ n m. no_filter n (after at) b)

  module _ (negate : Bool) (opened start : ℕ) (onward : at < start) where
    -- ---- a leaf
    module _ (l : Leaf) (goes : after at ≡ leaf_of l ∷ after start) (room : start ≤ size) (few : opened ≤ bracket_limit) where
      pub leaf_read : (answer : Res Bool) (ahead : Ahead) (past : ℕ) → answer ≡ ask (cond negate (turn l) l)
          → FindsOne after size ask single at negate opened (filter_to start 1 false answer ahead past)
      leaf_read answer ahead past is = record {
        within = room;
        few = omega arith;
        forward = onward;
        shorter = omega (arith, ap length goes);
        says = λ n m. go n m;
      }
        where
          told : Tells after size ask negate opened (filter_to start 1 false answer ahead past) (leaf l)
          told = record {
            deeper = sym (le-ltb bracket_limit (opened + 0) (omega arith));
            counted = λ t. refl;
            answers = λ t. is ∙ ap (answered ask) (sym (read_leaf turn negate l));
          }

          go : (n : ℕ) → length (after at) < n → (f : Filter Leaf) × (single n (after at) ≡ found f (after start))
              × Tells after size ask negate opened (filter_to start 1 false answer ahead past) f
          go zero m = absurd (omega arith)
          go (suc n) m = (leaf l, single_is n (after at) ∙ ap (single_with (single n) (disjunction n)) goes, told)

    -- ---- `not`
    module _ (goes : after at ≡ not_word ∷ after start) where
      counts : length (after at) ≡ length (not_word ∷ after start)
      counts = ap length goes

      pub not_none : FindsNone after size ask single start → FindsNone after size ask single at
      not_none h = none_found (λ n m. rw (goes, h n (omega (arith, counts))))

      pub not_one : {r : Read} → FindsOne after size ask single start (not negate) opened r → FindsOne after size ask single at negate opened r
      not_one {r} h = record {
        within = h.within;
        few = omega (arith, h.few);
        forward = omega (arith, h.forward);
        shorter = omega (arith, counts, h.shorter);
        says = λ n m. go n m;
      }
        where
          opposed : (f : Filter Leaf) → Tells after size ask (not negate) opened r f → Tells after size ask negate opened r (opposite f)
          opposed f t = record {
            deeper = t.deeper;
            counted = t.counted;
            answers = λ d. t.answers d ∙ ap (answered ask) (sym (read_opposite turn negate f));
          }

          go : (n : ℕ) → length (after at) < n → (f : Filter Leaf) × (single n (after at) ≡ found f (after r.next)) × Tells after size ask negate opened r f
          go zero m = absurd (omega arith)
          go (suc n) m =
              let f = h.says n (omega (arith, counts)) in (
                opposite f.0,
                single_is n (after at) ∙ ap (single_with (single n) (disjunction n)) goes ∙ ap (λ x. x >>= λ g rest. found (opposite g) rest) f.1,
                opposed f.0 f.2,
              )
