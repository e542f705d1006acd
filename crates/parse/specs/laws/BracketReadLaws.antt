-- The returns of the routine for brackets, where it reads what is in them and where it passes over it. Assumes nothing.
use Rattle.std.specs.Prelude.{ℕ, zero, suc, ◌+◌, ◌≤◌, ◌<◌, Bool, true, false, List, [], ◌∷◌, ◌≡◌, refl, ltb, length}
use Rattle.std.proofs.Common.{arith, sym, ap, ◌∙◌, lt-ltb}
use Rattle.values.specs.Outcomes.{Res}
use Rattle.values.specs.laws.TestLaws.{clash}
use Rattle.grammar.specs.Filters.{Filter, bracket, depth, answered}
use Rattle.grammar.specs.Grammar.{Symbol, leaf_of, and_word, or_word, not_word, opening, closing, unreadable}
use Rattle.grammar.specs.Parser.{Found, found, nothing, ◌>>=◌, closed, single_with, single, disjunction}
use Rattle.grammar.specs.code.Skimming.{past, broken, operand}
use Rattle.grammar.specs.laws.FilterLaws.{read_bracket}
use Rattle.grammar.proofs.ParserLaws.{single_is}
use Rattle.grammar.proofs.SkimmingLaws.{skimmed, skimming}
use Rattle.leaves.specs.Fitting.{Leaf}
use Rattle.parse.specs.FilterText.{bracket_limit, turn}
use Rattle.parse.specs.code.Reading.{filter_to, Tells, FindsOne, FindsNone}
use Rattle.parse.specs.laws.SingleReadLaws.{none_found}
use Rattle.parse.specs.declared.read.Ahead.{Ahead}
use Rattle.parse.specs.declared.read.Read.{Read}

abbrev pub is_closing : List (Symbol Leaf) → Bool
is_closing [] = false
is_closing (leaf_of l ∷ ts) = false
is_closing (and_word ∷ ts) = false
is_closing (or_word ∷ ts) = false
is_closing (not_word ∷ ts) = false
is_closing (opening ∷ ts) = false
is_closing (closing ∷ ts) = true
is_closing (unreadable ∷ ts) = false

not_closed : (f : Filter Leaf) (ts : List (Symbol Leaf)) → is_closing ts ≡ false → closed f ts ≡ nothing
not_closed f [] e = refl
not_closed f (leaf_of l ∷ ts) e = refl
not_closed f (and_word ∷ ts) e = refl
not_closed f (or_word ∷ ts) e = refl
not_closed f (not_word ∷ ts) e = refl
not_closed f (opening ∷ ts) e = refl
not_closed f (closing ∷ ts) e = clash refl e
not_closed f (unreadable ∷ ts) e = refl

-- what was passed over closes a bracket, or nothing does
nothing_skimmed : (x : Found Leaf) → skimmed x ≡ broken → x ≡ nothing
nothing_skimmed nothing e = refl
nothing_skimmed (found f rest) e = cc

bracket_skimmed : (x : Found Leaf) (rest : List (Symbol Leaf)) → skimmed (x >>= closed) ≡ past rest → (f : Filter Leaf) × (x >>= closed ≡ found (bracket f) rest)
bracket_skimmed nothing rest e = cc
bracket_skimmed (found f ts) rest e = go ts e
  where
    go : (ts : List (Symbol Leaf)) → skimmed (closed f ts) ≡ past rest → (g : Filter Leaf) × (closed f ts ≡ found (bracket g) rest)
    go [] e = cc
    go (leaf_of l ∷ ts) e = cc
    go (and_word ∷ ts) e = cc
    go (or_word ∷ ts) e = cc
    go (not_word ∷ ts) e = cc
    go (opening ∷ ts) e = cc
    go (closing ∷ ts) e = let same : ts ≡ rest = cc in (f, rw same)
    go (unreadable ∷ ts) e = cc

module _ (after : ℕ → List (Symbol Leaf)) (size : ℕ) (ask : Leaf → Res Bool) (at : ℕ) (negate : Bool) (opened start : ℕ) (onward : at < start)
    (goes : after at ≡ opening ∷ after start) where
  counts : length (after at) ≡ suc (length (after start))
  counts = ap length goes

  -- ---- what is in the brackets was read
  pub inner_none : FindsNone after size ask disjunction start → FindsNone after size ask single at
  inner_none h = none_found after size ask at (λ n m. rw (goes, h n (omega (arith, counts))))

  module _ {r : Read} (h : FindsOne after size ask disjunction start negate (opened + 1) r) where
    pub unclosed : is_closing (after r.next) ≡ false → FindsNone after size ask single at
    unclosed other = none_found after size ask at (λ n m. let f = h.says n (omega (arith, counts)) in rw (goes, f.1) (not_closed f.0 (after r.next) other))

    pub bracket_read : (end : ℕ) (ahead : Ahead) (to : ℕ) → after r.next ≡ closing ∷ after end → r.next < end → end ≤ size
        → FindsOne after size ask single at negate opened (filter_to end r.leaves r.deep r.answer ahead to)
    bracket_read end ahead to shut past_it room = record {
      within = room;
      few = omega (arith, h.few);
      forward = omega (arith, h.forward);
      shorter = omega (arith, counts, h.shorter, ap length shut);
      says = λ n m. go n m;
    }
      where
        told : (f : Filter Leaf) → Tells after size ask negate (opened + 1) r f
            → Tells after size ask negate opened (filter_to end r.leaves r.deep r.answer ahead to) (bracket f)
        told f t = record {
          deeper = let e : opened + 1 + depth f ≡ opened + suc (depth f) = omega arith in t.deeper ∙ ap (ltb bracket_limit) e;
          counted = t.counted;
          answers = λ d. t.answers d ∙ ap (answered ask) (sym (read_bracket turn negate f));
        }

        go : (n : ℕ) → length (after at) < n → (f : Filter Leaf) × (single n (after at) ≡ found f (after end))
            × Tells after size ask negate opened (filter_to end r.leaves r.deep r.answer ahead to) f
        go zero m = absurd (omega arith)
        go (suc n) m =
            let f = h.says n (omega (arith, counts)) in (
              bracket f.0,
              single_is n (after at) ∙ ap (single_with (single n) (disjunction n)) goes ∙ ap (λ x. x >>= closed) f.1 ∙ ap (closed f.0) shut,
              told f.0 f.2,
            )

  -- ---- what is in the brackets was passed over
  skims : (n : ℕ) → length (after at) < suc n → skimmed (disjunction n (after start) >>= closed) ≡ operand (after start) 0
  skims n m = sym (skimming n (after start) (omega (arith, counts)))

  pub skim_none : operand (after start) 0 ≡ broken → FindsNone after size ask single at
  skim_none none = none_found after size ask at (λ n m. rw goes (nothing_skimmed _ (skims n m ∙ none)))

  pub skim_one : bracket_limit ≤ opened → (end : ℕ) → operand (after start) 0 ≡ past (after end) → start < end → end ≤ size
      → length (after end) < length (after start) → (answer : Res Bool) (ahead : Ahead) (to : ℕ)
      → FindsOne after size ask single at negate opened (filter_to end 0 true answer ahead to)
  skim_one many end shut later room fewer answer ahead to = record {
    within = room;
    few = omega arith;
    forward = omega arith;
    shorter = omega (arith, counts);
    says = λ n m. go n m;
  }
    where
      told : (f : Filter Leaf) → Tells after size ask negate opened (filter_to end 0 true answer ahead to) (bracket f)
      told f = record {
        deeper = sym (lt-ltb bracket_limit (opened + suc (depth f)) (omega arith));
        counted = λ t. clash refl t;
        answers = λ t. clash refl t;
      }

      go : (n : ℕ) → length (after at) < n → (f : Filter Leaf) × (single n (after at) ≡ found f (after end))
          × Tells after size ask negate opened (filter_to end 0 true answer ahead to) f
      go zero m = absurd (omega arith)
      go (suc n) m =
          let f = bracket_skimmed (disjunction n (after start)) (after end) (skims n m ∙ shut) in
          (bracket f.0, rw (single_is n (after at), goes) f.1, told f.0)
