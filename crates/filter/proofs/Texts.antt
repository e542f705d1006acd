-- What a whole text is answered, by what was read of it. Assumes nothing.
use Rattle.std.proofs.Common.{ℕ, suc, ◌+◌, ◌≤◌, ◌<◌, Bool, true, false, List, [], ◌∷◌, ◌≡◌, ◌≢◌, refl, sym, ◌∙◌, arith, length, None, Ok, Err}
use borrow.Author.Tests.{le-leb, lt-leb, ltb-true, ltb-false}
use lib.Dec.{leb}
use Rattle.values.specs.Outcomes.{Res, need, ◌>>=◌, ◌>>◌}
use Rattle.values.specs.declared.error.ErrorKind.TheVariants.{OutsideGrammar, TooLarge}
use Rattle.grammar.specs.Filters.{Filter, leaves, depth}
use Rattle.grammar.specs.Grammar.{Symbol}
use Rattle.grammar.specs.Parser.{Found, found, nothing, disjunction}
use Rattle.leaves.specs.Fitting.{Leaf}
use Rattle.parse.specs.FilterText.{text_limit, leaf_limit, bracket_limit, whole, filter_in}
use Rattle.parse.specs.code.FilterReads.{after, ask, columns_of, ReadsOne, Reads}
use Rattle.parse.specs.code.Reading.{Tells}
use Rattle.parse.specs.declared.read.Ahead.{Ahead}
use Rattle.parse.specs.declared.read.Ahead.TheVariants as ahead
use Rattle.parse.specs.declared.read.Read.{Read}
use Rattle.parse.specs.declared.read.Word.TheVariants.{And, Or}
use Rattle.parse.specs.declared.request.Request.{Request}
use Rattle.parse.proofs.Aheads.{Shows, shows}
use Rattle.filter.specs.code.FilterAnswers.{text_answered}

-- a filter that has not too many leaves and open brackets
abbrev limited : Filter Leaf → Res (Filter Leaf)
limited f = do
  need (leb (leaves f) leaf_limit) TooLarge
  need (leb (depth f) bracket_limit) TooLarge
  Ok f

over_deep : (f : Filter Leaf) → bracket_limit < depth f → limited f ≡ Err TooLarge
over_deep f h = go (leb (leaves f) leaf_limit) refl
  where
    go : (b : Bool) → leb (leaves f) leaf_limit ≡ b → limited f ≡ Err TooLarge
    go true e = rw (e, lt-leb (depth f) bracket_limit h)
    go false e = rw e

over_many : (f : Filter Leaf) → leaf_limit < leaves f → limited f ≡ Err TooLarge
over_many f h = rw (lt-leb (leaves f) leaf_limit h)

within_limits : (f : Filter Leaf) → leaves f ≤ leaf_limit → depth f ≤ bracket_limit → limited f ≡ Ok f
within_limits f many deep = rw (le-leb (leaves f) leaf_limit many, le-leb (depth f) bracket_limit deep)

-- symbols after the filter
not_whole : (f : Filter Leaf) (ts : List (Symbol Leaf)) → ts ≢ [] → whole (found f ts) ≡ Err OutsideGrammar
not_whole f [] some = absurd (some refl)
not_whole f (t ∷ ts) some = refl

module _ (q : Request) where
  pub too_long : text_limit < length q.text.now → Err TooLarge ≡ text_answered q
  unfolding filter_in
  too_long h = rw (lt-leb (length q.text.now) text_limit h)

  not_end : (next past : ℕ) (k : Ahead) → Shows (columns_of q) q.text.now next k past → k ≢ ahead.End → after q next ≢ []
  not_end next past ahead.End seen other = absurd (other refl)
  not_end next past (ahead.Word And) seen other = λ e. let clash : [] ≡ _ = sym e ∙ seen.0 in cc
  not_end next past (ahead.Word Or) seen other = λ e. let clash : [] ≡ _ = sym e ∙ seen.0 in cc
  not_end next past ahead.Closing seen other = λ e. let clash : [] ≡ _ = sym e ∙ seen.0 in cc
  not_end next past ahead.Leaf seen other = λ e. rw e at seen
  not_end next past ahead.Not seen other = λ e. rw e at seen
  not_end next past ahead.Opening seen other = λ e. rw e at seen
  not_end next past ahead.Unreadable seen other = λ e. rw e at seen

  module _ (short : length q.text.now ≤ text_limit) where
    abbrev parsed : Found Leaf
    parsed = disjunction (suc (length (after q 0))) (after q 0)

    by_parser : (x : Found Leaf) → parsed ≡ x → filter_in (columns_of q) q.text.now ≡ (whole x >>= limited)
    unfolding filter_in
    by_parser x e = rw (le-leb (length q.text.now) text_limit short, e)

    pub no_filter : Reads q disjunction 0 false 0 None → Err OutsideGrammar ≡ text_answered q
    no_filter h = rw (by_parser nothing (h (suc (length (after q 0))) (omega arith)))

    module _ (r : Read) (h : ReadsOne q disjunction 0 false 0 r) where
      abbrev said : (f : Filter Leaf) × (parsed ≡ found f (after q r.next)) × Tells (after q) (length q.text.now) (ask q) false 0 r f
      said = h.one.says (suc (length (after q 0))) (omega arith)

      -- the text goes on
      pub goes_on : r.ahead ≢ ahead.End → Err OutsideGrammar ≡ text_answered q
      goes_on other = rw (by_parser _ said.1, not_whole said.0 (after q r.next) (not_end r.next r.past r.ahead (shows h.seen) other))

      -- it ends there
      module _ (ends : r.ahead ≡ ahead.End) where
        all_read : filter_in (columns_of q) q.text.now ≡ limited said.0
        all_read = let end : after q r.next ≡ [] = rw ends at (shows h.seen) in by_parser (found said.0 []) (rw end at said.1)

        pub too_deep : r.deep ≡ true → Err TooLarge ≡ text_answered q
        too_deep d =
            let deep = over_deep said.0 (omega (arith, ltb-true bracket_limit (0 + depth said.0) (sym said.2.deeper ∙ d))) in
            rw (all_read, deep)

        module _ (shallow : r.deep ≡ false) where
          pub too_many : leaf_limit < r.leaves → Err TooLarge ≡ text_answered q
          too_many m = rw (all_read, over_many said.0 (rw (← said.2.counted shallow) m))

          pub all_answered : r.leaves ≤ leaf_limit → r.answer ≡ text_answered q
          all_answered m =
              let deep = ltb-false bracket_limit (0 + depth said.0) (sym said.2.deeper ∙ shallow) in
              rw (all_read, within_limits said.0 (rw (← said.2.counted shallow) m) (omega arith)) (said.2.answers shallow)

pub ruleset text_answers = (too_long, no_filter, goes_on, too_deep, too_many, all_answered)
