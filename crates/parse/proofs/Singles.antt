-- The turns of the routine for not, and the returns of the one for brackets. Assumes nothing.
use Rattle.std.proofs.Common.{ℕ, ◌+◌, ◌≤◌, Bool, true, false, not, List, [], ◌∷◌, ◌≡◌, ◌≢◌, refl, sym, ap, subst, arith, length, drop, Option, Some, None}
use Rattle.values.specs.Outcomes.{Res}
use Rattle.columns.specs.Columns.{Column}
use Rattle.grammar.specs.Grammar.{Symbol, leaf_of, and_word, or_word, not_word, opening, closing, unreadable}
use Rattle.grammar.specs.Parser.{single, disjunction}
use Rattle.grammar.specs.code.Skimming.{broken, operand}
use Rattle.leaves.specs.Fitting.{Leaf}
use Rattle.leaves.specs.Symbols.{symbols}
use Rattle.leaves.specs.code.SymbolAnswers.{Symbolises}
use Rattle.leaves.specs.declared.leaf.Leaf as declared-leaf
use Rattle.leaves.specs.declared.symbol.Symbol as declared-symbol
use Rattle.leaves.specs.declared.symbol.Symbol.TheVariants as symbol
use Rattle.parse.specs.FilterText.{bracket_limit}
use Rattle.parse.specs.code.FilterReads.{after, ask, columns_of, Asks, Seen, ReadsOne, Reads, ReadsBracket}
use Rattle.parse.specs.code.Reading.{filter_to, FindsOne}
use Rattle.parse.specs.code.SkimAnswers.{SkimsOne}
use Rattle.parse.specs.declared.read.Ahead.{Ahead}
use Rattle.parse.specs.declared.read.Ahead.TheVariants as ahead
use Rattle.parse.specs.declared.read.Read.{Read}
use Rattle.parse.specs.declared.read.Word.TheVariants.{And, Or}
use Rattle.parse.specs.declared.request.Request.{Request}
use Rattle.parse.proofs.Aheads.{IsOther, Goes, Shows, shows}
use Rattle.parse.specs.laws.BracketReadLaws.{is_closing, inner_none, unclosed, bracket_read, skim_none, skim_one}
use Rattle.parse.specs.laws.SingleReadLaws.{begins_filter, other_read, leaf_read, not_none, not_one}

-- what was made of a filter up to `next`, with the symbol there
pub record FilterTo (q : Request) (next count : ℕ) (deep : Bool) (answer : Res Bool) (r : Read) : Type 0 where
  pub is : r ≡ filter_to next count deep answer r.ahead r.past
  pub seen : Seen (columns_of q) q.text.now next r.ahead r.past

module _ (q : Request) where
  filter_read : (next count : ℕ) (deep : Bool) (answer : Res Bool) (r : Read) (at : ℕ) (negate : Bool) (opened : ℕ) → FilterTo q next count deep answer r
      → FindsOne (after q) (length q.text.now) (ask q) single at negate opened (filter_to next count deep answer r.ahead r.past)
      → ReadsOne q single at negate opened r
  filter_read next count deep answer r at negate opened f h = record {
    one = subst (FindsOne (after q) (length q.text.now) (ask q) single at negate opened) (sym f.is) h;
    seen = subst (λ k. Seen (columns_of q) q.text.now k r.ahead r.past) (sym (ap (λ (x : Read). x.next) f.is)) f.seen;
  }

  -- from `at` to `here` there are nots: what is read from `here` on, turned so, is read from `at` on
  pub record Nots (at : ℕ) (negate : Bool) (opened here : ℕ) (turned : Bool) : Type 0 where
    pub back : (r : Option Read) → Reads q single here turned opened r → Reads q single at negate opened r
    pub onward : at ≤ here
    pub within : here ≤ length q.text.now

  module _ (at : ℕ) (negate : Bool) (opened here : ℕ) (turned : Bool) (h : Nots at negate opened here turned) (next : ℕ) where
    pub one_not : Symbolises (columns_of q) q.text.now here symbol.Not next → Nots at negate opened next (not turned)
    one_not y = record { back = λ r f. h.back r (before r f); onward = omega (arith, h.onward, y.forward); within = y.within }
      where
        before : (r : Option Read) → Reads q single next (not turned) opened r → Reads q single here turned opened r
        before None f = not_none (after q) (length q.text.now) (ask q) here turned opened next y.forward y.is f
        before (Some r) f = record { one = not_one (after q) (length q.text.now) (ask q) here turned opened next y.forward y.is f.one; seen = f.seen }

    pub leaf_there : (leaf : declared-leaf.Leaf) → Symbolises (columns_of q) q.text.now here (symbol.Leaf leaf) next → opened ≤ bracket_limit
        → (answer : Res Bool) → Asks q turned leaf answer → (r : Read) → FilterTo q next 1 false answer r → Reads q single at negate opened (Some r)
    leaf_there leaf y few answer asks r f =
        let one = leaf_read (after q) (length q.text.now) (ask q) here turned opened next y.forward y.is.0 y.is.2 y.within few answer r.ahead r.past
        (asks y.is.0 y.is.1) in
        h.back (Some r) (filter_read next 1 false answer r here turned opened f one)

    -- a symbol that begins no filter
    pub nothing_there : (k : declared-symbol.Symbol) → Symbolises (columns_of q) q.text.now here k next
        → k ≢ symbol.Not → ((leaf : declared-leaf.Leaf) → k ≢ symbol.Leaf leaf) → k ≢ symbol.Opening → Reads q single at negate opened None
    nothing_there k y a b c = h.back None (other_read (after q) (length q.text.now) (ask q) here (begins k y a b c))
      where
        begins : (k : declared-symbol.Symbol) → Symbolises (columns_of q) q.text.now here k next
            → k ≢ symbol.Not → ((leaf : declared-leaf.Leaf) → k ≢ symbol.Leaf leaf) → k ≢ symbol.Opening → begins_filter (after q here) ≡ false
        begins symbol.End y a b c = rw y.is refl
        begins (symbol.Leaf leaf) y a b c = absurd (b leaf refl)
        begins symbol.And y a b c = rw y.is refl
        begins symbol.Or y a b c = rw y.is refl
        begins symbol.Not y a b c = absurd (a refl)
        begins symbol.Opening y a b c = absurd (c refl)
        begins symbol.Closing y a b c = rw y.is refl
        begins symbol.Unreadable y a b c = rw y.is.1 refl

-- ---- brackets

other_closes : (ts : List (Symbol Leaf)) → IsOther ts → is_closing ts ≡ false
other_closes [] o = elim o [ ]
other_closes (leaf_of l ∷ ts) o = refl
other_closes (and_word ∷ ts) o = elim o [ ]
other_closes (or_word ∷ ts) o = elim o [ ]
other_closes (not_word ∷ ts) o = refl
other_closes (opening ∷ ts) o = refl
other_closes (closing ∷ ts) o = elim o [ ]
other_closes (unreadable ∷ ts) o = refl

not_closing : (cs : List Column) (s : List ℕ) (next past : ℕ) (k : Ahead) → Shows cs s next k past → k ≢ ahead.Closing → is_closing (symbols cs (drop next s)) ≡ false
not_closing cs s next past ahead.End seen other = rw seen refl
not_closing cs s next past (ahead.Word And) seen other = rw seen.0 refl
not_closing cs s next past (ahead.Word Or) seen other = rw seen.0 refl
not_closing cs s next past ahead.Closing seen other = absurd (other refl)
not_closing cs s next past ahead.Leaf seen other = other_closes _ seen
not_closing cs s next past ahead.Not seen other = other_closes _ seen
not_closing cs s next past ahead.Opening seen other = other_closes _ seen
not_closing cs s next past ahead.Unreadable seen other = other_closes _ seen

module _ (q : Request) (at : ℕ) (negate : Bool) (opened : ℕ) where
  -- one too many
  pub deep_passed : (next : ℕ) → SkimsOne (after q) (length q.text.now) at next → bracket_limit ≤ opened
      → (answer : Res Bool) (r : Read) → FilterTo q next 0 true answer r → ReadsBracket q at negate opened (Some r)
  deep_passed next k many answer r f start onward goes =
      filter_read q next 0 true answer r start negate opened f
      (skim_one (after q) (length q.text.now) (ask q) start negate opened at onward goes many next k.is k.forward k.within k.shorter answer r.ahead r.past)

  pub deep_missed : operand (after q at) 0 ≡ broken → ReadsBracket q at negate opened None
  deep_missed k start onward goes = skim_none (after q) (length q.text.now) (ask q) start negate opened at onward goes k

  -- one more
  pub inner_missed : Reads q disjunction at negate (opened + 1) None → ReadsBracket q at negate opened None
  inner_missed k start onward goes = inner_none (after q) (length q.text.now) (ask q) start negate opened at onward goes k

  module _ (inner : Read) (h : ReadsOne q disjunction at negate (opened + 1) inner) where
    pub bracket_missed : inner.ahead ≢ ahead.Closing → ReadsBracket q at negate opened None
    bracket_missed other start onward goes =
        unclosed (after q) (length q.text.now) (ask q) start negate opened at onward goes h.one
        (not_closing (columns_of q) q.text.now inner.next inner.past inner.ahead (shows h.seen) other)

    pub bracket_closed : inner.ahead ≡ ahead.Closing → (r : Read) → FilterTo q inner.past inner.leaves inner.deep inner.answer r
        → ReadsBracket q at negate opened (Some r)
    bracket_closed shut r f start onward goes =
        let end : Goes (columns_of q) q.text.now inner.next closing inner.past = rw shut at (shows h.seen) in
        filter_read q inner.past inner.leaves inner.deep inner.answer r start negate opened f
        (bracket_read (after q) (length q.text.now) (ask q) start negate opened at onward goes h.one inner.past r.ahead r.past end.0 end.1 end.2)
