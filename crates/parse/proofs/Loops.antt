-- The loop of or and of and, with the symbol after each filter: one law for both. Assumes nothing.
use Rattle.std.proofs.Common.{ℕ, ◌+◌, max, Bool, true, false, List, [], ◌∷◌, ◌≡◌, ◌≢◌, refl, sym, ◌∙◌, length, drop, None}
use Rattle.columns.specs.Columns.{Column}
use Rattle.grammar.specs.Filters.{Filter, either, both, leaves, depth, joined, answered}
use Rattle.grammar.specs.Grammar.{Symbol, leaf_of, and_word, or_word, not_word, opening, closing, unreadable}
use Rattle.grammar.specs.Parser.{Parser, is_and, is_or, chain, conjunction, disjunction}
use Rattle.grammar.specs.laws.ChainLaws.{begins}
use Rattle.grammar.specs.laws.FilterLaws.{read, join_as, answered_either, answered_both}
use Rattle.leaves.specs.Fitting.{Leaf}
use Rattle.leaves.specs.Symbols.{symbols}
use Rattle.parse.specs.FilterText.{turn}
use Rattle.parse.specs.code.FilterReads.{after, ask, columns_of, Seen, parser_of, part_of, ReadsOne, Reads}
use Rattle.parse.specs.code.Reading.{all_of, join_read, FindsNone}
use Rattle.parse.specs.declared.read.Ahead.{Ahead}
use Rattle.parse.specs.declared.read.Ahead.TheVariants as ahead
use Rattle.parse.specs.declared.read.Read.{Read}
use Rattle.parse.specs.declared.read.Word.{Word}
use Rattle.parse.specs.declared.read.Word.TheVariants.{And, Or}
use Rattle.parse.specs.declared.request.Request.{Request}
use Rattle.parse.proofs.Aheads.{symbol_of, IsOther, Goes, Shows, shows}
use Rattle.parse.specs.laws.ReadingLaws.{Chained, first_none, first_one, chain_done, right_none, right_one}

-- ---- the two words

abbrev is_word : Word → Symbol Leaf → Bool
is_word And = is_and
is_word Or = is_or

abbrev join_of : Word → Filter Leaf → Filter Leaf → Filter Leaf
join_of And = both
join_of Or = either

own_word : (word : Word) → is_word word (symbol_of word) ≡ true
own_word And = refl
own_word Or = refl

pub deepens : (word : Word) (f g : Filter Leaf) → depth (join_of word f g) ≡ max (depth f) (depth g)
deepens And f g = refl
deepens Or f g = refl

pub adds : (word : Word) (f g : Filter Leaf) → leaves (join_of word f g) ≡ leaves f + leaves g
adds And f g = refl
adds Or f g = refl

chain_is : (word : Word) (n : ℕ) (ts : List (Symbol Leaf)) → chain (is_word word) (join_of word) (part_of word n) ts ≡ parser_of word n ts
unfolding conjunction disjunction
chain_is And n ts = refl
chain_is Or n ts = refl

other_begins : (word : Word) (ts : List (Symbol Leaf)) → IsOther ts → begins (is_word word) ts ≡ false
other_begins And [] o = elim o [ ]
other_begins And (and_word ∷ ts) o = elim o [ ]
other_begins And (or_word ∷ ts) o = elim o [ ]
other_begins And (closing ∷ ts) o = elim o [ ]
other_begins Or [] o = elim o [ ]
other_begins Or (and_word ∷ ts) o = elim o [ ]
other_begins Or (or_word ∷ ts) o = elim o [ ]
other_begins Or (closing ∷ ts) o = elim o [ ]
other_begins And (leaf_of l ∷ ts) o = refl
other_begins And (not_word ∷ ts) o = refl
other_begins And (opening ∷ ts) o = refl
other_begins And (unreadable ∷ ts) o = refl
other_begins Or (leaf_of l ∷ ts) o = refl
other_begins Or (not_word ∷ ts) o = refl
other_begins Or (opening ∷ ts) o = refl
other_begins Or (unreadable ∷ ts) o = refl

-- what stands after a filter is no such word
no_word : (word : Word) (cs : List Column) (s : List ℕ) (next past : ℕ) (k : Ahead) → Shows cs s next k past → k ≢ ahead.Word word
    → begins (is_word word) (symbols cs (drop next s)) ≡ false
no_word word cs s next past ahead.End seen other = rw seen refl
no_word And cs s next past (ahead.Word And) seen other = absurd (other refl)
no_word And cs s next past (ahead.Word Or) seen other = rw seen.0 refl
no_word Or cs s next past (ahead.Word And) seen other = rw seen.0 refl
no_word Or cs s next past (ahead.Word Or) seen other = absurd (other refl)
no_word And cs s next past ahead.Closing seen other = rw seen.0 refl
no_word Or cs s next past ahead.Closing seen other = rw seen.0 refl
no_word word cs s next past ahead.Leaf seen other = other_begins word _ seen
no_word word cs s next past ahead.Not seen other = other_begins word _ seen
no_word word cs s next past ahead.Opening seen other = other_begins word _ seen
no_word word cs s next past ahead.Unreadable seen other = other_begins word _ seen

module _ (q : Request) (word : Word) (negate : Bool) where
  pub folds : (f g : Filter Leaf)
      → answered (ask q) (read turn negate (join_of word f g))
      ≡ joined (join_as (all_of word negate)) (answered (ask q) (read turn negate f)) (answered (ask q) (read turn negate g))
  folds f g = go word
    where
      go : (word : Word) → answered (ask q) (read turn negate (join_of word f g))
          ≡ joined (join_as (all_of word negate)) (answered (ask q) (read turn negate f)) (answered (ask q) (read turn negate g))
      go And = answered_both turn (ask q) negate f g
      go Or = answered_either turn (ask q) negate f g

  module _ (opened : ℕ) where
    abbrev ChainedTo : ℕ → Read → Type 0
    ChainedTo at left =
        Chained (after q) (length q.text.now) (ask q) negate opened (is_word word) (join_of word) (all_of word negate) (part_of word)
        folds (deepens word) (adds word) at left

    -- what is known where the loop begins a turn
    pub record Chaining (at : ℕ) (left : Read) : Type 0 where
      pub chained : ChainedTo at left
      pub seen : Seen (columns_of q) q.text.now left.next left.ahead left.past

-- ---- the loop
module _ (q : Request) (word : Word) (negate : Bool) (opened at : ℕ) where
  abbrev Chain : ℕ → Parser Leaf
  Chain n = chain (is_word word) (join_of word) (part_of word n)

  none_read : FindsNone (after q) (length q.text.now) (ask q) Chain at → Reads q (parser_of word) at negate opened None
  none_read h n m = sym (chain_is word n (after q at)) ∙ h n m

  pub first_missed : Reads q (part_of word) at negate opened None → Reads q (parser_of word) at negate opened None
  first_missed h =
      none_read (first_none (after q) (length q.text.now) (ask q) negate opened (is_word word) (join_of word) (all_of word negate) (part_of word)
      (folds q word negate) (deepens word) (adds word) h)

  pub first_read : (r : Read) → ReadsOne q (part_of word) at negate opened r → Chaining q word negate opened at r
  first_read r h = record {
    chained = first_one (after q) (length q.text.now) (ask q) negate opened (is_word word) (join_of word) (all_of word negate) (part_of word)
        (folds q word negate) (deepens word) (adds word) h.one;
    seen = h.seen;
  }

  module _ (left : Read) (h : Chaining q word negate opened at left) where
    -- no word goes on
    pub last_read : left.ahead ≢ ahead.Word word → ReadsOne q (parser_of word) at negate opened left
    last_read other =
        let done = chain_done (after q) (length q.text.now) (ask q) negate opened (is_word word) (join_of word) (all_of word negate) (part_of word)
        (folds q word negate) (deepens word) (adds word) h.chained
        (no_word word (columns_of q) q.text.now left.next left.past left.ahead (shows h.seen) other) in
        record {
          one = record {
            within = done.within;
            few = done.few;
            forward = done.forward;
            shorter = done.shorter;
            says = λ n m. let f = done.says n m in (f.0, sym (chain_is word n (after q at)) ∙ f.1, f.2);
          };
          seen = h.seen;
        }

    module _ (word_ahead : left.ahead ≡ ahead.Word word) where
      pub goes : Goes (columns_of q) q.text.now left.next (symbol_of word) left.past
      goes = rw word_ahead at (shows h.seen)

      pub right_missed : Reads q (part_of word) left.past negate opened None → Reads q (parser_of word) at negate opened None
      right_missed k =
          none_read (right_none (after q) (length q.text.now) (ask q) negate opened (is_word word) (join_of word) (all_of word negate) (part_of word)
          (folds q word negate) (deepens word) (adds word) h.chained (symbol_of word) left.past (own_word word) goes.0 goes.1 k)

      module _ (right : Read) (k : ReadsOne q (part_of word) left.past negate opened right) where
        pub next_read : Chaining q word negate opened at (join_read (all_of word negate) left right)
        next_read = record {
          chained = right_one (after q) (length q.text.now) (ask q) negate opened (is_word word) (join_of word) (all_of word negate) (part_of word)
              (folds q word negate) (deepens word) (adds word) h.chained (symbol_of word) left.past (own_word word) goes.0 goes.1 k.one;
          seen = k.seen;
        }
