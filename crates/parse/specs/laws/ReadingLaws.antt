-- A chain of and, or of or, as a loop reads it: one law for both. Assumes nothing.
use Rattle.std.specs.Prelude.{ℕ, zero, suc, ◌+◌, ◌≤◌, ◌<◌, max, Bool, true, false, ◌||◌, List, ◌∷◌, ◌≡◌, refl, ltb, length}
use Rattle.std.proofs.Common.{arith, sym, ap, subst, ◌∙◌, ltb-true, ltb-false, lt-ltb, le-ltb}
use Rattle.values.specs.Outcomes.{Res}
use Rattle.values.specs.laws.TestLaws.{or_neither}
use Rattle.grammar.specs.Filters.{Filter, leaves, depth, joined, answered}
use Rattle.grammar.specs.Grammar.{Symbol}
use Rattle.grammar.specs.Parser.{nothing, Parser, more, chain}
use Rattle.grammar.specs.laws.ChainLaws.{begins, goes_on, Reached, reached_first, reached_next, reached_last}
use Rattle.grammar.specs.laws.FilterLaws.{read, join_as}
use Rattle.leaves.specs.Fitting.{Leaf}
use Rattle.parse.specs.FilterText.{bracket_limit, turn}
use Rattle.parse.specs.code.Reading.{join_read, Tells, FindsOne, FindsNone}
use Rattle.parse.specs.declared.read.Read.{Read}

-- ---- the deeper of two is too deep where either is
either_deep : (opened a b : ℕ) → ltb bracket_limit (opened + max a b) ≡ (ltb bracket_limit (opened + a) || ltb bracket_limit (opened + b))
either_deep opened a b = go (ltb bracket_limit (opened + a)) refl (ltb bracket_limit (opened + b)) refl
  where
    go : (x : Bool) → ltb bracket_limit (opened + a) ≡ x → (y : Bool) → ltb bracket_limit (opened + b) ≡ y → ltb bracket_limit (opened + max a b) ≡ (x || y)
    go true d y e = lt-ltb bracket_limit (opened + max a b) (omega (arith, ltb-true bracket_limit (opened + a) d))
    go false d true e = lt-ltb bracket_limit (opened + max a b) (omega (arith, ltb-true bracket_limit (opened + b) e))
    go false d false e = le-ltb bracket_limit (opened + max a b) (omega (arith, ltb-false bracket_limit (opened + a) d, ltb-false bracket_limit (opened + b) e))

module _ (after : ℕ → List (Symbol Leaf)) (size : ℕ) (ask : Leaf → Res Bool) (negate : Bool) (opened : ℕ) (is_word : Symbol Leaf → Bool)
    (join : Filter Leaf → Filter Leaf → Filter Leaf) (all : Bool) (p : ℕ → Parser Leaf)
    (folds : (f g : Filter Leaf)
    → answered ask (read turn negate (join f g)) ≡ joined (join_as all) (answered ask (read turn negate f)) (answered ask (read turn negate g)))
    (deepens : (f g : Filter Leaf) → depth (join f g) ≡ max (depth f) (depth g)) (adds : (f g : Filter Leaf) → leaves (join f g) ≡ leaves f + leaves g) where
  -- the chain from `at` on has come to where r ends, after a filter of which r tells
  pub record Left (n at : ℕ) (r : Read) : Type 0 where
    pub filter : Filter Leaf
    pub reached : Reached is_word join (p n) (after at) filter (after r.next)
    pub tells : Tells after size ask negate opened r filter

  pub record Chained (at : ℕ) (r : Read) : Type 0 where
    pub within : r.next ≤ size
    pub few : at + r.leaves < r.next + 1
    pub forward : at < r.next
    pub shorter : length (after r.next) < length (after at)
    pub left : (n : ℕ) → length (after at) < n → Left n at r

  abbrev Chain : ℕ → Parser Leaf
  Chain n = chain is_word join (p n)

  both_told : (f g : Filter Leaf) (x y : Read) → Tells after size ask negate opened x f → Tells after size ask negate opened y g
      → Tells after size ask negate opened (join_read all x y) (join f g)
  both_told f g x y t u = record {
    deeper = rw (t.deeper, u.deeper, deepens f g) (sym (either_deep opened (depth f) (depth g)));
    counted = λ e. let k = or_neither x.deep y.deep e in rw (t.counted k.0, u.counted k.1) (sym (adds f g));
    answers = λ e. let k = or_neither x.deep y.deep e in rw (t.answers k.0, u.answers k.1) (sym (folds f g));
  }

  pub first_none : {at : ℕ} → FindsNone after size ask p at → FindsNone after size ask Chain at
  first_none h n m = rw (h n m)

  pub first_one : {at : ℕ} {r : Read} → FindsOne after size ask p at negate opened r → Chained at r
  first_one {at} {r} h = record {
    within = h.within;
    few = h.few;
    forward = h.forward;
    shorter = h.shorter;
    left = λ n m. let f = h.says n m in
        record { filter = f.0; reached = reached_first is_word join (p n) (after at) f.0 (after r.next) f.1 h.shorter; tells = f.2 };
  }

  module _ {at : ℕ} {left : Read} (c : Chained at left) where
    -- no word follows
    pub chain_done : begins is_word (after left.next) ≡ false → FindsOne after size ask Chain at negate opened left
    chain_done other = record {
      within = c.within;
      few = c.few;
      forward = c.forward;
      shorter = c.shorter;
      says = λ n m. let x = c.left n m in
          (x.filter, reached_last is_word join (p n) (after at) x.filter (after left.next) x.reached other, x.tells);
    }

    -- a word stands there, and the text after it begins at `start`
    module _ (w : Symbol Leaf) (start : ℕ) (word : is_word w ≡ true) (goes : after left.next ≡ w ∷ after start) (past : left.next < start) where
      counts : length (after left.next) ≡ length (w ∷ after start)
      counts = ap length goes

      fewer : (n : ℕ) → length (after at) < n → length (after start) < n
      fewer n m = omega (arith, counts, c.shorter)

      pub right_none : FindsNone after size ask p start → FindsNone after size ask Chain at
      right_none h n m = go (c.left n m)
        where
          go : Left n at left → Chain n (after at) ≡ nothing
          go x = by x.reached.number x.reached.enough x.reached.is
            where
              by : (k : ℕ) → length (after left.next) < k → Chain n (after at) ≡ more is_word join (p n) k x.filter (after left.next)
                  → Chain n (after at) ≡ nothing
              by zero l i = absurd (omega arith)
              by (suc k) l i =
                  i ∙ ap (more is_word join (p n) (suc k) x.filter) goes ∙ goes_on is_word join (p n) k x.filter w (after start) word
                  ∙ rw (h n (fewer n m))

      pub right_one : {right : Read} → FindsOne after size ask p start negate opened right → Chained at (join_read all left right)
      right_one {right} h = record {
        within = h.within;
        few = omega (arith, c.few, h.few);
        forward = omega (arith, c.forward, h.forward);
        shorter = omega (arith, counts, c.shorter, h.shorter);
        left = λ n m. taken n (c.left n m) m;
      }
        where
          taken : (n : ℕ) → Left n at left → length (after at) < n → Left n at (join_read all left right)
          taken n x m =
              let g = h.says n (fewer n m) in
              let here = subst (Reached is_word join (p n) (after at) x.filter) goes x.reached in
              record {
                filter = join x.filter g.0;
                reached = reached_next is_word join (p n) (after at) x.filter w (after start) g.0 (after right.next) word here g.1 h.shorter;
                tells = both_told x.filter g.0 left right x.tells g.2;
              }
