-- The filter in a text is the one that the grammar derives from the symbols that the text is, within the limits. Assumes nothing.
use Rattle.std.specs.Prelude.{ℕ, suc, ◌≤◌, true, List, [], ◌∷◌, ◌↔◌, ◌≡◌, refl, leb, length, Ok}
use Rattle.std.proofs.Common.{sym, ap, subst, ◌∙◌, leb-true, le-leb}
use Rattle.values.specs.Outcomes.{Res, need, ◌>>◌}
use Rattle.values.specs.SomeEvery.{every}
use Rattle.values.specs.laws.OutcomeLaws.{ok_inj, ok_not_err, passing, going, passed, gone}
use Rattle.values.specs.declared.error.ErrorKind.TheVariants.{TooLarge}
use Rattle.columns.specs.Columns.{Column}
use Rattle.grammar.specs.Filters.{Filter, leaves, depth}
use Rattle.grammar.specs.Grammar.{Symbol, Single, a_leaf, a_not, in_brackets, Derives}
use Rattle.grammar.specs.Grammar.{Conjunction, one_single, and_single, Disjunction, one_conjunction, or_conjunction}
use Rattle.grammar.specs.Parser.{Found, found, nothing, disjunction}
use Rattle.grammar.proofs.ParserLaws.{parser_means}
use Rattle.leaves.specs.Fitting.{Leaf}
use Rattle.leaves.specs.Symbols.{symbols}
use Rattle.leaves.specs.TextIs.{TextIs, is_read}
use Rattle.leaves.specs.laws.TextLaws.{symbols_mean}
use Rattle.parse.specs.FilterText.{text_limit, leaf_limit, bracket_limit, whole, filter_in, FilterMeans}

-- what is derived takes only symbols that stand for something
mutual
  single_read : {ts rest : List (Symbol Leaf)} {f : Filter Leaf} → Single ts f rest → every is_read rest ≡ true → every is_read ts ≡ true
  single_read a_leaf h = h
  single_read (a_not d) h = single_read d h
  single_read (in_brackets d) h = disjunction_read d h

  conjunction_read : {ts rest : List (Symbol Leaf)} {f : Filter Leaf} → Conjunction ts f rest → every is_read rest ≡ true → every is_read ts ≡ true
  conjunction_read (one_single d) h = single_read d h
  conjunction_read (and_single d e) h = conjunction_read d (single_read e h)

  disjunction_read : {ts rest : List (Symbol Leaf)} {f : Filter Leaf} → Disjunction ts f rest → every is_read rest ≡ true → every is_read ts ≡ true
  disjunction_read (one_conjunction d) h = conjunction_read d h
  disjunction_read (or_conjunction d e) h = disjunction_read d (conjunction_read e h)

whole_found : (x : Found Leaf) (f : Filter Leaf) → whole x ≡ Ok f → x ≡ found f []
whole_found (found g []) f e = ap (λ k. found k []) (ok_inj e)
whole_found (found g (y ∷ ys)) f e = ok_not_err e
whole_found nothing f e = ok_not_err e

-- the symbols that the text is, and what is derived from them
whole_means : (cs : List Column) (t : List ℕ) (f : Filter Leaf)
    → (whole (disjunction (suc (length (symbols cs t))) (symbols cs t)) ≡ Ok f) ↔ ((ys : List (Symbol Leaf)) × TextIs cs t ys × Derives ys f)
whole_means cs t f = (
  λ e.
      let d = (parser_means Leaf (symbols cs t) f).0 (whole_found _ f e) in
      (symbols cs t, (symbols_mean cs t (symbols cs t)).0 (refl, disjunction_read d refl), d),
  λ h.
      let same = ((symbols_mean cs t h.0).1 h.1).0 in
      ap whole ((parser_means Leaf (symbols cs t) f).1 (subst (λ ys. Derives ys f) (sym same) h.2)),
)

-- the limits of a filter that was read
abbrev limited : Filter Leaf → Res (Filter Leaf)
limited f = need (leb (leaves f) leaf_limit) TooLarge >> (need (leb (depth f) bracket_limit) TooLarge >> Ok f)

limited_means : (f g : Filter Leaf) → (limited g ≡ Ok f) ↔ ((g ≡ f) × (leaves f ≤ leaf_limit) × (depth f ≤ bracket_limit))
limited_means f g = (
  λ e.
      let few = passed (leb (leaves g) leaf_limit) TooLarge _ e in
      let flat = passed (leb (depth g) bracket_limit) TooLarge (Ok g) few.1 in
      let same = ok_inj flat.1 in
      (same, rw same at (leb-true (leaves g) leaf_limit few.0), rw same at (leb-true (depth g) bracket_limit flat.0)),
  λ h. rw (h.0, le-leb (leaves f) leaf_limit h.1, le-leb (depth f) bracket_limit h.2),
)

pub filter_means : FilterMeans
unfolding filter_in
filter_means cs t f = (
  λ e.
      let short = passed (leb (length t) text_limit) TooLarge _ e in
      let read = gone (whole (disjunction (suc (length (symbols cs t))) (symbols cs t))) limited short.1 in
      let last = (limited_means f read.0).0 read.2 in
      (leb-true (length t) text_limit short.0, (whole_means cs t f).0 (read.1 ∙ ap Ok last.0), last.1, last.2),
  λ h.
      passing TooLarge _ (le-leb (length t) text_limit h.0)
      ∙ going limited ((whole_means cs t f).1 h.1)
      ∙ (limited_means f f).1 (refl, h.2, h.3),
)
