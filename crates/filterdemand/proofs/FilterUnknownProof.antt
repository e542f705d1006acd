-- 7 is Unknown's alone, of filters: list, values and text are refused with 3, 4, 9 and 10, and a leaf with 7 only where its column has Unknown. Assumes nothing.
use Rattle.std.specs.Prelude.{Ok}
use Prim.Native.Nat.{ℕ}
use native.Mathlib.Omega.{arith}
use mathlib.Core.List.{List, Memᴰ as Isin}
use mathlib.Core.Logic.{◌⊎◌, inl, inr}
use mathlib.Core.Path.{◌≡◌, refl, ap}
use Rattle.values.specs.Outcomes.{Res, error_number}
use Rattle.values.specs.Types.{Layout, number, bytes, layout}
use Rattle.values.specs.declared.error.ErrorKind.TheVariants.{FeatureUnsupported}
use Rattle.values.specs.declared.datatypes.PrimitiveType.{PrimitiveType}
use Rattle.values.specs.declared.transform.Transform.{Transform}
use Rattle.partition.specs.ResultType.{result_type}
use Rattle.projection.specs.declared.question.Question.{Question}
use Rattle.sheet.specs.Values.{each_literal, by_layout}
use Rattle.sheet.specs.laws.RefusalLaws.{Only, only_ok, only_bind, only_then, only_wider}
use Rattle.answers.specs.Kinds.{Kind, numbers, byte_strings}
use Rattle.api.specs.Demand3.{type_in, transform_in, width_in}
use Rattle.columns.specs.Cells.{parts, Cell, cells_of}
use Rattle.grammar.specs.Filters.{Filter, straight}
use Rattle.leaves.specs.Fitting.{Leaf}
use Rattle.ask.specs.LeafAnswers.{row_at, predicate_in, by_part, part_answer}
use Rattle.filter.specs.FilterDemand.{head_at, places_in, NamesUnknown, FilterSevenIsUnknown}
use Rattle.parse.specs.FilterText.{filter_in, turn}
use Rattle.filter.specs.FilterRoutines.{filter_parts}
use Rattle.filter.specs.laws.FilterAnswerLaws.{ReadRefusal, cells_only, text_only}
use Rattle.demand.proofs.UnknownProof.{Seven, weaker, literals_only, result_only, Unknowns, KindRefusals, number_refusals, bytes_refusals, head_unknown}
use Rattle.filterdemand.proofs.FilterDemandProof.{columns_of, named_every, all_fitted, leaf_head}
use Rattle.filterdemand.proofs.FittedLaws.{Fitted, turn_fitted}
use Rattle.filterdemand.proofs.JoinedLaws.{EveryTurned, straight_every, turned_map, every_both, answered_only}

-- 3, 4, 9 and 10 are no 7
not_seven : {A X : Type 0} {r : Res A} → Only ReadRefusal r → Only (Seven X) r
not_seven {A} {X} {r} h = only_wider (λ e read is. go (error_number e) (ap error_number is) read) h
  where
    go : (n : ℕ) → n ≡ 7 → (n ≡ 3) ⊎ ((n ≡ 4) ⊎ ((n ≡ 9) ⊎ (n ≡ 10))) → X
    go n e (inl k) = absurd (omega arith)
    go n e (inr (inl k)) = absurd (omega arith)
    go n e (inr (inr (inl k))) = absurd (omega arith)
    go n e (inr (inr (inr k))) = absurd (omega arith)

-- ---- a leaf
module _ (question : Question) (cells : List Cell) (l : Leaf) where
  abbrev column : PrimitiveType
  column = l.head.column

  abbrev transform : Transform
  transform = l.head.transform

  kind_only : {A B : Type 0} {k : Kind A B} → KindRefusals column transform k
      → Only (Unknowns transform) (by_part k column transform question (predicate_in l) (row_at cells l.place))
  kind_only {k = k} kind =
      only_bind (each_literal k.read (predicate_in l)) _ (literals_only k.read kind.reads (predicate_in l)) (λ x.
      only_then (result_type transform column) _ (result_only transform column) (λ to e.
      only_bind (k.project question x) _ (kind.projects to e question x) (λ q. only_ok)))

  leaf_only : Only (Unknowns transform) (part_answer question cells l)
  unfolding part_answer
  leaf_only = go (layout column) refl
    where
      go : (lay : Layout) → layout column ≡ lay → Only (Unknowns transform) (by_layout lay
          (λ n. by_part (numbers column transform n) column transform question (predicate_in l) (row_at cells l.place))
          (by_part (byte_strings column transform) column transform question (predicate_in l) (row_at cells l.place)))
      go (number n) is = kind_only (number_refusals column transform n)
      go (bytes n) is = kind_only (bytes_refusals column transform n is)

-- ---- the whole
module _ (question : Question) (c t p : List ℕ) (cells : List Cell) (a : cells_of parts c p ≡ Ok cells) (f : Filter Leaf) (e : filter_in (columns_of cells) t ≡ Ok f) where
  abbrev Named : Leaf → Type 0
  Named l = Fitted (columns_of cells) l × Isin l.place (places_in f)

  one_named : (l : Leaf) → Named l → Only (Seven (NamesUnknown c t p)) (part_answer question cells l)
  one_named l k =
      let h = head_at c l.place in
      weaker (λ is. record {
        cells = cells;
        part_cells_lem = a;
        filter = f;
        found = e;
        place = l.place;
        named = k.1;
        is_unknown = head_unknown (type_in h) (transform_in h) (width_in h) l.head (leaf_head parts c p cells a l k.0) is;
      }) (leaf_only question cells l)

  every_named : EveryTurned (λ l. Only (Seven (NamesUnknown c t p)) (part_answer question cells l)) (straight turn f)
  every_named =
      let places = named_every (λ k. Isin k (places_in f)) f (λ k m. m) in
      let both = every_both (Fitted (columns_of cells)) (λ l. Isin l.place (places_in f)) f (all_fitted (columns_of cells) t f e) places in
      let turned = straight_every Named turn (λ l k. (turn_fitted (columns_of cells) l k.0, k.1)) f both in
      turned_map Named (λ l. Only (Seven (NamesUnknown c t p)) (part_answer question cells l)) one_named (straight turn f) turned.0

parts_only : (question : Question) (c t p : List ℕ) → Only (Seven (NamesUnknown c t p)) (filter_parts question c t p)
unfolding filter_parts
parts_only question c t p =
    only_then (cells_of parts c p) _ (not_seven (cells_only parts c p)) (λ cells a.
    only_then (filter_in (columns_of cells) t) _ (not_seven (text_only (columns_of cells) t)) (λ f e.
    answered_only (part_answer question cells) (straight turn f) (every_named question c t p cells a f e)))

pub filter_seven_is_unknown : FilterSevenIsUnknown
filter_seven_is_unknown question c t p e = (parts_only question c t p).only FeatureUnsupported e refl
