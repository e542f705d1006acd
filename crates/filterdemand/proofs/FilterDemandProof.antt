-- Filters lose nothing, over the bytes of the routines, in files of older writers too: every leaf is fitted, each fitted leaf loses nothing, and so the whole.
-- Assumes nothing.
use Rattle.std.specs.Prelude.{Ok}
use Prim.Native.Nat.{ℕ, ◌*◌, ◌≤◌}
use native.Mathlib.Omega.{arith}
use mathlib.Core.Bool.{Bool, true}
use mathlib.Core.List.Memᴰ.{append_left as isin-left}
use mathlib.Core.List.Memᴰ.{append_right as isin-right}
use mathlib.Core.List.Memᴰ.{head as here}
use mathlib.Core.List.{List, map, Memᴰ as Isin}
use mathlib.Core.Logic.{inl, ◌↔◌}
use mathlib.Core.Path.{◌≡◌, refl, sym, ap, subst, ◌∙◌}
use Rattle.values.specs.laws.OutcomeLaws.{ok_inj, going, gone}
use Rattle.values.specs.laws.WordLaws.{word_step}
use Rattle.values.specs.Words.{AllBytes}
use Rattle.expr.specs.Operators.{project_limit, holds_limit}
use Rattle.projection.specs.declared.question.Question.{Question}
use Rattle.projection.specs.declared.question.Question.TheVariants.{Inclusive, Strict}
use Rattle.sheet.specs.laws.RecordLaws.{field_bytes}
use Rattle.sheet.specs.Records.{record_size, record_at}
use Rattle.sheet.specs.Sheets.{Head, head, sheet}
use Rattle.meets.specs.Tested.{tested_sheet}
use Rattle.answers.specs.Answers.{projected_leaf}
use Rattle.api.specs.Demand3.{type_in, transform_in, width_in, RowOf, Accepts}
use Rattle.api.specs.OlderDemand.{Filed}
use Rattle.api.specs.HoldsTest.{holds_test}
use Rattle.api.specs.Routines.{project_sheet}
use Rattle.columns.specs.Cells.{Side, rows, parts, Cell, cells_of}
use Rattle.columns.specs.Columns.{Column, name_size, entry_size, entry_at}
use Rattle.grammar.specs.Filters.{Filter, leaf, either, both, opposite, bracket, straight, answered}
use Rattle.leaves.specs.Fitting.{Leaf}
use Rattle.ask.specs.LeafAnswers.{predicate_in, row_answer, part_answer}
use Rattle.filter.specs.FilterDemand.{head_at, places_in, Kept, FilterLosesNoRow, FilterStrictIsSafe, sheet_in, by_returned}
use Rattle.filter.specs.FilterDemand.{IsOneLeaf, OneLeafRow, OneLeafParts, OneLeafAsked, OneLeafStrictIsExact, OneLeafInclusiveIsExact, FiltersLoseNothing}
use Rattle.filter.specs.OlderFilterDemand.{FilterLosesNoOlderRow}
use Rattle.parse.specs.FilterText.{filter_in, turn}
use Rattle.filter.specs.FilterRoutines.{filter_row, filter_parts}
use Rattle.demand.proofs.Demand3Proof.{demand3}
use Rattle.demand.proofs.ReadBackLaws.{sheet_of}
use Rattle.filterdemand.proofs.ListedCells.{CellAt, cells_columns, column_head, cell_at_lem}
use Rattle.filterdemand.proofs.FittedLaws.{Fitted, leaf_fitted, turn_fitted}
use Rattle.filterdemand.proofs.FoundLaws.{filter_every}
use Rattle.filterdemand.proofs.JoinedLaws.{EveryLeaf, EveryTurned, straight_every, turned_map, every_both}
use Rattle.filterdemand.proofs.JoinedLaws.{Follows, follows_kept, answered_follows, Leads, leads_yes, answered_leads}
use Rattle.filterdemand.proofs.LeafAnswerLaws.{leaf_follows, leaf_leads, leaf_returned}
use Rattle.filterdemand.proofs.LeafSheetLaws.{held_whole, numbers, held_transform, sheet_back}

abbrev pub columns_of : List Cell → List Column
columns_of cells = map (λ x. x.column) cells

-- ---- what is so of the places that a filter names is so of its leaves' places
pub named_every : (g : ℕ → Type 0) (f : Filter Leaf) → ((k : ℕ) → Isin k (places_in f) → g k) → EveryLeaf (λ l. g l.place) f
named_every g (leaf l) h = h l.place (here refl)
named_every g (either f f') h = (named_every g f (λ k m. h k (isin-left (places_in f') m)), named_every g f' (λ k m. h k (isin-right (places_in f) m)))
named_every g (both f f') h = (named_every g f (λ k m. h k (isin-left (places_in f') m)), named_every g f' (λ k m. h k (isin-right (places_in f) m)))
named_every g (opposite f) h = named_every g f h
named_every g (bracket f) h = named_every g f h

-- every leaf that is found is fitted
pub all_fitted : (cs : List Column) (t : List ℕ) (f : Filter Leaf) → filter_in cs t ≡ Ok f → EveryLeaf (Fitted cs) f
all_fitted cs t f e = filter_every cs (Fitted cs) (λ name o l x d. leaf_fitted name o l x cs d) t f e

-- ---- a fitted leaf: its head, and its column's value
module _ (side : Side) (c v : List ℕ) (cells : List Cell) (e : cells_of side c v ≡ Ok cells) (l : Leaf) (f : Fitted (columns_of cells) l) where
  pub leaf_head : let h = head_at c l.place in head (type_in h) (transform_in h) (width_in h) ≡ Ok l.head
  leaf_head = column_head side c v cells e l.place f.column f.there ∙ ap Ok f.head_is

  -- the column, as the leaf has its head
  abbrev with_head : Head → Column
  with_head h = record { name = f.column.name; head = h }

  pub leaf_cell : CellAt side v cells l.place (with_head l.head)
  leaf_cell = subst (λ h. CellAt side v cells l.place (with_head h)) f.head_is (cell_at_lem side c v cells e l.place f.column f.there)

-- ---- whole filters: a row v, and the records p that are asked
module _ (c t v p : List ℕ) (cells others : List Cell) (row_cells_lem : cells_of rows c v ≡ Ok cells) (part_cells_lem : cells_of parts c p ≡ Ok others) where
  abbrev cs : List Column
  cs = columns_of cells

  same_columns : columns_of others ≡ cs
  same_columns = ok_inj (sym (cells_columns parts c p others part_cells_lem) ∙ cells_columns rows c v cells row_cells_lem)

  -- what the filter is answered, once it is found
  row_is : (f : Filter Leaf) → filter_in cs t ≡ Ok f → filter_row c t v ≡ answered (row_answer cells) (straight turn f)
  unfolding filter_row
  row_is f e = going _ row_cells_lem ∙ going _ e

  parts_is : (question : Question) (f : Filter Leaf) → filter_in cs t ≡ Ok f
      → filter_parts question c t p ≡ answered (part_answer question others) (straight turn f)
  unfolding filter_parts
  parts_is question f e = going _ part_cells_lem ∙ going _ (ap (λ ds. filter_in ds t) same_columns ∙ e)

  row_found : {b : Bool} → filter_row c t v ≡ Ok b → (f : Filter Leaf) × (filter_in cs t ≡ Ok f)
  unfolding filter_row
  row_found e = let f = gone (filter_in cs t) _ (sym (going _ row_cells_lem) ∙ e) in (f.0, f.1)

  parts_found : (question : Question) {b : Bool} → filter_parts question c t p ≡ Ok b → (f : Filter Leaf) × (filter_in cs t ≡ Ok f)
  unfolding filter_parts
  parts_found question e =
      let f = gone (filter_in (columns_of others) t) _ (sym (going _ part_cells_lem) ∙ e) in
      (f.0, ap (λ ds. filter_in ds t) (sym same_columns) ∙ f.1)

  -- what is so of the records at each place that a leaf names
  abbrev Named : (List ℕ → List ℕ → List ℕ → Type 0) → Type 0
  Named at = (f : Filter Leaf) → filter_in cs t ≡ Ok f → (k : ℕ) → Isin k (places_in f) → at (head_at c k) (record_at p k) (record_at v k)

  -- is so of each leaf, turned or not
  every_leaf : (at : List ℕ → List ℕ → List ℕ → Type 0) (g : Leaf → Type 0) → Named at
      → ((l : Leaf) → Fitted cs l → at (head_at c l.place) (record_at p l.place) (record_at v l.place) → g l)
      → (f : Filter Leaf) → filter_in cs t ≡ Ok f → EveryTurned g (straight turn f)
  every_leaf at g named one f e =
      let here : ℕ → Type 0 = λ k. at (head_at c k) (record_at p k) (record_at v k) in
      let both = every_both (Fitted cs) (λ l. here l.place) f (all_fitted cs t f e) (named_every here f (named f e)) in
      let turned = straight_every (λ l. Fitted cs l × here l.place) turn (λ l k. (turn_fitted cs l k.0, k.1)) f both in
      turned_map (λ l. Fitted cs l × here l.place) g (λ l k. one l k.0 k.1) (straight turn f) turned.0

  module _ (l : Leaf) (f : Fitted cs l) where
    other : Fitted (columns_of others) l
    other = subst (λ ds. Fitted ds l) (sym same_columns) f

    one_follows : Filed (head_at c l.place) (record_at p l.place) (record_at v l.place) → Follows (row_answer cells l) (part_answer Inclusive others l)
    one_follows d =
        leaf_follows l f.content_fits cells others (head_at c l.place) (record_at v l.place) (record_at p l.place) (leaf_head rows c v cells row_cells_lem l f)
        (leaf_cell rows c v cells row_cells_lem l f).value_is (leaf_cell parts c p others part_cells_lem l other).value_is d

    one_leads : RowOf (head_at c l.place) (record_at p l.place) (record_at v l.place) → Leads (row_answer cells l) (part_answer Strict others l)
    one_leads h =
        leaf_leads l f.content_fits cells others (head_at c l.place) (record_at v l.place) (record_at p l.place) (leaf_head rows c v cells row_cells_lem l f)
        (leaf_cell rows c v cells row_cells_lem l f).value_is (leaf_cell parts c p others part_cells_lem l other).value_is h

  kept : Named Filed → filter_row c t v ≡ Ok true → Kept (filter_parts Inclusive c t p)
  kept named e =
      let f = row_found e in
      let row = row_answer cells in
      let part = part_answer Inclusive others in
      let asked = straight turn f.0 in
      let follows = answered_follows row part asked (every_leaf Filed _ named one_follows f.0 f.1) in
      let yes : answered row asked ≡ Ok true = sym (row_is f.0 f.1) ∙ e in
      subst Kept (sym (parts_is Inclusive f.0 f.1)) (follows_kept (answered row asked) (answered part asked) follows yes)

  safe : Named RowOf → filter_parts Strict c t p ≡ Ok true → filter_row c t v ≡ Ok true
  safe named e =
      let f = parts_found Strict e in
      let row = row_answer cells in
      let part = part_answer Strict others in
      let asked = straight turn f.0 in
      let leads = answered_leads row part asked (every_leaf RowOf _ named one_leads f.0 f.1) in
      row_is f.0 f.1 ∙ leads_yes (answered row asked) (answered part asked) leads (sym (parts_is Strict f.0 f.1) ∙ e)

pub loses_no_older_row : FilterLosesNoOlderRow
loses_no_older_row c t v p h e = kept c t v p h.cells h.others h.row_cells_lem h.part_cells_lem h.named e

-- a row may be filed under its own partition values
loses_no_row : FilterLosesNoRow
loses_no_row c t v p h e = kept c t v p h.cells h.others h.row_cells_lem h.part_cells_lem (λ f d k m. inl (h.named f d k m)) e

strict_is_safe : FilterStrictIsSafe
strict_is_safe c t v p h e = safe c t v p h.cells h.others h.row_cells_lem h.part_cells_lem h.named e

-- ---- a filter of one leaf
module _ (side : Side) (c v : List ℕ) (cells : List Cell) (a : cells_of side c v ≡ Ok cells) (l : Leaf) (f : Fitted (columns_of cells) l) where
  -- its sheet is read as the leaf, with what four bytes hold of the width
  leaf_read : (most : ℕ) → 1 ≤ most
      → sheet most (sheet_in c l) ≡ Ok (sheet_of l.head.column (held_transform l.head.transform) (predicate_in l))
  leaf_read most room =
      let h = head_at c l.place in
      let head_is = leaf_head side c v cells a l f in
      sheet_back (type_in h) (transform_in h) (width_in h) l.head head_is l.operator l.content f.content_fits.fit most room

  -- which is the width, of bytes
  width_whole : AllBytes c → held_transform l.head.transform ≡ l.head.transform
  width_whole b =
      let s = head_at c l.place in
      let bytes = field_bytes name_size record_size (entry_at c l.place) (field_bytes (entry_size * l.place) entry_size c b) in
      let width_is = (numbers (type_in s) (transform_in s) (width_in s) l.head (leaf_head side c v cells a l f)).width_is in
      held_whole l.head.transform
      (omega (arith, width_is, word_step 8 3 s, word_step 9 2 s, word_step 10 1 s, word_step 11 0 s, bytes 8, bytes 9, bytes 10, bytes 11))

-- a text that is one leaf, turned or not: the leaf is fitted
leaf_of_lem : (cells : List Cell) (t : List ℕ) (l : Leaf) → IsOneLeaf cells t l → Fitted (columns_of cells) l
leaf_of_lem cells t l (f, e, is) =
    let cs = columns_of cells in
    subst (EveryTurned (Fitted cs)) is (straight_every (Fitted cs) turn (turn_fitted cs) f (all_fitted cs t f e)).0

one_leaf_row : OneLeafRow
unfolding filter_row holds_test row_answer tested_sheet
one_leaf_row c t v cells l a h =
    let f = leaf_of_lem cells t l h in
    going _ a ∙ going _ h.1 ∙ ap (answered (row_answer cells)) h.2
    ∙ sym (going _ (leaf_read rows c v cells a l f holds_limit (omega arith)) ∙ going _ (leaf_cell rows c v cells a l f).value_is)

one_leaf_parts : OneLeafParts
unfolding filter_parts project_sheet
one_leaf_parts question c t p cells l bytes a h =
    let f = leaf_of_lem cells t l h in
    let cell = leaf_cell parts c p cells a l f in
    let projects : project_sheet question (sheet_in c l) ≡ projected_leaf question l.head.column l.head.transform (predicate_in l)
    = going _ (leaf_read parts c p cells a l f project_limit (omega arith))
    ∙ ap (λ transform. projected_leaf question l.head.column transform (predicate_in l)) (width_whole parts c p cells a l f bytes) in
    going _ a
    ∙ going _ h.1
    ∙ ap (answered (part_answer question cells)) h.2
    ∙ leaf_returned l f.content_fits question cells (record_at p l.place) cell.read cell.value_is cell.read_is
    ∙ ap (λ r. by_returned question r (record_at p l.place)) (sym projects)

-- with a predicate it is the predicate's holds-test, of which demand 3 speaks
module _ (question : Question) (c t p : List ℕ) (l : Leaf) (h : OneLeafAsked question c t p l) where
  by_predicate : filter_parts question c t p ≡ holds_test h.predicate (record_at p l.place)
  by_predicate =
      one_leaf_parts question c t p h.cells l h.list_bytes h.part_cells_lem h.is_leaf
      ∙ ap (λ r. by_returned question r (record_at p l.place)) h.returned

  exactly : {X : Type 0} → Accepts h.predicate (record_at p l.place) ↔ X → (filter_parts question c t p ≡ Ok true) ↔ X
  exactly (there, back) = (λ e. there (sym by_predicate ∙ e), λ x. by_predicate ∙ back x)

one_leaf_strict_is_exact : OneLeafStrictIsExact
one_leaf_strict_is_exact c t p l h =
    exactly Strict c t p l h (demand3.strict_is_exact (sheet_in c l) h.predicate h.row (record_at p l.place) h.numeric h.row_of h.returned)

one_leaf_inclusive_is_exact : OneLeafInclusiveIsExact
one_leaf_inclusive_is_exact c t p l h =
    exactly Inclusive c t p l h (demand3.inclusive_is_exact (sheet_in c l) h.predicate h.row (record_at p l.place) h.numeric h.row_of h.returned)

pub filters_lose_nothing : FiltersLoseNothing
filters_lose_nothing = record {
  loses_no_row = loses_no_row;
  strict_is_safe = strict_is_safe;
  one_leaf_row = one_leaf_row;
  one_leaf_parts = one_leaf_parts;
  one_leaf_strict_is_exact = one_leaf_strict_is_exact;
  one_leaf_inclusive_is_exact = one_leaf_inclusive_is_exact;
}
