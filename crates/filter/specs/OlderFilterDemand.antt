-- Filters over files of older writers: document 02, #107, "filters .. keep two questions", over bytes: column lists c, texts t, value records v side by side, and
-- partition values p. Assumes nothing.
use Rattle.std.specs.Prelude.{ℕ, true, ◌≡◌, Ok}
use mathlib.Core.List.{List, map, Memᴰ as Isin}
use Rattle.projection.specs.declared.question.Question.TheVariants.{Inclusive}
use Rattle.sheet.specs.Records.{record_at}
use Rattle.api.specs.OlderDemand.{Filed}
use Rattle.columns.specs.Cells.{rows, parts, Cell, cells_of}
use Rattle.grammar.specs.Filters.{Filter}
use Rattle.leaves.specs.Fitting.{Leaf}
use Rattle.parse.specs.FilterText.{filter_in}
use Rattle.filter.specs.FilterDemand.{head_at, places_in, Kept}
use Rattle.filter.specs.FilterRoutines.{filter_row, filter_parts}

-- as `Rows`, but v's record may be filed under p's, of each column that a leaf names
pub record FiledRows (c t v p : List ℕ) : Type 0 where
  pub cells : List Cell
  pub row_cells_lem : cells_of rows c v ≡ Ok cells
  pub others : List Cell
  pub part_cells_lem : cells_of parts c p ≡ Ok others
  pub named : (f : Filter Leaf) → filter_in (map (λ x. x.column) cells) t ≡ Ok f → (k : ℕ) → Isin k (places_in f)
      → Filed (head_at c k) (record_at p k) (record_at v k)

-- a filter's inclusive question loses no such row. Its strict question may let one in: `a >= 0`, of a Date by its year, is strictly yes for the year 0, where a row
-- of the year −1 may be filed
abbrev pub FilterLosesNoOlderRow : Type 0
FilterLosesNoOlderRow = (c t v p : List ℕ) → FiledRows c t v p → filter_row c t v ≡ Ok true → Kept (filter_parts Inclusive c t p)
