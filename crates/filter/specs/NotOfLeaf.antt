-- What a row is answered by a leaf and by `not` before it, over bytes: a column list c, the text t of the leaf, the text u with `not`, a row v. 02, #101, turns
-- the leaf to its opposite operator, and #106 says what a missing value meets. Assumes nothing.
use Rattle.std.specs.Prelude.{ℕ, Bool, true, false, not, List, map, ◌≡◌, Ok}
use Rattle.values.specs.Outcomes.{missing, present}
use Rattle.expr.specs.Operators.{ordered}
use Rattle.columns.specs.Cells.{rows, Cell, cells_of}
use Rattle.grammar.specs.Filters.{leaf, opposite}
use Rattle.leaves.specs.Fitting.{Leaf}
use Rattle.ask.specs.LeafAnswers.{row_at}
use Rattle.parse.specs.FilterText.{filter_in}
use Rattle.filter.specs.FilterRoutines.{filter_row}

-- list and row are read; t is a leaf, and u is `not` and the same leaf
pub record LeafAndNot (c t u v : List ℕ) : Type 0 where
  pub cells : List Cell
  pub row_cells_lem : cells_of rows c v ≡ Ok cells
  pub found : Leaf
  pub leaf_text : filter_in (map (λ x. x.column) cells) t ≡ Ok (leaf found)
  pub not_text : filter_in (map (λ x. x.column) cells) u ≡ Ok (opposite (leaf found))

-- the row meets one of the two, and not the other
abbrev pub MeetsOne : List ℕ → List ℕ → List ℕ → List ℕ → Type 0
MeetsOne c t u v = (b : Bool) × (filter_row c t v ≡ Ok b) × (filter_row c u v ≡ Ok (not b))

-- a present value, whatever the operator
abbrev pub PresentMeetsOne : Type 0
PresentMeetsOne = (c t u v x : List ℕ) (h : LeafAndNot c t u v) → row_at h.cells h.found.place ≡ present x → MeetsOne c t u v

-- `=`, `!=` and `startswith`: a missing value too
abbrev pub MissingMeetsOne : Type 0
MissingMeetsOne = (c t u v : List ℕ) (h : LeafAndNot c t u v) → row_at h.cells h.found.place ≡ missing → ordered h.found.operator ≡ false
    → MeetsOne c t u v

-- `<`, `<=`, `>` and `>=`: a missing value meets neither
abbrev pub MissingMeetsNeither : Type 0
MissingMeetsNeither = (c t u v : List ℕ) (h : LeafAndNot c t u v) → row_at h.cells h.found.place ≡ missing → ordered h.found.operator ≡ true
    → (filter_row c t v ≡ Ok false) × (filter_row c u v ≡ Ok false)

pub record NotOfLeaf : Type 0 where
  pub present_meets_one : PresentMeetsOne
  pub missing_meets_one : MissingMeetsOne
  pub missing_meets_neither : MissingMeetsNeither
