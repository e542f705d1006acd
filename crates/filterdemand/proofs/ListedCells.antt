-- Columns and their values by place: what a column list and the records beside it say of the column at a place. Assumes nothing.
use Rattle.std.specs.Prelude.{Ok}
use Prim.Native.Nat.{ℕ, zero, suc, ◌<◌}
use native.Mathlib.Omega.{arith}
use mathlib.Core.List.{List, [], ◌∷◌, map}
use mathlib.Core.Path.{◌≡◌, sym, ap, ◌∙◌}
use lib.Dec.{eqb}
use lib.ListN.{length, get_or, length-map}
use Rattle.values.specs.Outcomes.{Row}
use Rattle.values.specs.laws.OutcomeLaws.{ok_inj, passed, gone}
use Rattle.values.specs.Types.{layout}
use Rattle.values.specs.Words.{field, word}
use Rattle.values.specs.declared.error.ErrorKind.TheVariants.{Malformed}
use Rattle.sheet.specs.laws.ReadLaws.{bytes_row}
use Rattle.sheet.specs.laws.SheetLaws.{fields_head}
use Rattle.sheet.specs.Records.{record_size, next_in, record_at, value}
use Rattle.sheet.specs.Sheets.{head}
use Rattle.sheet.specs.Values.{read_bytes, read_row}
use Rattle.api.specs.Demand3.{type_in, transform_in, width_in}
use Rattle.columns.specs.Cells.{Side, type_of, Cell, cells_of}
use Rattle.columns.specs.Columns.{name_size, Column, name_in, plain_head, column, entry_at, columns}
use Rattle.std.specs.Result.{result_unwrap_or}
use Rattle.columns.specs.code.ColumnAnswers.{columns_in, column_at, no_column, cell_at}
use Rattle.columns.specs.laws.CellLaws.{CellsRead, cells_read, cell_column}
use Rattle.columns.specs.laws.ColumnLaws.{entry_at_lem}
use Rattle.ask.specs.LeafAnswers.{row_at}
use Rattle.filter.specs.FilterDemand.{head_at}
use Rattle.parse.specs.laws.AskingLaws.{row_cell}
use Rattle.filterdemand.proofs.FittedLaws.{Has}

-- what a list has at a place
has_at : {A : Type 0} (xs : List A) (k : ℕ) (x other : A) → Has xs k x → (k < length xs) × (get_or xs k other ≡ x)
has_at [] k x other h = absurd h
has_at (y ∷ ys) zero x other h = (omega arith, h)
has_at (y ∷ ys) (suc k) x other h = let r = has_at ys k x other h in (omega (arith, r.0), r.1)

-- ---- the head of a column
entry_head : (entry : List ℕ) (d : Column) → column entry ≡ Ok d
    → let r = field name_size record_size entry in head (type_in r) (transform_in r) (width_in r) ≡ Ok d.head
unfolding column
entry_head entry d e =
    let r = field name_size record_size entry in
    let name = gone (name_in (field 0 name_size entry)) _ e in
    let plain = gone (plain_head r) _ name.2 in
    let next = passed (eqb (next_in r) 0) Malformed _ plain.1 in
    let operator = passed (eqb (word 2 2 r) 0) Malformed _ next.1 in
    fields_head r plain.0 operator.1 ∙ ap (λ x. Ok x.head) (ok_inj {x = record { name = name.0; head = plain.0 }} plain.2)

-- the value of the column at a place, as it stands in its record and as it is read
pub record CellAt (side : Side) (v : List ℕ) (cells : List Cell) (k : ℕ) (d : Column) : Type 0 where
  pub value_is : value (layout (type_of side d)) (record_at v k) ≡ Ok (row_at cells k)
  pub read : Row (List ℕ)
  pub read_is : read_row (read_bytes (type_of side d)) (row_at cells k) ≡ Ok read

module _ (side : Side) (c v : List ℕ) (cells : List Cell) (e : cells_of side c v ≡ Ok cells) where
  read_cells : CellsRead side c v cells
  read_cells = cells_read side v c cells e

  pub cells_columns : columns c ≡ Ok (map (λ x. x.column) cells)
  unfolding cells_of columns_in
  cells_columns = let cs = gone (columns c) _ e in cs.1 ∙ ap Ok (sym (ap (λ r. result_unwrap_or r []) cs.1) ∙ sym read_cells.columns)

  module _ (k : ℕ) (d : Column) (h : Has (map (λ x. x.column) cells) k d) where
    place : (k < length (map (λ x. x.column) cells)) × (get_or (map (λ x. x.column) cells) k no_column ≡ d)
    place = has_at (map (λ x. x.column) cells) k d no_column h

    in_list : column_at (columns_in c) k ≡ d
    in_list = rw (← read_cells.columns) place.1

    pub column_head : head (type_in (head_at c k)) (transform_in (head_at c k)) (width_in (head_at c k)) ≡ Ok d.head
    column_head = entry_head (entry_at c k) d (entry_at_lem c k (omega (arith, place.0, ap length read_cells.columns)) ∙ ap Ok in_list)

    pub cell_at_lem : CellAt side v cells k d
    cell_at_lem =
        let cell = read_cells.all k (omega (arith, place.0, length-map cells (λ x. x.column))) in
        let same : (cell_at cells k).column ≡ d = cell_column read_cells k ∙ in_list in
        let row = row_cell cells k in
        record {
          value_is = rw (row, ← same) cell.is;
          read = (cell_at cells k).row;
          read_is = rw (row, ← same) (bytes_row (type_of side (cell_at cells k).column) (cell_at cells k).row ∙ rw cell.utf8);
        }
