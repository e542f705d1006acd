-- What is known of values that are there: each is one of its column's type, UTF-8 where that is asked for, and in the record at its place.
-- Assumes nothing.
use Rattle.std.specs.Prelude.{ℕ, zero, suc, ◌+◌, ◌*◌, ◌<◌, true, List, [], ◌∷◌, map, ◌≡◌, refl, eqb, Ok, Err}
use Rattle.std.specs.Result.{result_unwrap_or}
use Rattle.std.proofs.Common.{zero-add, arith, sym, ap, ◌∙◌, eqb-true}
use Rattle.std.proofs.Math.Path.{subst}
use Rattle.std.proofs.Math.ListN.{length, get_or-map}
use Rattle.std.proofs.lemmas.List.{length-map}
use Rattle.values.specs.Outcomes.{Res, each, Row, missing}
use Rattle.values.specs.Types.{layout}
use Rattle.values.specs.declared.error.ErrorKind.{ErrorKind}
use Rattle.values.specs.declared.error.ErrorKind.TheVariants.{Malformed, NotUtf8}
use Rattle.values.specs.laws.OutcomeLaws.{ok_inj, ok_not_err, passed, gone}
use Rattle.sheet.specs.Records.{record_size, record_at, value}
use Rattle.sheet.specs.laws.ReadLaws.{bytes_row}
use Rattle.columns.specs.Columns.{Column, columns}
use Rattle.columns.specs.Cells.{Side, type_of, Cell, cells_from, read_cell, cells_of}
use Rattle.columns.specs.code.ColumnAnswers.{columns_in, column_at, no_cell, cell_at, encoded, without_value}
use Rattle.columns.specs.laws.EachLaws.{each_at}

-- x is the cell of record k
pub record CellRead (side : Side) (v : List ℕ) (k : ℕ) (x : Cell) : Type 0 where
  pub is : value (layout (type_of side x.column)) (record_at v k) ≡ Ok x.row
  pub utf8 : encoded (type_of side x.column) x.row ≡ true

pub record CellsRead (side : Side) (c v : List ℕ) (xs : List Cell) : Type 0 where
  pub columns : map (λ x. x.column) xs ≡ columns_in c
  pub size : length v ≡ record_size * length xs
  pub all : (k : ℕ) → k < length xs → CellRead side v k (cell_at xs k)

module _ (side : Side) (v : List ℕ) where
  from_columns : (cs : List Column) (k : ℕ) {xs : List Cell} → cells_from side v k cs ≡ Ok xs → map (λ x. x.column) xs ≡ cs
  from_columns [] k e = rw (← ok_inj e)
  from_columns (c ∷ cs) k e =
      let r = gone (value (layout (type_of side c)) (record_at v k)) _ e in
      let rest = gone (cells_from side v (suc k) cs) _ r.2 in
      rw (← ok_inj rest.2) (ap (λ l. c ∷ l) (from_columns cs (suc k) rest.1))

  from_values : (cs : List Column) (k : ℕ) {xs : List Cell} → cells_from side v k cs ≡ Ok xs → (i : ℕ) → i < length xs
      → value (layout (type_of side (cell_at xs i).column)) (record_at v (k + i)) ≡ Ok (cell_at xs i).row
  from_values [] k e i h = absurd (omega (arith, ap length (ok_inj e)))
  from_values (c ∷ cs) k e zero h =
      let r = gone (value (layout (type_of side c)) (record_at v k)) _ e in
      let rest = gone (cells_from side v (suc k) cs) _ r.2 in
      let here : k + 0 ≡ k = omega arith in
      rw (← ok_inj rest.2, here) r.1
  from_values (c ∷ cs) k e (suc i) h =
      let r = gone (value (layout (type_of side c)) (record_at v k)) _ e in
      let rest = gone (cells_from side v (suc k) cs) _ r.2 in
      let here : k + suc i ≡ suc k + i = omega arith in
      rw (← ok_inj rest.2, here) (from_values cs (suc k) rest.1 i (omega (arith, ap length (ok_inj rest.2))))

  encoded_read : (x : Cell) {r : Row (List ℕ)} → read_cell side x ≡ Ok r → encoded (type_of side x.column) x.row ≡ true
  encoded_read x e = (passed (encoded (type_of side x.column) x.row) NotUtf8 _ (sym (bytes_row (type_of side x.column) x.row) ∙ e)).0

  put_together : (c : List ℕ) (cs : List Column) (xs : List Cell) {rs : List (Row (List ℕ))} → columns_in c ≡ cs → length v ≡ record_size * length cs
      → cells_from side v 0 cs ≡ Ok xs → each (read_cell side) xs ≡ Ok rs → CellsRead side c v xs
  put_together c cs xs in_List sized made read =
      let same : map (λ x. x.column) xs ≡ cs = from_columns cs 0 made in
      let count : length xs ≡ length cs = sym (length-map xs (λ x. x.column)) ∙ ap length same in
      record {
        columns = same ∙ sym in_List;
        size = rw count sized;
        all = λ k h. record {
          is = rw zero-add at (from_values cs 0 made k h);
          utf8 = encoded_read (cell_at xs k) (each_at (read_cell side) xs read no_cell missing k h);
        };
      }

  pub cells_read : (c : List ℕ) (xs : List Cell) → cells_of side c v ≡ Ok xs → CellsRead side c v xs
  unfolding cells_of columns_in
  cells_read c xs e =
      let cs = gone (columns c) _ e in
      let size = passed (eqb (length v) (record_size * length cs.0)) Malformed _ cs.2 in
      let from = gone (cells_from side v 0 cs.0) _ size.1 in
      let read = gone (each (read_cell side) from.0) _ from.2 in
      subst (CellsRead side c v) (ok_inj read.2)
      (put_together c cs.0 from.0 (ap (λ r. result_unwrap_or r []) cs.1) (eqb-true (length v) (record_size * length cs.0) size.0) from.1 read.1)

-- the column of a cell
pub cell_column : {side : Side} {c v : List ℕ} {xs : List Cell} → CellsRead side c v xs → (k : ℕ) → (cell_at xs k).column ≡ column_at (columns_in c) k
cell_column {xs = xs} h k = sym (get_or-map (λ x. x.column) xs k no_cell) ∙ ap (λ cs. column_at cs k) h.columns

-- ---- what the code's answer tells
module _ {A : Type 0} {r : Res (Unit {0})} (x : Res A) (told : r ≡ without_value x) where
  pub values_there : {u : Unit {0}} → r ≡ Ok u → (y : A) × (x ≡ Ok y)
  values_there {u} is = go x (sym told ∙ is)
    where
      go : (x : Res A) → without_value x ≡ Ok u → (y : A) × (x ≡ Ok y)
      go (Ok y) e = (y, refl)
      go (Err k) e = ok_not_err e

  pub values_refused : {e : ErrorKind} → r ≡ Err e → x ≡ Err e
  values_refused {e} is = go x (sym told ∙ is)
    where
      go : (x : Res A) → without_value x ≡ Err e → x ≡ Err e
      go (Ok y) d = ok_not_err (sym d)
      go (Err k) d = let same : k ≡ e = cc in rw same
