-- What a filter is answered, by whether the columns and the values are there. Assumes nothing.
use Rattle.std.proofs.Common.{List, ℕ, [], ◌≡◌, refl, ap, Ok, Err}
use Rattle.std.specs.Result.{result_unwrap_or}
use Rattle.values.specs.Outcomes.{Res}
use Rattle.values.specs.declared.error.ErrorKind.{ErrorKind}
use Rattle.columns.specs.Cells.{Cell, cells_of}
use Rattle.columns.specs.Columns.{columns}
use Rattle.columns.specs.code.ColumnAnswers.{without_value}
use Rattle.columns.specs.laws.CellLaws.{CellsRead, cells_read}
use Rattle.ask.specs.declared.asked.Asked.{Asked}
use Rattle.parse.specs.code.Asking.{side_for, cells_in, ValuesRead}
use Rattle.parse.specs.code.FilterReads.{cells_for}
use Rattle.parse.specs.declared.request.Request.{Request}
use Rattle.filter.specs.code.FilterAnswers.{text_answered, filter_answered}

pub list_broken : (a : Asked) (c t v : List ℕ) (e : ErrorKind) → columns c ≡ Err e → filter_answered a c t v ≡ Err e
unfolding cells_of
list_broken a c t v e is = rw is

pub values_ready : (a : Asked) (c v : List ℕ) → without_value (cells_of (side_for a) c v) ≡ Ok tt → ValuesRead a c v
unfolding cells_in
values_ready a c v is = go (cells_of (side_for a) c v) refl is
  where
    go : (r : Res (List Cell)) → cells_of (side_for a) c v ≡ r → without_value r ≡ Ok tt → CellsRead (side_for a) c v (result_unwrap_or r [])
    go (Ok cells) e k = cells_read (side_for a) v c cells e
    go (Err e') e k = cc

cells_are : (q : Request) (cells : List Cell) → cells_of (side_for q.asked) q.columns.list.now q.values.now ≡ Ok cells → cells_for q ≡ cells
unfolding cells_in
cells_are q cells e = ap (λ r. result_unwrap_or r []) e

pub values_answered : (q : Request) → without_value (cells_of (side_for q.asked) q.columns.list.now q.values.now) ≡ Ok tt
    → text_answered q ≡ filter_answered q.asked q.columns.list.now q.text.now q.values.now
values_answered q is = go (cells_of (side_for q.asked) q.columns.list.now q.values.now) refl is
  where
    go : (r : Res (List Cell)) → cells_of (side_for q.asked) q.columns.list.now q.values.now ≡ r → without_value r ≡ Ok tt
        → text_answered q ≡ filter_answered q.asked q.columns.list.now q.text.now q.values.now
    go (Ok cells) e k = rw (e, ← cells_are q cells e, q.read.columns) refl
    go (Err e') e k = cc
