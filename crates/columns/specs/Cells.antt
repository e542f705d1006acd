-- The values that stand beside a column list: one record a column, as a row or as partition values. Assumes nothing.
use Rattle.std.specs.Prelude.{ℕ, suc, ◌*◌, List, [], ◌∷◌, ◌==◌, length, Ok, Err}
use Rattle.values.specs.Outcomes.{Res, need, each, ◌>>=◌, ◌>>◌, Row}
use Rattle.values.specs.Types.{layout}
use Rattle.values.specs.declared.datatypes.PrimitiveType.{PrimitiveType}
use Rattle.values.specs.declared.error.ErrorKind.TheVariants.{Malformed}
use Rattle.partition.specs.ResultType.{result_type}
use Rattle.sheet.specs.Records.{record_size, record_at, value}
use Rattle.sheet.specs.Values.{read_bytes, read_row}
use Rattle.columns.specs.Columns.{Column, columns}

-- 02: "one value per column, as a row or as partition values (of the result type, else the column's)"
pub data Side : Type 0 where
  rows parts : Side

abbrev pub type_or : PrimitiveType → Res PrimitiveType → PrimitiveType
type_or column (Ok to) = to
type_or column (Err e) = column

abbrev pub type_of : Side → Column → PrimitiveType
type_of rows c = c.head.column
type_of parts c = type_or c.head.column (result_type c.head.transform c.head.column)

-- a column and its value, which is still the bytes of its content
pub record Cell : Type 0 where
  pub column : Column
  pub row : Row (List ℕ)

-- record k is the first column's value, the next one the second's, ..
abbrev pub cells_from : Side → List ℕ → ℕ → List Column → Res (List Cell)
cells_from side v k [] = Ok []
cells_from side v k (c ∷ cs) = do
  r ← value (layout (type_of side c)) (record_at v k)
  cells ← cells_from side v (suc k) cs
  Ok (record { column = c; row = r } ∷ cells)

-- 4: "a String literal or value is not UTF-8"
abbrev pub read_cell : Side → Cell → Res (Row (List ℕ))
read_cell side c = read_row (read_bytes (type_of side c.column)) c.row

-- all declared values are looked at, named by a leaf or not: 3 of the list, 3 of a value, then 4; what `read` holds is not used, the values stay bytes
unfoldable pub cells_of : Side → List ℕ → List ℕ → Res (List Cell)
cells_of side c v = do
  cs ← columns c
  need (length v == record_size * length cs) Malformed
  cells ← cells_from side v 0 cs
  read ← each (read_cell side) cells
  Ok cells
