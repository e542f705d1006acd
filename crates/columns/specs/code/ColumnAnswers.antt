-- What the code finds in a list of columns and in the values beside it, as the definitions have it. Assumes nothing.
use Rattle.std.specs.Prelude.{ℕ, ◌/◌, Bool, not, ◌&&◌, ◌||◌, List, [], map, get_or, length, is_ok, Option, Ok, Err}
use Rattle.std.specs.List.{position_from}
use Rattle.std.specs.Simd.{first_chunks}
use Rattle.std.specs.Result.{result_unwrap_or}
use Rattle.values.specs.Characters.{is_letter, leading}
use Rattle.values.specs.Order.{compare_bytes, is_equal}
use Rattle.values.specs.Outcomes.{Res, each, Row, missing}
use Rattle.values.specs.Types.{same_type}
use Rattle.values.specs.Words.{field}
use Rattle.values.specs.declared.datatypes.PrimitiveType.{PrimitiveType}
use Rattle.values.specs.declared.datatypes.PrimitiveType.TheVariants.{Int, String}
use Rattle.values.specs.declared.transform.Transform.TheVariants.{Identity}
use Rattle.sheet.specs.Sheets.{Head}
use Rattle.sheet.specs.code.Contents.{row_utf8}
use Rattle.sheet.specs.declared.head.Fields.{Fields}
use Rattle.columns.specs.Columns.{name_size, entry_size, Column, column, names_apart, columns}
use Rattle.columns.specs.Cells as cells
use Rattle.columns.specs.Cells.{Cell}
use Rattle.columns.specs.declared.cells.Side.{Side}
use Rattle.columns.specs.declared.cells.Side.TheVariants.{Rows, Parts}

-- ---- entries, whether or not they are columns

abbrev pub entries_in : List ℕ → List (List ℕ)
entries_in c = first_chunks entry_size (length c / entry_size) c

-- the letters that an entry begins with
unfoldable pub name_of : List ℕ → List ℕ
name_of entry = leading is_letter (field 0 name_size entry)

-- entries are columns, with names apart
abbrev pub good : List (List ℕ) → Bool
good es = is_ok (each column es) && names_apart (map name_of es)

-- ---- columns

-- the columns of a list, and none where it is broken
unfoldable pub columns_in : List ℕ → List Column
columns_in c = result_unwrap_or (columns c) []

-- what stands past the end, where no code looks
abbrev pub no_column : Column
no_column = record { name = []; head = record { column = Int; transform = Identity } }

abbrev pub column_at : List Column → ℕ → Column
column_at cs k = get_or cs k no_column

abbrev pub fields_of : Head → Fields
fields_of h = record { column = h.column; transform = h.transform }

-- the place of the first of the names that is the one given
abbrev pub place_among : List ℕ → List (List ℕ) → Option ℕ
place_among name ns = position_from (λ n. is_equal (compare_bytes name n)) 0 ns

abbrev pub place_of : List ℕ → List Column → Option ℕ
place_of name cs = place_among name (map (λ d. d.name) cs)

-- ---- values

abbrev pub side_of : Side → cells.Side
side_of Rows = cells.rows
side_of Parts = cells.parts

abbrev pub no_cell : Cell
no_cell = record { column = no_column; row = missing }

abbrev pub cell_at : List Cell → ℕ → Cell
cell_at xs k = get_or xs k no_cell

-- whether a value is UTF-8, where its type asks for that
abbrev pub encoded : PrimitiveType → Row (List ℕ) → Bool
encoded column r = not (same_type column String) || row_utf8 r

abbrev pub encoded_value : PrimitiveType → Res (Row (List ℕ)) → Res Bool
encoded_value column (Ok r) = Ok (encoded column r)
encoded_value column (Err e) = Err e

-- that there is a value, or why not
abbrev pub without_value : {A : Type 0} → Res A → Res (Unit {0})
without_value (Ok x) = Ok tt
without_value (Err e) = Err e
