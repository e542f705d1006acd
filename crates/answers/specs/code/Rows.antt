-- A row to be transformed, as the code has it: its partition value as the bytes of a record. Assumes nothing.
use Rattle.std.specs.Prelude.{ℕ, List, ℤ, Ok}
use Rattle.values.specs.Outcomes.{Res, ◌>>=◌, Row}
use Rattle.values.specs.Types.{layout}
use Rattle.values.specs.declared.datatypes.PrimitiveType.{PrimitiveType}
use Rattle.values.specs.declared.transform.Transform.{Transform}
use Rattle.partition.specs.Partition.{number_partition, bytes_partition}
use Rattle.projection.specs.Steps.{Projected}
use Rattle.sheet.specs.Records.{value}
use Rattle.sheet.specs.code.Contents.{number_in}
use Rattle.write.specs.Written.{value_record, number_bytes}
use Rattle.answers.specs.Answers.{transformed_row, as_result}
use Rattle.sheet.specs.Values.{map_row}

-- a number's and a byte string's partition value, written
unfoldable pub number_value : PrimitiveType → Transform → PrimitiveType → Row ℤ → Res (Projected (List ℕ))
number_value column transform to r = as_result (do
  p ← number_partition column transform r
  Ok (value_record (map_row (λ z. number_bytes (layout to) z) p)))

unfoldable pub bytes_value : PrimitiveType → Transform → Row (List ℕ) → Res (Projected (List ℕ))
bytes_value column transform r = as_result (do
  p ← bytes_partition column transform r
  Ok (value_record (map_row (λ s. s) p)))

-- of a value record
abbrev pub value_answer : PrimitiveType → Transform → List ℕ → Res (Projected (List ℕ))
value_answer column transform v = as_result (do
  r ← value (layout column) v
  transformed_row column transform r)

-- the number that a row's bytes are, of a column with numbers
abbrev pub number_row_in : PrimitiveType → Row (List ℕ) → Row ℤ
number_row_in column r = map_row (number_in (layout column)) r
