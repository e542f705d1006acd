-- Sheets and value records by what they say, to write examples with. Assumes nothing.
use Rattle.std.specs.Prelude.{ℕ, ◌-◌, List, ◌++◌, replicate}
use Rattle.values.specs.Outcomes.{present}
use Rattle.values.specs.Words.{le_bytes}
use Rattle.sheet.specs.Records.{record_size}
use Rattle.sheet.specs.Sheets.{head_size}
use Rattle.write.specs.Written.{next_to, literal_records, value_record}

-- the sheet of an operator, a type, a transform, its width and literals, which stand in records 1, 2, ..
abbrev pub sheet_of : ℕ → ℕ → ℕ → ℕ → List (List ℕ) → List ℕ
sheet_of operator type transform width literals =
    le_bytes 2 (next_to 1 literals) ++ le_bytes 2 operator ++ le_bytes 1 type ++ le_bytes 1 transform ++ le_bytes 2 0 ++ le_bytes 4 width
    ++ replicate (record_size - head_size) 0 ++ literal_records 1 literals

abbrev pub value_of : List ℕ → List ℕ
value_of content = value_record (present content)
