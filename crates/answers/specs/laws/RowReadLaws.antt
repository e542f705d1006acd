-- A value record is answered what its row is, and the partition value of a byte string is its beginning. Assumes nothing.
use Rattle.std.specs.Prelude.{ℕ, Bool, true, false, List, ◌≡◌, refl, length, take, Ok, Err}
use Rattle.values.specs.Outcomes.{Row, present, row}
use Rattle.values.specs.laws.OutcomeLaws.{ok_inj, missing_not_present}
use Rattle.values.specs.Types.{layout}
use Rattle.values.specs.declared.datatypes.PrimitiveType.{PrimitiveType}
use Rattle.values.specs.declared.error.ErrorKind.{ErrorKind}
use Rattle.values.specs.declared.transform.Transform.{Transform}
use Rattle.partition.specs.laws.BytesPartitionLaws.{bytes_begin}
use Rattle.partition.specs.laws.PartitionRowLaws.{bytes_row as part_row}
use Rattle.partition.specs.Partition.{bytes_partition}
use Rattle.sheet.specs.Records.{value}
use Rattle.answers.specs.Answers.{transformed_row, as_result}
use Rattle.answers.specs.code.Rows.{value_answer}

-- a row's byte string has a partition value that is its beginning, and a missing one has none
pub partition_begins : (column : PrimitiveType) (transform : Transform) (there : Bool) (s t : List ℕ)
    → bytes_partition column transform (row there s) ≡ Ok (present t) → (there ≡ true) × (t ≡ take (length t) s)
partition_begins column transform true s t e = (refl, (bytes_begin column transform s t (part_row column transform _ _ e).1).beginning)
partition_begins column transform false s t e = missing_not_present (ok_inj (part_row column transform _ _ e).1)

-- a value record: 3, then what its row is answered
module _ (column : PrimitiveType) (transform : Transform) (v : List ℕ) where
  pub value_unread : {e : ErrorKind} → value (layout column) v ≡ Err e → value_answer column transform v ≡ Err e
  value_unread h = rw h

  pub value_answered : {r : Row (List ℕ)} → value (layout column) v ≡ Ok r → value_answer column transform v ≡ as_result (transformed_row column transform r)
  value_answered h = rw h
