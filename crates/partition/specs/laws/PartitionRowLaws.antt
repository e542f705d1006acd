-- A row's partition value is that of its value, and missing of a missing one. Assumes nothing.
use Rattle.std.specs.Prelude.{ℕ, true, List, ◌≡◌, ℤ, Ok}
use Rattle.std.proofs.Math.Path.{fun_ext}
use Rattle.values.specs.Outcomes.{Res, Row}
use Rattle.values.specs.laws.OutcomeLaws.{passing, passed}
use Rattle.values.specs.declared.datatypes.PrimitiveType.{PrimitiveType}
use Rattle.values.specs.declared.error.ErrorKind.TheVariants.{FeatureUnsupported}
use Rattle.values.specs.declared.transform.Transform.{Transform}
use Rattle.partition.specs.Partition.{known, of_row, partition, transform_number, transform_bytes, number_partition, bytes_partition}

module _ (column : PrimitiveType) (transform : Transform) where
  module _ {A B : Type 0} (value : A → Res (Row B)) where
    rows : known transform ≡ true → partition transform value ≡ of_row value
    unfolding partition
    rows h = fun_ext (λ r. passing FeatureUnsupported (of_row value r) h)

    row : (r : Row A) (p : Row B) → partition transform value r ≡ Ok p → (known transform ≡ true) × (of_row value r ≡ Ok p)
    unfolding partition
    row r p e = passed (known transform) FeatureUnsupported (of_row value r) e

  -- where the transform is known
  pub number_rows : known transform ≡ true → number_partition column transform ≡ of_row (transform_number column transform)
  unfolding number_partition
  number_rows h = rows (transform_number column transform) h

  pub bytes_rows : known transform ≡ true → bytes_partition column transform ≡ of_row (transform_bytes column transform)
  unfolding bytes_partition
  bytes_rows h = rows (transform_bytes column transform) h

  -- of a row that has a partition value
  pub number_row_lem : (r p : Row ℤ) → number_partition column transform r ≡ Ok p
      → (known transform ≡ true) × (of_row (transform_number column transform) r ≡ Ok p)
  unfolding number_partition
  number_row_lem r p e = row (transform_number column transform) r p e

  pub bytes_row : (r p : Row (List ℕ)) → bytes_partition column transform r ≡ Ok p
      → (known transform ≡ true) × (of_row (transform_bytes column transform) r ≡ Ok p)
  unfolding bytes_partition
  bytes_row r p e = row (transform_bytes column transform) r p e
