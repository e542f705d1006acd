-- What a row to be transformed is answered: 4, then 5, then its partition value, written as a record. Assumes nothing.
use Rattle.std.specs.Prelude.{ℕ, Bool, true, false, not, ◌||◌, List, ◌≡◌, ◌≤◌, ℤ, length, Ok, Err}
use Rattle.std.proofs.Math.Path.{refl, ap}
use Rattle.std.proofs.Common.{arith, ◌∙◌, eqb-true, length-take}
use Rattle.values.specs.Outcomes.{Res, need, ◌>>=◌, ◌>>◌, Row, missing, present}
use Rattle.values.specs.laws.OutcomeLaws.{ok_inj, missing_not_present, passing, failing}
use Rattle.values.specs.Types.{Layout, number, bytes, layout, content_size, same_type}
use Rattle.values.specs.Words.{le_number, signed}
use Rattle.values.specs.declared.datatypes.PrimitiveType.{PrimitiveType}
use Rattle.values.specs.declared.datatypes.PrimitiveType.TheVariants.{String}
use Rattle.values.specs.declared.error.ErrorKind.{ErrorKind}
use Rattle.values.specs.declared.error.ErrorKind.TheVariants.{NotUtf8}
use Rattle.values.specs.declared.transform.Transform.{Transform}
use Rattle.partition.specs.laws.BytesPartitionLaws.{bytes_begin}
use Rattle.partition.specs.laws.PartitionRowLaws.{bytes_row as part_row}
use Rattle.partition.specs.code.PartitionAnswers.{InType, OfPresent}
use Rattle.partition.specs.Partition.{number_partition, bytes_partition}
use Rattle.partition.specs.ResultType.{result_type}
use Rattle.projection.specs.Steps.{some}
use Rattle.write.specs.Written.{value_record, number_bytes}
use Rattle.answers.specs.Answers.{transformed, transformed_row, as_result}
use Rattle.sheet.specs.code.Contents.{row_utf8}
use Rattle.answers.specs.Kinds.{numbers, byte_strings}
use Rattle.sheet.specs.Values.{by_layout, map_row}
use Rattle.answers.specs.code.Leaves.{NumberColumn}
use Rattle.answers.specs.laws.LeafLaws.{numbers_string, then_on}
use Rattle.answers.specs.laws.NumberLeafLaws.{signed_inside}
use Rattle.sheet.specs.laws.RecordLaws.{FitsRow, fits_room}
use Rattle.sheet.specs.laws.ReadLaws.{number_row_lem, bytes_row}
use Rattle.answers.specs.code.Rows.{number_value, bytes_value, number_row_in}

-- ---- the partition value, written
module _ (column to : PrimitiveType) (transform : Transform) (r : Row ℤ) where
  pub number_refused : {e : ErrorKind} → number_partition column transform r ≡ Err e → number_value column transform to r ≡ Err e
  unfolding number_value
  number_refused h = rw h

  pub number_written : {p : Row ℤ} → number_partition column transform r ≡ Ok p
      → number_value column transform to r ≡ Ok (some (value_record (map_row (λ z. number_bytes (layout to) z) p)))
  unfolding number_value
  number_written h = rw h

module _ (column : PrimitiveType) (transform : Transform) (r : Row (List ℕ)) where
  pub bytes_refused : {e : ErrorKind} → bytes_partition column transform r ≡ Err e → bytes_value column transform r ≡ Err e
  unfolding bytes_value
  bytes_refused h = rw h

  pub bytes_written_lem : {p : Row (List ℕ)} → bytes_partition column transform r ≡ Ok p
      → bytes_value column transform r ≡ Ok (some (value_record (map_row (λ s. s) p)))
  unfolding bytes_value
  bytes_written_lem h = rw h

-- the partition value of a row of byte strings is its beginning: a record has room for it
pub partition_short : (column : PrimitiveType) (transform : Transform) (r : Row (List ℕ)) → FitsRow column r → (t : List ℕ)
    → bytes_partition column transform r ≡ Ok (present t) → length t ≤ content_size
partition_short column transform missing h t e = missing_not_present (ok_inj (part_row column transform _ _ e).1)
partition_short column transform (present s) h t e =
    let b = (bytes_begin column transform s t (part_row column transform _ _ e).1).beginning in
    omega (arith, ap length b, length-take (length t) s, fits_room column (length s) h)

-- ---- the checks before the partition value
abbrev asked : PrimitiveType → Row (List ℕ) → Bool
asked column r = not (same_type column String) || row_utf8 r

module _ (column : PrimitiveType) (transform : Transform) (r : Row (List ℕ)) where
  -- what comes after 4
  abbrev rest : Layout → Res (List ℕ)
  rest l = by_layout l
      (λ n. do
        to ← result_type transform column
        p ← number_partition column transform (map_row (λ bs. signed n (le_number bs)) r)
        Ok (value_record (map_row (λ z. number_bytes (layout to) z) p)))
      (do
        to ← result_type transform column
        p ← bytes_partition column transform r
        Ok (value_record (map_row (λ s. s) p)))

  checked_row : transformed_row column transform r ≡ (need (asked column r) NotUtf8 >> rest (layout column))
  unfolding transformed_row
  checked_row = go (layout column) refl
    where
      go : (l : Layout) → layout column ≡ l
          → by_layout l (λ n. transformed (numbers column transform n) column transform r) (transformed (byte_strings column transform) column transform r)
          ≡ (need (asked column r) NotUtf8 >> rest l)
      go (number n) e = rw (number_row_lem n r, numbers_string column n e)
      go (bytes n) e = rw (bytes_row column r) (then_on r (asked column r) _)

  pub row_not_utf8 : asked column r ≡ false → transformed_row column transform r ≡ Err NotUtf8
  row_not_utf8 h = checked_row ∙ failing NotUtf8 (rest (layout column)) h

  module _ (h : asked column r ≡ true) where
    passed_row : transformed_row column transform r ≡ rest (layout column)
    passed_row = checked_row ∙ passing NotUtf8 (rest (layout column)) h

    pub row_no_type : {e : ErrorKind} → result_type transform column ≡ Err e → transformed_row column transform r ≡ Err e
    row_no_type {e} t = passed_row ∙ go (layout column)
      where
        go : (l : Layout) → rest l ≡ Err e
        go (number n) = rw t
        go (bytes n) = rw t

    module _ {to : PrimitiveType} (t : result_type transform column ≡ Ok to) where
      pub row_of_numbers : (n : ℕ) → layout column ≡ number n → as_result (transformed_row column transform r) ≡ number_value column transform to (number_row_in column r)
      unfolding number_value
      row_of_numbers n e = ap as_result passed_row ∙ rw (e, t)

      pub row_of_bytes : (n : ℕ) → layout column ≡ bytes n → as_result (transformed_row column transform r) ≡ bytes_value column transform r
      unfolding bytes_value
      row_of_bytes n e = ap as_result passed_row ∙ rw (e, t)

-- a row's number has as many bytes as its type asks for, and is one of its type
pub row_sized : (column : PrimitiveType) → NumberColumn column → (r : Row (List ℕ)) → FitsRow column r
    → number_row_in column r ≡ map_row (λ bs. signed (length bs) (le_number bs)) r
row_sized column n missing h = refl
row_sized column n (present bs) h = rw (n.is, eqb-true (length bs) n.size (rw n.is at h))

pub row_inside : (column : PrimitiveType) → NumberColumn column → (r : Row (List ℕ)) → OfPresent (InType column) (number_row_in column r)
row_inside column n missing = tt
row_inside column n (present bs) = rw n.is (signed_inside column n (le_number bs))
