-- `value::transform_number_row` meets its contract: a partition value is of the result type, as which it is written. Assumes nothing.
use Rattle.std.proofs.Common.{rules, ◌≡◌, refl, sym, ap, ◌∙◌, Ok, Some, w64, FitsSigned, option_copied}
use Rattle.values.specs.laws.SignedLaws.{back}
use Rattle.values.specs.Types.{layout}
use Rattle.partition.specs.Partition.{number_partition}
use Rattle.projection.proofs.LandingLaws.{number_partition_lands}
use Rattle.write.specs.laws.RoundTripLaws.{length_literal}
use Rattle.write.specs.laws.WriteLaws.{length_number}
use Rattle.write.specs.Written.{number_bytes}
use Rattle.answers.specs.code.Rows.{number_row_in}
use Rattle.answers.specs.laws.RowAnswerLaws.{row_inside, number_refused, number_written}
use Rattle.answers.specs.laws.SettledLaws.{settled_written}
use Rattle.answers.proofs.value.transform_number_row.Goals as goal
use Rattle.answers.proofs.value.transform_number_row.Goals.{After-transform_number, In-Some}

-- what the transform gave for the row
told : (c : After-transform_number)
    → let a = c.args in
    number_partition a.column a.transform (number_row_in a.column (option_copied a.row)) ≡ c.transform_number.result
told c = let a = c.args in ap (number_partition a.column a.transform) (sym c.number_row.ensures) ∙ sym c.transform_number.ensures

pub transform_number-requires : goal.transform_number-requires
transform_number-requires c = rw c.number_row.ensures (row_inside _ c.requires.number_column (option_copied c.args.row))

pub put_number-requires-clause-v_value : goal.put_number-requires-clause-v_value
put_number-requires-clause-v_value c =
    let a = c.args in
    let f : FitsSigned w64 c.in-Some.t = search rules in
    let is = told (goal.at.put_number-requires-clause-v_value c).After-transform_number ∙ c.in_ok-transform_number.was ∙ ap Ok c.in-Some.is in
    rw (back f) (number_partition_lands a.column a.to a.transform _ (Some c.in-Some.t) c.requires.column_value is (row_inside _ c.requires.number_column _))

pub returns-in_err-transform_number : goal.returns-in_err-transform_number
returns-in_err-transform_number c =
    let a = c.args in
    let is = told (goal.at.returns-in_err-transform_number c).After-transform_number ∙ c.in_err-transform_number.was in
    rw (number_refused a.column a.to a.transform _ is) (record { number = search rules; left = refl })

pub returns-in-None : goal.returns-in-None
returns-in-None c =
    let a = c.args in
    let is = told (goal.at.returns-in-None c).After-transform_number ∙ c.in_ok-transform_number.was ∙ ap Ok c.in-None.is in
    settled_written (number_written a.column a.to a.transform _ is) refl c.put_missing.ensures

pub returns-in-Some : goal.returns-in-Some
returns-in-Some c =
    let a = c.args in
    let t = c.in-Some.t in
    let f : FitsSigned w64 t = search rules in
    let is = told (goal.at.returns-in-Some c).After-transform_number ∙ c.in_ok-transform_number.was ∙ ap Ok c.in-Some.is in
    settled_written
    (number_written a.column a.to a.transform _ is)
    (sym (length_literal 0 (number_bytes (layout a.to) t) (length_number a.to t)))
    (rw (back f) at c.put_number.ensures)
