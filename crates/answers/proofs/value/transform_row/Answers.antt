-- `value::transform_row` meets its contract: 4, then 5, then the partition value by the column's kind. Assumes nothing.
use Rattle.std.proofs.Common.{rules, ◌≡◌, refl, sym, ap, ◌∙◌, true, not, ◌||◌, option_copied, Ok}
use Rattle.values.specs.Types.{content_size, same_type}
use Rattle.values.specs.declared.datatypes.PrimitiveType.TheVariants.{String}
use Rattle.partition.specs.ResultType.{result_type}
use Rattle.sheet.specs.code.Contents.{row_utf8}
use Rattle.answers.specs.Answers.{as_result}
use Rattle.answers.specs.laws.SettledLaws.{settled_refused, settled_as}
use Rattle.answers.specs.laws.RowAnswerLaws.{row_not_utf8, row_no_type, row_of_numbers, row_of_bytes}
use Rattle.answers.proofs.ColumnKinds.{bytes_column, number_column}
use Rattle.answers.proofs.value.transform_row.Goals as goal
use Rattle.answers.proofs.value.transform_row.Goals.{Else-not-value_encoded, In_ok-to}

-- 4 is passed
encoded : (c : Else-not-value_encoded) → let a = c.args in (not (same_type a.column String) || row_utf8 (option_copied a.row)) ≡ true
encoded c = sym c.value_encoded.ensures ∙ c.if-not-value_encoded.false

-- 5 is passed
typed : (c : In_ok-to) → result_type c.args.transform c.args.column ≡ Ok c.in_ok-to.to
typed c = sym c.result_type.ensures ∙ c.in_ok-to.was

pub returns-then-not-value_encoded : goal.returns-then-not-value_encoded
returns-then-not-value_encoded c =
    let a = c.args in
    settled_refused (ap as_result (row_not_utf8 a.column a.transform (option_copied a.row) (sym c.value_encoded.ensures ∙ c.if-not-value_encoded.true)))

pub returns-in_err-to : goal.returns-in_err-to
returns-in_err-to c =
    let a = c.args in
    let none = sym c.result_type.ensures ∙ c.in_err-to.was in
    let fine = encoded (goal.at.returns-in_err-to c).Else-not-value_encoded in
    rw (ap as_result (row_no_type a.column a.transform (option_copied a.row) fine none)) (record { number = search rules; left = refl })

pub returns-then-is_bytes : goal.returns-then-is_bytes
returns-then-is_bytes c =
    let a = c.args in
    let k = goal.at.returns-then-is_bytes c in
    let bytes = bytes_column a.column c.is_bytes.ensures c.if-is_bytes.true in
    settled_as
    (row_of_bytes a.column a.transform (option_copied a.row) (encoded k.Else-not-value_encoded) (typed k.In_ok-to) content_size bytes)
    c.transform_bytes_row.ensures

pub returns-else-is_bytes : goal.returns-else-is_bytes
returns-else-is_bytes c =
    let a = c.args in
    let k = goal.at.returns-else-is_bytes c in
    let n = number_column a.column c.is_bytes.ensures c.if-is_bytes.false in
    settled_as
    (row_of_numbers a.column a.transform (option_copied a.row) (encoded k.Else-not-value_encoded) (typed k.In_ok-to) n.size n.is)
    c.transform_number_row.ensures
