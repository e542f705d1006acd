-- `value::transform_bytes_row` meets its contract: a partition value is a beginning of the content, which is written. Assumes nothing.
use Rattle.std.proofs.Common.{rules, ◌≡◌, refl, sym, ap, ◌∙◌, ◌≤◌, length, Ok, option_copied}
use Rattle.values.specs.Outcomes.{present}
use Rattle.values.specs.Types.{content_size}
use Rattle.partition.specs.Partition.{bytes_partition}
use Rattle.values.specs.code.Lent.{lent_value}
use Rattle.write.specs.laws.RoundTripLaws.{length_literal}
use Rattle.answers.specs.laws.RowAnswerLaws.{bytes_refused, bytes_written_lem, partition_short}
use Rattle.answers.specs.laws.SettledLaws.{settled_written}
use Rattle.answers.proofs.value.transform_bytes_row.Goals as goal
use Rattle.answers.proofs.value.transform_bytes_row.Goals.{In-Some}

-- the partition value, and that a record has room for it
module _ (c : In-Some) where
  value : let a = c.args in bytes_partition a.column a.transform (option_copied a.row) ≡ Ok (present c.in-Some.t.now)
  value = sym c.transform_bytes.ensures ∙ ap lent_value (c.in_ok-transform_bytes.was ∙ ap Ok c.in-Some.is)

  short : length c.in-Some.t.now ≤ content_size
  short = partition_short _ _ (option_copied c.args.row) c.requires.fits_row _ value

pub returns-in_err-transform_bytes : goal.returns-in_err-transform_bytes
returns-in_err-transform_bytes c =
    let a = c.args in
    let is = sym c.transform_bytes.ensures ∙ ap lent_value c.in_err-transform_bytes.was in
    rw (bytes_refused a.column a.transform (option_copied a.row) is) (record { number = search rules; left = refl })

pub put_string-requires-clause-bs_len_bound : goal.put_string-requires-clause-bs_len_bound
put_string-requires-clause-bs_len_bound c = short (goal.at.put_string-requires-clause-bs_len_bound c).In-Some

pub returns-in-None : goal.returns-in-None
returns-in-None c =
    let a = c.args in
    let is = sym c.transform_bytes.ensures ∙ ap lent_value (c.in_ok-transform_bytes.was ∙ ap Ok c.in-None.is) in
    settled_written (bytes_written_lem a.column a.transform (option_copied a.row) is) refl c.put_missing.ensures

pub returns-in-Some : goal.returns-in-Some
returns-in-Some c =
    let a = c.args in
    let k = (goal.at.returns-in-Some c).In-Some in
    settled_written (bytes_written_lem a.column a.transform (option_copied a.row) (value k)) (sym (length_literal 0 c.in-Some.t.now (short k))) c.put_string.ensures
