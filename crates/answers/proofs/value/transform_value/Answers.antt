-- `value::transform_value` meets its contract: a value that is read has a length that the column's type allows. Assumes nothing.
use Rattle.std.proofs.Common.{sym, ap, ◌∙◌}
use Rattle.values.specs.code.Lent.{lent_value}
use Rattle.sheet.specs.laws.RecordLaws.{value_read}
use Rattle.answers.proofs.value.transform_value.Goals as goal

pub transform_row-requires-clause-fits_row : goal.transform_row-requires-clause-fits_row
transform_row-requires-clause-fits_row c = (value_read _ _ _ (sym c.read_value.ensures ∙ ap lent_value c.in_ok-read_value.was)).fit
