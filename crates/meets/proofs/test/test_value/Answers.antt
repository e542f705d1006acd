-- `test::test_value` meets its contract: a value that was read has a length of the column's type. Assumes nothing.
use Rattle.std.specs.Prelude.{option_copied}
use Rattle.std.proofs.Common.{sym, ap, ◌∙◌}
use Rattle.values.specs.code.Lent.{lent_value}
use Rattle.sheet.specs.laws.RecordLaws.{value_read}
use Rattle.meets.proofs.test.test_value.Goals as goal

pub test_row-requires : goal.test_row-requires
test_row-requires c =
    (value_read c.args.literals.column c.args.v.now (option_copied c.in_ok-row.row) (sym c.read_value.ensures ∙ ap lent_value c.in_ok-row.was)).fit
