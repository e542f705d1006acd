-- `head::read_fields` meets its contract: type, transform and width, and then the reserved bytes. Assumes nothing.
use Rattle.std.proofs.Common.{rules}
use Rattle.values.specs.laws.WordLaws.{word_one}
use Rattle.sheet.specs.Sheets.{fields, head}
use Rattle.sheet.proofs.head.read_fields.Goals as goal

pub returns-in_err-column : goal.returns-in_err-column
unfolding fields head
returns-in_err-column c = rw (word_one 4 c.args.s.now) (search rules)

pub returns-in_err-transform : goal.returns-in_err-transform
unfolding fields head
returns-in_err-transform c = rw (word_one 4 c.args.s.now, word_one 5 c.args.s.now) (search rules)

pub returns-then-zeros-2 : goal.returns-then-zeros-2
unfolding fields head
returns-then-zeros-2 c = rw (word_one 4 c.args.s.now, word_one 5 c.args.s.now) (search rules)

pub returns-else-zeros : goal.returns-else-zeros
unfolding fields head
returns-else-zeros c = rw (word_one 4 c.args.s.now, word_one 5 c.args.s.now) (search rules)
