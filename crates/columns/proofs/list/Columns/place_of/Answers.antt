-- `Columns::place_of` meets its contract. Assumes nothing.
use Rattle.std.proofs.Common.{◌∙◌}
use Rattle.columns.specs.laws.ColumnLaws.{place_in}
use Rattle.columns.proofs.list.Columns.place_of.Goals as goal

pub returns : goal.returns
returns c = rw c.entries.ensures at c.first_named.ensures ∙ place_in c.args.self.list.now c.args.self.whole c.args.name.now
