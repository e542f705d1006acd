-- `numbers::steps::project_number` meets its contract. Assumes nothing.
use Rattle.std.proofs.Common.{rules}
use Rattle.numbers.proofs.Rows.{strict_is}
use Rattle.numbers.proofs.steps.project_number.Goals as goal

pub returns-clause-projected : goal.returns-clause-projected
returns-clause-projected c = search (rules, strict_is)
