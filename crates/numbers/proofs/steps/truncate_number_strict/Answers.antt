-- `numbers::steps::truncate_number_strict` meets its contract. Assumes nothing.
use Rattle.std.proofs.Common.{rules}
use Rattle.numbers.proofs.Rows.{strict_one}
use Rattle.numbers.proofs.steps.truncate_number_strict.Goals as goal

pub project_boundary-requires : goal.project_boundary-requires
project_boundary-requires c = search (rules, strict_one)
