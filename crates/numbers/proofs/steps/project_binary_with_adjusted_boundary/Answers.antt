-- `numbers::steps::project_binary_with_adjusted_boundary` meets its contract. Assumes nothing.
use Rattle.std.proofs.Common.{rules}
use Rattle.expr.specs.Operators.{by_arity}
use Rattle.numbers.specs.laws.BoundaryLaws.{inclusive_at}
use Rattle.numbers.proofs.Rows.{inclusive_one}
use Rattle.numbers.proofs.steps.project_binary_with_adjusted_boundary.Goals as goal

pub project_boundary-requires : goal.project_boundary-requires
project_boundary-requires c = search (rules, inclusive_one)

pub returns-clause-projected : goal.returns-clause-projected
returns-clause-projected c =
    let a = c.args in
    rw (inclusive_at a.column a.transform (by_arity a.operator) a.l) (search rules)
