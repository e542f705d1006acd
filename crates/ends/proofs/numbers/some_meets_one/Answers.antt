-- `numbers::some_meets_one` meets its contract: Eq asks for the literal between the ends, and for the others the two ends decide. Assumes nothing.
use Rattle.std.proofs.Common.{arith}
use Rattle.values.specs.laws.SignedLaws.{back}
use Rattle.ends.proofs.BetweenArms.{equal_met, ends_met}
use Rattle.ends.proofs.numbers.some_meets_one.Goals as goal

pub returns-in-Eq : goal.returns-in-Eq
returns-in-Eq c = let e = equal_met c.requires c.args.operator c.args.l c.in-Eq.is in grind (arith, back)

pub returns-then-number_meets : goal.returns-then-number_meets
returns-then-number_meets c = let e = ends_met c.requires c.args.operator c.args.l c.in_default.not-Eq in grind (arith, back)

pub returns-else-number_meets : goal.returns-else-number_meets
returns-else-number_meets c = let e = ends_met c.requires c.args.operator c.args.l c.in_default.not-Eq in grind (arith, back)
