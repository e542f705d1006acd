-- `numbers::some_meets` meets its contract: each arm answers for its operators. Assumes nothing.
use Rattle.std.proofs.Common.{arith, w64}
use Rattle.std.proofs.lemmas.Grind.{common_steps}
use Rattle.values.specs.laws.SignedLaws.{back}
use Rattle.ends.proofs.BetweenArms.{none_met, all_met, member_met, other_met}
use Rattle.ends.proofs.numbers.some_meets.Goals as goal

pub returns-in-IsNull : goal.returns-in-IsNull
returns-in-IsNull c = let none = none_met c.requires in grind (arith, common_steps)

pub returns-in-NotNull : goal.returns-in-NotNull
returns-in-NotNull c = let all = all_met c.requires in grind (arith, common_steps)

pub returns-in-In : goal.returns-in-In
returns-in-In c = rw c.in-In.is (member_met c.requires _ (rw (back {w = w64} c.ranges.low, back {w = w64} c.ranges.high) at c.literal_between.ensures))

pub returns-in-NotIn : goal.returns-in-NotIn
returns-in-NotIn c = rw c.in-NotIn.is (other_met c.requires _ (rw (back c.ranges.low, back c.ranges.high) at c.all_among.ensures))
