-- `number::is_either` meets its contract. Assumes nothing.
use Rattle.std.proofs.Common.{◌∙◌, eq-eqb}
use Rattle.std.specs.Int.{w64}
use Rattle.values.specs.laws.SignedLaws.{eq_taken, eq_left}
use Rattle.ask.proofs.Numbers.{first_met, second_asked}
use Rattle.ask.proofs.number.is_either.Goals as goal

pub returns-then-v-t : goal.returns-then-v-t
returns-then-v-t c = eq-eqb _ _ c.if-v-t.true ∙ first_met c.args.t c.args.v (eq_taken {w = w64} c.ranges.v c.ranges.t c.if-v-t.true)

pub returns-else-v-t : goal.returns-else-v-t
returns-else-v-t c =
    second_asked c.args.t c.args.v (eq_left {w = w64} c.ranges.v c.ranges.t c.if-v-t.false) c.ranges.v c.ranges.t _ c.checked_add.ensures c.eq.ensures
