-- `values::transform::without_width` meets its contract: in an arm the number is known, and past all of them the list has none.
-- Assumes nothing.
use Rattle.values.specs.laws.TestLaws.{picks}
use Rattle.values.specs.Transforms.{transform_of}
use Rattle.values.specs.laws.TypesLaws.{transform_missed}
use Rattle.values.proofs.transform.without_width.Goals as goal

pub returns-in-0 : goal.returns-in-0
unfolding transform_of
returns-in-0 c = rw c.in-0.is

pub returns-in-1 : goal.returns-in-1
unfolding transform_of
returns-in-1 c = rw c.in-1.is

pub returns-in-2 : goal.returns-in-2
unfolding transform_of
returns-in-2 c = rw c.in-2.is

pub returns-in-3 : goal.returns-in-3
unfolding transform_of
returns-in-3 c = rw c.in-3.is

pub returns-in-4 : goal.returns-in-4
unfolding transform_of
returns-in-4 c = rw c.in-4.is

pub returns-in-5 : goal.returns-in-5
unfolding transform_of
returns-in-5 c = rw c.in-5.is

pub returns-in-6 : goal.returns-in-6
unfolding transform_of
returns-in-6 c = rw c.in-6.is

pub returns-in-7 : goal.returns-in-7
unfolding transform_of
returns-in-7 c = rw c.in-7.is

pub returns-in_default : goal.returns-in_default
unfolding transform_of
returns-in_default c = search (picks, transform_missed)
