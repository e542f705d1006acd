-- `values::transform::Transform::from_numbers` meets its contract. Assumes nothing.
use Rattle.values.specs.laws.TypesLaws.{transform_found, width_refused}
use Rattle.values.specs.declared.transform.Transform.TheVariants.{Truncate}
use Rattle.values.proofs.transform.Transform.from_numbers.Goals as goal

pub returns-then-number-eq1 : goal.returns-then-number-eq1
returns-then-number-eq1 c = rw (c.if-number-eq1.true, transform_found (Truncate _))

pub returns : goal.returns
returns c = search (width_refused)
