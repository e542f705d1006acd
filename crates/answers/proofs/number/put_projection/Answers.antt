-- `number::put_projection` meets its contract. Assumes nothing.
use Rattle.std.proofs.Common.{ap, ◌∙◌, Some}
use Rattle.answers.proofs.NumberAnswers.{one_settled, second_fits, two_inside, two_settled}
use Rattle.answers.proofs.number.put_projection.Goals as goal

pub overflow_add-t : goal.overflow_add-t
overflow_add-t c = second_fits c.args.to c.requires.numbers_in (c.in_ok-operator.was ∙ ap Some c.in-Two.is)

pub put_numbers-requires-in-Two-clause-literals_fit : goal.put_numbers-requires-in-Two-clause-literals_fit
put_numbers-requires-in-Two-clause-literals_fit c = two_inside c.args.to c.requires.numbers_in (c.in_ok-operator.was ∙ ap Some c.in-Two.is)

pub returns-in-One : goal.returns-in-One
returns-in-One c = one_settled c.args.to c.requires.numbers_in (c.in_ok-operator.was ∙ ap Some c.in-One.is) c.put_numbers.ensures

pub returns-in-Two : goal.returns-in-Two
returns-in-Two c = two_settled c.args.to c.requires.numbers_in (c.in_ok-operator.was ∙ ap Some c.in-Two.is) c.put_numbers-in-Two.ensures
