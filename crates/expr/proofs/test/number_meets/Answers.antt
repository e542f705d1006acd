-- `expr::test::number_meets` meets its contract: each arm is the test of its operator. Assumes nothing.
use Rattle.expr.proofs.NumberTests.{number-tests}
use Rattle.expr.proofs.test.number_meets.Goals as goal

pub returns-in-LessThan : goal.returns-in-LessThan
returns-in-LessThan c = search number-tests

pub returns-in-LessThanOrEq : goal.returns-in-LessThanOrEq
returns-in-LessThanOrEq c = search number-tests

pub returns-in-GreaterThan : goal.returns-in-GreaterThan
returns-in-GreaterThan c = search number-tests

pub returns-in-GreaterThanOrEq : goal.returns-in-GreaterThanOrEq
returns-in-GreaterThanOrEq c = search number-tests

pub returns-in-Eq : goal.returns-in-Eq
returns-in-Eq c = search number-tests

pub returns-in-NotEq : goal.returns-in-NotEq
returns-in-NotEq c = search number-tests
