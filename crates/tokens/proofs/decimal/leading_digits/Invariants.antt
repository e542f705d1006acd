-- `decimal::leading_digits` meets its contract. Assumes nothing.
use Rattle.tokens.proofs.Counting.{Counted}
use Rattle.tokens.proofs.decimal.leading_digits.Given as goal

abbrev pub invariant-loop-len : goal.invariant-loop-len
invariant-loop-len l = Counted l.s l.magnitude l.len
