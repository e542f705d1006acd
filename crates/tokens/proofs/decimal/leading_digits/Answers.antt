-- `decimal::leading_digits` meets its contract. Assumes nothing.
use Rattle.std.proofs.Common.{sym, ◌∙◌, arith}
use Rattle.tokens.proofs.Counting.{counted_one}
use Rattle.tokens.proofs.decimal.leading_digits.Goals as goal

pub loop-len-preserved : goal.loop-len-preserved
loop-len-preserved c =
    counted_one _ _ _ _ c.loop-len.invariant c.loop-len-test.true (sym c.is_digit.ensures ∙ c.if-not-is_digit.false) (omega arith)
