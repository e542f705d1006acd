-- `token::minus_at` meets its contract. Assumes nothing.
use Rattle.std.proofs.Common.{◌≡◌, ◌+◌, true, get_or, sym, ◌∙◌, arith}
use Rattle.values.specs.Characters.{is_digit}
use Rattle.tokens.proofs.Readings.{negative_taken}
use Rattle.tokens.proofs.token.minus_at.Goals as goal

pub returns : goal.returns
returns c =
    let digit : is_digit (get_or c.args.s.now (c.args.from + 1) 0) ≡ true = rw (← c.byte.ensures) (sym c.is_digit.ensures ∙ c.if-not-is_digit.false) in
    rw c.decimal.ensures (negative_taken _ _ _ _ c.leading_digits-digits.ensures digit (omega arith) _ c.checked_sub_unsigned-number.ensures)
