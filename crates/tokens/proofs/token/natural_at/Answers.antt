-- `token::natural_at` meets its contract. Assumes nothing.
use Rattle.std.proofs.Common.{arith}
use Rattle.tokens.proofs.Readings.{natural_taken}
use Rattle.tokens.proofs.token.natural_at.Goals as goal

pub returns : goal.returns
returns c = rw c.decimal.ensures (natural_taken _ _ _ _ c.leading_digits-digits.ensures c.requires (omega arith) _ c.checked_add_unsigned-number.ensures)
