-- `token::word_at` meets its contract. Assumes nothing.
use Rattle.tokens.proofs.Readings.{word_taken}
use Rattle.tokens.proofs.token.word_at.Goals as goal

pub returns : goal.returns
returns c = word_taken _ _ _ c.requires c.leading_letters.ensures
