-- `symbol::symbol_at` meets its contract. Assumes nothing.
use Rattle.leaves.proofs.Found.{other_symbol}
use Rattle.leaves.proofs.symbol.symbol_at.Goals as goal

pub returns-in_default : goal.returns-in_default
returns-in_default c =
    let n = c.in_default in
    other_symbol _ _ _ _ _ c.token_at-token.ensures n.not-End n.not-Word n.not-Opening n.not-Closing
