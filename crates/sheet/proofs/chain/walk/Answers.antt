-- `chain::walk` meets its contract: the count that stands for a broken chain is no other's. Assumes nothing.
use Rattle.std.proofs.Common.{sym, ◌∙◌}
use Rattle.sheet.proofs.Walks.{chain_broken}
use Rattle.sheet.proofs.chain.walk.Goals as goal

pub returns-then-count-eq-BROKEN-clause-value : goal.returns-then-count-eq-BROKEN-clause-value
returns-then-count-eq-BROKEN-clause-value c =
    chain_broken _ _ _ _ c.requires.at_bound c.requires.s_len_bound c.requires.filled_le_at (sym c.if-count-eq-BROKEN.true ∙ c.count_from-count.ensures.value)
