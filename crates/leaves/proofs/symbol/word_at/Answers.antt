-- `symbol::word_at` meets its contract. Assumes nothing.
use Rattle.std.proofs.Common.{sym, ◌∙◌}
use Rattle.leaves.proofs.Found.{leaf_word}
use Rattle.leaves.proofs.symbol.word_at.Goals as goal

pub returns-in-Some : goal.returns-in-Some
returns-in-Some c =
    leaf_word _ _ c.args.word _ c.requires.next_in_bounds
    (sym c.is_word.ensures ∙ c.if-is_word.false) (sym c.is_word-2.ensures ∙ c.if-is_word-2.false) (sym c.is_word-3.ensures ∙ c.if-is_word-3.false)
    _ _ c.in-Some.ensures
