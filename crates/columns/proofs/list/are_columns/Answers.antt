-- `list::are_columns` meets its contract: a name that stands before settles the answer, and any other keeps the invariant. Assumes nothing.
use Rattle.std.proofs.Common.{sym, ◌∙◌}
use Rattle.columns.proofs.Entries.{name_before, good_more}
use Rattle.columns.proofs.list.are_columns.Goals as goal

pub returns-then-is_some : goal.returns-then-is_some
returns-then-is_some c =
    sym (name_before c.args.entries.now c.loop-k.k c.loop-k-test.true c.name_of.ensures c.first_named.ensures (sym c.is_some.ensures ∙ c.if-is_some.true))

pub loop-k-preserved : goal.loop-k-preserved
loop-k-preserved c =
    good_more c.args.entries.now c.loop-k.k c.loop-k-test.true c.name_of.ensures c.first_named.ensures c.loop-k.invariant
    (sym c.is_column.ensures ∙ c.if-not-is_column.false) (sym c.is_some.ensures ∙ c.if-is_some.false)
