-- `symbol::leaf_at` meets its contract. Assumes nothing.
use Rattle.std.proofs.Common.{sym, ap, ◌∙◌}
use Rattle.leaves.proofs.Found.{leaf_found}
use Rattle.leaves.proofs.symbol.leaf_at.Goals as goal

pub returns : goal.returns
returns c =
    leaf_found _ _ _ _ _ _ _ _ _ _ (sym c.place_of.ensures ∙ c.in_ok-place.was) (ap (λ f. f.column) c.fields_at-column.ensures)
    c.in_ok-operator.ensures c.in_ok-literal.ensures
