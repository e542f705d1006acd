-- `chain::literal_after` meets its contract. Assumes nothing.
use native.Mathlib.Omega.{arith}
use mathlib.Core.Path.{sym, ◌∙◌}
use Rattle.values.specs.laws.TestLaws.{clash}
use Rattle.sheet.proofs.Walks.{after_end, after_broken, after_literal}
use Rattle.sheet.proofs.chain.literal_after.Goals as goal

pub returns-then-next-eq0 : goal.returns-then-next-eq0
returns-then-next-eq0 c = after_end _ _ _ _ c.u16_at-next.ensures c.if-next-eq0.true

pub returns-then-next-at : goal.returns-then-next-at
returns-then-next-at c = after_broken _ _ _ _ c.u16_at-next.ensures c.if-next-eq0.false (λ a b t. omega arith)

pub returns-then-s-next : goal.returns-then-s-next
returns-then-s-next c = after_broken _ _ _ _ c.u16_at-next.ensures c.if-next-eq0.false (λ a b t. omega arith)

pub returns-then-is_literal : goal.returns-then-is_literal
returns-then-is_literal c =
    after_literal _ _ _ _ c.u16_at-next.ensures (omega arith) (omega arith) (sym c.is_literal.ensures ∙ c.if-is_literal.true)

pub returns-else-is_literal : goal.returns-else-is_literal
returns-else-is_literal c =
    after_broken _ _ _ _ c.u16_at-next.ensures c.if-next-eq0.false
    (λ a b t. clash t (sym c.is_literal.ensures ∙ c.if-is_literal.false))
