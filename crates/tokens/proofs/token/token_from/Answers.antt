-- `token::token_from` meets its contract. Assumes nothing.
use Rattle.std.proofs.Common.{refl, arith}
use Rattle.expr.specs.Operators.{less_than, less_than_or_eq, greater_than, greater_than_or_eq, eq, not_eq}
use Rattle.tokens.proofs.Readings.{known_first}
use Rattle.tokens.proofs.token.token_from.Goals as goal

pub returns-in-60 : goal.returns-in-60
returns-in-60 c = known_first _ _ c.requires _ _ 60 c.in-60.is (c.longest_at.ensures _ _ (λ n. (less_than_or_eq, refl, refl)) (λ n. (less_than, refl, refl)))

pub returns-in-62 : goal.returns-in-62
returns-in-62 c =
    known_first _ _ c.requires _ _ 62 c.in-62.is (c.longest_at-in-62.ensures _ _ (λ n. (greater_than_or_eq, refl, refl)) (λ n. (greater_than, refl, refl)))

pub returns-in-61 : goal.returns-in-61
returns-in-61 c = known_first _ _ c.requires _ _ 61 c.in-61.is (record { is = (eq, refl, refl); forward = omega arith; within = omega arith })

pub returns-in-33 : goal.returns-in-33
returns-in-33 c = known_first _ _ c.requires _ _ 33 c.in-33.is (c.longest_at-in-33.ensures _ _ (λ n. (not_eq, refl, refl)) (λ n. (_, refl)))
