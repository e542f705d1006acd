-- A leaf that was read whose operator takes one literal: there is one, in the record that the first number names. Assumes nothing.
use Rattle.std.specs.Prelude.{ℕ, ◌<◌, true, List, [], ◌∷◌, map, ◌≡◌, refl, length, get_or, take}
use Rattle.std.proofs.Common.{arith, subst, eqb-true}
use Rattle.values.specs.laws.TestLaws.{clash}
use Rattle.expr.specs.Operators.{Operator, Binary, SetOperator, none, one, many, by_arity}
use Rattle.expr.specs.code.OperatorAnswers.{takes, takes_one, takes_many}
use Rattle.answers.specs.declared.leaf.Leaf.{Leaf}

pub takes_one_lem : (a : Operator) → takes_one a ≡ true → (o : Binary) × (a ≡ one o)
takes_one_lem (none o) h = clash h refl
takes_one_lem (one o) h = (o, refl)
takes_one_lem (many o) h = clash h refl

pub takes_many_lem : (a : Operator) → takes_many a ≡ true → (o : SetOperator) × (a ≡ many o)
takes_many_lem (none o) h = clash h refl
takes_many_lem (one o) h = clash h refl
takes_many_lem (many o) h = (o, refl)

module _ (x : Leaf) (single : takes_one (by_arity x.sheet.operator) ≡ true) where
  abbrev records : List ℕ
  records = x.sheet.literals.records.now

  pub one_count : length records ≡ 1
  one_count = eqb-true (length records) 1 (subst (λ (a : Operator). takes a (length records) ≡ true) (takes_one_lem (by_arity x.sheet.operator) single).1 x.sheet.taken)

  -- what it is, of whatever kind
  pub one_literal : {A : Type 0} (f : ℕ → A) → map f (take (length records) records) ≡ f (get_or records 0 0) ∷ []
  one_literal f = rw one_count (go records (omega (arith, one_count)))
    where
      go : (ns : List ℕ) → 0 < length ns → map f (take 1 ns) ≡ f (get_or ns 0 0) ∷ []
      go [] h = absurd (omega arith)
      go (n ∷ ns) h = refl
