-- What a reader in one pass makes of a filter: how many leaves it has, what stands under so many nots, and what that is answered. Assumes nothing.
use Rattle.std.specs.Prelude.{◌≤◌, Bool, true, false, not, cond, ◌&&◌, ◌||◌, ◌≡◌, refl}
use Rattle.std.proofs.Common.{arith}
use Rattle.values.specs.Outcomes.{Res}
use Rattle.grammar.specs.Filters.{Filter, leaf, either, both, opposite, bracket, leaves, Turned, one, any, all, straight, turned, joined, answered}

-- ---- leaves
pub leaves_some : {L : Type 0} (f : Filter L) → 1 ≤ leaves f
leaves_some (leaf l) = omega arith
leaves_some (either f g) = omega (arith, leaves_some f)
leaves_some (both f g) = omega (arith, leaves_some f)
leaves_some (opposite f) = leaves_some f
leaves_some (bracket f) = leaves_some f

-- ---- not
module _ {L : Type 0} (turn : L → L) where
  -- `negate` says that the filter stands under an odd number of nots
  abbrev pub read : Bool → Filter L → Turned L
  read negate f = cond negate (turned turn f) (straight turn f)

  pub read_leaf : (negate : Bool) (l : L) → read negate (leaf l) ≡ one (cond negate (turn l) l)
  read_leaf true l = refl
  read_leaf false l = refl

  pub read_either : (negate : Bool) (f g : Filter L) → read negate (either f g) ≡ cond negate all any (read negate f) (read negate g)
  read_either true f g = refl
  read_either false f g = refl

  pub read_both : (negate : Bool) (f g : Filter L) → read negate (both f g) ≡ cond negate any all (read negate f) (read negate g)
  read_both true f g = refl
  read_both false f g = refl

  pub read_opposite : (negate : Bool) (f : Filter L) → read negate (opposite f) ≡ read (not negate) f
  read_opposite true f = refl
  read_opposite false f = refl

  pub read_bracket : (negate : Bool) (f : Filter L) → read negate (bracket f) ≡ read negate f
  read_bracket true f = refl
  read_bracket false f = refl

-- ---- answers

-- under and, or under or
abbrev pub join_as : Bool → Bool → Bool → Bool
join_as true a b = a && b
join_as false a b = a || b

module _ {L : Type 0} (turn : L → L) (ask : L → Res Bool) where
  pub answered_either : (negate : Bool) (f g : Filter L)
      → answered ask (read turn negate (either f g)) ≡ joined (join_as negate) (answered ask (read turn negate f)) (answered ask (read turn negate g))
  answered_either true f g = refl
  answered_either false f g = refl

  pub answered_both : (negate : Bool) (f g : Filter L)
      → answered ask (read turn negate (both f g)) ≡ joined (join_as (not negate)) (answered ask (read turn negate f)) (answered ask (read turn negate g))
  answered_both true f g = refl
  answered_both false f g = refl
