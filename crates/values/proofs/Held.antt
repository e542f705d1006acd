-- What `PrimitiveType::holds` returns in each arm, by the layout of the type that the arm is for. Assumes nothing.
use Rattle.std.proofs.Common.{◌≡◌, Bool, true, false, ℤ, sym, w64, SFits, to_z, of_z}
use Rattle.values.specs.Types.{number, bytes, content_size, layout, in_range, in_type}
use Rattle.values.specs.laws.SignedLaws.{back}
use Rattle.values.specs.laws.RangeLaws.{in_type_lem, eight}
use Rattle.values.specs.declared.datatypes.PrimitiveType.{PrimitiveType}

module _ {ty kind : PrimitiveType} {z : ℤ} (is : ty ≡ kind) (f : SFits w64 z) where
  pub tested : {r : Bool} → layout kind ≡ number 4 → r ≡ in_range 4 (to_z w64 (of_z w64 z)) → r ≡ in_type ty z
  unfolding in_type
  tested four e = rw (is, four, e, back f)

  pub all : layout kind ≡ number 8 → true ≡ in_type ty z
  all is-eight = rw is (sym ((in_type_lem kind eight is-eight z).1 f))

  pub none : layout kind ≡ bytes content_size → false ≡ in_type ty z
  unfolding in_type
  none string = rw (is, string)

pub ruleset held = (tested, all, none)
