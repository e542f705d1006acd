-- The kind of a column by what `is_bytes` told of it. Assumes nothing.
use mathlib.Core.Bool.{Bool, true, false}
use mathlib.Core.Path.{◌≡◌, sym, ◌∙◌}
use Rattle.values.specs.Types.{layout}
use Rattle.values.specs.code.ByteTypes.{is_bytes}
use Rattle.values.specs.laws.TypesLaws.{bytes_layout, number_layout}
use Rattle.values.specs.declared.datatypes.PrimitiveType.{PrimitiveType}
use Rattle.answers.specs.code.Leaves.{NumberColumn, BytesColumn}

module _ (t : PrimitiveType) {told : Bool} (is : told ≡ is_bytes (layout t)) where
  pub bytes_column : told ≡ true → BytesColumn t
  bytes_column h = bytes_layout t (sym is ∙ h)

  pub number_column : told ≡ false → NumberColumn t
  number_column h = let n = number_layout (layout t) (sym is ∙ h) in record { size = n.0; is = n.1 }
