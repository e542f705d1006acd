-- `write::put_number` meets its contract: by the layout of the type that an arm is for. Assumes nothing.
use mathlib.Core.Bool.{true, false≢true}
use mathlib.Core.Logic.{◌⊎◌, inl, inr}
use mathlib.Core.Path.{◌≡◌, refl, ap, ◌∙◌}
use lib.IntN.{ℤ}
use mir.Syntax.{w32, w64}
use mir.Val.{SFits, to_z, of_z}
use Rattle.std.proofs.Common.{◌≢◌}
use Rattle.values.specs.laws.SignedLaws.{back}
use Rattle.values.specs.laws.RangeLaws.{in_type_lem, in_type_long, four}
use Rattle.values.specs.Types.{number, layout, in_type}
use Rattle.values.specs.declared.datatypes.PrimitiveType.{PrimitiveType}
use Rattle.values.specs.declared.datatypes.PrimitiveType.TheVariants.{Int, Long, Date, Time, Timestamp, Timestamptz, TimestampNs, TimestamptzNs, String, Binary}
use Rattle.write.proofs.write.put_number.Goals as goal

-- a type that is neither of the two of four bytes is one of eight, or has no numbers
long_layout : (ty : PrimitiveType) (z : ℤ) → ty ≢ Int → ty ≢ Date → in_type ty z ≡ true → layout ty ≡ number 8
unfolding in_type
long_layout Int z a b e = absurd (a refl)
long_layout Long z a b e = refl
long_layout Date z a b e = absurd (b refl)
long_layout Time z a b e = refl
long_layout Timestamp z a b e = refl
long_layout Timestamptz z a b e = refl
long_layout TimestampNs z a b e = refl
long_layout TimestamptzNs z a b e = refl
long_layout String z a b e = absurd (false≢true e)
long_layout Binary z a b e = absurd (false≢true e)

-- the cast to 32 bits keeps a number of a type of four bytes
module _ (ty : PrimitiveType) (z : ℤ) (is : layout ty ≡ number 4) (e : in_type ty z ≡ true) where
  wide : to_z w64 (of_z w64 z) ≡ z
  wide = back (in_type_long ty z e)

  short : SFits w32 (to_z w64 (of_z w64 z))
  short = rw wide ((in_type_lem ty four is z).0 e)

  cast_keeps : to_z w32 (of_z w32 (to_z w64 (of_z w64 z))) ≡ z
  cast_keeps = back short ∙ wide

short_layout : {ty : PrimitiveType} → (ty ≡ Int) ⊎ (ty ≡ Date) → layout ty ≡ number 4
short_layout (inl e) = ap layout e
short_layout (inr e) = ap layout e

pub overflow_cast-v : goal.overflow_cast-v
overflow_cast-v c = short c.args.column c.args.v (short_layout c.in-Int.is) c.requires.v_value

pub returns-in-Int : goal.returns-in-Int
returns-in-Int c =
    let is = short_layout c.in-Int.is in
    c.put_int.ensures ∙ rw (cast_keeps c.args.column c.args.v is c.requires.v_value, is)

pub returns-in_default : goal.returns-in_default
returns-in_default c =
    c.put_long.ensures
    ∙ rw (long_layout c.args.column c.args.v c.in_default.not-Int c.in_default.not-Date c.requires.v_value, back c.ranges.v)
