-- Truncate of a number in 64 bits. Assumes nothing.
use Rattle.std.specs.Prelude.{Option, Some, None, SomeIff}
use Rattle.std.specs.Int.{CanDivide}
use mathlib.Core.Path.{◌≡◌, refl, ap}
use mathlib.Core.Bool.{Bool, true, false, cond}
use Prim.Native.Nat.{ℕ, zero, suc, ◌/◌, ◌^◌, ◌<◌}
use native.Mathlib.Nat.{div-le_self}
use borrow.Author.Tests.{lt-ltb}
use lib.IntN.{ℤ, pos, negsuc, ◌-ℤ◌}
use lib.Signed.{quot_z}
use mir.Syntax.{w64}
use mir.Val.{SFits}
use Rattle.values.specs.Types.{in_type}
use Rattle.values.specs.laws.IntLaws.{ints, neg}
use Rattle.values.specs.laws.RangeLaws.{in_long}
use Rattle.values.specs.declared.datatypes.PrimitiveType.TheVariants.{Long}
use Rattle.transform.specs.Floor.{floor_mod}
use Rattle.transform.specs.Truncate.{truncated}
use Rattle.transform.specs.code.TransformAnswers.{truncated_long}

quotient_fits : (v : ℤ) (w : ℕ) → SFits w64 v → SFits w64 (quot_z v (pos w))
quotient_fits (pos a) w f = omega (ints, div-le_self a w)
quotient_fits (negsuc a) w f = omega (ints, div-le_self (suc a) w, neg (pos (suc a / w)))

-- only by 0 no number can be divided
pub no_width : (w : ℕ) (v : ℤ) → w < 2 ^ 32 → SFits w64 v → (CanDivide w64 v (pos w) → ⊥) → None ≡ truncated_long w v
no_width zero v k f h = refl
no_width (suc n) v k f h = absurd (h (omega ints, quotient_fits v (suc n) f))

-- `checked_sub` hands back what 64 bits hold
pub less_rest : (w : ℕ) (v r : ℤ) → 0 < w → r ≡ pos (floor_mod v w) → (o : Option ℤ) → SomeIff o (SFits w64 (v -ℤ r)) (v -ℤ r) → o ≡ truncated_long w v
unfolding truncated
less_rest w v r w>0 e (Some x) h = rw (lt-ltb 0 w w>0, ← e, (in_long (v -ℤ r)).1 h.0) (ap Some h.1)
less_rest w v r w>0 e None h = rw (lt-ltb 0 w w>0, ← e) (go (in_type Long (v -ℤ r)) (in_long (v -ℤ r)).0)
  where
    go : (b : Bool) → (b ≡ true → SFits w64 (v -ℤ r)) → None ≡ cond b (Some (v -ℤ r)) None
    go true k = absurd (h (k refl))
    go false k = refl
