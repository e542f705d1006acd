-- The transforms that a match leaves to `_` and `else`: what is known there of the transform. Assumes nothing.
use Prim.Native.Nat.{ℕ}
use mathlib.Core.Bool.{true, false}
use mathlib.Core.Path.{◌≡◌, refl}
use Rattle.std.specs.Prelude.{◌≢◌, Ok}
use Rattle.values.specs.declared.transform.Transform.{Transform}
use Rattle.values.specs.declared.transform.Transform.TheVariants.{Identity, Truncate, Year, Month, Day, Hour, Void, Unknown}
use Rattle.values.specs.declared.datatypes.PrimitiveType.{PrimitiveType}
use Rattle.partition.specs.ResultType.{result_type}
use Rattle.answers.specs.code.Leaves.{has_steps, is_identity, BytesColumn}
use Rattle.answers.specs.laws.BytesLeafLaws.{by_transform_lem}

-- beside Identity
pub not_identity : (t : Transform) → t ≢ Identity → is_identity t ≡ false
not_identity Identity m = absurd (m refl)
not_identity (Truncate width) m = refl
not_identity Year m = refl
not_identity Month m = refl
not_identity Day m = refl
not_identity Hour m = refl
not_identity Void m = refl
not_identity Unknown m = refl

-- beside Truncate: of a byte string's only Identity has steps
pub other_identity : (column to : PrimitiveType) → BytesColumn column → (t : Transform) → result_type t column ≡ Ok to → has_steps t ≡ true
    → ((width : ℕ) → t ≢ Truncate width) → t ≡ Identity
other_identity column to bs t result known =
    by_transform_lem (λ t. ((width : ℕ) → t ≢ Truncate width) → t ≡ Identity) column to bs (λ m. refl) (λ width m. absurd (m width refl)) t result known

-- beside Void and Unknown
pub stepping : (t : Transform) → t ≢ Void → t ≢ Unknown → has_steps t ≡ true
stepping Identity v u = refl
stepping (Truncate width) v u = refl
stepping Year v u = refl
stepping Month v u = refl
stepping Day v u = refl
stepping Hour v u = refl
stepping Void v u = absurd (v refl)
stepping Unknown v u = absurd (u refl)
