-- What a step gives: a value, or a refusal of document 01's first table. Assumes nothing.
use Rattle.std.specs.Prelude.{ℕ, Bool, true, false, List, [], ◌∷◌, Result, Ok, Err, Option}
pub use Rattle.std.specs.Prelude.{Some as present, None as missing}
use Rattle.values.specs.declared.error.ErrorKind.{ErrorKind}
use Rattle.values.specs.declared.error.ErrorKind.TheVariants.{Malformed, NotUtf8, NoResultType, DataInvalid, FeatureUnsupported, Overflow, OutsideGrammar, TooLarge, WrongSummary, DifferentTypes}

-- document 01's numbers of the refusals, and 02's from 9 on; 2, the buffer's, comes before all of these and stands in `Routines` (`api`)
abbrev pub error_number : ErrorKind → ℕ
error_number Malformed = 3
error_number NotUtf8 = 4
error_number NoResultType = 5
error_number DataInvalid = 6
error_number FeatureUnsupported = 7
error_number Overflow = 8
error_number OutsideGrammar = 9
error_number TooLarge = 10
error_number WrongSummary = 11
error_number DifferentTypes = 12

abbrev pub Res : Type 0 → Type 0
Res A = Result A ErrorKind

-- a test that must pass, and the refusal where it fails
abbrev pub need : Bool → ErrorKind → Res (Unit {0})
need true e = Ok tt
need false e = Err e

-- in a `do` block the lines are checked in their order: the first that fails is the answer
infixr 20 ◌>>=◌ ◌>>◌
abbrev pub ◌>>=◌ : {A B : Type 0} → Res A → (A → Res B) → Res B
◌>>=◌ (Ok x) f = f x
◌>>=◌ (Err e) f = Err e

abbrev pub ◌>>◌ : {B : Type 0} → Res (Unit {0}) → Res B → Res B
◌>>◌ (Ok u) r = r
◌>>◌ (Err e) r = Err e

-- every member of a list in its turn: the first refusal is the answer
abbrev pub each : {A B : Type 0} → (A → Res B) → List A → Res (List B)
each f [] = Ok []
each f (x ∷ xs) = do
  y ← f x
  ys ← each f xs
  Ok (y ∷ ys)

-- a value that may be missing: what a row holds, and what a transform makes of it
abbrev pub Row : Type 0 → Type 0
Row A = Option A

-- a value that is there where a flag is set
abbrev pub row : {A : Type 0} → Bool → A → Row A
row true v = present v
row false v = missing
