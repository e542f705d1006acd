-- What the code's results and arguments say, as the definitions have it. Assumes nothing.
use Rattle.std.specs.Prelude.{true, ◌≡◌, ℤ, Ok}
use Rattle.values.specs.Outcomes.{Res, ◌>>=◌, Row, missing, present}
use Rattle.values.specs.Types.{in_type}
use Rattle.values.specs.declared.datatypes.PrimitiveType.{PrimitiveType}
use Rattle.transform.specs.Temporal.{day_of}
use Rattle.transform.specs.declared.calendar.Days.{Days}

abbrev pub days_of : PrimitiveType → ℤ → Res Days
days_of ty v = do
  day ← day_of ty v
  Ok (record { 0 = day })

-- a number of the type
abbrev pub InType : PrimitiveType → ℤ → Type 0
InType ty z = in_type ty z ≡ true

-- what is said of a present value
abbrev pub OfPresent : {A : Type 0} → (A → Type 0) → Row A → Type 0
OfPresent g missing = Unit {0}
OfPresent g (present v) = g v
