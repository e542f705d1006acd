-- What is to be shown of a missing value: a returned test has of it what the leaf has (`proofs/MissingLaws` shows it). Assumes nothing.
use Rattle.std.specs.Prelude.{Bool, ◌≡◌}
use Rattle.expr.specs.Holds.{missing_meets}
use Rattle.expr.specs.Predicates.{Test, test, by_arity_in}

-- whether a missing value meets a test
abbrev pub meets_missing : {A : Type 0} → Test A → Bool
meets_missing x = missing_meets (by_arity_in (test x))

abbrev pub SameMissing : {A B : Type 0} → Test A → Test B → Type 0
SameMissing x q = meets_missing q ≡ meets_missing x
