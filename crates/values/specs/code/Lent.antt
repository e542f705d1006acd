-- What is held by values that were lent: by one, none or a refusal, and by a list of them. Assumes nothing.
use Rattle.std.specs.Prelude.{Ok, Err, Option, List, map, option_copied}
use denote.Ref.{Bor}
use Rattle.values.specs.Outcomes.{Res, Row}

abbrev pub lent_value : {A : Type 0} → Res (Option (Bor A)) → Res (Row A)
lent_value (Ok value) = Ok (option_copied value)
lent_value (Err e) = Err e

abbrev pub each_now : {A : Type 0} → List (Bor A) → List A
each_now xs = map (λ x. x.now) xs
