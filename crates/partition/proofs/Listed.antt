-- A list's test, as the definition has it. Assumes nothing.
use Rattle.std.specs.Prelude.{◌≡◌, refl, Bool, true, false, cond, Ok, Err}
use Rattle.values.specs.Outcomes.{Res, need, ◌>>◌}
use Rattle.values.specs.declared.error.ErrorKind.{ErrorKind}

pub listed : {A : Type 0} (b : Bool) (x : A) (e : ErrorKind) → ◌≡◌ {A = Res A} (cond b (Ok x) (Err e)) (need b e >> Ok x)
listed true x e = refl
listed false x e = refl
