-- What the code says of a set that it has collected: a refusal, or how many members. Assumes nothing.
use Rattle.std.specs.Prelude.{ℕ, List, ◌≡◌, refl, length, Ok, Err}
use Rattle.std.specs.Result.{result_map_both}
use Rattle.std.proofs.Common.{sym}
use Rattle.values.specs.Outcomes.{Res}
use Rattle.values.specs.declared.error.ErrorKind.{ErrorKind}
use Rattle.values.specs.laws.OutcomeLaws.{ok_inj, ok_not_err}

module _ {A : Type 0} where
  -- what is said
  abbrev pub counted : Res (List A) → Res ℕ
  counted found = result_map_both length (λ e. e) found

  pub found_count : (found : Res (List A)) {n : ℕ} → counted found ≡ Ok n → (zs : List A) × (found ≡ Ok zs) × (n ≡ length zs)
  found_count (Ok zs) e = (zs, refl, sym (ok_inj e))
  found_count (Err k) e = ok_not_err e

  pub found_error : (found : Res (List A)) {k : ErrorKind} → counted found ≡ Err k → found ≡ Err k
  found_error (Ok zs) e = ok_not_err (sym e)
  found_error (Err j) e = cc
