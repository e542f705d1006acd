-- What the transforms of strings and binaries promise to the crates above: the value is a beginning, and which byte strings have one. Assumes nothing.
use Rattle.std.specs.Prelude.{ℕ, Bool, true, false, cond, List, ◌⊎◌, ◌≡◌, refl, length, take, Ok}
use Rattle.std.proofs.Common.{inl, inr, sym, ap, subst}
use Rattle.std.proofs.Math.Seq.{take-length}
use Rattle.values.specs.Outcomes.{Res, Row, missing, present}
use Rattle.values.specs.laws.OutcomeLaws.{ok_inj, present_inj, ok_not_err, missing_not_present}
use Rattle.values.specs.laws.TestLaws.{clash}
use Rattle.values.specs.Types.{same_type}
use Rattle.values.specs.Utf8.{utf8}
use Rattle.values.specs.declared.datatypes.PrimitiveType.{PrimitiveType}
use Rattle.values.specs.declared.datatypes.PrimitiveType.TheVariants.{String}
use Rattle.values.specs.declared.transform.Transform.{Transform}
use Rattle.values.specs.declared.transform.Transform.TheVariants.{Identity, Truncate, Year, Month, Day, Hour, Void, Unknown}
use Rattle.transform.specs.Truncate.{first_code_points, first_bytes}
use Rattle.transform.specs.laws.BinaryLaws.{first_bytes_take}
use Rattle.transform.specs.laws.StringLaws.{first_take, first_utf8}
use Rattle.partition.specs.Partition.{truncate_bytes, transform_bytes}

-- a value is the beginning of what it is made of. A String's is UTF-8 where that is; a Binary may be cut within a code point
pub record Begins (ty : PrimitiveType) (s t : List ℕ) : Type 0 where
  pub beginning : t ≡ take (length t) s
  pub string : ty ≡ String → utf8 s ≡ true → utf8 t ≡ true

whole : (ty : PrimitiveType) (s : List ℕ) → Begins ty s s
whole ty s = record { beginning = sym (take-length s); string = λ t h. h }

bytes_by : {s t : List ℕ} → ◌≡◌ {A = Res (Row (List ℕ))} (Ok (present s)) (Ok (present t)) → s ≡ t
bytes_by e = present_inj (ok_inj e)

cut_begins : (ty : PrimitiveType) (width : ℕ) (s : List ℕ) → Begins ty s (truncate_bytes ty width s)
cut_begins ty width s = go (same_type ty String) refl
  where
    go : (b : Bool) → same_type ty String ≡ b → Begins ty s (cond b (first_code_points width s) (first_bytes width s))
    go true e = record { beginning = first_take width s; string = λ t. first_utf8 width s }
    go false e = record { beginning = first_bytes_take width s; string = λ t. clash (ap (λ (c : PrimitiveType). same_type c String) t) e }

pub bytes_begin : (ty : PrimitiveType) (tr : Transform) (s t : List ℕ) → transform_bytes ty tr s ≡ Ok (present t) → Begins ty s t
unfolding transform_bytes
bytes_begin ty Identity s t e = subst (Begins ty s) (bytes_by e) (whole ty s)
bytes_begin ty (Truncate width) s t e = subst (Begins ty s) (bytes_by e) (cut_begins ty width s)
bytes_begin ty Year s t e = ok_not_err e
bytes_begin ty Month s t e = ok_not_err e
bytes_begin ty Day s t e = ok_not_err e
bytes_begin ty Hour s t e = ok_not_err e
bytes_begin ty Void s t e = missing_not_present (ok_inj e)
bytes_begin ty Unknown s t e = ok_not_err e

-- Truncate cuts every byte string
pub bytes_truncates : (ty : PrimitiveType) (width : ℕ) (s : List ℕ) → transform_bytes ty (Truncate width) s ≡ Ok (present (truncate_bytes ty width s))
unfolding transform_bytes
bytes_truncates ty width s = refl

-- only Identity and Truncate give a present byte string
pub bytes_present : (ty : PrimitiveType) (tr : Transform) (s t : List ℕ) → transform_bytes ty tr s ≡ Ok (present t)
    → (tr ≡ Identity) ⊎ ((width : ℕ) × (tr ≡ Truncate width))
unfolding transform_bytes
bytes_present ty Identity s t e = inl refl
bytes_present ty (Truncate width) s t e = inr (width, refl)
bytes_present ty Year s t e = ok_not_err e
bytes_present ty Month s t e = ok_not_err e
bytes_present ty Day s t e = ok_not_err e
bytes_present ty Hour s t e = ok_not_err e
bytes_present ty Void s t e = missing_not_present (ok_inj e)
bytes_present ty Unknown s t e = ok_not_err e

-- every transform but Void gives a byte string or a refusal
pub bytes_missing : (ty : PrimitiveType) (tr : Transform) (s : List ℕ) → transform_bytes ty tr s ≡ Ok missing → tr ≡ Void
unfolding transform_bytes
bytes_missing ty Identity s e = missing_not_present (ok_inj (sym e))
bytes_missing ty (Truncate width) s e = missing_not_present (ok_inj (sym e))
bytes_missing ty Year s e = ok_not_err e
bytes_missing ty Month s e = ok_not_err e
bytes_missing ty Day s e = ok_not_err e
bytes_missing ty Hour s e = ok_not_err e
bytes_missing ty Void s e = refl
bytes_missing ty Unknown s e = ok_not_err e

pub bytes_identity : (ty : PrimitiveType) (s : List ℕ) → transform_bytes ty Identity s ≡ Ok (present s)
unfolding transform_bytes
bytes_identity ty s = refl
