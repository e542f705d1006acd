-- What each return of the code that reads a value record comes to. Assumes nothing.
use Rattle.std.specs.Prelude.{Ok, Err}
use Prim.Native.Nat.{ℕ, ◌≤◌}
use native.Mathlib.Omega.{arith}
use mathlib.Core.Bool.{Bool, true, false, cond}
use mathlib.Core.List.{List}
use mathlib.Core.Path.{◌≡◌, refl, sym}
use lib.Dec.{eqb}
use lib.ListN.{length}
use lib.Seq.{take_all}
use borrow.Author.Tests.{eq-eqb, ne_eqb}
use Rattle.values.specs.Outcomes.{Res, need, ◌>>◌, Row, missing, present}
use Rattle.values.specs.Types.{layout, content_size}
use Rattle.values.specs.Words.{zero_at}
use Rattle.values.specs.declared.datatypes.PrimitiveType.{PrimitiveType}
use Rattle.values.specs.declared.error.ErrorKind.TheVariants.{Malformed}
use Rattle.sheet.specs.code.ReadAnswers.{is_ok}
use Rattle.sheet.specs.code.Placed.{content_at}
use Rattle.sheet.specs.laws.PartLaws.{content_by, content_fits}
use Rattle.sheet.specs.laws.RecordLaws.{fits_room}
use Rattle.sheet.specs.Records.{header_size, record_size, next_in, length_in, content, missing_mark, value, record_at}

-- a record of the right size without a next, whose length is n
pub record Opened (v : List ℕ) (n : ℕ) : Type 0 where
  pub size : length v ≡ record_size
  pub first : next_in v ≡ 0
  pub says : n ≡ length_in v

module _ (t : PrimitiveType) (v : List ℕ) where
  refused_anyway : (a b : Bool) → ◌≡◌ {A = Res (Row (List ℕ))} (need a Malformed >> cond b (Err Malformed) (Err Malformed)) (Err Malformed)
  refused_anyway true true = refl
  refused_anyway true false = refl
  refused_anyway false b = refl

  pub wrong_size : (length v ≡ record_size → ⊥) → Err Malformed ≡ value (layout t) v
  unfolding value content
  wrong_size h =
      rw (ne_eqb (length v) record_size h) (sym (refused_anyway (eqb (next_in v) 0) (eqb (length_in v) missing_mark)))

  pub with_next_lem : (n : ℕ) → n ≡ next_in v → (n ≡ 0 → ⊥) → Err Malformed ≡ value (layout t) v
  unfolding value
  with_next_lem n is h = rw (← is, ne_eqb n 0 h)

module _ (t : PrimitiveType) {v : List ℕ} {n : ℕ} (o : Opened v n) where
  module _ (mark : n ≡ missing_mark) where
    pub missing_read : zero_at header_size content_size v ≡ true → Ok missing ≡ value (layout t) v
    unfolding value
    missing_read z = rw (eq-eqb (next_in v) 0 o.first, ← o.says, eq-eqb n missing_mark mark, eq-eqb (length v) record_size o.size, z)

    pub not_missing : zero_at header_size content_size v ≡ false → Err Malformed ≡ value (layout t) v
    unfolding value
    not_missing z = rw (eq-eqb (next_in v) 0 o.first, ← o.says, eq-eqb n missing_mark mark, eq-eqb (length v) record_size o.size, z)

  module _ (other : n ≡ missing_mark → ⊥) where
    here : {b : Bool} → is_ok (content (layout t) (record_at v 0)) ≡ b → is_ok (content (layout t) v) ≡ b
    here e = let whole : record_at v 0 ≡ v = take_all record_size v (omega (arith, o.size)) in rw whole at e

    pub not_present : is_ok (content (layout t) (record_at v 0)) ≡ false → Err Malformed ≡ value (layout t) v
    unfolding value
    not_present e = rw (eq-eqb (next_in v) 0 o.first, ← o.says, ne_eqb n missing_mark other, content_by (layout t) v (here e))

    pub present_read : is_ok (content (layout t) (record_at v 0)) ≡ true → Ok (present (content_at v 0)) ≡ value (layout t) v
    unfolding value
    present_read e =
        let whole : record_at v 0 ≡ v = take_all record_size v (omega (arith, o.size)) in
        rw (eq-eqb (next_in v) 0 o.first, ← o.says, ne_eqb n missing_mark other, content_by (layout t) v (here e)) (rw whole)

-- a literal is no longer than a record has room for
pub room_present : (t : PrimitiveType) (v : List ℕ) → is_ok (content (layout t) (record_at v 0)) ≡ true → length_in (record_at v 0) ≤ content_size
room_present t v e = fits_room t (length_in (record_at v 0)) (content_fits (layout t) (record_at v 0) e)
