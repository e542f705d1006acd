-- Records: what is read of one has a length that its type allows, and a record of another length is refused. Assumes nothing.
use Rattle.std.specs.Prelude.{ℕ, zero, suc, ◌+◌, ◌-◌, ◌≤◌, Bool, List, [], ◌∷◌, ◌⊎◌, ◌≡◌, eqb, length, drop, Ok, Err}
use Rattle.std.proofs.Common.{arith, true≢false, inl, inr, sym, ap, subst, ◌∙◌, length-drop, length-take-le, leb-true, eqb-true, ne_eqb}
use Rattle.std.proofs.Math.Bool.{true, false, cond}
use Rattle.std.proofs.Math.Path.{refl}
use Rattle.values.specs.Outcomes.{need, ◌>>◌, Row, missing, present}
use Rattle.values.specs.laws.OutcomeLaws.{ok_inj, failing, passed, gone}
use Rattle.values.specs.Types.{Layout, number, content_size, layout, fits}
use Rattle.values.specs.code.ByteTypes.{is_bytes}
use Rattle.values.specs.Words.{field, zero_at, AllBytes}
use Rattle.values.specs.declared.datatypes.PrimitiveType.{PrimitiveType}
use Rattle.values.specs.declared.datatypes.PrimitiveType.TheVariants.{Int, Long, Date, Time, Timestamp, Timestamptz, TimestampNs, TimestamptzNs, String, Binary}
use Rattle.values.specs.declared.error.ErrorKind.TheVariants.{Malformed}
use Rattle.sheet.specs.code.Contents.{NumberType}
use Rattle.sheet.specs.Records.{header_size, record_size, next_in, length_in, content, missing_mark, missing_value, present_value, value}

-- no type allows more bytes than a record has room for
pub fits_room : (ty : PrimitiveType) (n : ℕ) → fits (layout ty) n ≡ true → n ≤ content_size
fits_room Int n h = omega (arith, eqb-true n 4 h)
fits_room Long n h = omega (arith, eqb-true n 8 h)
fits_room Date n h = omega (arith, eqb-true n 4 h)
fits_room Time n h = omega (arith, eqb-true n 8 h)
fits_room Timestamp n h = omega (arith, eqb-true n 8 h)
fits_room Timestamptz n h = omega (arith, eqb-true n 8 h)
fits_room TimestampNs n h = omega (arith, eqb-true n 8 h)
fits_room TimestamptzNs n h = omega (arith, eqb-true n 8 h)
fits_room String n h = leb-true n content_size h
fits_room Binary n h = leb-true n content_size h

-- a type that is not of bytes allows one length, and its numbers are so long
number_sized : {t : PrimitiveType} {n : ℕ} → layout t ≡ number n → (n ≡ 4) ⊎ (n ≡ 8) → (k : ℕ) → eqb k n ≡ true → NumberType t k
number_sized {n = n} is size k e = rw (eqb-true k n e) (record { is = is; size = size })

pub number_type : (t : PrimitiveType) (k : ℕ) → is_bytes (layout t) ≡ false → fits (layout t) k ≡ true → NumberType t k
number_type Int k h e = number_sized refl (inl refl) k e
number_type Long k h e = number_sized refl (inr refl) k e
number_type Date k h e = number_sized refl (inl refl) k e
number_type Time k h e = number_sized refl (inr refl) k e
number_type Timestamp k h e = number_sized refl (inr refl) k e
number_type Timestamptz k h e = number_sized refl (inr refl) k e
number_type TimestampNs k h e = number_sized refl (inr refl) k e
number_type TimestamptzNs k h e = number_sized refl (inr refl) k e
number_type String k h e = absurd (true≢false h)
number_type Binary k h e = absurd (true≢false h)

-- the bytes of a row, if it has any, have a length that the type allows
abbrev pub FitsRow : PrimitiveType → Row (List ℕ) → Type 0
FitsRow ty missing = Unit {0}
FitsRow ty (present bs) = fits (layout ty) (length bs) ≡ true

-- ---- contents
pub record ContentRead (l : Layout) (r bs : List ℕ) : Type 0 where
  pub whole : length r ≡ record_size
  pub fit : fits l (length_in r) ≡ true
  pub rest_zero : zero_at (header_size + length_in r) (content_size - length_in r) r ≡ true
  pub is_field : bs ≡ field header_size (length_in r) r

pub content_read : (l : Layout) (r bs : List ℕ) → content l r ≡ Ok bs → ContentRead l r bs
unfolding content
content_read l r bs e =
    let a = passed (eqb (length r) record_size) Malformed _ e in
    let b = passed (fits l (length_in r)) Malformed _ a.1 in
    let c = passed (zero_at (header_size + length_in r) (content_size - length_in r) r) Malformed _ b.1 in
    record { whole = eqb-true (length r) record_size a.0; fit = b.0; rest_zero = c.0; is_field = sym (ok_inj c.1) }

pub content_length : (ty : PrimitiveType) (r bs : List ℕ) → content (layout ty) r ≡ Ok bs → length bs ≡ length_in r
content_length ty r bs e =
    let x = content_read (layout ty) r bs e in
    let room = fits_room ty (length_in r) x.fit in
    ap length x.is_field ∙ length-take-le (length_in r) (drop header_size r) (omega (arith, length-drop header_size r, x.whole))

pub content_fits : (ty : PrimitiveType) (r bs : List ℕ) → content (layout ty) r ≡ Ok bs → fits (layout ty) (length bs) ≡ true
content_fits ty r bs e = rw (content_length ty r bs e) (content_read (layout ty) r bs e).fit

-- a part of bytes is bytes
pub field_bytes : (at n : ℕ) (s : List ℕ) → AllBytes s → AllBytes (field at n s)
field_bytes zero zero s h i = omega arith
field_bytes zero (suc n) [] h i = omega arith
field_bytes zero (suc n) (b ∷ s) h zero = h 0
field_bytes zero (suc n) (b ∷ s) h (suc i) = field_bytes zero n s (λ j. h (suc j)) i
field_bytes (suc at) zero [] h i = omega arith
field_bytes (suc at) (suc n) [] h i = omega arith
field_bytes (suc at) n (b ∷ s) h i = field_bytes at n s (λ j. h (suc j)) i

pub content_bytes : (l : Layout) (r bs : List ℕ) → content l r ≡ Ok bs → AllBytes r → AllBytes bs
content_bytes l r bs e h = rw (content_read l r bs e).is_field (field_bytes header_size (length_in r) r h)

-- ---- values
-- the bytes of a row, if it has any, are bytes
abbrev pub RowBytes : Row (List ℕ) → Type 0
RowBytes missing = Unit {0}
RowBytes (present bs) = AllBytes bs

-- the bytes of a row, if it has any, are the record's content
abbrev pub ContentOf : PrimitiveType → List ℕ → Row (List ℕ) → Type 0
ContentOf ty r missing = Unit {0}
ContentOf ty r (present bs) = content (layout ty) r ≡ Ok bs

pub record ValueRead (ty : PrimitiveType) (r : List ℕ) (row : Row (List ℕ)) : Type 0 where
  pub whole : length r ≡ record_size
  pub next_zero : next_in r ≡ 0
  pub is_content : ContentOf ty r row
  pub fit : FitsRow ty row
  pub are_bytes : AllBytes r → RowBytes row

module _ (ty : PrimitiveType) (r : List ℕ) (next : next_in r ≡ 0) where
  missing_read : {row : Row (List ℕ)} → missing_value r ≡ Ok row → ValueRead ty r row
  missing_read {row} e =
      let a = passed (eqb (length r) record_size) Malformed _ e in
      let b = passed (zero_at header_size content_size r) Malformed _ a.1 in
      subst (ValueRead ty r) (ok_inj b.1) (record { whole = eqb-true (length r) record_size a.0; next_zero = next; is_content = tt; fit = tt; are_bytes = λ h. tt })

  present_read : {row : Row (List ℕ)} → present_value (layout ty) r ≡ Ok row → ValueRead ty r row
  present_read {row} e =
      let a = gone (content (layout ty) r) (λ (bs : List ℕ). Ok (present bs)) e in
      subst (ValueRead ty r) (ok_inj a.2) (record {
        whole = (content_read (layout ty) r a.0 a.1).whole;
        next_zero = next;
        is_content = a.1;
        fit = content_fits ty r a.0 a.1;
        are_bytes = content_bytes (layout ty) r a.0 a.1;
      })

pub value_read : (ty : PrimitiveType) (r : List ℕ) (row : Row (List ℕ)) → value (layout ty) r ≡ Ok row → ValueRead ty r row
unfolding value
value_read ty r row e =
    let a = passed (eqb (next_in r) 0) Malformed _ e in
    let next = eqb-true (next_in r) 0 a.0 in
    go next (eqb (length_in r) missing_mark) a.1
  where
    go : next_in r ≡ 0 → (b : Bool) → cond b (missing_value r) (present_value (layout ty) r) ≡ Ok row → ValueRead ty r row
    go next true k = missing_read ty r next k
    go next false k = present_read ty r next k

-- ---- a record of another length is refused
module _ (l : Layout) (r : List ℕ) (other : length r ≡ record_size → ⊥) where
  pub content_other : content l r ≡ Err Malformed
  unfolding content
  content_other = failing Malformed _ (ne_eqb (length r) record_size other)

  pub value_other : value l r ≡ Err Malformed
  unfolding value
  value_other = go (eqb (next_in r) 0) (eqb (length_in r) missing_mark)
    where
      go : (a b : Bool) → (need a Malformed >> cond b (missing_value r) (present_value l r)) ≡ Err Malformed
      go false b = refl
      go true true = failing Malformed _ (ne_eqb (length r) record_size other)
      go true false = rw content_other
