-- Records: a literal or a value that is written is read. Assumes nothing.
use Rattle.std.specs.Prelude.{ℕ, zero, suc, ◌+◌, ◌-◌, ◌≤◌, ◌<◌, Bool, true, false, cond, List, ◌≡◌, refl, eqb, length, drop, replicate, Ok}
use Rattle.std.proofs.Common.{arith, ap, ◌∙◌, length-append, take_at, drop_at, take_all, eq-eqb, ne_eqb}
use Rattle.std.proofs.lemmas.List.{length-replicate}
use Rattle.values.specs.Outcomes.{Res, need, ◌>>◌, Row, missing, present}
use Rattle.values.specs.laws.OutcomeLaws.{passing, going}
use Rattle.values.specs.Types.{Layout, content_size, layout, fits}
use Rattle.values.specs.Words.{le_number, field, zero_at}
use Rattle.values.specs.laws.WordLaws.{number_bytes_lem}
use Rattle.values.specs.declared.datatypes.PrimitiveType.{PrimitiveType}
use Rattle.values.specs.declared.error.ErrorKind.TheVariants.{Malformed}
use Rattle.sheet.specs.Records.{header_size, record_size, next_in, length_in, content, missing_mark, missing_value, present_value, value}
use Rattle.sheet.specs.laws.RecordLaws.{fits_room, FitsRow}
use Rattle.write.specs.Written.{literal_record, value_record}

number_zeros : (n : ℕ) → le_number (replicate n 0) ≡ 0
number_zeros zero = refl
number_zeros (suc n) = omega (arith, number_zeros n)

pub next_back : (n : ℕ) (bs : List ℕ) → n < 65536 → next_in (literal_record n bs) ≡ n
next_back n bs h = number_bytes_lem 2 n h

module _ (n : ℕ) (bs : List ℕ) (room : length bs ≤ content_size) where
  abbrev zeros : List ℕ
  zeros = replicate (content_size - length bs) 0

  length_zeros : length zeros ≡ content_size - length bs
  length_zeros = length-replicate (content_size - length bs) 0

  pub length_literal : length (literal_record n bs) ≡ record_size
  length_literal = omega (arith, length-append bs zeros, length_zeros)

  pub length_back : length_in (literal_record n bs) ≡ length bs
  length_back = number_bytes_lem 2 (length bs) (omega arith)

  pub field_back : field header_size (length bs) (literal_record n bs) ≡ bs
  field_back = take_at bs zeros (length bs) refl

  zeros_back : zero_at (header_size + length bs) (content_size - length bs) (literal_record n bs) ≡ true
  zeros_back =
      let start : header_size + length bs ≡ suc (suc (suc (suc (length bs)))) = omega arith in
      let after : drop (header_size + length bs) (literal_record n bs) ≡ zeros = rw start (drop_at bs zeros (length bs) refl) in
      let whole : field (header_size + length bs) (content_size - length bs) (literal_record n bs) ≡ zeros
      = rw after (take_all (content_size - length bs) zeros (omega (arith, length_zeros))) in
      eq-eqb _ 0 (ap le_number whole ∙ number_zeros (content_size - length bs))

pub length_value : (ty : PrimitiveType) (row : Row (List ℕ)) → FitsRow ty row → length (value_record row) ≡ record_size
length_value ty missing h = refl
length_value ty (present bs) h = length_literal 0 bs (fits_room ty (length bs) h)

-- `content`, with the length that it reads as an argument
abbrev content_at : ℕ → Layout → List ℕ → Res (List ℕ)
content_at n l r = do
  need (eqb (length r) record_size) Malformed
  need (fits l n) Malformed
  need (zero_at (header_size + n) (content_size - n) r) Malformed
  Ok (field header_size n r)

pub content_back : (ty : PrimitiveType) (n : ℕ) (bs : List ℕ) → fits (layout ty) (length bs) ≡ true
    → content (layout ty) (literal_record n bs) ≡ Ok bs
unfolding content
content_back ty n bs h =
    let room = fits_room ty (length bs) h in
    ap (λ (k : ℕ). content_at k (layout ty) (literal_record n bs)) (length_back n bs room)
    ∙ passing Malformed _ (eq-eqb _ record_size (length_literal n bs room))
    ∙ passing Malformed _ h
    ∙ passing Malformed _ (zeros_back n bs room)
    ∙ ap Ok (field_back n bs room)

pub value_back : (ty : PrimitiveType) (row : Row (List ℕ)) → FitsRow ty row → value (layout ty) (value_record row) ≡ Ok row
unfolding value
value_back ty missing h = refl
value_back ty (present bs) h =
    let r = literal_record 0 bs in
    let room = fits_room ty (length bs) h in
    let other : eqb (length_in r) missing_mark ≡ false = ne_eqb (length_in r) missing_mark (λ e. omega (arith, length_back 0 bs room)) in
    ap (λ (b : Bool). cond b (missing_value r) (present_value (layout ty) r)) other
    ∙ going (λ (b : List ℕ). Ok (present b)) (content_back ty 0 bs h)
