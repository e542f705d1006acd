-- A value has one record: two records of bytes with the same value are the same. Assumes nothing.
use Rattle.std.specs.Prelude.{Ok}
use Prim.Native.Nat.{ℕ, ◌+◌, ◌-◌, ◌≤◌}
use native.Mathlib.Omega.{arith}
use mathlib.Core.Bool.{Bool, true, false, cond}
use mathlib.Core.List.{List}
use mathlib.Core.Path.{◌≡◌, refl, sym, ap, ◌∙◌}
use lib.Dec.{eqb}
use lib.ListN.{length}
use lib.Seq.{take_all}
use borrow.Author.Tests.{eqb-true}
use Rattle.values.specs.Outcomes.{Row, missing, present}
use Rattle.values.specs.laws.FieldLaws.{same_beginning}
use Rattle.values.specs.laws.OutcomeLaws.{ok_inj, missing_not_present, passed, gone}
use Rattle.values.specs.Types.{content_size, layout}
use Rattle.values.specs.Words.{AllBytes, le_number, word, zero_at}
use Rattle.values.specs.declared.datatypes.PrimitiveType.{PrimitiveType}
use Rattle.values.specs.declared.error.ErrorKind.TheVariants.{Malformed}
use Rattle.sheet.specs.Records.{header_size, record_size, next_in, length_in, content, missing_mark, missing_value, present_value, value}
use Rattle.sheet.specs.laws.RecordLaws.{fits_room, content_read, content_length, value_read}

-- a value record with this in its length, with a content of n bytes that are this number, and zeros after it
record Laid (says n number : ℕ) (r : List ℕ) : Type 0 where
  whole : length r ≡ record_size
  next_is : next_in r ≡ 0
  length_is : length_in r ≡ says
  content_is : word header_size n r ≡ number
  rest_is : word (header_size + n) (content_size - n) r ≡ 0

same_record : (says n number : ℕ) (r q : List ℕ) → n ≤ content_size → AllBytes r → AllBytes q → Laid says n number r → Laid says n number q → r ≡ q
same_record says n number r q room hr hq x y =
    let r_size = x.whole in
    let q_size = y.whole in
    let next = same_beginning 0 2 r q hr hq (omega arith) (omega arith) refl (x.next_is ∙ sym y.next_is) in
    let header = same_beginning 2 2 r q hr hq (omega arith) (omega arith) next (x.length_is ∙ sym y.length_is) in
    let inside = same_beginning header_size n r q hr hq (omega arith) (omega arith) header (x.content_is ∙ sym y.content_is) in
    let rest = same_beginning (header_size + n) (content_size - n) r q hr hq (omega arith) (omega arith) inside (x.rest_is ∙ sym y.rest_is) in
    let end : header_size + n + (content_size - n) ≡ record_size = omega arith in
    sym (take_all record_size r (omega arith)) ∙ (rw end at rest) ∙ take_all record_size q (omega arith)

-- ---- what a value was read from
module _ (ty : PrimitiveType) (r : List ℕ) where
  laid_missing : value (layout ty) r ≡ Ok missing → Laid missing_mark 0 0 r
  unfolding value
  laid_missing e =
      let a = passed (eqb (next_in r) 0) Malformed _ e in
      go (eqb-true (next_in r) 0 a.0) (eqb (length_in r) missing_mark) refl a.1
    where
      go : next_in r ≡ 0 → (b : Bool) → eqb (length_in r) missing_mark ≡ b → cond b (missing_value r) (present_value (layout ty) r) ≡ Ok missing
          → Laid missing_mark 0 0 r
      go next true d k =
          let size = passed (eqb (length r) record_size) Malformed _ k in
          let zeros = passed (zero_at header_size content_size r) Malformed _ size.1 in
          record {
            whole = eqb-true (length r) record_size size.0;
            next_is = next;
            length_is = eqb-true (length_in r) missing_mark d;
            content_is = refl;
            rest_is = eqb-true (word header_size content_size r) 0 zeros.0;
          }
      go next false d k = missing_not_present (sym (ok_inj (gone (content (layout ty) r) (λ (bs : List ℕ). Ok (present bs)) k).2))

  laid_present : (bs : List ℕ) → value (layout ty) r ≡ Ok (present bs) → Laid (length bs) (length bs) (le_number bs) r
  laid_present bs e =
      let v = value_read ty r (present bs) e in
      let c = content_read (layout ty) r bs v.is_content in
      let size = content_length ty r bs v.is_content in
      record {
        whole = v.whole;
        next_is = v.next_zero;
        length_is = sym size;
        content_is = rw size (sym (ap le_number c.is_field));
        rest_is = rw size (eqb-true _ 0 c.rest_zero);
      }

pub unique_record : (ty : PrimitiveType) (r q : List ℕ) (row : Row (List ℕ)) → AllBytes r → AllBytes q
    → value (layout ty) r ≡ Ok row → value (layout ty) q ≡ Ok row → r ≡ q
unique_record ty r q missing hr hq d e = same_record missing_mark 0 0 r q (omega arith) hr hq (laid_missing ty r d) (laid_missing ty q e)
unique_record ty r q (present bs) hr hq d e =
    same_record (length bs) (length bs) (le_number bs) r q (fits_room ty (length bs) (value_read ty r (present bs) d).fit) hr hq
    (laid_present ty r bs d) (laid_present ty q bs e)
