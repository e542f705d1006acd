-- Laws of records: parts of a part, runs of zeros, when a record's content is a literal, and where a value's is. Assumes nothing.
use Rattle.std.specs.Prelude.{ℕ, zero, suc, ◌+◌, ◌-◌, ◌*◌, ◌^◌, ◌≤◌, ◌<◌, Bool, true, false, ◌&&◌, List, [], ◌∷◌, ◌≡◌, refl, eqb, length, take, drop, Ok}
use Rattle.std.proofs.Common.{mul-suc, arith, sym, ap, ◌∙◌, lit<, lit≤, length-drop, take_all, take-take, drop-drop, length-take-le, eq-eqb, ne_eqb}
use Rattle.std.proofs.Math.Nat.{one-le-pow}
use Rattle.std.proofs.Math.Seq.{take-nil}
use Rattle.values.specs.Outcomes.{need, ◌>>◌, present}
use Rattle.values.specs.laws.TestLaws.{and_both}
use Rattle.values.specs.Types.{Layout, number, layout, content_size, fits}
use Rattle.values.specs.laws.WordLaws.{word_split}
use Rattle.values.specs.Words.{le_number, field, word, zero_at, signed}
use Rattle.values.specs.declared.datatypes.PrimitiveType.{PrimitiveType}
use Rattle.values.specs.declared.error.ErrorKind.TheVariants.{Malformed}
use Rattle.sheet.specs.code.Placed.{content_at, number_at}
use Rattle.sheet.specs.code.ReadAnswers.{is_ok}
use Rattle.sheet.specs.laws.RecordLaws.{fits_room, content_read, value_read}
use Rattle.sheet.specs.Records.{header_size, record_size, next_in, length_in, content, value, record_at}

-- ---- a part of a part
drop_take : (i n : ℕ) (l : List ℕ) → drop i (take n l) ≡ take (n - i) (drop i l)
drop_take zero n l = let e : n - 0 ≡ n = omega arith in rw e
drop_take (suc i) zero l = let e : 0 - suc i ≡ 0 = omega arith in rw e
drop_take (suc i) (suc n) [] = sym (take-nil (suc n - suc i))
drop_take (suc i) (suc n) (x ∷ l) = let e : suc n - suc i ≡ n - i = omega arith in rw e (drop_take i n l)

pub field_in_field : (at n i m : ℕ) (s : List ℕ) → i + m ≤ n → field i m (field at n s) ≡ field (at + i) m s
field_in_field at n i m s h =
    rw (drop_take i n (drop at s), drop-drop i at s) (take-take m (n - i) (drop (at + i) s) (omega arith))

pub record_length : (s : List ℕ) (k : ℕ) → record_size * (k + 1) ≤ length s → length (record_at s k) ≡ record_size
record_length s k h = length-take-le record_size (drop (record_size * k) s) (omega (arith, length-drop (record_size * k) s))

pub in_record : (s : List ℕ) (k i m : ℕ) → i + m ≤ record_size → field i m (record_at s k) ≡ field (record_size * k + i) m s
in_record s k i m h = field_in_field (record_size * k) record_size i m s h

pub next_here : (s : List ℕ) (k : ℕ) → word (record_size * k) 2 s ≡ next_in (record_at s k)
next_here s k = let e : record_size * k + 0 ≡ record_size * k = omega arith in sym (ap le_number (in_record s k 0 2 (lit≤ tt)) ∙ rw e)

-- the length that a record says, and the content that is so long
pub length_here : (s : List ℕ) (k : ℕ) → word (record_size * k + 2) 2 s ≡ length_in (record_at s k)
length_here s k = sym (ap le_number (in_record s k 2 2 (lit≤ tt)))

pub content_here : (s : List ℕ) (k : ℕ) → length_in (record_at s k) ≤ content_size
    → field (record_size * k + header_size) (length_in (record_at s k)) s ≡ content_at s k
content_here s k h = sym (in_record s k header_size (length_in (record_at s k)) (omega arith))

-- ---- runs of zeros
sum_zero : (a b p : ℕ) → 0 < p → eqb (a + p * b) 0 ≡ (eqb a 0 && eqb b 0)
sum_zero zero zero p h = eq-eqb (0 + p * 0) 0 (omega arith)
sum_zero zero (suc b) p h =
    ne_eqb (0 + p * suc b) 0 (λ e. omega (arith, mul-suc p b)) ∙ sym (ne_eqb (suc b) 0 (λ e. omega arith))
sum_zero (suc a) b p h = rw (ne_eqb (suc a) 0 (λ e. omega arith)) (ne_eqb (suc a + p * b) 0 (λ e. omega arith))

-- n + m bytes are zero where the first n are and the m after them
pub zero_split : (at n m : ℕ) (s : List ℕ) → zero_at at (n + m) s ≡ (zero_at at n s && zero_at (at + n) m s)
zero_split at n m s =
    ap (λ (x : ℕ). eqb x 0) (word_split at n m s)
    ∙ sum_zero (word at n s) (word (at + n) m s) (256 ^ n) (one-le-pow n 256 (lit< tt))

-- ---- literals

-- no type has longer contents than a record has room for
three_needs : {A : Type 0} (a b c : Bool) (x : A)
    → (need a Malformed >> (need b Malformed >> (need c Malformed >> Ok x))) ≡ (need (a && (b && c)) Malformed >> Ok x)
three_needs true true c x = refl
three_needs true false c x = refl
three_needs false b c x = refl

need_ok : {A : Type 0} (a : Bool) (x : A) → is_ok (need a Malformed >> Ok x) ≡ a
need_ok true x = refl
need_ok false x = refl

module _ (l : Layout) (r : List ℕ) where
  -- the three tests of `content` as one
  abbrev tested : Bool
  tested = eqb (length r) record_size && (fits l (length_in r) && zero_at (header_size + length_in r) (content_size - length_in r) r)

  content_tested : content l r ≡ (need tested Malformed >> Ok (field header_size (length_in r) r))
  unfolding content
  content_tested = three_needs (eqb (length r) record_size) (fits l (length_in r)) _ _

  content_ok : is_ok (content l r) ≡ tested
  content_ok = rw content_tested (need_ok tested (field header_size (length_in r) r))

  -- a literal's content is the part that its length says, and anything else is 3
  pub content_by : {b : Bool} → is_ok (content l r) ≡ b → content l r ≡ (need b Malformed >> Ok (field header_size (length_in r) r))
  content_by e = rw (← e, content_ok) content_tested

  pub content_fits : is_ok (content l r) ≡ true → fits l (length_in r) ≡ true
  content_fits e =
      let a = and_both (eqb (length r) record_size) _ (sym content_ok ∙ e) in
      (and_both (fits l (length_in r)) _ a.1).0

-- the same by the sheet's bytes, of a record that is there and says the length n
module _ (l : Layout) (s : List ℕ) (k n : ℕ) (there : record_size * (k + 1) ≤ length s) (says : n ≡ word (record_size * k + 2) 2 s) where
  literal_here : is_ok (content l (record_at s k)) ≡ (fits l n && zero_at (header_size + n) (content_size - n) (record_at s k))
  literal_here = content_ok l (record_at s k) ∙ rw (eq-eqb (length (record_at s k)) record_size (record_length s k there), ← length_here s k, ← says)

  pub literal_refused : fits l n ≡ false → false ≡ is_ok (content l (record_at s k))
  literal_refused f = sym (literal_here ∙ rw f)

  pub literal_tested : {r : Bool} → fits l n ≡ true → n ≤ content_size → r ≡ zero_at (record_size * k + header_size + n) (content_size - n) s
      → r ≡ is_ok (content l (record_at s k))
  literal_tested f h e =
      let where_it_is : record_size * k + header_size + n ≡ record_size * k + (header_size + n) = omega arith in
      let same : word (header_size + n) (content_size - n) (record_at s k) ≡ word (record_size * k + (header_size + n)) (content_size - n) s
      = ap le_number (in_record s k (header_size + n) (content_size - n) (omega arith)) in
      e ∙ sym (literal_here ∙ rw (f, same, ← where_it_is))

-- the number in a record whose content is as long as its type asks
pub number_of_content : (n : ℕ) (s : List ℕ) (k : ℕ) → length_in (record_at s k) ≡ n → number_at (number n) s k ≡ signed n (le_number (content_at s k))
number_of_content n s k e = rw e

-- ---- a value's content is that of its one record
pub record ValueContent (ty : PrimitiveType) (v bs : List ℕ) : Type 0 where
  pub there : record_size ≤ length v
  pub short : length_in (record_at v 0) ≤ content_size
  pub is : content_at v 0 ≡ bs
  pub fit : fits (layout ty) (length bs) ≡ true

pub value_content : (ty : PrimitiveType) (v bs : List ℕ) → value (layout ty) v ≡ Ok (present bs) → ValueContent ty v bs
value_content ty v bs e =
    let read = value_read ty v (present bs) e in
    let c = content_read (layout ty) v bs read.is_content in
    let only : record_at v 0 ≡ v = take_all record_size v (omega (arith, read.whole)) in
    record {
      there = omega (arith, read.whole);
      short = rw only (fits_room ty (length_in v) c.fit);
      is = rw only (sym c.is_field);
      fit = read.fit;
    }
