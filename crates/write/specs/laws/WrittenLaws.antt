-- Answers: an answer sheet that is written is read, and how long it is. Assumes nothing.
use Rattle.std.specs.Prelude.{ℕ, suc, ◌+◌, ◌*◌, ◌%◌, ◌^◌, ◌≤◌, ◌<◌, Bool, true, false, cond, ◌&&◌, List, [], ◌∷◌, ◌≡◌, refl, ltb, eqb, length, drop, Ok}
use Rattle.std.proofs.Common.{arith, ◌∙◌, length-append, take_at, drop_at, drop-drop, ltb-true, eqb-true, lt-ltb, le-leb, eq-eqb, ne_eqb}
use Rattle.values.specs.Numbered.{Numbered, ◌is◌, find}
use Rattle.values.specs.Outcomes.{each}
use Rattle.values.specs.laws.OutcomeLaws.{ok_not_err, passing, going, each_put}
use Rattle.values.specs.laws.TestLaws.{and_both}
use Rattle.values.specs.Types.{types, type_number, layout}
use Rattle.values.specs.laws.TypesLaws.{type_found, transform_found}
use Rattle.values.specs.Words.{le_bytes, le_number}
use Rattle.values.specs.laws.WordLaws.{number_bytes_lem}
use Rattle.values.specs.declared.datatypes.PrimitiveType.{PrimitiveType}
use Rattle.values.specs.declared.error.ErrorKind.TheVariants.{Malformed}
use Rattle.values.specs.declared.transform.Transform.TheVariants.{Identity}
use Rattle.expr.specs.Operators.{operators, operator_number}
use Rattle.expr.specs.Predicates.{Predicate, operator_in, literals_in}
use Rattle.sheet.specs.Records.{record_size, record_count, record_at, next_in, content}
use Rattle.sheet.specs.laws.RecordLaws.{fits_room}
use Rattle.write.specs.laws.RoundTripLaws.{length_literal, content_back}
use Rattle.sheet.specs.Sheets.{chain, head, sheet, fields}
use Rattle.sheet.specs.laws.SheetLaws.{Fits}
use Rattle.write.specs.Written.{literal_record, next_to, literal_records, answer_sheet}
use Rattle.expr.specs.laws.PredicateLaws.{operator_found, predicate_back}

-- ---- numbers of a list that are written are found
module _ {X : Type 0} (w : ℕ) where
  -- every number of a list is one of w bytes
  abbrev small : List (Numbered X) → Bool
  small [] = true
  small (k is x ∷ xs) = ltb k (256 ^ w) && small xs

  found_small : (xs : List (Numbered X)) (n : ℕ) {t : X} → small xs ≡ true → find xs n ≡ Ok t → n < 256 ^ w
  found_small [] n h e = ok_not_err e
  found_small (k is x ∷ xs) n h e =
      let both = and_both (ltb k (256 ^ w)) (small xs) h in
      go (eqb n k) refl e (ltb-true k (256 ^ w) both.0) (found_small xs n both.1)
    where
      go : {t : X} (b : Bool) → eqb n k ≡ b → cond b (Ok x) (find xs n) ≡ Ok t → k < 256 ^ w → (find xs n ≡ Ok t → n < 256 ^ w) → n < 256 ^ w
      go true d e h next = omega (arith, eqb-true n k d)
      go false d e h next = next e

  found_back : (xs : List (Numbered X)) (n : ℕ) {t : X} → small xs ≡ true → find xs n ≡ Ok t → find xs (le_number (le_bytes w n)) ≡ Ok t
  found_back xs n h e = rw (number_bytes_lem w n (found_small xs n h e)) e

-- ---- the records of an answer
next_to_back : (k : ℕ) (bs : List (List ℕ)) → k < 65536 → le_number (le_bytes 2 (next_to k bs)) ≡ next_to k bs
next_to_back k [] h = refl
next_to_back k (b ∷ bs) h = number_bytes_lem 2 k h

module _ (ty : PrimitiveType) where
  pub length_records : (k : ℕ) (bs : List (List ℕ)) → Fits ty bs → length (literal_records k bs) ≡ record_size * length bs
  length_records k [] h = refl
  length_records k (b ∷ bs) h =
      let r = literal_record (next_to (suc k) bs) b in
      let size = length_literal (next_to (suc k) bs) b (fits_room ty (length b) h.0) in
      omega (arith, length-append r (literal_records (suc k) bs), size, length_records (suc k) bs h.1)

  module _ (s : List ℕ) where
    -- the literals on the chain after record k are bs
    pub record Back (steps k : ℕ) (bs : List (List ℕ)) : Type 0 where
      pub ns : List ℕ
      pub on : chain steps s k ≡ Ok ns
      pub contents : each (λ n. content (layout ty) (record_at s n)) ns ≡ Ok bs

    one_more : (k : ℕ) (b : List ℕ) (bs : List (List ℕ)) → next_in (record_at s k) ≡ suc k → suc k < record_count s
        → content (layout ty) (record_at s (suc k)) ≡ Ok b → {steps : ℕ} → Back steps (suc k) bs → Back (suc steps) k (b ∷ bs)
    one_more k b bs next there first x = record {
      ns = suc k ∷ x.ns;
      on = rw (next, ne_eqb (suc k) 0 (λ z. omega arith), lt-ltb k (suc k) (omega arith), lt-ltb (suc k) (record_count s) there, x.on);
      contents = each_put (λ n. content (layout ty) (record_at s n)) (suc k) x.ns first x.contents;
    }

    -- so they are where bs stand in the records after record k, to the last
    chain_back : (k : ℕ) (bs : List (List ℕ)) → Fits ty bs → record_count s ≡ suc k + length bs → record_count s < 65536
        → next_in (record_at s k) ≡ next_to (suc k) bs → drop (record_size * suc k) s ≡ literal_records (suc k) bs → Back (suc (length bs)) k bs
    chain_back k [] h count few next rest = record { ns = []; on = rw next; contents = refl }
    chain_back k (b ∷ bs) h count few next rest =
        let n = suc k in
        let r = literal_record (next_to (suc n) bs) b in
        let after = literal_records (suc n) bs in
        let size = length_literal (next_to (suc n) bs) b (fits_room ty (length b) h.0) in
        let here : record_at s n ≡ r = rw rest (take_at r after record_size size) in
        let e : record_size * n + record_size ≡ record_size * suc n = omega arith in
        let beyond : drop (record_size * suc n) s ≡ after = rw (← e, ← drop-drop record_size (record_size * n) s, rest) (drop_at r after record_size size) in
        one_more k b bs next (omega arith) (rw here (content_back ty (next_to (suc n) bs) b h.0))
        (chain_back n bs h.1 (omega arith) few (rw here (next_to_back (suc n) bs (omega arith))) beyond)

-- ---- an answer
pub length_answer : (ty : PrimitiveType) (p : Predicate (List ℕ)) → Fits ty (literals_in p)
    → length (answer_sheet ty p) ≡ record_size * suc (length (literals_in p))
unfolding answer_sheet
length_answer ty p h = omega (arith, length_records ty 1 (literals_in p) h)

answer_head : (ty : PrimitiveType) → head (le_number (le_bytes 1 (type_number ty))) 0 0 ≡ Ok (record { column = ty; transform = Identity })
unfolding head
answer_head ty = going _ (found_back 1 types (type_number ty) refl (type_found ty)) ∙ going _ (transform_found Identity)

answer_literals : (ty : PrimitiveType) (p : Predicate (List ℕ)) → Fits ty (literals_in p) → length (literals_in p) ≤ 60000
    → Back ty (answer_sheet ty p) (record_count (answer_sheet ty p)) 0 (literals_in p)
unfolding answer_sheet
answer_literals ty p h few =
    let ls = literals_in p in
    let count : record_count (answer_sheet ty p) ≡ suc (length ls) = omega (arith, length_answer ty p h) in
    rw count (chain_back ty (answer_sheet ty p) 0 ls h (omega arith) (omega arith) (next_to_back 1 ls (omega arith)) refl)

pub answer_back : (most : ℕ) (ty : PrimitiveType) (p : Predicate (List ℕ)) → most ≤ 60000 → Fits ty (literals_in p) → length (literals_in p) ≤ most
    → sheet most (answer_sheet ty p) ≡ Ok (record { head = record { column = ty; transform = Identity }; leaf = p })
unfolding sheet fields answer_sheet
answer_back most ty p few h k =
    let s = answer_sheet ty p in
    let size = length_answer ty p h in
    let back = answer_literals ty p h (omega arith) in
    passing Malformed _ (lt-ltb 0 (length s) (omega (arith, size)))
    ∙ passing Malformed _ (eq-eqb (length s % record_size) 0 (omega (arith, size)))
    ∙ passing Malformed _ (le-leb (length s) (record_size * suc most) (omega (arith, size)))
    ∙ going _ (found_back 2 operators (operator_number (operator_in p)) refl (operator_found (operator_in p)))
    ∙ going _ (going _ (answer_head ty) ∙ passing Malformed _ refl ∙ passing Malformed _ refl)
    ∙ going _ back.on
    ∙ going _ back.contents
    ∙ going _ (predicate_back p)
