-- Laws of writing an answer sheet: its head, then record after record, and the loop over the literals. Assumes nothing.
use Rattle.std.specs.Prelude.{ℕ, zero, suc, ◌+◌, ◌*◌, ◌≤◌, ◌<◌, Bool, cond, List, [], ◌∷◌, ◌++◌, map, ◌≡◌, refl, ltb, length, get_or, drop}
use Rattle.std.proofs.Math.Decide.{dec_lt}
use Rattle.std.proofs.Common.{add-one, arith, sym, ap, ◌∙◌, drop-cons, lt-ltb, le-ltb}
use Rattle.std.proofs.Math.ListN.{drop_of_length-le}
use Rattle.values.specs.code.Places.{AllOf}
use Rattle.values.specs.Types.{content_size, type_number}
use Rattle.values.specs.laws.WordLaws.{over_nil}
use Rattle.values.specs.Words.{over}
use Rattle.values.specs.declared.datatypes.PrimitiveType.{PrimitiveType}
use Rattle.expr.specs.Operators.{operator_number}
use Rattle.expr.specs.declared.operator.PredicateOperator.{PredicateOperator}
use Rattle.sheet.specs.Records.{record_size}
use Rattle.write.specs.laws.RoundTripLaws.{length_literal}
use Rattle.write.specs.laws.WriteLaws.{record_then}
use Rattle.write.specs.Written.{head_record, literal_record, next_to, literal_records, answer_bytes}

-- ---- a head and then literals, and a literal and then others

pub head_then : (operator : PredicateOperator) (to : PrimitiveType) (contents : List (List ℕ)) {next : ℕ} (s : List ℕ) {t u : List ℕ}
    → record_size ≤ length s → next ≡ next_to 1 contents
    → t ≡ over 0 (head_record next (operator_number operator) (type_number to)) s
    → u ≡ over record_size (literal_records 1 contents) t
    → u ≡ over 0 (answer_bytes operator to contents) s
head_then operator to contents s room is e d =
    let r = head_record (next_to 1 contents) (operator_number operator) (type_number to) in
    rw (d, e, is) (sym (record_then 0 r s refl (omega arith) (literal_records 1 contents)))

pub literal_then : (k : ℕ) (bs : List ℕ) (rest : List (List ℕ)) {next : ℕ} (s : List ℕ) {t u : List ℕ}
    → length bs ≤ content_size → record_size * (k + 1) ≤ length s → next ≡ next_to (k + 1) rest
    → t ≡ over (record_size * k) (literal_record next bs) s
    → u ≡ over (record_size * (k + 1)) (literal_records (k + 1) rest) t
    → u ≡ over (record_size * k) (literal_records k (bs ∷ rest)) s
literal_then k bs rest s small room is e d =
    let r = literal_record (next_to (k + 1) rest) bs in
    rw (d, e, is) (sym (record_then k r s (length_literal (next_to (k + 1) rest) bs small) room (literal_records (k + 1) rest)))
    ∙ ap (λ (m : ℕ). over (record_size * k) (literal_record (next_to m rest) bs ++ literal_records m rest) s) (add-one k)

-- ---- the literals that the elements of a list are, of which those before index i are written

module _ {A : Type 0} (f : A → List ℕ) (z : A) (xs : List A) where
  -- the record after record k is there where literals are left
  pub next_left : (k : ℕ) → k ≤ length xs → cond (ltb k (length xs)) (k + 1) 0 ≡ next_to (k + 1) (map f (drop k xs))
  next_left k h = go (dec_lt k (length xs))
    where
      go : Dec (k < length xs) → cond (ltb k (length xs)) (k + 1) 0 ≡ next_to (k + 1) (map f (drop k xs))
      go (yes less) = rw (lt-ltb k (length xs) less, drop-cons xs k z less)
      go (no more) = rw (drop_of_length-le xs {i = k} (omega arith)) (ap (λ (b : Bool). cond b (k + 1) 0) (le-ltb k (length xs) (omega arith)))

  pub turn : (i : ℕ) {next : ℕ} (s : List ℕ) {t : List ℕ} → i < length xs → record_size * (length xs + 1) ≤ length s
      → length (f (get_or xs i z)) ≤ content_size → next ≡ cond (ltb (i + 1) (length xs)) (i + 1 + 1) 0
      → t ≡ over (record_size * (i + 1)) (literal_record next (f (get_or xs i z))) s
      → over (record_size * (i + 1)) (literal_records (i + 1) (map f (drop i xs))) s
      ≡ over (record_size * (i + 1 + 1)) (literal_records (i + 1 + 1) (map f (drop (i + 1) xs))) t
  turn i s less room small is e =
      let x = get_or xs i z in
      let first : drop i xs ≡ x ∷ drop (i + 1) xs = rw (add-one, drop-cons xs i z less) in
      let rest = map f (drop (i + 1) xs) in
      rw first (sym (literal_then (i + 1) (f x) rest s small (omega arith) (is ∙ next_left (i + 1) (omega arith)) e refl))

  pub no_more : (i : ℕ) (s : List ℕ) → length xs ≤ i → over (record_size * (i + 1)) (literal_records (i + 1) (map f (drop i xs))) s ≡ s
  no_more i s h = rw (drop_of_length-le xs h) (over_nil (record_size * (i + 1)) s)

-- what holds of all elements holds of one of them
pub all_at : {A : Type 0} (g : A → Type 0) (z : A) (xs : List A) (i : ℕ) → AllOf g xs → i < length xs → g (get_or xs i z)
all_at g z [] i h less = absurd (omega arith)
all_at g z (x ∷ xs) zero h less = h.0
all_at g z (x ∷ xs) (suc i) h less = all_at g z xs i h.1 (omega arith)
