-- Bytes that are no record or no sheet are refused with one error only: 3. Assumes nothing.
use Rattle.std.specs.Prelude.{ℕ, zero, suc, ◌+◌, ◌-◌, ◌*◌, ◌%◌, Bool, true, false, cond, List, [], ◌∷◌, ◌≡◌, refl, ltb, leb, eqb, length, Ok, Err}
use Rattle.std.proofs.Common.{sym, subst}
use Rattle.values.specs.Numbered.{Numbered, ◌is◌, find}
use Rattle.values.specs.Outcomes.{Res, need, each, ◌>>=◌, ◌>>◌}
use Rattle.values.specs.laws.OutcomeLaws.{ok_not_err}
use Rattle.values.specs.Transforms.{transforms, width_of, transform_of}
use Rattle.values.specs.Types.{Layout, content_size, types, layout, fits}
use Rattle.values.specs.Words.{word, zero_at}
use Rattle.values.specs.declared.error.ErrorKind.{ErrorKind}
use Rattle.values.specs.declared.error.ErrorKind.TheVariants.{Malformed}
use Rattle.expr.specs.Operators.{Operator, none, one, many, by_arity, operators}
use Rattle.expr.specs.Predicates.{with_literals, predicate}
use Rattle.sheet.specs.Records.{header_size, record_size, record_count, record_at, next_in, length_in, content, missing_mark, missing_value, present_value, value}
use Rattle.sheet.specs.Sheets.{chain, head_size, head, fields, sheet}

-- ---- any step: its refusals are all among those that p holds of
pub record Only {A : Type 0} (p : ErrorKind → Type 0) (r : Res A) : Type 0 where
  pub only : (e : ErrorKind) → r ≡ Err e → p e

module _ {p : ErrorKind → Type 0} where
  pub only_ok : {A : Type 0} {x : A} → Only p (Ok x)
  only_ok = record { only = λ e q. ok_not_err (sym q) }

  pub only_err : {A : Type 0} {e : ErrorKind} → p e → Only {A = A} p (Err e)
  only_err {A} {e} h = record { only = λ f q. let same : e ≡ f = cc in subst p same h }

  -- a step after another, with what the first gave
  pub only_then : {A B : Type 0} (r : Res A) (f : A → Res B) → Only p r → ((x : A) → r ≡ Ok x → Only p (f x)) → Only p (r >>= f)
  only_then (Ok x) f h k = k x refl
  only_then (Err e) f h k = only_err (h.only e refl)

  pub only_bind : {A B : Type 0} (r : Res A) (f : A → Res B) → Only p r → ((x : A) → Only p (f x)) → Only p (r >>= f)
  only_bind r f h k = only_then r f h (λ x e. k x)

  pub only_need : {B : Type 0} (b : Bool) (e : ErrorKind) (r : Res B) → p e → Only p r → Only p (need b e >> r)
  only_need true e r h k = k
  only_need false e r h k = only_err h

  pub only_cond : {A : Type 0} (b : Bool) (r s : Res A) → Only p r → Only p s → Only p (cond b r s)
  only_cond true r s h k = h
  only_cond false r s h k = k

  -- by a wider list of refusals
  pub only_wider : {A : Type 0} {q : ErrorKind → Type 0} {r : Res A} → ((e : ErrorKind) → p e → q e) → Only p r → Only q r
  only_wider f h = record { only = λ e d. f e (h.only e d) }

  pub only_each : {A B : Type 0} (f : A → Res B) → ((x : A) → Only p (f x)) → (xs : List A) → Only p (each f xs)
  only_each f h [] = only_ok
  only_each f h (x ∷ xs) = only_bind (f x) _ (h x) (λ y. only_bind (each f xs) _ (only_each f h xs) (λ ys. only_ok))

-- ---- records and sheets
abbrev pub OnlyMalformed : {A : Type 0} → Res A → Type 0
OnlyMalformed r = Only (λ (e : ErrorKind). e ≡ Malformed) r

-- what gives no other refusal than 3 gives none outside of a list with 3 in it
pub malformed : {A : Type 0} {p : ErrorKind → Type 0} {r : Res A} → p Malformed → OnlyMalformed r → Only p r
malformed {A} {p} h k = only_wider (λ e same. subst p (sym same) h) k

pub must : {B : Type 0} (b : Bool) (r : Res B) → OnlyMalformed r → OnlyMalformed (need b Malformed >> r)
must b r h = only_need b Malformed r refl h

pub content_only : (l : Layout) (r : List ℕ) → OnlyMalformed (content l r)
unfolding content
content_only l r =
    must (eqb (length r) record_size) _ (must (fits l (length_in r)) _ (must (zero_at (header_size + length_in r) (content_size - length_in r) r) _ only_ok))

pub value_only : (l : Layout) (r : List ℕ) → OnlyMalformed (value l r)
unfolding value
value_only l r =
    let absent : OnlyMalformed (missing_value r) = must (eqb (length r) record_size) _ (must (zero_at header_size content_size r) _ only_ok) in
    let there : OnlyMalformed (present_value l r) = only_bind (content l r) _ (content_only l r) (λ bs. only_ok) in
    must (eqb (next_in r) 0) _ (only_cond (eqb (length_in r) missing_mark) (missing_value r) (present_value l r) absent there)

pub find_only : {X : Type 0} (xs : List (Numbered X)) (n : ℕ) → OnlyMalformed (find xs n)
find_only [] n = only_err refl
find_only (k is x ∷ xs) n = only_cond (eqb n k) (Ok x) (find xs n) only_ok (find_only xs n)

transform_only : (number width : ℕ) → OnlyMalformed (transform_of number width)
unfolding transform_of
transform_only number width =
    only_bind (find (transforms width) number) _ (find_only (transforms width) number) (λ t. must (eqb width (width_of t)) (Ok t) only_ok)

pub head_only : (type transform width : ℕ) → OnlyMalformed (head type transform width)
unfolding head
head_only type transform width =
    only_bind (find types type) _ (find_only types type) (λ t.
    only_bind (transform_of transform width) _ (transform_only transform width) (λ f. only_ok))

pub fields_only : (r : List ℕ) → OnlyMalformed (fields r)
unfolding fields
fields_only r =
    only_bind (head (word 4 1 r) (word 5 1 r) (word 8 4 r)) _ (head_only (word 4 1 r) (word 5 1 r) (word 8 4 r)) (λ h.
    must (zero_at 6 2 r) _ (must (zero_at head_size (record_size - head_size) r) _ only_ok))

pub chain_only : (steps : ℕ) (s : List ℕ) (k : ℕ) → OnlyMalformed (chain steps s k)
chain_only zero s k = only_ok
chain_only (suc steps) s k =
    let next = next_in (record_at s k) in
    let on = only_bind (chain steps s next) (λ (ns : List ℕ). Ok (next ∷ ns)) (chain_only steps s next) (λ ns. only_ok) in
    only_cond (eqb next 0) (Ok []) _ only_ok (must (ltb k next) _ (must (ltb next (record_count s)) _ on))

leaf_only : {A : Type 0} (a : Operator) (ls : List A) → OnlyMalformed (with_literals a ls)
leaf_only (none o) [] = only_ok
leaf_only (none o) (l ∷ ls) = only_err refl
leaf_only (one o) [] = only_err refl
leaf_only (one o) (l ∷ []) = only_ok
leaf_only (one o) (l ∷ k ∷ ls) = only_err refl
leaf_only (many o) ls = only_ok

pub sheet_only : (most : ℕ) (s : List ℕ) → OnlyMalformed (sheet most s)
unfolding sheet
sheet_only most s =
    must (ltb 0 (length s)) _ (must (eqb (length s % record_size) 0) _ (must (leb (length s) (record_size * suc most)) _
    (only_bind (find operators (word 2 2 s)) _ (find_only operators (word 2 2 s)) (λ o.
    only_bind (fields s) _ (fields_only s) (λ h.
    only_bind (chain (record_count s) s 0) _ (chain_only (record_count s) s 0) (λ ns.
    let read : ℕ → Res (List ℕ) = λ n. content (layout h.column) (record_at s n) in
    only_bind (each read ns) _ (only_each read (λ n. content_only (layout h.column) (record_at s n)) ns) (λ ls.
    only_bind (predicate o ls) _ (leaf_only (by_arity o) ls) (λ leaf. only_ok))))))))
