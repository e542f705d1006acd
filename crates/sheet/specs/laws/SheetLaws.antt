-- Sheets: the numbers on a chain, and what a sheet that is read says of its bytes, its head and its literals. Assumes nothing.
use Prim.Native.Nat.{ℕ, zero, suc, ◌+◌, ◌-◌, ◌*◌, ◌%◌, ◌≤◌, ◌<◌}
use Rattle.std.proofs.Common.{arith, ◌∙◌}
use Rattle.std.specs.Prelude.{Bool, true, false, cond, List, [], ◌∷◌, ◌≡◌, refl, ltb, leb, eqb, Ok}
use Rattle.std.proofs.Math.Path.{subst}
use Rattle.std.proofs.Math.ListN.{length}
use borrow.Author.Tests.{ltb-true, leb-true, eqb-true, le-leb}
use Rattle.values.specs.code.Places.{AllOf}
use Rattle.values.specs.Numbered.{find}
use Rattle.values.specs.Outcomes.{Res, need, each, ◌>>=◌, ◌>>◌}
use Rattle.values.specs.laws.OutcomeLaws.{ok_inj, passing, passed, gone, each_length, each_all}
use Rattle.values.specs.Types.{layout, fits}
use Rattle.values.specs.Words.{word, zero_at, AllBytes}
use Rattle.values.specs.declared.datatypes.PrimitiveType.{PrimitiveType}
use Rattle.values.specs.declared.error.ErrorKind.TheVariants.{Malformed}
use Rattle.expr.specs.Operators.{operators}
use Rattle.expr.specs.Predicates.{Predicate, predicate, literals_in}
use Rattle.expr.specs.declared.operator.PredicateOperator.{PredicateOperator}
use Rattle.sheet.specs.Records.{record_size, record_count, record_at, next_in, content}
use Rattle.sheet.specs.laws.RecordLaws.{content_fits, content_bytes, field_bytes}
use Rattle.sheet.specs.Sheets.{chain, head_size, head, fields, Head, Sheet, sheet}
use Rattle.expr.specs.laws.PredicateLaws.{predicate_parts}

-- every literal has a length that the type allows
abbrev pub Fits : PrimitiveType → List (List ℕ) → Type 0
Fits ty ls = AllOf (λ (bs : List ℕ). fits (layout ty) (length bs) ≡ true) ls

-- ---- the chain
-- the numbers rise from above `low`, and each is the number of a record
pub data Rising (s : List ℕ) : ℕ → List ℕ → Type 0 where
  none : {low : ℕ} → Rising s low []
  higher : {low n : ℕ} {ns : List ℕ} → low < n → n < record_count s → Rising s n ns → Rising s low (n ∷ ns)

-- so there are no more than records
pub rising_few : {s : List ℕ} {low : ℕ} {ns : List ℕ} → low < record_count s → Rising s low ns → low + length ns < record_count s
rising_few h none = omega arith
rising_few h (higher a b rest) = omega (arith, rising_few b rest)

-- one step of the chain, by its tests
abbrev step : Bool → Bool → Bool → ℕ → Res (List ℕ) → Res (List ℕ)
step z a b n rest = cond z (Ok []) do
  need a Malformed
  need b Malformed
  ns ← rest
  Ok (n ∷ ns)

step_same : (z a b : Bool) (n : ℕ) (x y : Res (List ℕ)) → (a ≡ true → b ≡ true → x ≡ y) → step z a b n x ≡ step z a b n y
step_same true a b n x y h = refl
step_same false false b n x y h = refl
step_same false true false n x y h = refl
step_same false true true n x y h = rw (h refl refl)

module _ (s : List ℕ) where
  -- steps that are enough to come to the last record: more of them give the same
  pub chain_enough : (m n k : ℕ) → k < record_count s → record_count s ≤ m + k → record_count s ≤ n + k → chain m s k ≡ chain n s k
  chain_enough zero n k h a b = absurd (omega arith)
  chain_enough (suc m) zero k h a b = absurd (omega arith)
  chain_enough (suc m) (suc n) k h a b =
      let next = next_in (record_at s k) in
      step_same (eqb next 0) (ltb k next) (ltb next (record_count s)) next (chain m s next) (chain n s next) λ c d.
      let above = ltb-true k next c in
      chain_enough m n next (ltb-true next (record_count s) d) (omega arith) (omega arith)

  step_rises : (z : Bool) (k n : ℕ) (rest : Res (List ℕ)) {ns : List ℕ} → ((ms : List ℕ) → rest ≡ Ok ms → Rising s n ms)
      → step z (ltb k n) (ltb n (record_count s)) n rest ≡ Ok ns → Rising s k ns
  step_rises true k n rest h e = subst (Rising s k) (ok_inj e) none
  step_rises false k n rest h e =
      let a = passed (ltb k n) Malformed _ e in
      let b = passed (ltb n (record_count s)) Malformed _ a.1 in
      let c = gone rest _ b.1 in
      subst (Rising s k) (ok_inj c.2) (higher (ltb-true k n a.0) (ltb-true n (record_count s) b.0) (h c.0 c.1))

  pub chain_rises : (steps k : ℕ) {ns : List ℕ} → chain steps s k ≡ Ok ns → Rising s k ns
  chain_rises zero k e = subst (Rising s k) (ok_inj e) none
  chain_rises (suc steps) k e = let next = next_in (record_at s k) in step_rises (eqb next 0) k next (chain steps s next) (λ ms. chain_rises steps next) e

-- ---- the fields of a head
pub fields_head : (r : List ℕ) (h : Head) → fields r ≡ Ok h → head (word 4 1 r) (word 5 1 r) (word 8 4 r) ≡ Ok h
unfolding fields
fields_head r h e =
    let a = gone (head (word 4 1 r) (word 5 1 r) (word 8 4 r)) _ e in
    let b = passed (zero_at 6 2 r) Malformed _ a.2 in
    let c = passed (zero_at head_size (record_size - head_size) r) Malformed _ b.1 in
    a.1 ∙ c.1

-- ---- a sheet that is read
all_any : {A : Type 0} (xs : List A) → AllOf (λ (x : A). Unit {0}) xs
all_any [] = tt
all_any (x ∷ xs) = (tt, all_any xs)

pub record Read (most : ℕ) (s : List ℕ) (x : Sheet) : Type 0 where
  pub head_is : head (word 4 1 s) (word 5 1 s) (word 8 4 s) ≡ Ok x.head
  pub fit : Fits x.head.column (literals_in x.leaf)
  pub few : length (literals_in x.leaf) ≤ most
  pub are_bytes : AllBytes s → AllOf AllBytes (literals_in x.leaf)
  -- how many records stand after the first
  pub others : ℕ
  pub others_few : others ≤ most
  pub length_is : length s ≡ record_size * suc others

module _ (most : ℕ) (s : List ℕ) where
  put_together : (o : PredicateOperator) (h : Head) (ns : List ℕ) (cs : List (List ℕ)) (l : Predicate (List ℕ))
      → 0 < length s → length s % record_size ≡ 0 → length s ≤ record_size * suc most
      → head (word 4 1 s) (word 5 1 s) (word 8 4 s) ≡ Ok h
      → chain (record_count s) s 0 ≡ Ok ns
      → each (λ n. content (layout h.column) (record_at s n)) ns ≡ Ok cs → predicate o cs ≡ Ok l → Read most s (record { head = h; leaf = l })
  put_together o h ns cs l some even short head_is on contents leaf =
      let ty = h.column in
      let read : ℕ → Res (List ℕ) = λ n. content (layout ty) (record_at s n) in
      let back = (predicate_parts o cs l leaf).1 in
      let few = rising_few {low = 0} (omega arith) (chain_rises s (record_count s) 0 on) in
      let fit : (n : ℕ) (bs : List ℕ) → read n ≡ Ok bs → Unit {0} → fits (layout ty) (length bs) ≡ true = λ n bs e h. content_fits ty (record_at s n) bs e in
      record {
        head_is = head_is;
        fit = rw back (each_all read (λ n. Unit {0}) (λ bs. fits (layout ty) (length bs) ≡ true) fit ns contents (all_any ns));
        few = rw back (omega (arith, each_length read ns contents, few));
        are_bytes = λ b.
            let bytes : (n : ℕ) → AllBytes (record_at s n) = λ n. field_bytes (record_size * n) record_size s b in
            rw back (each_all read (λ n. Unit {0}) AllBytes (λ n bs e h. content_bytes (layout ty) (record_at s n) bs e (bytes n)) ns contents (all_any ns));
        others = record_count s - 1;
        others_few = omega arith;
        length_is = omega arith;
      }

  pub sheet_read_lem : (x : Sheet) → sheet most s ≡ Ok x → Read most s x
  unfolding sheet
  sheet_read_lem x e =
      let some = passed (ltb 0 (length s)) Malformed _ e in
      let even = passed (eqb (length s % record_size) 0) Malformed _ some.1 in
      let short = passed (leb (length s) (record_size * suc most)) Malformed _ even.1 in
      let o = gone (find operators (word 2 2 s)) _ short.1 in
      let h = gone (fields s) _ o.2 in
      let r = gone (chain (record_count s) s 0) _ h.2 in
      let c = gone (each (λ n. content (layout h.0.column) (record_at s n)) r.0) _ r.2 in
      let l = gone (predicate o.0 c.0) _ c.2 in
      subst (Read most s) {x = record { head = h.0; leaf = l.0 }} (ok_inj {x = record { head = h.0; leaf = l.0 }} l.2)
      (put_together o.0 h.0 r.0 c.0 l.0 (ltb-true _ _ some.0) (eqb-true _ _ even.0) (leb-true _ _ short.0) (fields_head s h.0 h.1) r.1 c.1 l.1)

  -- a sheet that is read is read the same where more literals are allowed
  pub wider : (more : ℕ) (x : Sheet) → sheet most s ≡ Ok x → most ≤ more → sheet more s ≡ Ok x
  unfolding sheet
  wider more x e k =
      let some = passed (ltb 0 (length s)) Malformed _ e in
      let even = passed (eqb (length s % record_size) 0) Malformed _ some.1 in
      let short = passed (leb (length s) (record_size * suc most)) Malformed _ even.1 in
      let shorter : length s ≤ record_size * suc more = omega (arith, leb-true (length s) (record_size * suc most) short.0) in
      passing Malformed _ some.0 ∙ passing Malformed _ even.0 ∙ passing Malformed _ (le-leb (length s) (record_size * suc more) shorter) ∙ short.1
