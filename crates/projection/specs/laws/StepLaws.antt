-- What is said of a predicate where a projection returns one, and the literals that a step puts into it. Assumes nothing.
use Rattle.std.specs.Prelude.{ℕ, ◌≤◌, ◌<◌, Bool, true, false, cond, ◌≡◌, refl, eqb, ltb, Ok, Err}
use mathlib.Core.List.Memᴰ.{head as here}
use mathlib.Core.List.Memᴰ.{not-nil}
use mathlib.Core.List.Memᴰ.{tail as there}
use mathlib.Core.List.{List, [], ◌∷◌, Memᴰ as Isin}
use Rattle.std.proofs.Common.{sym, ap, subst, ◌∙◌, eqb-true, ltb-true, ltb-false}
use Rattle.values.specs.Ascending.{ascending}
use Rattle.values.specs.Outcomes.{Res, each, ◌>>=◌}
use Rattle.values.specs.laws.OutcomeLaws.{ok_inj, each_cons}
use Rattle.std.specs.declared.cmp.Ordering.{Ordering}
use Rattle.expr.specs.laws.HoldsLaws.{opposite, opposite_set}
use Rattle.expr.specs.Operators.{Binary, SetOperator, opposite_binary}
use Rattle.expr.specs.Predicates.{Test, binary, set}
use Rattle.projection.specs.ByteSteps.{Step, by_length}
use Rattle.projection.specs.Steps.{Projected, some, none, mapped, with_literal, with_each}

-- ---- what is said of a predicate, where one is returned
abbrev pub Returned : {P : Type 0} → Res (Projected P) → (P → Type 0) → Type 0
Returned (Ok (some p)) g = g p
Returned (Ok none) g = Unit {0}
Returned (Err e) g = Unit {0}

pub returned : {P : Type 0} (r : Res (Projected P)) (g : P → Type 0) → Returned r g → {p : P} → r ≡ Ok (some p) → g p
returned r g h e = subst (λ x. Returned x g) e h

pub returned_by : {P : Type 0} (r : Res (Projected P)) (g : P → Type 0) → ((p : P) → r ≡ Ok (some p) → g p) → Returned r g
returned_by (Ok (some p)) g k = k p refl
returned_by (Ok none) g k = tt
returned_by (Err e) g k = tt

pub returned_weaken : {P : Type 0} (r : Res (Projected P)) (g h : P → Type 0) → ((p : P) → g p → h p) → Returned r g → Returned r h
returned_weaken r g h k x = returned_by r h (λ p e. k p (returned r g x e))

pub returned_both : {P : Type 0} (r : Res (Projected P)) (g h : P → Type 0) → Returned r g → Returned r h → Returned r (λ p. g p × h p)
returned_both (Ok (some p)) g h x y = (x, y)
returned_both (Ok none) g h x y = tt
returned_both (Err e) g h x y = tt

pub returned_map : {P Q : Type 0} (f : P → Q) (r : Res (Projected P)) (g : P → Type 0) (h : Q → Type 0) → ((p : P) → g p → h (f p))
    → Returned r g → Returned (r >>= λ q. Ok (mapped f q)) h
returned_map f (Ok (some p)) g h k x = k p x
returned_map f (Ok none) g h k x = tt
returned_map f (Err e) g h k x = tt

pub returned_literal : {B : Type 0} (o : Binary) (r : Res B) (g : Test B → Type 0) → ((t : B) → r ≡ Ok t → g (binary o t))
    → Returned (with_literal o r) g
returned_literal o (Ok t) g k = k t refl
returned_literal o (Err e) g k = tt

pub returned_each : {A B : Type 0} (compare : B → B → Ordering) (o : SetOperator) (T : A → Res B) (ls : List A) (g : Test B → Type 0)
    → ((ts : List B) → each T ls ≡ Ok ts → g (set o (ascending compare ts))) → Returned (with_each compare o T ls) g
returned_each {B = B} compare o T ls g k = go (each T ls) k
  where
    go : (r : Res (List B)) → ((ts : List B) → r ≡ Ok ts → g (set o (ascending compare ts)))
        → Returned (r >>= λ ts. Ok (some (set o (ascending compare ts)))) g
    go (Ok ts) k = k ts refl
    go (Err e) k = tt

-- a choice
pub returned_cond : {P : Type 0} (b : Bool) (r s : Res (Projected P)) (g : P → Type 0) → Returned r g → Returned s g → Returned (cond b r s) g
returned_cond true r s g x y = x
returned_cond false r s g x y = y

-- a choice by a literal's length against the width
module _ (n w : ℕ) (whole short : Projected (Test (List ℕ))) (long : Step) where
  pub returned_length : (g : Test (List ℕ) → Type 0) → (n ≡ w → Returned (Ok whole) g) → (n < w → Returned (Ok short) g) → (w ≤ n → Returned long g)
      → Returned (by_length n w whole short long) g
  returned_length g a b c = go (eqb n w) refl (ltb n w) refl
    where
      go : (s : Bool) → eqb n w ≡ s → (t : Bool) → ltb n w ≡ t → Returned (cond s (Ok whole) (cond t (Ok short) long)) g
      go true d t e = a (eqb-true n w d)
      go false d true e = b (ltb-true n w e)
      go false d false e = c (ltb-false n w e)

  pub opposite_length : (by_length n w whole short long >>= λ q. Ok (mapped opposite q))
      ≡ by_length n w (mapped opposite whole) (mapped opposite short) (long >>= λ q. Ok (mapped opposite q))
  opposite_length = go (eqb n w) (ltb n w)
    where
      go : (s t : Bool) → (cond s (Ok whole) (cond t (Ok short) long) >>= λ q. Ok (mapped opposite q))
          ≡ cond s (Ok (mapped opposite whole)) (cond t (Ok (mapped opposite short)) (long >>= λ q. Ok (mapped opposite q)))
      go true t = refl
      go false true = refl
      go false false = refl

-- ---- the opposite of an answer
pub opposite_literal : {B : Type 0} (o : Binary) (r : Res B) → (with_literal o r >>= λ q. Ok (mapped opposite q)) ≡ with_literal (opposite_binary o) r
opposite_literal o (Ok t) = refl
opposite_literal o (Err e) = refl

pub opposite_each : {A B : Type 0} (compare : B → B → Ordering) (o : SetOperator) (T : A → Res B) (ls : List A)
    → (with_each compare o T ls >>= λ q. Ok (mapped opposite q)) ≡ with_each compare (opposite_set o) T ls
opposite_each {B = B} compare o T ls = go (each T ls)
  where
    go : (r : Res (List B))
        → ((r >>= λ ts. Ok (some (set o (ascending compare ts)))) >>= λ q. Ok (mapped opposite q)) ≡ (r >>= λ ts. Ok (some (set (opposite_set o) (ascending compare ts))))
    go (Ok ts) = refl
    go (Err e) = refl

-- ---- each T(L) of a set: its members are the values of the literals
module _ {A B : Type 0} (T : A → Res B) where
  pub each_into : (ls : List A) {ts : List B} → each T ls ≡ Ok ts → (v : A) (p : B) → T v ≡ Ok p → Isin v ls → Isin p ts
  each_into [] {ts = ts} e v p h x3 = elim x3 [ ]
  each_into (l ∷ ls) e v p h (here d) = let a = each_cons T l ls e in rw a.4 (here (ok_inj (sym h ∙ ap T d ∙ a.2)))
  each_into (l ∷ ls) e v p h (there m) = let a = each_cons T l ls e in rw a.4 (there (each_into ls a.3 v p h m))

  -- a literal of which p is the value
  abbrev pub Literal : List A → B → Type 0
  Literal ls p = (v : A) × (T v ≡ Ok p) × Isin v ls

  from_first : (l : A) (ls : List A) (p t : B) (ts : List B) → T l ≡ Ok t → (Isin p ts → Literal ls p) → Isin p (t ∷ ts) → Literal (l ∷ ls) p
  from_first l ls p t ts h k (here d) = (l, h ∙ ap Ok (sym d), here refl)
  from_first l ls p t ts h k (there m) = let x = k m in (x.0, x.1, there x.2)

  pub each_from : (ls : List A) {ts : List B} → each T ls ≡ Ok ts → (p : B) → Isin p ts → Literal ls p
  each_from [] e p m = absurd (not-nil (rw (← ok_inj e) at m))
  each_from (l ∷ ls) e p m =
      let a = each_cons T l ls e in
      from_first l ls p a.0 a.1 a.2 (each_from ls a.3 p) (rw a.4 at m)
