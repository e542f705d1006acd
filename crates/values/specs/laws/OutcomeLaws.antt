-- Going forward and back through the lines of a `do` block. Assumes nothing.
use Rattle.std.specs.Prelude.{◌≡◌, suc, Bool, true, false, ◌&&◌, List, [], ◌∷◌, length, refl, Ok, Err}
use Rattle.std.proofs.Common.{true≢false, sym, ap, ◌∙◌}
use Rattle.values.specs.code.Places.{AllOf}
use Rattle.values.specs.Outcomes.{Res, need, each, ◌>>=◌, ◌>>◌, missing, present}
use Rattle.values.specs.declared.error.ErrorKind.{ErrorKind}

pub ok_inj : {A : Type 0} {x y : A} → ◌≡◌ {A = Res A} (Ok x) (Ok y) → x ≡ y
ok_inj e = cc

pub present_inj : {A : Type 0} {x y : A} → present x ≡ present y → x ≡ y
present_inj e = cc

pub ok_not_err : {A : Type 0} {x : A} {e : ErrorKind} {X : Type 0} → Err e ≡ Ok x → X
ok_not_err q = absurd (true≢false (cc))

pub missing_not_present : {A : Type 0} {x : A} {X : Type 0} → missing ≡ present x → X
missing_not_present q = absurd (true≢false (cc))

-- forward: a test that passes, a line that succeeds
pub passing : {B : Type 0} {b : Bool} (e : ErrorKind) (r : Res B) → b ≡ true → (need b e >> r) ≡ r
passing e r h = rw h

pub failing : {B : Type 0} {b : Bool} (e : ErrorKind) (r : Res B) → b ≡ false → (need b e >> r) ≡ Err e
failing e r h = rw h

pub going : {A B : Type 0} {r : Res A} {x : A} (f : A → Res B) → r ≡ Ok x → (r >>= f) ≡ f x
going f h = rw h

-- two tests with one refusal are one test
pub need_both : {B : Type 0} (a b : Bool) (e : ErrorKind) (r : Res B) → (need a e >> (need b e >> r)) ≡ (need (a && b) e >> r)
need_both true b e r = refl
need_both false b e r = refl

-- what is read under a test is handed on under it
pub need_read : {A B : Type 0} (a : Bool) (e : ErrorKind) (x : A) (f : A → Res B) → ((need a e >> Ok x) >>= f) ≡ (need a e >> f x)
need_read true e x f = refl
need_read false e x f = refl

-- back: what succeeded has passed its test, and its line
pub passed : {B : Type 0} (b : Bool) (e : ErrorKind) (r : Res B) {y : B} → (need b e >> r) ≡ Ok y → (b ≡ true) × (r ≡ Ok y)
passed true e r h = (refl, h)
passed false e r h = ok_not_err h

pub gone : {A B : Type 0} (r : Res A) (f : A → Res B) {y : B} → (r >>= f) ≡ Ok y → (x : A) × (r ≡ Ok x) × (f x ≡ Ok y)
gone (Ok x) f h = (x, refl, h)
gone (Err e) f h = ok_not_err h

-- ---- every member in its turn
module _ {A B : Type 0} (f : A → Res B) where
  pub each_cons : (x : A) (xs : List A) {zs : List B} → each f (x ∷ xs) ≡ Ok zs → (y : B) × (ys : List B) × (f x ≡ Ok y) × (each f xs ≡ Ok ys) × (zs ≡ y ∷ ys)
  each_cons x xs e =
      let a = gone (f x) _ e in
      let b = gone (each f xs) _ a.2 in
      (a.0, b.0, a.1, b.1, sym (ok_inj b.2))

  pub each_put : (x : A) (xs : List A) {y : B} {ys : List B} → f x ≡ Ok y → each f xs ≡ Ok ys → each f (x ∷ xs) ≡ Ok (y ∷ ys)
  each_put x xs a b = rw (a, b)

  pub each_length : (xs : List A) {ys : List B} → each f xs ≡ Ok ys → length ys ≡ length xs
  each_length [] e = ap length (sym (ok_inj e))
  each_length (x ∷ xs) e = let a = each_cons x xs e in ap length a.4 ∙ ap suc (each_length xs a.3)

-- what f hands on from each member to its value
pub each_all : {A B : Type 0} (f : A → Res B) (g : A → Type 0) (h : B → Type 0) → ((x : A) (y : B) → f x ≡ Ok y → g x → h y) → (xs : List A) {ys : List B}
    → each f xs ≡ Ok ys → AllOf g xs → AllOf h ys
each_all f g h k [] e a = rw (← ok_inj e) tt
each_all f g h k (x ∷ xs) e a = let c = each_cons f x xs e in rw c.4 (k x c.0 c.2 a.0, each_all f g h k xs c.3 a.1)
