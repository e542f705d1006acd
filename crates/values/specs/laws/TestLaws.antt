-- Laws about Bool tests: their values, `not`, `||`, `&&`, and what a choice by tests comes to, in the form in which a return asks it:
-- `search picks`. A passed test is always `b ≡ true`. Assumes nothing.
use Rattle.std.specs.Prelude.{◌≡◌, Bool, true, false, cond, not, ◌&&◌, ◌||◌, ◌⊎◌, ◌≢◌, refl}
use Rattle.std.proofs.Common.{true≢false, inl, inr, sym, ◌∙◌, lt-ltb, le-ltb, le-leb, eq-eqb, ne_eqb}
use Rattle.std.proofs.lemmas.Bool.{lt-leb, not-true, not-false}

-- ---- a test has one value
pub stable : (b : Bool) → (b ≢ false) → b ≡ true
stable true f = refl
stable false f = absurd (f refl)

pub refuted : (b : Bool) → (b ≢ true) → b ≡ false
refuted true f = absurd (f refl)
refuted false f = refl

pub clash {ℓ} : {X : Type ℓ} {b : Bool} → b ≡ true → b ≡ false → X
clash h k = absurd (true≢false (sym h ∙ k))

pub same_test : (a b : Bool) → (a ≡ true → b ≡ true) → (b ≡ true → a ≡ true) → a ≡ b
same_test true b f g = sym (f refl)
same_test false b f g = sym (refuted b (λ e. clash (g e) refl))

-- ---- not, or, and: `mathlib.Core.Bool` has the equations (or-comm, or-assoc, or-self-left, ..)
pub not_not : (b : Bool) → not (not b) ≡ b
not_not true = refl
not_not false = refl

pub or_cases : (a b : Bool) → (a || b) ≡ true → (a ≡ true) ⊎ (b ≡ true)
or_cases true b h = inl refl
or_cases false b h = inr h

pub or_left : {a : Bool} (b : Bool) → a ≡ true → (a || b) ≡ true
or_left b h = rw h

pub or_right : (a : Bool) {b : Bool} → b ≡ true → (a || b) ≡ true
or_right true h = refl
or_right false h = h

pub or_neither : (a b : Bool) → (a || b) ≡ false → (a ≡ false) × (b ≡ false)
or_neither true b h = clash refl h
or_neither false b h = (refl, h)

pub or_swap : (a b c : Bool) → (a || (b || c)) ≡ (b || (a || c))
or_swap true true c = refl
or_swap true false c = refl
or_swap false b c = refl

-- what stands beside the same test
pub or_cancel : (a b c : Bool) → (a ≡ true → b ≡ c) → (a || b) ≡ (a || c) → b ≡ c
or_cancel true b c f e = f refl
or_cancel false b c f e = e

pub and_both : (a b : Bool) → (a && b) ≡ true → (a ≡ true) × (b ≡ true)
and_both true b h = (refl, h)
and_both false b h = clash h refl

pub both_and : {a b : Bool} → a ≡ true → b ≡ true → (a && b) ≡ true
both_and h k = rw (h, k)

-- ---- a choice by a test
pub cond_yes {ℓ} : {A : Type ℓ} (b : Bool) (x y r : A) → b ≡ true → r ≡ x → r ≡ cond b x y
cond_yes b x y r t e = rw t e

pub cond_no {ℓ} : {A : Type ℓ} (b : Bool) (x y r : A) → b ≡ false → r ≡ y → r ≡ cond b x y
cond_no b x y r t e = rw t e

-- a test that was a call, and one that was a negated call
pub called : (b r t : Bool) → r ≡ b → r ≡ t → b ≡ t
called b r t e q = sym e ∙ q

pub called_no : (b r : Bool) → r ≡ b → not r ≡ true → b ≡ false
called_no b r e q = sym e ∙ not-true r q

pub called_yes : (b r : Bool) → r ≡ b → not r ≡ false → b ≡ true
called_yes b r e q = sym e ∙ not-false r q

pub ruleset picks = (cond_yes, cond_no, called, lt-ltb, le-ltb, le-leb, lt-leb, eq-eqb, ne_eqb)

-- for a function that tests `!call(..)`: a set of its own, since each entry costs every search
pub ruleset picks-not = (picks, called_no, called_yes)
