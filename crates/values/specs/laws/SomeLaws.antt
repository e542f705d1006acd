-- Some and every member of a list. Assumes nothing.
use Rattle.std.specs.Prelude.{◌≡◌, Bool, true, false, not, ◌&&◌, ◌||◌, ◌↔◌, List, [], ◌∷◌, map, refl}
use mathlib.Core.List.Memᴰ.{head as here}
use mathlib.Core.List.Memᴰ.{tail as there}
use mathlib.Core.List.{Memᴰ as Isin}
use Rattle.std.proofs.Common.{⊎_elim, sym, ap, ap₂, ◌∙◌}
use Rattle.values.specs.laws.TestLaws.{clash, or_cases, or_left, or_right, and_both, both_and}
use Rattle.values.specs.SomeEvery.{some, every}

module _ {A : Type 0} (test : A → Bool) where
  pub some_iff : (xs : List A) → (some test xs ≡ true) ↔ ((x : A) × Isin x xs × (test x ≡ true))
  some_iff xs = (found xs, λ h. member h.0 xs h.1 h.2)
    where
      found : (xs : List A) → some test xs ≡ true → (x : A) × Isin x xs × (test x ≡ true)
      found [] h = clash h refl
      found (x ∷ xs) h =
          ⊎_elim (λ e. (x, here refl, e)) (λ e. let m = found xs e in (m.0, there m.1, m.2)) (or_cases (test x) (some test xs) h)

      member : (v : A) (xs : List A) → Isin v xs → test v ≡ true → some test xs ≡ true
      member v [] m e = elim m [ ]
      member v (x ∷ xs) (here is) e = or_left {a = test x} (some test xs) (ap test (sym is) ∙ e)
      member v (x ∷ xs) (there m) e = or_right (test x) (member v xs m e)

  pub every_iff : (xs : List A) → (every test xs ≡ true) ↔ ((x : A) → Isin x xs → test x ≡ true)
  every_iff xs = (each xs, all xs)
    where
      each : (xs : List A) → every test xs ≡ true → (x : A) → Isin x xs → test x ≡ true
      each [] h v m = elim m [ ]
      each (x ∷ xs) h v (here is) = rw is (and_both (test x) (every test xs) h).0
      each (x ∷ xs) h v (there m) = each xs (and_both (test x) (every test xs) h).1 v m

      all : (xs : List A) → ((x : A) → Isin x xs → test x ≡ true) → every test xs ≡ true
      all [] h = refl
      all (x ∷ xs) h = both_and (h x (here refl)) (all xs (λ v m. h v (there m)))

  -- every member passes where none fails
  pub every_some : (xs : List A) → every test xs ≡ not (some (λ x. not (test x)) xs)
  every_some [] = refl
  every_some (x ∷ xs) = rw (every_some xs) (go (test x) (some (λ y. not (test y)) xs))
    where
      go : (a b : Bool) → (a && not b) ≡ not (not a || b)
      go true b = refl
      go false b = refl

-- the same test, and members that were mapped
pub some_same : {A : Type 0} (f g : A → Bool) (xs : List A) → ((x : A) → f x ≡ g x) → some f xs ≡ some g xs
some_same f g [] h = refl
some_same f g (x ∷ xs) h = ap₂ ◌||◌ (h x) (some_same f g xs h)

pub some_map : {A B : Type 0} (test : B → Bool) (f : A → B) (xs : List A) → some test (map f xs) ≡ some (λ x. test (f x)) xs
some_map test f [] = refl
some_map test f (x ∷ xs) = ap (λ b. test (f x) || b) (some_map test f xs)
