-- Every member of a list in its turn, by places, and the first numbers, by which a list's entries are told. Assumes nothing.
use Rattle.std.specs.Prelude.{ℕ, zero, suc, ◌<◌, Bool, true, false, ◌&&◌, List, [], ◌∷◌, ◌++◌, map, ◌≡◌, refl, ltb, length, get_or, is_ok, Ok, Err}
use Rattle.std.proofs.Common.{arith, ◌∙◌, length-append, ltb-true, ltb-false}
use Rattle.std.proofs.Math.ListN.{get_or-append}
use Rattle.std.proofs.lemmas.List.{get_or_at}
use Rattle.values.specs.Outcomes.{Res, each, ◌>>=◌}
use Rattle.values.specs.laws.OutcomeLaws.{ok_inj, each_cons}
use Rattle.columns.specs.Columns.{first_numbers}

pub then_ok : {A B : Type 0} (r : Res A) (f : A → B) → is_ok (r >>= λ x. Ok (f x)) ≡ is_ok r
then_ok (Ok x) f = refl
then_ok (Err e) f = refl

module _ {A B : Type 0} (f : A → Res B) where
  pub each_at : (xs : List A) {ys : List B} → each f xs ≡ Ok ys → (x : A) (y : B) (k : ℕ) → k < length xs → f (get_or xs k x) ≡ Ok (get_or ys k y)
  each_at [] e x y k h = absurd (omega arith)
  each_at (a ∷ xs) e x y zero h = let c = each_cons f a xs e in rw c.4 c.2
  each_at (a ∷ xs) e x y (suc k) h = let c = each_cons f a xs e in rw c.4 (each_at xs c.3 x y k (omega arith))

  pub each_map : {X : Type 0} (g : A → X) (h : B → X) → ((x : A) (y : B) → f x ≡ Ok y → h y ≡ g x) → (xs : List A) {ys : List B} → each f xs ≡ Ok ys
      → map h ys ≡ map g xs
  each_map g h same [] e = rw (← ok_inj e)
  each_map g h same (x ∷ xs) e =
      let c = each_cons f x xs e in
      rw (c.4, same x c.0 c.2, each_map g h same xs c.3)

  pub each_last : (xs : List A) (x : A) → is_ok (each f (xs ++ (x ∷ []))) ≡ (is_ok (each f xs) && is_ok (f x))
  each_last [] x = then_ok (f x) (λ y. y ∷ [])
  each_last (a ∷ xs) x = go (f a) (each_last xs x)
    where
      go : (r : Res B) → is_ok (each f (xs ++ (x ∷ []))) ≡ (is_ok (each f xs) && is_ok (f x))
          → is_ok (r >>= λ y. each f (xs ++ (x ∷ [])) >>= λ ys. Ok (y ∷ ys)) ≡ (is_ok (r >>= λ y. each f xs >>= λ ys. Ok (y ∷ ys)) && is_ok (f x))
      go (Ok y) e = rw (then_ok (each f (xs ++ (x ∷ []))) (λ ys. y ∷ ys), then_ok (each f xs) (λ ys. y ∷ ys)) e
      go (Err k) e = refl

pub first_length : (n : ℕ) → length (first_numbers n) ≡ n
first_length zero = refl
first_length (suc n) = omega (arith, length-append (first_numbers n) (n ∷ []), first_length n)

pub first_at : (n k : ℕ) → k < n → get_or (first_numbers n) k 0 ≡ k
first_at zero k h = absurd (omega arith)
first_at (suc n) k h = go (ltb k n) refl (first_at n k)
  where
    go : (t : Bool) → ltb k n ≡ t → (k < n → get_or (first_numbers n) k 0 ≡ k) → get_or (first_numbers n ++ (n ∷ [])) k 0 ≡ k
    go true e rest =
        let less = ltb-true k n e in
        get_or-append (first_numbers n) (n ∷ []) 0 k (omega (arith, first_length n)) ∙ rest less
    go false e rest =
        let same : n ≡ k = omega (arith, ltb-false k n e) in
        get_or_at (first_numbers n) n [] 0 k (first_length n ∙ same) ∙ same
