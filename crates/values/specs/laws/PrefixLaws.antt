-- How a byte string begins. Assumes nothing.
use Rattle.std.specs.Prelude.{◌≡◌, ℕ, true, List, [], ◌∷◌, ◌++◌, length, drop, ◌==◌, refl}
use Rattle.std.proofs.Common.{ap₂, ◌∙◌, eqb-true, eq-eqb}
use Rattle.values.specs.Order.{starts_with}
use Rattle.values.specs.laws.TestLaws.{clash, and_both, both_and}

pub starts_self : (v : List ℕ) → starts_with v v ≡ true
unfolding starts_with
starts_self [] = refl
starts_self (x ∷ v) = both_and {a = (x == x)} (eq-eqb x x refl) (starts_self v)

pub starts_append : (l t : List ℕ) → starts_with (l ++ t) l ≡ true
unfolding starts_with
starts_append [] t = refl
starts_append (x ∷ l) t = both_and {a = (x == x)} (eq-eqb x x refl) (starts_append l t)

pub starts_through : (a b c : List ℕ) → starts_with a b ≡ true → starts_with b c ≡ true → starts_with a c ≡ true
unfolding starts_with
starts_through a b [] h k = refl
starts_through a [] (z ∷ c) h k = clash k refl
starts_through [] (y ∷ b) (z ∷ c) h k = clash h refl
starts_through (x ∷ a) (y ∷ b) (z ∷ c) h k =
    let h' = and_both (x == y) (starts_with a b) h in
    let k' = and_both (y == z) (starts_with b c) k in
    both_and {a = (x == z)} (eq-eqb x z (eqb-true x y h'.0 ∙ eqb-true y z k'.0)) (starts_through a b c h'.1 k'.1)

pub starts_rest : (v l : List ℕ) → starts_with v l ≡ true → v ≡ l ++ drop (length l) v
unfolding starts_with
starts_rest v [] h = refl
starts_rest [] (x ∷ l) h = clash h refl
starts_rest (y ∷ v) (x ∷ l) h =
    let k = and_both (y == x) (starts_with v l) h in
    ap₂ ◌∷◌ (eqb-true y x k.0) (starts_rest v l k.1)

pub rest_of : (v l : List ℕ) → starts_with v l ≡ true → (t : List ℕ) × (v ≡ l ++ t)
rest_of v l h = (drop (length l) v, starts_rest v l h)
