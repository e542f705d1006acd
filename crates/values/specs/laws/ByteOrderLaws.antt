-- The order and the beginnings of byte strings are those that the library has for slices. Assumes nothing.
use Rattle.std.specs.Prelude.{◌≡◌, ◌≢◌, ◌<◌, ℕ, Bool, true, false, cond, ◌&&◌, List, [], ◌∷◌, ◌==◌, nat_lt, nat_eq, length, get_or, refl}
use Rattle.std.proofs.Common.{arith, sym, ap₂, ◌∙◌, eqb-true, eq-eqb, ltb-true, ltb-false}
use Rattle.std.specs.Ordering.{nat_cmp, ordering_then}
use Rattle.std.specs.Cmp.Lexicographic.{slice_cmp}
use Rattle.std.specs.declared.cmp.Ordering.{Ordering}
use Rattle.std.specs.declared.cmp.Ordering.TheVariants.{Less, Equal, Greater}
use Rattle.std.specs.List as list
use Rattle.values.specs.Order.{compare_bytes, starts_with}
use Rattle.values.specs.laws.TestLaws.{clash}

-- one byte, and then the rest
first_then : (x y : ℕ) (o : Ordering) → ordering_then (nat_cmp x y) o ≡ cond (nat_lt x y) Less (cond (nat_lt y x) Greater o)
first_then x y o = go (nat_lt x y) (x == y) (nat_lt y x) refl refl refl
  where
    go : (b c d : Bool) → nat_lt x y ≡ b → (x == y) ≡ c → nat_lt y x ≡ d
        → ordering_then (cond b Less (cond c Equal Greater)) o ≡ cond b Less (cond d Greater o)
    go true c d l e g = refl
    go false true true l e g =
        let one = eqb-true x y e in
        let above = ltb-true y x g in
        absurd (omega arith)
    go false true false l e g = refl
    go false false true l e g = refl
    go false false false l e g =
        let low = ltb-false x y l in
        let high = ltb-false y x g in
        clash (eq-eqb x y (omega arith)) e

pub slices_compare : (a b : List ℕ) → slice_cmp nat_cmp a b ≡ compare_bytes a b
unfolding compare_bytes
slices_compare [] [] = refl
slices_compare [] (y ∷ ys) = refl
slices_compare (x ∷ xs) [] = refl
slices_compare (x ∷ xs) (y ∷ ys) = first_then x y _ ∙ rw (slices_compare xs ys)

-- first bytes that differ decide
pub first_decides : (a b : List ℕ) → 0 < length a → 0 < length b → get_or a 0 0 ≢ get_or b 0 0 → nat_cmp (get_or a 0 0) (get_or b 0 0) ≡ compare_bytes a b
unfolding compare_bytes
first_decides [] b h k apart = absurd (omega arith)
first_decides (x ∷ xs) [] h k apart = absurd (omega arith)
first_decides (x ∷ xs) (y ∷ ys) h k apart = go (nat_lt x y) (x == y) (nat_lt y x) refl refl refl
  where
    go : (b c d : Bool) → nat_lt x y ≡ b → (x == y) ≡ c → nat_lt y x ≡ d
        → cond b Less (cond c Equal Greater) ≡ cond b Less (cond d Greater (compare_bytes xs ys))
    go true c d l e g = refl
    go false true d l e g = absurd (apart (eqb-true x y e))
    go false false true l e g = refl
    go false false false l e g =
        let low = ltb-false x y l in
        let high = ltb-false y x g in
        clash (eq-eqb x y (omega arith)) e

same_byte : (x y : ℕ) → (x == y) ≡ (y == x)
same_byte x y = go (x == y) (y == x) refl refl
  where
    go : (b c : Bool) → (x == y) ≡ b → (y == x) ≡ c → b ≡ c
    go true true p q = refl
    go true false p q = clash (eq-eqb y x (sym (eqb-true x y p))) q
    go false true p q = clash (eq-eqb x y (sym (eqb-true y x q))) p
    go false false p q = refl

pub slices_start : (v l : List ℕ) → list.starts_with nat_eq v l ≡ starts_with v l
unfolding starts_with
slices_start v [] = refl
slices_start [] (x ∷ l) = refl
slices_start (y ∷ v) (x ∷ l) = ap₂ ◌&&◌ (same_byte x y) (slices_start v l)
