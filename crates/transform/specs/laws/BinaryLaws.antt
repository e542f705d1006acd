-- Laws of a binary's first bytes: they are a cutting, as a string's first code points are, and of every byte string. Assumes nothing.
use Rattle.std.specs.Prelude.{ℕ, zero, suc, ◌≤◌, true, List, [], ◌∷◌, ◌≡◌, refl, eqb, length, take, drop}
use Rattle.std.proofs.Common.{arith, sym, ap, ap₂, ◌∙◌, take-append-drop, take_all, eqb-true}
use Rattle.std.proofs.Math.Seq.{take-append_seam}
use Rattle.values.specs.Order.{compare_bytes, starts_with}
use Rattle.values.specs.laws.OrderLaws.{take_mono}
use Rattle.values.specs.laws.PrefixLaws.{starts_append}
use Rattle.values.specs.laws.TestLaws.{and_both, both_and, clash}
use Rattle.std.specs.declared.cmp.Ordering.TheVariants.{Less}
use Rattle.transform.specs.Truncate.{first_bytes}
use Rattle.transform.specs.laws.Cutting.{Cutting}

first_prefix : (w : ℕ) (s : List ℕ) → starts_with s (first_bytes w s) ≡ true
unfolding first_bytes
first_prefix w s = ap (λ t. starts_with t (take w s)) (sym (take-append-drop w s)) ∙ starts_append (take w s) (drop w s)

pub first_bytes_take : (w : ℕ) (s : List ℕ) → first_bytes w s ≡ take (length (first_bytes w s)) s
unfolding first_bytes
first_bytes_take w s = sym (take-append_seam (take w s) (drop w s)) ∙ ap (take (length (take w s))) (take-append-drop w s)

first_mono : (w : ℕ) (s t : List ℕ) → (compare_bytes t s ≡ Less → ⊥) → compare_bytes (first_bytes w t) (first_bytes w s) ≡ Less → ⊥
unfolding first_bytes
first_mono w s t h k = take_mono w s t h k

first_whole : (w : ℕ) (l : List ℕ) → length l ≤ w → first_bytes w l ≡ l
unfolding first_bytes
first_whole w l h = take_all w l h

first_short : (w : ℕ) (l v : List ℕ) → length l ≤ w → starts_with v l ≡ true → starts_with (first_bytes w v) l ≡ true
unfolding first_bytes starts_with
first_short w [] v n h = refl
first_short zero (x ∷ l) v n h = absurd (omega arith)
first_short (suc w) (x ∷ l) [] n h = clash h refl
first_short (suc w) (x ∷ l) (y ∷ v) n h =
    let k = and_both (eqb y x) (starts_with v l) h in
    both_and {a = eqb y x} k.0 (first_short w l v (omega arith) k.1)

first_long : (w : ℕ) (l v : List ℕ) → w ≤ length l → starts_with v l ≡ true → first_bytes w v ≡ first_bytes w l
unfolding first_bytes starts_with
first_long zero l v n h = refl
first_long (suc w) [] v n h = absurd (omega arith)
first_long (suc w) (x ∷ l) [] n h = clash h refl
first_long (suc w) (x ∷ l) (y ∷ v) n h =
    let k = and_both (eqb y x) (starts_with v l) h in
    ap₂ ◌∷◌ (eqb-true y x k.0) (first_long w l v (omega arith) k.1)

-- ---- all of it, as one record
pub binary_cutting : {Fine : List ℕ → Type 0} (w : ℕ) → Cutting Fine length w (first_bytes w)
binary_cutting w = record {
  prefix = first_prefix w;
  monotone = λ s t p q. first_mono w s t;
  whole = first_whole w;
  short = λ l v p q. first_short w l v;
  long = λ l v p q. first_long w l v;
}
