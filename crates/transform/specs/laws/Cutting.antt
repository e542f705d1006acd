-- What cutting byte strings down to a width keeps, whatever it counts: a beginning, the order, and what begins with what. Assumes nothing.
use Rattle.std.specs.Prelude.{ℕ, ◌≤◌, true, List, ◌≡◌}
use Rattle.values.specs.Order.{compare_bytes, starts_with}
use Rattle.std.specs.declared.cmp.Ordering.TheVariants.{Less}

-- `cut` leaves of a string at most w of what `count` counts; `Fine` says of which strings the order and the beginnings are kept
pub record Cutting (Fine : List ℕ → Type 0) (count : List ℕ → ℕ) (w : ℕ) (cut : List ℕ → List ℕ) : Type 0 where
  pub prefix : (s : List ℕ) → starts_with s (cut s) ≡ true
  -- where s is at most t, it is so once both are cut
  pub monotone : (s t : List ℕ) → Fine s → Fine t → (compare_bytes t s ≡ Less → ⊥) → compare_bytes (cut t) (cut s) ≡ Less → ⊥
  -- what is no longer than the width stays whole
  pub whole : (l : List ℕ) → count l ≤ w → cut l ≡ l
  -- what v begins with, it still begins with once cut, where that is no longer than the width; where it is no shorter, both are cut to the same
  pub short : (l v : List ℕ) → Fine l → Fine v → count l ≤ w → starts_with v l ≡ true → starts_with (cut v) l ≡ true
  pub long : (l v : List ℕ) → Fine l → Fine v → w ≤ count l → starts_with v l ≡ true → cut v ≡ cut l
