-- How many code points a byte string is cut into: the first byte begins one, and each later byte that goes on with none. Assumes nothing.
use Rattle.std.specs.Prelude.{◌≡◌, ℕ, suc, ◌≤◌, Bool, true, false, cond, List, [], ◌∷◌, length, refl}
use Rattle.std.proofs.Common.{arith, ap}
use Rattle.values.specs.Utf8.{continues, before, code_points}

abbrev pub starts : List ℕ → ℕ
starts [] = 0
starts (b ∷ bs) = cond (continues b) (starts bs) (suc (starts bs))

pub count_parts : (b : ℕ) (bs : List ℕ) → length (code_points (b ∷ bs)) ≡ suc (starts bs)
unfolding code_points
count_parts b [] = refl
count_parts b (d ∷ ds) = go (continues d) (code_points (d ∷ ds)) (count_parts d ds)
  where
    go : (k : Bool) (cs : List (List ℕ)) → length cs ≡ suc (starts ds) → length (before b k cs) ≡ suc (cond k (starts ds) (suc (starts ds)))
    go true [] e = absurd (omega arith)
    go true (c ∷ cs) e = e
    go false cs e = ap suc e

pub starts_most : (s : List ℕ) → starts s ≤ length s
starts_most [] = omega arith
starts_most (b ∷ bs) = go (continues b) (starts_most bs)
  where
    go : (k : Bool) → starts bs ≤ length bs → cond k (starts bs) (suc (starts bs)) ≤ suc (length bs)
    go true h = omega arith
    go false h = omega arith
