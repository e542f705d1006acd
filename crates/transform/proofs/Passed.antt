-- What the loop of `prefix_len` has yet to pass: the bytes up to where one code point more would begin than may. Assumes nothing.
use Prim.Native.Nat.{ℕ, zero, suc}
use native.Mathlib.Omega.{arith}
use mathlib.Core.Bool.{Bool, true, false, cond}
use mathlib.Core.List.{List, [], ◌∷◌}
use mathlib.Core.Path.{◌≡◌, refl, ap}
use lib.ListN.{length, take}
use lib.Seq.{take-nil}
use Rattle.values.specs.Utf8.{continues, before, code_points, concat}
use Rattle.transform.specs.Truncate.{first_code_points}

-- a byte that begins a code point is passed where one more may begin; k is what is passed after it
abbrev pub begin : ℕ → (ℕ → ℕ) → ℕ
begin zero k = 0
begin (suc w) k = suc (k w)

-- of bytes in which w code points more may begin
abbrev pub passed : List ℕ → ℕ → ℕ
passed [] w = 0
passed (b ∷ bs) w = cond (continues b) (suc (passed bs w)) (begin w (passed bs))

first_passed : (b : ℕ) (bs : List ℕ) (w : ℕ) → length (concat (take (suc w) (code_points (b ∷ bs)))) ≡ suc (passed bs w)
unfolding code_points
first_passed b [] w = rw (take-nil {A = List ℕ} w)
first_passed b (d ∷ ds) w = go (continues d) (code_points (d ∷ ds)) (first_passed d ds) w
  where
    go :
        (k : Bool) (cs : List (List ℕ)) → ((w : ℕ) → length (concat (take (suc w) cs)) ≡ suc (passed ds w)) → (w : ℕ) →
        length (concat (take (suc w) (before b k cs))) ≡ suc (cond k (suc (passed ds w)) (begin w (passed ds)))
    go true [] e w = absurd (omega (arith, e w))
    go true (c ∷ cs) e w = ap suc (e w)
    go false cs e zero = refl
    go false cs e (suc w) = ap suc (e w)

-- of bytes from place i on: the first of all begins a code point, whatever it is
abbrev pub to_pass : ℕ → List ℕ → ℕ → ℕ
to_pass zero [] w = 0
to_pass zero (b ∷ bs) w = begin w (passed bs)
to_pass (suc i) bs w = passed bs w

pub all_passed : (s : List ℕ) (w : ℕ) → to_pass 0 s w ≡ length (first_code_points w s)
unfolding first_code_points code_points
all_passed [] zero = refl
all_passed (b ∷ bs) zero = refl
all_passed [] (suc w) = refl
all_passed (b ∷ bs) (suc w) = omega (arith, first_passed b bs w)
