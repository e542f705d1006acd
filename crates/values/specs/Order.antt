-- How values are ordered, and how a byte string begins. Assumes nothing.
use Rattle.std.specs.Prelude.{◌≡◌, ℕ, Bool, true, false, cond, ◌&&◌, List, [], ◌∷◌, ℤ, ◌==◌, int_lt, nat_lt, refl}
use Rattle.std.specs.declared.cmp.Ordering.{Ordering}
use Rattle.std.specs.declared.cmp.Ordering.TheVariants.{Less, Equal, Greater}

-- 01: "numbers signed"
unfoldable pub compare_numbers : ℤ → ℤ → Ordering
compare_numbers a b = cond (int_lt a b) Less (cond (int_lt b a) Greater Equal)

-- 01: "Strings and binaries compare by byte, a shorter beginning of the other being the lower"
unfoldable pub compare_bytes : List ℕ → List ℕ → Ordering
compare_bytes [] [] = Equal
compare_bytes [] (y ∷ ys) = Less
compare_bytes (x ∷ xs) [] = Greater
compare_bytes (x ∷ xs) (y ∷ ys) = cond (nat_lt x y) Less (cond (nat_lt y x) Greater (compare_bytes xs ys))

abbrev pub is_less : Ordering → Bool
is_less Less = true
is_less Equal = false
is_less Greater = false

abbrev pub is_equal : Ordering → Bool
is_equal Less = false
is_equal Equal = true
is_equal Greater = false

-- the first bytes of v are those of l
unfoldable pub starts_with : List ℕ → List ℕ → Bool
starts_with v [] = true
starts_with [] (x ∷ l) = false
starts_with (y ∷ v) (x ∷ l) = y == x && starts_with v l

lower : compare_bytes (97 ∷ 98 ∷ []) (97 ∷ 98 ∷ 99 ∷ []) ≡ Less
unfolding compare_bytes
lower = refl
