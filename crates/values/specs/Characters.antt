-- Characters and texts as bytes. Assumes nothing.
use Rattle.std.specs.Prelude.{ℕ, Bool, cond, ◌&&◌, List, [], ◌∷◌, nat_le}
use Prim.Native.Char.{code}
use Prim.Native.String as string

-- the bytes of a text
abbrev pub ascii : string.String → List ℕ
ascii string.[] = []
ascii (string.◌∷◌ c s) = code c ∷ ascii s

-- a lower-case letter, and a digit
abbrev pub is_letter : ℕ → Bool
is_letter b = nat_le (code "a") b && nat_le b (code "z")

abbrev pub is_digit : ℕ → Bool
is_digit b = nat_le (code "0") b && nat_le b (code "9")

-- the bytes that a text begins with, as far as they pass a test, and the text after them
module _ (passes : ℕ → Bool) where
  abbrev pub leading : List ℕ → List ℕ
  leading [] = []
  leading (b ∷ s) = cond (passes b) (b ∷ leading s) []

  abbrev pub following : List ℕ → List ℕ
  following [] = []
  following (b ∷ s) = cond (passes b) (following s) (b ∷ s)
