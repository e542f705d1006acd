-- Words, signs, literals and brackets as they stand in a text, with document 02's words beside each: what a text begins with, and the text after it. `Tokens.token`
-- finds just that. Assumes nothing.
use Rattle.std.specs.Prelude.{ℕ, Bool, true, false, List, [], ◌∷◌, ◌++◌, ◌↔◌, ◌≡◌, ◌==◌, pos, neg_ℤ}
use Prim.Native.Char.{code}
use Rattle.values.specs.Characters.{is_letter, is_digit}
use Rattle.values.specs.SomeEvery.{every}
use Rattle.expr.specs.Operators.{less_than, less_than_or_eq, greater_than, greater_than_or_eq, eq, not_eq}
use Rattle.tokens.specs.Tokens.{Token, word, sign, decimal, quoted, opening, closing, unreadable, taken, token, number_after, is_text}

-- whether a text begins with a byte that passes a test
abbrev pub begins_with : (ℕ → Bool) → List ℕ → Bool
begins_with passes [] = false
begins_with passes (b ∷ s) = passes b

abbrev pub is_equals : ℕ → Bool
is_equals b = b == code "="

pub data Spelled : List ℕ → Token → List ℕ → Type 0 where
  -- "letters in a row are one word": as many as there are
  a_word : {b : ℕ} {w rest : List ℕ} → every is_letter (b ∷ w) ≡ true → begins_with is_letter rest ≡ false → Spelled (b ∷ w ++ rest) (word (b ∷ w)) rest
  -- "a decimal with optional minus": as many digits as there are, and the minus at once before them
  a_number : (d : ℕ) (ds : List ℕ) {rest : List ℕ} → every is_digit (d ∷ ds) ≡ true → begins_with is_digit rest ≡ false
      → Spelled (d ∷ ds ++ rest) (decimal (pos (number_after 0 (d ∷ ds)))) rest
  with_minus : (d : ℕ) (ds : List ℕ) {rest : List ℕ} → every is_digit (d ∷ ds) ≡ true → begins_with is_digit rest ≡ false
      → Spelled (code "-" ∷ d ∷ ds ++ rest) (decimal (neg_ℤ (pos (number_after 0 (d ∷ ds))))) rest
  -- "text in single quotes holding no quote"
  in_quotes : {text rest : List ℕ} → every is_text text ≡ true → Spelled (code "'" ∷ text ++ code "'" ∷ rest) (quoted text) rest
  -- "brackets group"
  opens : {rest : List ℕ} → Spelled (code "(" ∷ rest) opening rest
  closes : {rest : List ℕ} → Spelled (code ")" ∷ rest) closing rest
  -- "`<`, `<=`, `>`, `>=`, `=`, `!=`": the longest that fits
  less_or_equal : {rest : List ℕ} → Spelled (code "<" ∷ code "=" ∷ rest) (sign less_than_or_eq) rest
  less : {rest : List ℕ} → begins_with is_equals rest ≡ false → Spelled (code "<" ∷ rest) (sign less_than) rest
  greater_or_equal : {rest : List ℕ} → Spelled (code ">" ∷ code "=" ∷ rest) (sign greater_than_or_eq) rest
  greater : {rest : List ℕ} → begins_with is_equals rest ≡ false → Spelled (code ">" ∷ rest) (sign greater_than) rest
  equal : {rest : List ℕ} → Spelled (code "=" ∷ rest) (sign eq) rest
  not_equal : {rest : List ℕ} → Spelled (code "!" ∷ code "=" ∷ rest) (sign not_eq) rest

-- a token that stands for something
abbrev pub is_spelled : Token → Bool
is_spelled (word w) = true
is_spelled (sign o) = true
is_spelled (decimal z) = true
is_spelled (quoted s) = true
is_spelled opening = true
is_spelled closing = true
is_spelled unreadable = false

-- `token` finds what the text begins with, and where it begins with nothing it finds none (`SpelledLaws.token_means`)
abbrev pub TokenMeans : Type 0
TokenMeans = (s : List ℕ) (t : Token) (rest : List ℕ) → ((token s ≡ taken t rest) × (is_spelled t ≡ true)) ↔ Spelled s t rest
