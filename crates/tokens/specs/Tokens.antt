-- The words, signs and literals of a filter's text. Assumes nothing.
use Rattle.std.specs.Prelude.{ℕ, ◌+◌, ◌-◌, ◌*◌, Bool, cond, not, List, [], ◌∷◌, ◌≡◌, refl, ◌==◌, ℤ, pos, negsuc, neg_ℤ}
use Prim.Native.Char.{code}
use Rattle.values.specs.Characters.{ascii, is_letter, is_digit, leading, following}
use Rattle.expr.specs.Operators.{Binary, less_than, less_than_or_eq, greater_than, greater_than_or_eq, eq, not_eq}

-- `unreadable` stands for a text that begins with none of the others
pub data Token : Type 0 where
  word : List ℕ → Token
  sign : Binary → Token
  decimal : ℤ → Token
  quoted : List ℕ → Token
  opening closing unreadable : Token

-- the token that a text begins with, and the text after it
pub data Taken : Type 0 where
  taken : Token → List ℕ → Taken

-- 02: "Spaces may stand around words, signs and literals"; around brackets too. A space is the byte 20 hexadecimal
abbrev pub is_space : ℕ → Bool
is_space b = b == code " "

-- 02: "letters in a row are one word"
abbrev pub word_at : List ℕ → Taken
word_at s = taken (word (leading is_letter s)) (following is_letter s)

-- the number that digits are, after those that came to `before`
abbrev pub number_after : ℕ → List ℕ → ℕ
number_after before [] = before
number_after before (d ∷ ds) = number_after (10 * before + (d - code "0")) ds

-- 02: "a decimal with optional minus": digits, as many as there are
abbrev pub decimal_at : (ℕ → ℤ) → List ℕ → Taken
decimal_at signed s = taken (decimal (signed (number_after 0 (leading is_digit s)))) (following is_digit s)

-- a minus stands at once before a digit
abbrev pub minus_at : List ℕ → Taken
minus_at [] = taken unreadable []
minus_at (b ∷ s) = cond (is_digit b) (decimal_at (λ n. neg_ℤ (pos n)) (b ∷ s)) (taken unreadable (b ∷ s))

-- 02: "text in single quotes holding no quote": here after the first quote
abbrev pub is_text : ℕ → Bool
is_text b = not (b == code "'")

abbrev pub unquoted : List ℕ → List ℕ → Taken
unquoted text [] = taken unreadable []
unquoted text (quote ∷ s) = taken (quoted text) s

abbrev pub quoted_at : List ℕ → Taken
quoted_at s = unquoted (leading is_text s) (following is_text s)

-- 02: "(`<`, `<=`, `>`, `>=`, `=`, `!=`, `startswith`)": a sign is the longest that fits. What the text is read as with `=` as its next character, and without
abbrev pub longest : Token → Token → List ℕ → Taken
longest with without [] = taken without []
longest with without (b ∷ s) = cond (b == code "=") (taken with s) (taken without (b ∷ s))

-- a text that does not begin with a space
abbrev pub token : List ℕ → Taken
token [] = taken unreadable []
token (b ∷ s) =
    cond (is_letter b) (word_at (b ∷ s))
    (cond (is_digit b) (decimal_at pos (b ∷ s))
    (cond (b == code "-") (minus_at s)
    (cond (b == code "'") (quoted_at s)
    (cond (b == code "(") (taken opening s)
    (cond (b == code ")") (taken closing s)
    (cond (b == code "<") (longest (sign less_than_or_eq) (sign less_than) s)
    (cond (b == code ">") (longest (sign greater_than_or_eq) (sign greater_than) s)
    (cond (b == code "=") (taken (sign eq) s)
    (cond (b == code "!") (longest (sign not_eq) unreadable s)
    (taken unreadable s))))))))))

-- `not` and the letters after it are one word, and `<` is not `<=` where a space stands between
one_word : token (ascii "nota<1") ≡ taken (word (ascii "nota")) (ascii "<1")
one_word = refl

apart : token (ascii "< =1") ≡ taken (sign less_than) (ascii " =1")
apart = refl

-- leading zeros change nothing, and -0 is 0
zeros_first : token (ascii "-007and") ≡ taken (decimal (negsuc 6)) (ascii "and")
zeros_first = refl

minus_zero : token (ascii "-0") ≡ taken (decimal (pos 0)) []
minus_zero = refl

-- quoted text has any bytes, and may have none; what is not closed is nothing
no_text : token (ascii "''") ≡ taken (quoted []) []
no_text = refl

unclosed : token (ascii "'a") ≡ taken unreadable []
unclosed = refl
