-- What program `weighpick` prints. Document 01: "prints two lines: question, answer number, then, after 0, operator and literals, one space apart. Numbers are
-- decimal; strings lower-case hexadecimal, an empty one `-`." Assumes nothing.
use Rattle.std.specs.Prelude.{ℕ, zero, suc, ◌+◌, ◌-◌, ◌/◌, ◌%◌, cond, List, [], ◌∷◌, ◌++◌, map, ◌≡◌, refl, nat_lt, ℤ, pos, negsuc, Ok, Err}
use Prim.Native.Char.{code}
use Rattle.values.specs.Characters.{ascii}
use Rattle.values.specs.Outcomes.{Res}
use Rattle.values.specs.Types.{Layout, number, bytes, layout}
use Rattle.values.specs.Transforms.{transform_of}
use Rattle.values.specs.Words.{le_number, signed, signed_bytes}
use Rattle.expr.specs.Operators.{operator_number, holds_limit}
use Rattle.expr.specs.Predicates.{operator_in, literals_in}
use Rattle.sheet.specs.Records.{content}
use Rattle.sheet.specs.Sheets.{Sheet, sheet, head, fields}
use Rattle.write.specs.Written.{head_record, literal_record}

abbrev pub space : ℕ
space = code " "

abbrev pub hyphen : ℕ
hyphen = code "-"

abbrev pub newline : ℕ
newline = code "\n"

-- ---- 01: "Numbers are decimal"

-- the character of a digit: 0 to 9, then a to f
abbrev pub digit : ℕ → ℕ
digit v = cond (nat_lt v 10) (code "0" + v) (code "a" + (v - 10))

-- a number below ten is one digit; any other is the digits of its tenth part, and then its last digit. `most` is the most digits, and ends the recursion
abbrev pub digits_within : ℕ → ℕ → List ℕ
digits_within zero n = []
digits_within (suc most) n =
    let longer = digits_within most (n / 10) ++ (digit (n % 10) ∷ []) in
    cond (nat_lt n 10) (digit n ∷ []) longer

-- n has at most n + 1 digits
unfoldable pub digits : ℕ → List ℕ
digits n = digits_within (suc n) n

abbrev pub decimal : ℤ → List ℕ
decimal (pos n) = digits n
decimal (negsuc n) = hyphen ∷ digits (suc n)

zero_and_lowest : (decimal (pos 0) ≡ ascii "0") × (decimal (negsuc 9223372036854775807) ≡ ascii "-9223372036854775808")
unfolding digits
zero_and_lowest = (refl, refl)

-- ---- 01: "strings lower-case hexadecimal, an empty one `-`"

abbrev pub hex_digits : List ℕ → List ℕ
hex_digits [] = []
hex_digits (b ∷ bs) = digit (b / 16) ∷ digit (b % 16) ∷ hex_digits bs

abbrev pub hexadecimal : List ℕ → List ℕ
hexadecimal [] = hyphen ∷ []
hexadecimal (b ∷ bs) = hex_digits (b ∷ bs)

e_acute : hexadecimal (0xC3 ∷ 0xA9 ∷ []) ≡ ascii "c3a9"
e_acute = refl

-- ---- 01: "operator and literals, one space apart"

-- a literal of this content; Binary prints as String does
abbrev pub literal_text : Layout → List ℕ → List ℕ
literal_text (number n) content = decimal (signed n (le_number content))
literal_text (bytes n) content = hexadecimal content

-- words, a space before each
abbrev pub spaced : List (List ℕ) → List ℕ
spaced [] = []
spaced (w ∷ ws) = space ∷ (w ++ spaced ws)

abbrev pub literals_text : Layout → List (List ℕ) → List ℕ
literals_text l contents = spaced (map (literal_text l) contents)

abbrev pub predicate_words : Sheet → List (List ℕ)
predicate_words x = digits (operator_number (operator_in x.leaf)) ∷ map (literal_text (layout x.head.column)) (literals_in x.leaf)

-- the words of what is read in an answer: an answer sheet is a sheet, and bytes that are none have no words
abbrev pub words_read : Res Sheet → List (List ℕ)
words_read (Ok x) = predicate_words x
words_read (Err e) = []

abbrev pub answer_words : List ℕ → List (List ℕ)
answer_words answer = words_read (sheet holds_limit answer)

-- ---- 01: "question, answer number, then, after 0, .."

abbrev pub after_zero : ℕ → List (List ℕ) → List (List ℕ)
after_zero zero words = words
after_zero (suc n) words = []

abbrev pub line : List ℕ → List (List ℕ) → List ℕ
line question words = question ++ (spaced words ++ (newline ∷ []))

-- the line for a question, the number of its answer, and the answer sheet
unfoldable pub answer_line : List ℕ → ℕ → List ℕ → List ℕ
answer_line question n answer = line question (digits n ∷ after_zero n (answer_words answer))

-- the answer sheet of Int ≤ 290
abbrev at_most_290 : List ℕ
at_most_290 = head_record 1 202 1 ++ literal_record 0 (signed_bytes 4 (pos 290))

examples : (answer_line (ascii "inclusive") 0 at_most_290 ≡ ascii "inclusive 0 202 290\n") × (answer_line (ascii "strict") 8 [] ≡ ascii "strict 8\n")
unfolding answer_line digits sheet fields head transform_of content
examples = (refl, refl)
