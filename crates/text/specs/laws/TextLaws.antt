-- Laws of text: digits one by one, and how long the parts of a line are at the most. Assumes nothing.
use Rattle.std.specs.Prelude.{ℕ, zero, suc, ◌+◌, ◌-◌, ◌*◌, ◌/◌, ◌%◌, ◌^◌, ◌≤◌, ◌<◌, Bool, true, false, cond, List, [], ◌∷◌, ◌++◌, ◌≡◌, refl, ltb, ℤ, pos, negsuc, length, Ok, Err}
use Rattle.std.proofs.Common.{arith, ap, length-append, ltb-true, ltb-false, lt-ltb, le-ltb, leb-true}
use Rattle.std.proofs.lemmas.Fmt.{decimal_by_steps}
use Rattle.std.specs.Fmt as fmt
use Rattle.std.specs.Int.Signed.{mag}
use Rattle.values.specs.Outcomes.{Res}
use Rattle.values.specs.Types.{number, layout, content_size, fits, half}
use Rattle.values.specs.Words.{le_number, signed}
use Rattle.values.specs.declared.datatypes.PrimitiveType.{PrimitiveType}
use Rattle.values.specs.declared.datatypes.PrimitiveType.TheVariants.{Int, Long, Date, Time, Timestamp, Timestamptz, TimestampNs, TimestamptzNs, String, Binary}
use Rattle.expr.specs.Operators.{operator_number, holds_limit}
use Rattle.expr.specs.Predicates.{operator_in, literals_in}
use Rattle.expr.specs.declared.operator.PredicateOperator.{PredicateOperator}
use Rattle.expr.specs.declared.operator.PredicateOperator.TheVariants as operator
use Rattle.sheet.specs.Sheets.{Sheet, sheet}
use Rattle.sheet.specs.laws.SheetLaws.{Fits, sheet_read_lem}
use Rattle.text.specs.Text.{digit, digits_within, digits, decimal, hex_digits, hexadecimal, literal_text, literals_text, words_read, answer_words}
use Rattle.text.specs.Text.{spaced, after_zero, answer_line}

-- ---- digits

-- any bound that is large enough gives the same digits
within_same : (f g n : ℕ) → n < f → n < g → digits_within f n ≡ digits_within g n
within_same zero g n h k = let no : ⊥ = omega arith in absurd no
within_same (suc f) zero n h k = let no : ⊥ = omega arith in absurd no
within_same (suc f) (suc g) n h k = go (within_same f g (n / 10)) (ltb n 10) refl
  where
    go : (n / 10 < f → n / 10 < g → digits_within f (n / 10) ≡ digits_within g (n / 10)) → (t : Bool) → ltb n 10 ≡ t
        → cond t (digit n ∷ []) (digits_within f (n / 10) ++ (digit (n % 10) ∷ []))
        ≡ cond t (digit n ∷ []) (digits_within g (n / 10) ++ (digit (n % 10) ∷ []))
    go shorter true e = refl
    go shorter false e =
        let large : 10 ≤ n = ltb-false n 10 e in
        ap (λ (l : List ℕ). l ++ (digit (n % 10) ∷ [])) (shorter (omega arith) (omega arith))

pub digits_one : (n : ℕ) → n < 10 → digits n ≡ digit n ∷ []
unfolding digits
digits_one n h = rw (lt-ltb n 10 h)

pub digits_more : (n : ℕ) → 10 ≤ n → digits n ≡ digits (n / 10) ++ (digit (n % 10) ∷ [])
unfolding digits
digits_more n h =
    rw (le-ltb n 10 h) (ap (λ (l : List ℕ). l ++ (digit (n % 10) ∷ [])) (within_same n (suc (n / 10)) (n / 10) (omega arith) (omega arith)))

pub digits_few : (k n : ℕ) → n < 10 ^ suc k → length (digits n) ≤ suc k
digits_few zero n h = rw (digits_one n h) (omega arith)
digits_few (suc k) n h = go (digits_few k (n / 10)) (ltb n 10) refl
  where
    go : (n / 10 < 10 ^ suc k → length (digits (n / 10)) ≤ suc k) → (t : Bool) → ltb n 10 ≡ t → length (digits n) ≤ suc (suc k)
    go shorter true e = rw (digits_one n (ltb-true n 10 e)) (omega arith)
    go shorter false e = let rest = shorter (omega arith) in rw (digits_more n (ltb-false n 10 e), length-append) (omega arith)

-- as std prints them
pub digits_printed : (n : ℕ) → n < 2 ^ 64 → fmt.decimal n ≡ digits n
digits_printed n h = decimal_by_steps (λ m ds. ds ≡ digits m) one more n h
  where
    one : (m : ℕ) → m < 10 → (48 + m) ∷ [] ≡ digits m
    one m h = rw (digits_one m h, lt-ltb m 10 h)

    more : (m : ℕ) (ds : List ℕ) → 10 ≤ m → ds ≡ digits (m / 10) → ds ++ ((48 + m % 10) ∷ []) ≡ digits m
    more m ds h e = rw (digits_more m h, e, lt-ltb (m % 10) 10 (omega arith))

pub decimal_printed : (z : ℤ) → mag z < 2 ^ 63 → fmt.signed_decimal z ≡ decimal z
decimal_printed (pos n) h = digits_printed n (omega arith)
decimal_printed (negsuc n) h = ap (λ ds. 45 ∷ ds) (digits_printed (suc n) (omega arith))

-- ---- literals

-- the most characters of a literal
abbrev pub literal_size : ℕ
literal_size = 2 * content_size

-- of a number that 64 bits hold
decimal_few : (z : ℤ) → mag z < half 8 → length (decimal z) ≤ literal_size
decimal_few (pos n) h = omega (arith, digits_few 18 n (omega arith))
decimal_few (negsuc n) h = omega (arith, digits_few 18 (suc n) (omega arith))

-- whatever the bytes are, the number is one of n bytes
signed_small : (n u : ℕ) → half n + half n ≡ 256 ^ n → 0 < half n → mag (signed n u) < half n
signed_small n u twice some = go (ltb u (half n)) refl
  where
    go : (t : Bool) → ltb u (half n) ≡ t → mag (cond t (pos u) (negsuc (256 ^ n - suc u))) < half n
    go true e = ltb-true u (half n) e
    go false e = omega (arith, ltb-false u (half n) e)

int_few : (bs : List ℕ) → length (literal_text (number 4) bs) ≤ literal_size
int_few bs =
    let small = signed_small 4 (le_number bs) refl (omega arith) in
    decimal_few (signed 4 (le_number bs)) (omega (arith, small))

long_few : (bs : List ℕ) → length (literal_text (number 8) bs) ≤ literal_size
long_few bs = decimal_few (signed 8 (le_number bs)) (signed_small 8 (le_number bs) refl (omega arith))

length_hex_digits : (bs : List ℕ) → length (hex_digits bs) ≡ 2 * length bs
length_hex_digits [] = refl
length_hex_digits (b ∷ bs) = omega (arith, length_hex_digits bs)

string_few : (bs : List ℕ) → length bs ≤ content_size → length (hexadecimal bs) ≤ literal_size
string_few [] h = omega arith
string_few (b ∷ bs) h = omega (arith, length_hex_digits (b ∷ bs))

literal_few : (ty : PrimitiveType) (bs : List ℕ) → fits (layout ty) (length bs) ≡ true → length (literal_text (layout ty) bs) ≤ literal_size
literal_few Int bs h = int_few bs
literal_few Long bs h = long_few bs
literal_few Date bs h = int_few bs
literal_few Time bs h = long_few bs
literal_few Timestamp bs h = long_few bs
literal_few Timestamptz bs h = long_few bs
literal_few TimestampNs bs h = long_few bs
literal_few TimestamptzNs bs h = long_few bs
literal_few String bs h = string_few bs (leb-true (length bs) content_size h)
literal_few Binary bs h = string_few bs (leb-true (length bs) content_size h)

literals_few : (ty : PrimitiveType) (ls : List (List ℕ)) → Fits ty ls → length (literals_text (layout ty) ls) ≤ (literal_size + 1) * length ls
literals_few ty [] h = omega arith
literals_few ty (l ∷ ls) h = rw length-append (omega (arith, literal_few ty l h.0, literals_few ty ls h.1))

-- ---- lines

three_digits : (o : PredicateOperator) → operator_number o < 10 ^ 3
three_digits operator.IsNull = omega arith
three_digits operator.NotNull = omega arith
three_digits operator.IsNan = omega arith
three_digits operator.NotNan = omega arith
three_digits operator.LessThan = omega arith
three_digits operator.LessThanOrEq = omega arith
three_digits operator.GreaterThan = omega arith
three_digits operator.GreaterThanOrEq = omega arith
three_digits operator.Eq = omega arith
three_digits operator.NotEq = omega arith
three_digits operator.StartsWith = omega arith
three_digits operator.NotStartsWith = omega arith
three_digits operator.In = omega arith
three_digits operator.NotIn = omega arith

-- the most characters of a predicate, with the spaces before its words
abbrev pub predicate_size : ℕ
predicate_size = 4 + (literal_size + 1) * holds_limit

predicate_few : (answer : List ℕ) → length (spaced (answer_words answer)) ≤ predicate_size
predicate_few answer = go (sheet holds_limit answer) refl
  where
    go : (r : Res Sheet) → sheet holds_limit answer ≡ r → length (spaced (words_read r)) ≤ predicate_size
    go (Ok x) e =
        let read = sheet_read_lem holds_limit answer x e in
        let o = operator_in x.leaf in
        let operator = digits_few 2 (operator_number o) (three_digits o) in
        rw length-append (omega (arith, read.few, operator, literals_few x.head.column (literals_in x.leaf) read.fit))
    go (Err e) d = omega arith

after_zero_few : (n : ℕ) (answer : List ℕ) → length (spaced (after_zero n (answer_words answer))) ≤ predicate_size
after_zero_few zero answer = predicate_few answer
after_zero_few (suc n) answer = omega arith

-- a line whose number has at most two digits: beside the question and the predicate a space, the digits and the newline
pub line_few : (question : List ℕ) (code : ℕ) (answer : List ℕ) → code < 10 ^ 2 → length (answer_line question code answer) ≤ length question + (4 + predicate_size)
unfolding answer_line
line_few question code answer h =
    let number = digits_few 1 code h in
    simp length-append (omega (arith, after_zero_few code answer))
