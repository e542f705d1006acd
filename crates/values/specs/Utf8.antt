-- UTF-8, from RFC 3629, section 4. Assumes nothing.
use Rattle.std.specs.Prelude.{◌≡◌, ℕ, Bool, true, false, ◌&&◌, ◌||◌, List, [], ◌∷◌, ◌++◌, nat_le, refl}

-- the bytes from the first to the second
pub data Range : Type 0 where
  ◌to◌ : ℕ → ℕ → Range

infix 90 ◌to◌
abbrev pub within : ℕ → Range → Bool
within b (lo to hi) = nat_le lo b && nat_le b hi

-- UTF8-tail: a byte with which a code point goes on
abbrev pub tail : Range
tail = 0x80 to 0xBF

abbrev pub continues : ℕ → Bool
continues b = within b tail

-- UTF8-1, UTF8-2, UTF8-3 and UTF8-4: the forms of a code point, a range for each byte
abbrev pub forms : List (List Range)
forms =
    (0x00 to 0x7F ∷ [])
    ∷ (0xC2 to 0xDF ∷ tail ∷ [])
    ∷ (0xE0 to 0xE0 ∷ 0xA0 to 0xBF ∷ tail ∷ [])
    ∷ (0xE1 to 0xEC ∷ tail ∷ tail ∷ [])
    ∷ (0xED to 0xED ∷ 0x80 to 0x9F ∷ tail ∷ [])
    ∷ (0xEE to 0xEF ∷ tail ∷ tail ∷ [])
    ∷ (0xF0 to 0xF0 ∷ 0x90 to 0xBF ∷ tail ∷ tail ∷ [])
    ∷ (0xF1 to 0xF3 ∷ tail ∷ tail ∷ tail ∷ [])
    ∷ (0xF4 to 0xF4 ∷ 0x80 to 0x8F ∷ tail ∷ tail ∷ [])
    ∷ []

-- the bytes are of a form: each in its range
abbrev pub matches : List ℕ → List Range → Bool
matches [] [] = true
matches [] (r ∷ rs) = false
matches (b ∷ bs) [] = false
matches (b ∷ bs) (r ∷ rs) = within b r && matches bs rs

abbrev pub any_form : List ℕ → List (List Range) → Bool
any_form c [] = false
any_form c (f ∷ fs) = matches c f || any_form c fs

-- UTF8-char
unfoldable pub is_code_point : List ℕ → Bool
is_code_point c = any_form c forms

-- ---- a byte string as code points, one after the other

-- it is cut before each byte that is no UTF8-tail. Whether a byte string begins with a UTF8-tail:
abbrev pub goes_on : List ℕ → Bool
goes_on [] = false
goes_on (b ∷ bs) = continues b

-- b before the parts of what follows it: into the first of them where that begins with a UTF8-tail, else a part of its own
abbrev pub before : ℕ → Bool → List (List ℕ) → List (List ℕ)
before b true [] = (b ∷ []) ∷ []
before b true (c ∷ cs) = (b ∷ c) ∷ cs
before b false cs = (b ∷ []) ∷ cs

unfoldable pub code_points : List ℕ → List (List ℕ)
code_points [] = []
code_points (b ∷ bs) = before b (goes_on bs) (code_points bs)

abbrev pub all_code_points : List (List ℕ) → Bool
all_code_points [] = true
all_code_points (c ∷ cs) = is_code_point c && all_code_points cs

-- UTF8-octets, as a test: each part is a code point
unfoldable pub utf8 : List ℕ → Bool
utf8 s = all_code_points (code_points s)

abbrev pub concat : List (List ℕ) → List ℕ
concat [] = []
concat (c ∷ cs) = c ++ concat cs

-- UTF8-octets, as a decomposition: s is the bytes of code points, one after the other (`Utf8Laws` shows that the two agree)
pub record Octets (s : List ℕ) : Type 0 where
  pub points : List (List ℕ)
  pub each : all_code_points points ≡ true
  pub whole : concat points ≡ s

-- "é€" is two code points, of two and of three bytes
two : code_points (0xC3 ∷ 0xA9 ∷ 0xE2 ∷ 0x82 ∷ 0xAC ∷ []) ≡ (0xC3 ∷ 0xA9 ∷ []) ∷ (0xE2 ∷ 0x82 ∷ 0xAC ∷ []) ∷ []
unfolding code_points
two = refl

two_good : utf8 (0xC3 ∷ 0xA9 ∷ 0xE2 ∷ 0x82 ∷ 0xAC ∷ []) ≡ true
unfolding utf8 code_points is_code_point
two_good = refl

-- no overlong form: "A" as two bytes
overlong : utf8 (0xC1 ∷ 0x81 ∷ []) ≡ false
unfolding utf8 code_points is_code_point
overlong = refl
