-- Laws of one code point. Each is a test of the table `forms`, computed once, and a lemma that takes it to every list of one of the forms.
-- Assumes nothing.
use Rattle.std.specs.Prelude.{◌≡◌, ℕ, suc, ◌<◌, ◌≤◌, Bool, true, false, ◌&&◌, ◌||◌, List, [], ◌∷◌, ◌++◌, length, ◌==◌, nat_le, nat_lt, refl}
use Rattle.std.proofs.Common.{arith, append-nil, sym, ap, ◌∙◌, length-append, leb-true, ltb-true, eqb-true, le-leb}
use Rattle.std.proofs.lemmas.Bool.{false≢true, lt-leb}
use Rattle.values.specs.SomeEvery.{every}
use Rattle.values.specs.laws.TestLaws.{and_both, both_and}
use Rattle.values.specs.Utf8.{Range, ◌to◌, within, continues, forms, matches, any_form, is_code_point}

-- ---- from the table to a list of one of its forms

-- a form that the list is of and that passes a test
record Of (p : List Range → Bool) (c : List ℕ) : Type 0 where
  form : List Range
  fits : matches c form ≡ true
  passes : p form ≡ true

of_form : (p : List Range → Bool) (fs : List (List Range)) (c : List ℕ) → every p fs ≡ true → any_form c fs ≡ true → Of p c
of_form p [] c h e = absurd (false≢true e)
of_form p (f ∷ fs) c h e = go (matches c f) refl e (of_form p fs c (and_both (p f) (every p fs) h).1)
  where
    go : (t : Bool) → matches c f ≡ t → (t || any_form c fs) ≡ true → (any_form c fs ≡ true → Of p c) → Of p c
    go true m e k = record { form = f; fits = m; passes = (and_both (p f) (every p fs) h).0 }
    go false m e k = k e

-- what a range shows of each byte in it, its ranges show of a list
by_ranges :
    (q : Range → Bool) (p : ℕ → Bool) →
    ((b : ℕ) (r : Range) → q r ≡ true → within b r ≡ true → p b ≡ true) →
    (bs : List ℕ) (rs : List Range) → every q rs ≡ true → matches bs rs ≡ true → every p bs ≡ true
by_ranges q p k [] rs h m = refl
by_ranges q p k (b ∷ bs) [] h m = absurd (false≢true m)
by_ranges q p k (b ∷ bs) (r ∷ rs) h m =
    let g = and_both (q r) (every q rs) h in
    let n = and_both (within b r) (matches bs rs) m in
    both_and (k b r g.0 n.0) (by_ranges q p k bs rs g.1 n.1)

matches_length : (bs : List ℕ) (rs : List Range) → matches bs rs ≡ true → length bs ≡ length rs
matches_length [] [] m = refl
matches_length [] (r ∷ rs) m = absurd (false≢true m)
matches_length (b ∷ bs) [] m = absurd (false≢true m)
matches_length (b ∷ bs) (r ∷ rs) m = ap suc (matches_length bs rs (and_both (within b r) (matches bs rs) m).1)

pub within_in : (b lo hi : ℕ) → within b (lo to hi) ≡ true → (lo ≤ b) × (b ≤ hi)
within_in b lo hi m = let k = and_both (nat_le lo b) (nat_le b hi) m in (leb-true lo b k.0, leb-true b hi k.1)

-- ---- the first byte, the bytes after it, and how many there are

-- a range among the continuations, one outside them, and one that ends at most at 0xF4
abbrev among : Range → Bool
among (lo to hi) = nat_le 0x80 lo && nat_le hi 0xBF

abbrev outside : Range → Bool
outside (lo to hi) = nat_lt hi 0x80 || nat_lt 0xBF lo

abbrev low_range : Range → Bool
low_range (lo to hi) = nat_le hi 0xF4

-- a byte that UTF-8 has
abbrev pub low : ℕ → Bool
low b = nat_le b 0xF4

abbrev shaped : List Range → Bool
shaped [] = false
shaped (r ∷ rs) = (outside r && every among rs) && (nat_le (length rs) 3 && every low_range (r ∷ rs))

-- what the table says of the code point of bytes b and bs
pub record CodePoint (b : ℕ) (bs : List ℕ) : Type 0 where
  pub first : continues b ≡ false
  pub later : every continues bs ≡ true
  pub short : length bs ≤ 3
  pub lows : every low (b ∷ bs) ≡ true

among_continues : (b : ℕ) (r : Range) → among r ≡ true → within b r ≡ true → continues b ≡ true
among_continues b (lo to hi) h m =
    let g = and_both (nat_le 0x80 lo) (nat_le hi 0xBF) h in
    let k = within_in b lo hi m in
    both_and (le-leb 0x80 b (omega (arith, leb-true 0x80 lo g.0))) (le-leb b 0xBF (omega (arith, leb-true hi 0xBF g.1)))

pub low_not : (b : ℕ) → b < 0x80 → continues b ≡ false
low_not b h = rw (lt-leb 0x80 b h)

pub high_not : (b : ℕ) → 0xBF < b → continues b ≡ false
high_not b h = rw (le-leb 0x80 b (omega arith), lt-leb b 0xBF h)

outside_starts : (b : ℕ) (r : Range) → outside r ≡ true → within b r ≡ true → continues b ≡ false
outside_starts b (lo to hi) h m = go (nat_lt hi 0x80) refl h (within_in b lo hi m)
  where
    go : (t : Bool) → nat_lt hi 0x80 ≡ t → (t || nat_lt 0xBF lo) ≡ true → (lo ≤ b) × (b ≤ hi) → continues b ≡ false
    go true e h k = low_not b (omega (arith, ltb-true hi 0x80 e))
    go false e h k = high_not b (omega (arith, ltb-true 0xBF lo h))

low_byte : (b : ℕ) (r : Range) → low_range r ≡ true → within b r ≡ true → low b ≡ true
low_byte b (lo to hi) h m = le-leb b 0xF4 (omega (arith, (within_in b lo hi m).1, leb-true hi 0xF4 h))

shape : (b : ℕ) (bs : List ℕ) (f : List Range) → shaped f ≡ true → matches (b ∷ bs) f ≡ true → CodePoint b bs
shape b bs [] h m = absurd (false≢true h)
shape b bs (r ∷ rs) h m =
    let g = and_both (outside r && every among rs) (nat_le (length rs) 3 && every low_range (r ∷ rs)) h in
    let a = and_both (outside r) (every among rs) g.0 in
    let z = and_both (nat_le (length rs) 3) (every low_range (r ∷ rs)) g.1 in
    let n = and_both (within b r) (matches bs rs) m in
    record {
      first = outside_starts b r a.0 n.0;
      later = by_ranges among continues among_continues bs rs a.1 n.1;
      short = omega (arith, matches_length bs rs n.1, leb-true (length rs) 3 z.0);
      lows = by_ranges low_range low low_byte (b ∷ bs) (r ∷ rs) z.1 m;
    }

pub code_point : (b : ℕ) (bs : List ℕ) → is_code_point (b ∷ bs) ≡ true → CodePoint b bs
unfolding is_code_point
code_point b bs e = let k = of_form shaped forms (b ∷ bs) refl e in shape b bs k.form k.passes k.fits

pub never_empty : is_code_point [] ≡ false
unfolding is_code_point
never_empty = refl

pub code_point_length : (c : List ℕ) → is_code_point c ≡ true → (1 ≤ length c) × (length c ≤ 4)
code_point_length [] e = absurd (false≢true (sym never_empty ∙ e))
code_point_length (b ∷ bs) e = omega (arith, (code_point b bs e).short)

-- ---- the first byte says how long a code point is: forms whose first ranges meet are equally long

abbrev agree : List Range → List Range → Bool
agree [] g = false
agree (r ∷ f) [] = false
agree ((lo to hi) ∷ f) ((lo' to hi') ∷ g) = nat_lt hi lo' || (nat_lt hi' lo || length f == length g)

abbrev agreeing : List Range → Bool
agreeing f = every (agree f) forms

agree_length : (b : ℕ) (x y : List ℕ) (f g : List Range) → agree f g ≡ true → matches (b ∷ x) f ≡ true → matches (b ∷ y) g ≡ true → length x ≡ length y
agree_length b x y [] g h m n = absurd (false≢true h)
agree_length b x y (r ∷ f) [] h m n = absurd (false≢true h)
agree_length b x y ((lo to hi) ∷ f) ((lo' to hi') ∷ g) h m n = go (nat_lt hi lo') refl (nat_lt hi' lo) refl h
  where
    k : (lo ≤ b) × (b ≤ hi)
    k = within_in b lo hi (and_both (within b (lo to hi)) (matches x f) m).0

    l : (lo' ≤ b) × (b ≤ hi')
    l = within_in b lo' hi' (and_both (within b (lo' to hi')) (matches y g) n).0

    go : (t : Bool) → nat_lt hi lo' ≡ t → (u : Bool) → nat_lt hi' lo ≡ u → (t || (u || length f == length g)) ≡ true → length x ≡ length y
    go true p u q h = absurd (omega (arith, ltb-true hi lo' p, k, l))
    go false p true q h = absurd (omega (arith, ltb-true hi' lo q, k, l))
    go false p false q h =
        matches_length x f (and_both (within b (lo to hi)) (matches x f) m).1
        ∙ eqb-true (length f) (length g) h
        ∙ sym (matches_length y g (and_both (within b (lo' to hi')) (matches y g) n).1)

pub same_length : (b : ℕ) (x y : List ℕ) → is_code_point (b ∷ x) ≡ true → is_code_point (b ∷ y) ≡ true → length x ≡ length y
unfolding is_code_point
same_length b x y d e =
    let k = of_form agreeing forms (b ∷ x) refl d in
    let l = of_form (agree k.form) forms (b ∷ y) k.passes e in
    agree_length b x y k.form l.form l.passes k.fits l.fits

no_length : (t : List ℕ) → length t ≡ 0 → t ≡ []
no_length [] e = refl
no_length (b ∷ t) e = absurd (omega arith)

-- no code point is a proper beginning of another
pub no_longer : (c t : List ℕ) → is_code_point c ≡ true → is_code_point (c ++ t) ≡ true → t ≡ []
no_longer [] t d e = absurd (false≢true (sym never_empty ∙ d))
no_longer (b ∷ x) t d e = no_length t (omega (arith, same_length b x (x ++ t) d e, length-append x t))

pub beginning_equal : (c t d : List ℕ) → is_code_point c ≡ true → is_code_point d ≡ true → c ++ t ≡ d → c ≡ d
beginning_equal c t d p q e =
    let n : t ≡ [] = no_longer c t p (rw e q) in
    sym (append-nil c) ∙ ap (λ (z : List ℕ). c ++ z) (sym n) ∙ e
