-- Laws of byte strings as code points: how `code_points` cuts, that `utf8` and `Octets` agree, and UTF-8 put together and taken apart.
-- Assumes nothing.
use Rattle.std.specs.Prelude.{◌≡◌, ℕ, zero, suc, ◌+◌, ◌<◌, ◌≤◌, Bool, true, false, cond, not, List, [], ◌∷◌, ◌++◌, length, take, drop, count_by, slice_range, refl}
use Rattle.std.proofs.Common.{arith, append_assoc, sym, ap, ◌∙◌}
use Rattle.std.proofs.lemmas.Bool.{false≢true}
use Rattle.std.proofs.lemmas.List.Recursion.{is_count_by}
use Rattle.std.proofs.lemmas.List.Sums.{count_by-le-length}
use Rattle.std.proofs.lemmas.Slice.{between_to_end}
use Rattle.values.specs.SomeEvery.{every}
use Rattle.values.specs.Utf8.{continues, is_code_point, goes_on, before, code_points, all_code_points, utf8, concat, Octets}
use Rattle.values.specs.laws.TestLaws.{and_both, both_and, same_test, clash}
use Rattle.values.specs.laws.CodePointLaws.{code_point, never_empty, no_longer}

-- ---- the parts of any byte string

concat_before : (b : ℕ) (k : Bool) (cs : List (List ℕ)) → concat (before b k cs) ≡ b ∷ concat cs
concat_before b true [] = refl
concat_before b true (c ∷ cs) = refl
concat_before b false cs = refl

-- the parts are the string
pub concat_code_points : (s : List ℕ) → concat (code_points s) ≡ s
unfolding code_points
concat_code_points [] = refl
concat_code_points (b ∷ bs) =
    concat_before b (goes_on bs) (code_points bs) ∙ ap (λ (t : List ℕ). b ∷ t) (concat_code_points bs)

-- the first part begins with the first byte
pub record First (b : ℕ) (cs : List (List ℕ)) : Type 0 where
  pub rest : List ℕ
  pub others : List (List ℕ)
  pub is : cs ≡ (b ∷ rest) ∷ others

first_before : (b : ℕ) (k : Bool) (cs : List (List ℕ)) → First b (before b k cs)
first_before b true [] = record { rest = []; others = []; is = refl }
first_before b true (c ∷ cs) = record { rest = c; others = cs; is = refl }
first_before b false cs = record { rest = []; others = cs; is = refl }

pub first_part : (b : ℕ) (bs : List ℕ) → First b (code_points (b ∷ bs))
unfolding code_points
first_part b bs = first_before b (goes_on bs) (code_points bs)

-- no part is empty
abbrev pub some : List ℕ → Bool
some [] = false
some (b ∷ bs) = true

some_before : (b : ℕ) (k : Bool) (cs : List (List ℕ)) → every some cs ≡ true → every some (before b k cs) ≡ true
some_before b true [] h = refl
some_before b true (c ∷ cs) h = (and_both (some c) (every some cs) h).1
some_before b false cs h = h

pub parts_some : (s : List ℕ) → every some (code_points s) ≡ true
unfolding code_points
parts_some [] = refl
parts_some (b ∷ bs) = some_before b (goes_on bs) (code_points bs) (parts_some bs)

-- ---- how many parts: the first byte begins one, and each later byte that goes on with none

abbrev starts : List ℕ → ℕ
starts [] = 0
starts (b ∷ bs) = cond (not (continues b)) (1 + starts bs) (starts bs)

count_parts : (b : ℕ) (bs : List ℕ) → length (code_points (b ∷ bs)) ≡ 1 + starts bs
unfolding code_points
count_parts b [] = refl
count_parts b (d ∷ ds) = go (continues d) (code_points (d ∷ ds)) (count_parts d ds)
  where
    go : (k : Bool) (cs : List (List ℕ)) → length cs ≡ 1 + starts ds → length (before b k cs) ≡ 1 + cond (not k) (1 + starts ds) (starts ds)
    go true [] e = absurd (omega arith)
    go true (c ∷ cs) e = e
    go false cs e = omega arith

parts_counted : (s : List ℕ) → 0 < length s → length (code_points s) ≡ 1 + count_by (λ b. not (continues b)) (drop 1 s)
parts_counted [] h = absurd (omega arith)
parts_counted (b ∷ bs) h = count_parts b bs ∙ ap (λ n. 1 + n) (is_count_by starts (λ b. not (continues b)) refl (λ x xs. refl) bs)

pub parts_most : (s : List ℕ) → length (code_points s) ≤ length s
unfolding code_points
parts_most [] = omega arith
parts_most (b ∷ bs) = omega (arith, parts_counted (b ∷ bs) (omega arith), count_by-le-length (λ b. not (continues b)) bs)

pub parts_later : (s : List ℕ) → 0 < length s → length (code_points s) ≡ 1 + count_by (λ b. not (continues b)) (slice_range s 1 (length s))
parts_later s h = rw (between_to_end s 1 (length s) (omega arith)) (parts_counted s h)

pub ruleset part_counts = (parts_later, parts_most)

-- ---- before a byte that goes on with no code point

before_append : (b : ℕ) (k : Bool) (d : ℕ) (cs ds : List (List ℕ)) → First d cs → before b k (cs ++ ds) ≡ before b k cs ++ ds
before_append b true d cs ds f = rw f.is
before_append b false d cs ds f = refl

pub code_points_append : (s t : List ℕ) → goes_on t ≡ false → code_points (s ++ t) ≡ code_points s ++ code_points t
unfolding code_points
code_points_append [] t h = refl
code_points_append (b ∷ []) t h = rw h
code_points_append (b ∷ d ∷ s) t h =
    rw (code_points_append (d ∷ s) t h) (before_append b (continues d) d (code_points (d ∷ s)) (code_points t) (first_part d s))

-- a byte and continuations are one part, and go on into what continues them
pub one_part : (b : ℕ) (bs : List ℕ) → every continues bs ≡ true → code_points (b ∷ bs) ≡ (b ∷ bs) ∷ []
unfolding code_points
one_part b [] h = refl
one_part b (d ∷ ds) h =
    let g = and_both (continues d) (every continues ds) h in
    rw (g.0, one_part d ds g.1)

part_goes_on :
    (b : ℕ) (bs t p : List ℕ) (ps : List (List ℕ)) → every continues bs ≡ true → goes_on t ≡ true → code_points t ≡ p ∷ ps →
    code_points (b ∷ bs ++ t) ≡ (b ∷ bs ++ p) ∷ ps
unfolding code_points
part_goes_on b [] t p ps h g e = rw (g, e)
part_goes_on b (d ∷ ds) t p ps h g e =
    let k = and_both (continues d) (every continues ds) h in
    rw (k.0, part_goes_on d ds t p ps k.1 g e)

pub code_point_alone : (c : List ℕ) → is_code_point c ≡ true → code_points c ≡ c ∷ []
code_point_alone [] e = absurd (false≢true (sym never_empty ∙ e))
code_point_alone (b ∷ bs) e = one_part b bs (code_point b bs e).later

pub code_point_first : (c t : List ℕ) → is_code_point c ≡ true → goes_on t ≡ false → code_points (c ++ t) ≡ c ∷ code_points t
code_point_first c t e h = code_points_append c t h ∙ rw (code_point_alone c e)

-- ---- the test and the decomposition agree

points_fresh : (cs : List (List ℕ)) → all_code_points cs ≡ true → goes_on (concat cs) ≡ false
points_fresh [] h = refl
points_fresh ([] ∷ cs) h = absurd (false≢true (sym never_empty ∙ (and_both (is_code_point []) (all_code_points cs) h).0))
points_fresh ((b ∷ bs) ∷ cs) h = (code_point b bs (and_both (is_code_point (b ∷ bs)) (all_code_points cs) h).0).first

-- a string has one decomposition
pub code_points_concat : (cs : List (List ℕ)) → all_code_points cs ≡ true → code_points (concat cs) ≡ cs
unfolding code_points
code_points_concat [] h = refl
code_points_concat (c ∷ cs) h =
    let k = and_both (is_code_point c) (all_code_points cs) h in
    code_point_first c (concat cs) k.0 (points_fresh cs k.1) ∙ ap (λ (z : List (List ℕ)). c ∷ z) (code_points_concat cs k.1)

pub utf8_concat : (cs : List (List ℕ)) → all_code_points cs ≡ true → utf8 (concat cs) ≡ true
unfolding utf8
utf8_concat cs h = rw (code_points_concat cs h) h

pub utf8_octets : (s : List ℕ) → utf8 s ≡ true → Octets s
unfolding utf8
utf8_octets s e = record { points = code_points s; each = e; whole = concat_code_points s }

pub octets_utf8 : {s : List ℕ} → Octets s → utf8 s ≡ true
octets_utf8 o = rw o.whole at (utf8_concat o.points o.each)

pub octets_points : {s : List ℕ} (o : Octets s) → o.points ≡ code_points s
octets_points o = sym (code_points_concat o.points o.each) ∙ ap code_points o.whole

-- ---- UTF-8 put together and taken apart

pub utf8_fresh : (s : List ℕ) → utf8 s ≡ true → goes_on s ≡ false
unfolding utf8
utf8_fresh s e = rw (concat_code_points s) at (points_fresh (code_points s) e)

-- a code point before a string changes nothing. Where the string goes on with a code point, no form has both
code_point_into : (c t : List ℕ) → is_code_point c ≡ true → goes_on t ≡ true → utf8 (c ++ t) ≡ true → utf8 t ≡ true
unfolding utf8
code_point_into [] t e g h = absurd (false≢true (sym never_empty ∙ e))
code_point_into (b ∷ bs) [] e g h = absurd (false≢true g)
code_point_into (b ∷ bs) (d ∷ t) e g h =
    let f = first_part d t in
    let q : all_code_points ((b ∷ bs ++ d ∷ f.rest) ∷ f.others) ≡ true =
    rw (part_goes_on b bs (d ∷ t) (d ∷ f.rest) f.others (code_point b bs e).later g f.is) at h in
    let k = and_both (is_code_point (b ∷ bs ++ d ∷ f.rest)) (all_code_points f.others) q in
    let z : ◌≡◌ {A = List ℕ} (d ∷ f.rest) [] = no_longer (b ∷ bs) (d ∷ f.rest) e k.0 in
    let n : ◌≡◌ {A = ℕ} 0 1 = cc in absurd (omega arith)

pub utf8_code_point : (c t : List ℕ) → is_code_point c ≡ true → utf8 (c ++ t) ≡ utf8 t
unfolding utf8
utf8_code_point c t e = go (goes_on t) refl
  where
    go : (g : Bool) → goes_on t ≡ g → utf8 (c ++ t) ≡ utf8 t
    go true h = same_test (utf8 (c ++ t)) (utf8 t) (code_point_into c t e h) (λ k. clash h (utf8_fresh t k))
    go false h = rw (code_point_first c t e h, e)

-- and so does UTF-8
points_before : (cs : List (List ℕ)) (t : List ℕ) → all_code_points cs ≡ true → utf8 (concat cs ++ t) ≡ utf8 t
points_before [] t h = refl
points_before (c ∷ cs) t h =
    let k = and_both (is_code_point c) (all_code_points cs) h in
    rw (append_assoc c (concat cs) t) (utf8_code_point c (concat cs ++ t) k.0 ∙ points_before cs t k.1)

pub utf8_before : (s t : List ℕ) → utf8 s ≡ true → utf8 (s ++ t) ≡ utf8 t
unfolding utf8
utf8_before s t e = rw (concat_code_points s) at (points_before (code_points s) t e)

pub utf8_append : (s t : List ℕ) → utf8 s ≡ true → utf8 t ≡ true → utf8 (s ++ t) ≡ true
utf8_append s t p q = utf8_before s t p ∙ q

pub utf8_after : (u v : List ℕ) → utf8 u ≡ true → utf8 (u ++ v) ≡ true → utf8 v ≡ true
utf8_after u v p q = sym (utf8_before u v p) ∙ q

-- the first w code points
take_all_points : (w : ℕ) (cs : List (List ℕ)) → all_code_points cs ≡ true → all_code_points (take w cs) ≡ true
take_all_points zero cs h = refl
take_all_points (suc w) [] h = refl
take_all_points (suc w) (c ∷ cs) h =
    let k = and_both (is_code_point c) (all_code_points cs) h in
    both_and k.0 (take_all_points w cs k.1)

pub utf8_take : (w : ℕ) (s : List ℕ) → utf8 s ≡ true → utf8 (concat (take w (code_points s))) ≡ true
unfolding utf8
utf8_take w s e = utf8_concat (take w (code_points s)) (take_all_points w (code_points s) e)
