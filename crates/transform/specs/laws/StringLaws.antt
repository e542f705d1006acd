-- Laws of a string's first code points: they are a beginning of it, they keep the order of strings, and they agree with `starts_with`: they are a cutting.
-- Assumes nothing.
use Rattle.std.specs.Prelude.{ℕ, zero, suc, ◌-◌, ◌≤◌, Bool, true, false, List, [], ◌∷◌, ◌++◌, ◌⊎◌, ◌≡◌, refl, ltb, length, take, drop}
use Rattle.std.proofs.Math.Nat.{zero-sub, sub-zero, suc-sub-suc}
use Rattle.std.proofs.Common.{arith, append-nil, append_assoc, inl, inr, ⊎_elim, sym, ap, ap₂, ◌∙◌, length-append, take-append-drop, take_all, ltb-false}
use Rattle.std.proofs.Math.Seq.{take-append_seam}
use Rattle.values.specs.Order.{compare_bytes, starts_with}
use Rattle.values.specs.Utf8.{is_code_point, goes_on, code_points, all_code_points, utf8, concat}
use Rattle.values.specs.laws.TestLaws.{and_both, clash}
use Rattle.values.specs.laws.CodePointLaws.{never_empty, beginning_equal}
use Rattle.values.specs.laws.Utf8Laws.{concat_code_points, code_points_append, utf8_fresh, utf8_after, utf8_take}
use Rattle.values.specs.laws.OrderLaws.{common_beginning, none_below_empty}
use Rattle.values.specs.laws.PrefixLaws.{starts_append, rest_of}
use Rattle.std.specs.declared.cmp.Ordering.{Ordering}
use Rattle.std.specs.declared.cmp.Ordering.TheVariants.{Less, Greater}
use Rattle.transform.specs.Truncate.{first_code_points}
use Rattle.transform.specs.laws.Cutting.{Cutting}

-- ---- lists

concat_append : (cs ds : List (List ℕ)) → concat (cs ++ ds) ≡ concat cs ++ concat ds
concat_append [] ds = refl
concat_append (c ∷ cs) ds = rw (concat_append cs ds) (sym (append_assoc c (concat cs) (concat ds)))

take_append : {A : Type 0} (w : ℕ) (xs ys : List A) → take w (xs ++ ys) ≡ take w xs ++ take (w - length xs) ys
take_append zero xs ys = rw (zero-sub (length xs))
take_append (suc w) [] ys = rw (sub-zero (suc w))
take_append (suc w) (x ∷ xs) ys = rw (suc-sub-suc w (length xs)) (ap (λ z. x ∷ z) (take_append w xs ys))

-- ---- a beginning of the string

pub first_none : (s : List ℕ) → first_code_points 0 s ≡ []
unfolding first_code_points
first_none s = refl

pub first_rest : (w : ℕ) (s : List ℕ) → first_code_points w s ++ concat (drop w (code_points s)) ≡ s
unfolding first_code_points
first_rest w s =
    sym (concat_append (take w (code_points s)) (drop w (code_points s))) ∙ ap concat (take-append-drop w (code_points s)) ∙ concat_code_points s

first_prefix : (w : ℕ) (s : List ℕ) → starts_with s (first_code_points w s) ≡ true
first_prefix w s = ap (λ t. starts_with t (first_code_points w s)) (sym (first_rest w s)) ∙ starts_append (first_code_points w s) (concat (drop w (code_points s)))

pub first_take : (w : ℕ) (s : List ℕ) → first_code_points w s ≡ take (length (first_code_points w s)) s
first_take w s =
    sym (take-append_seam (first_code_points w s) (concat (drop w (code_points s)))) ∙ ap (take (length (first_code_points w s))) (first_rest w s)

pub first_length : (w : ℕ) (s : List ℕ) → length (first_code_points w s) ≤ length s
first_length w s = omega (arith, simp length-append at (ap length (first_rest w s)))

pub first_utf8 : (w : ℕ) (s : List ℕ) → utf8 s ≡ true → utf8 (first_code_points w s) ≡ true
unfolding first_code_points
first_utf8 w s h = utf8_take w s h

-- ---- the order

-- one list begins the other, or both have a byte at which they differ, and then no bytes after them change the comparison
data Compared (c d : List ℕ) : Type 0 where
  begins : (t : List ℕ) → c ++ t ≡ d → Compared c d
  begun : (t : List ℕ) → d ++ t ≡ c → Compared c d
  decided : (o : Ordering) → ((t u : List ℕ) → compare_bytes (c ++ t) (d ++ u) ≡ o) → Compared c d

compared : (c d : List ℕ) → Compared c d
unfolding compare_bytes
compared [] d = begins d refl
compared (x ∷ c) [] = begun (x ∷ c) refl
compared (x ∷ c) (y ∷ d) = go (ltb x y) refl (ltb y x) refl (compared c d)
  where
    go : (p : Bool) → ltb x y ≡ p → (q : Bool) → ltb y x ≡ q → Compared c d → Compared (x ∷ c) (y ∷ d)
    go true e q f k = decided Less (λ t u. rw e)
    go false e true f k = decided Greater (λ t u. rw (e, f))
    go false e false f (begins t k) = begins t (ap₂ ◌∷◌ (omega (arith, ltb-false)) k)
    go false e false f (begun t k) = begun t (ap₂ ◌∷◌ (omega (arith, ltb-false)) k)
    go false e false f (decided o k) = decided o (λ t u. rw (e, f) (k t u))

-- no code point begins another
points_compared :
    (c d : List ℕ) → is_code_point c ≡ true → is_code_point d ≡ true →
    (c ≡ d) ⊎ ((o : Ordering) × ((t u : List ℕ) → compare_bytes (c ++ t) (d ++ u) ≡ o))
points_compared c d p q = go (compared c d)
  where
    go : Compared c d → (c ≡ d) ⊎ ((o : Ordering) × ((t u : List ℕ) → compare_bytes (c ++ t) (d ++ u) ≡ o))
    go (begins t e) = inl (beginning_equal c t d p q e)
    go (begun t e) = inl (sym (beginning_equal d t c q p e))
    go (decided o k) = inr (o, k)

above_empty : (b : ℕ) (a : List ℕ) → compare_bytes [] (b ∷ a) ≡ Less
unfolding compare_bytes
above_empty b a = refl

same_first : {c d : List ℕ} (t u : List ℕ) → d ≡ c → compare_bytes (d ++ t) (c ++ u) ≡ compare_bytes t u
same_first {c} t u e = rw e (common_beginning c t u)

points_mono :
    (w : ℕ) (cs ds : List (List ℕ)) → all_code_points cs ≡ true → all_code_points ds ≡ true → (compare_bytes (concat ds) (concat cs) ≡ Less → ⊥) →
    compare_bytes (concat (take w ds)) (concat (take w cs)) ≡ Less → ⊥
points_mono zero cs ds p q h k = none_below_empty [] k
points_mono (suc w) [] ds p q h k = none_below_empty (concat (take (suc w) ds)) k
points_mono (suc w) ([] ∷ cs) [] p q h k = clash (and_both (is_code_point []) (all_code_points cs) p).0 never_empty
points_mono (suc w) ((b ∷ c) ∷ cs) [] p q h k = h (above_empty b (c ++ concat cs))
points_mono (suc w) (c ∷ cs) (d ∷ ds) p q h k =
    let i = and_both (is_code_point c) (all_code_points cs) p in
    let j = and_both (is_code_point d) (all_code_points ds) q in
    let t = concat (take w ds) in
    let u = concat (take w cs) in
    ⊎_elim
    (λ e. points_mono w cs ds i.1 j.1 (λ l. h (same_first (concat ds) (concat cs) e ∙ l)) (sym (same_first t u e) ∙ k))
    (λ f. h (f.1 (concat ds) (concat cs) ∙ sym (f.1 t u) ∙ k))
    (points_compared d c j.0 i.0)

-- where s is at most t, it is so once both are cut
first_mono :
    (w : ℕ) (s t : List ℕ) → utf8 s ≡ true → utf8 t ≡ true → (compare_bytes t s ≡ Less → ⊥) →
    compare_bytes (first_code_points w t) (first_code_points w s) ≡ Less → ⊥
unfolding first_code_points utf8
first_mono w s t p q h k =
    points_mono w (code_points s) (code_points t) p q (λ l. h (rw (concat_code_points s, concat_code_points t) at l)) k

-- ---- a string that begins with another

pub first_append :
    (w : ℕ) (l t : List ℕ) → goes_on t ≡ false →
    first_code_points w (l ++ t) ≡ first_code_points w l ++ first_code_points (w - length (code_points l)) t
unfolding first_code_points
first_append w l t g =
    rw (code_points_append l t g, take_append w (code_points l) (code_points t))
    (concat_append (take w (code_points l)) (take (w - length (code_points l)) (code_points t)))

first_whole : (w : ℕ) (l : List ℕ) → length (code_points l) ≤ w → first_code_points w l ≡ l
unfolding first_code_points
first_whole w l h = rw (take_all w (code_points l) h) (concat_code_points l)

-- what follows UTF-8 in UTF-8 begins with a code point
split : (l v : List ℕ) → utf8 l ≡ true → utf8 v ≡ true → starts_with v l ≡ true → (t : List ℕ) × (v ≡ l ++ t) × (goes_on t ≡ false)
split l v p q h =
    let r = rest_of v l h in
    (r.0, r.1, utf8_fresh r.0 (utf8_after l r.0 p (sym (ap utf8 r.1) ∙ q)))

first_short :
    (w : ℕ) (l v : List ℕ) → utf8 l ≡ true → utf8 v ≡ true → length (code_points l) ≤ w → starts_with v l ≡ true →
    starts_with (first_code_points w v) l ≡ true
first_short w l v p q n h =
    let r = split l v p q h in
    rw (r.1, first_append w l r.0 r.2, first_whole w l n) (starts_append l (first_code_points (w - length (code_points l)) r.0))

first_long :
    (w : ℕ) (l v : List ℕ) → utf8 l ≡ true → utf8 v ≡ true → w ≤ length (code_points l) → starts_with v l ≡ true →
    first_code_points w v ≡ first_code_points w l
first_long w l v p q n h =
    let r = split l v p q h in
    let z : w - length (code_points l) ≡ 0 = omega arith in
    rw (r.1, first_append w l r.0 r.2, z, first_none r.0) (append-nil (first_code_points w l))

-- ---- all of it, as one record
pub string_cutting : (w : ℕ) → Cutting (λ s. utf8 s ≡ true) (λ s. length (code_points s)) w (first_code_points w)
string_cutting w = record { prefix = first_prefix w; monotone = first_mono w; whole = first_whole w; short = first_short w; long = first_long w }
