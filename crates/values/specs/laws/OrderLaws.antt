-- Total orders told by a comparison, those of numbers and of byte strings. Assumes nothing.
use Rattle.std.specs.Prelude.{◌≡◌, ℕ, zero, suc, ◌<◌, Bool, true, false, cond, not, ◌⊎◌, ◌↔◌, List, [], ◌∷◌, ◌++◌, take, ℤ, ◌≤ℤ◌, ◌<ℤ◌, ◌≢◌, int_lt, nat_lt, refl}
use Rattle.std.proofs.Common.{arith, true≢false, inl, inr, ⊎_elim, sym, ap, ap₂, subst, ◌∙◌, ltb-true, ltb-false, lt-ltb, le-ltb}
use Rattle.std.proofs.lemmas.Bool.{not-true}
use Rattle.values.specs.laws.IntLaws.{ints, lt_true, lt_false, lt_z_yes, lt_z_not, <ℤ_trans, ≤ℤ_antisym, le_or_lt}
use Rattle.values.specs.laws.TestLaws.{clash, refuted}
use Rattle.values.specs.code.Places.{flip}
use Rattle.values.specs.Order.{compare_numbers, compare_bytes, is_less, is_equal}
use Rattle.std.specs.declared.cmp.Ordering.{Ordering}
use Rattle.std.specs.declared.cmp.Ordering.TheVariants.{Less, Equal, Greater}

-- ---- answers of a comparison
pub flip_flip : (o : Ordering) → flip (flip o) ≡ o
flip_flip Less = refl
flip_flip Equal = refl
flip_flip Greater = refl

pub is_less_lem : (o : Ordering) → (is_less o ≡ true) ↔ (o ≡ Less)
is_less_lem o = (from o, λ e. ap is_less e)
  where
    from : (o : Ordering) → is_less o ≡ true → o ≡ Less
    from Less h = refl
    from Equal h = cc
    from Greater h = cc

pub not_below : (o : Ordering) → (not (is_less o) ≡ true) ↔ (o ≢ Less)
not_below o = (λ h e. clash (ap is_less e) (not-true _ h), λ f. ap not (refuted _ (λ k. f ((is_less_lem o).0 k))))

pub is_equal_lem : (o : Ordering) → (is_equal o ≡ true) ↔ (o ≡ Equal)
is_equal_lem o = (from o, λ e. ap is_equal e)
  where
    from : (o : Ordering) → is_equal o ≡ true → o ≡ Equal
    from Less h = cc
    from Equal h = refl
    from Greater h = cc

-- there are three answers
pub else_greater : (o : Ordering) → (o ≢ Less) → (o ≢ Equal) → o ≡ Greater
else_greater Less f g = absurd (f refl)
else_greater Equal f g = absurd (g refl)
else_greater Greater f g = refl

pub not_less : (o : Ordering) → (o ≢ Less) → (o ≡ Equal) ⊎ (o ≡ Greater)
not_less Less f = absurd (f refl)
not_less Equal f = inl refl
not_less Greater f = inr refl

-- ---- total orders
pub record TotalOrder {A : Type 0} (compare : A → A → Ordering) : Type 0 where
  pub equal : (a b : A) → compare a b ≡ Equal → a ≡ b
  pub self : (a : A) → compare a a ≡ Equal
  pub flips : (a b : A) → compare b a ≡ flip (compare a b)
  pub through : (a b c : A) → compare a b ≡ Less → compare b c ≡ Less → compare a c ≡ Less

module _ {A : Type 0} {compare : A → A → Ordering} (order : TotalOrder compare) where
  pub same_equal : (a b : A) → a ≡ b → compare a b ≡ Equal
  same_equal a b e = rw e (order.self b)

  pub irreflexive : (a : A) → compare a a ≢ Less
  irreflexive a h = true≢false (cc (order.self a))

  pub less_greater : (a b : A) → compare a b ≡ Less → compare b a ≡ Greater
  less_greater a b h = order.flips a b ∙ ap flip h

  pub greater_less : (a b : A) → compare a b ≡ Greater → compare b a ≡ Less
  greater_less a b h = order.flips a b ∙ ap flip h

  pub asymmetric : (a b : A) → compare a b ≡ Less → compare b a ≢ Less
  asymmetric a b h k = true≢false (cc (less_greater a b h))

  -- neither is less than the other
  pub connected : (a b : A) → (compare a b ≢ Less) → (compare b a ≢ Less) → a ≡ b
  connected a b h k = ⊎_elim (order.equal a b) (λ g. absurd (k (greater_less a b g))) (not_less (compare a b) h)

  -- a is at most b, which is less than c; a is less than b, which is at most c; at most both times
  pub at_most_less : (a b c : A) → (compare b a ≢ Less) → compare b c ≡ Less → compare a c ≡ Less
  at_most_less a b c h k =
      ⊎_elim (λ e. rw (← order.equal b a e) k) (λ g. order.through a b c (greater_less b a g) k) (not_less (compare b a) h)

  pub less_at_most : (a b c : A) → compare a b ≡ Less → (compare c b ≢ Less) → compare a c ≡ Less
  less_at_most a b c h k =
      ⊎_elim (λ e. rw (order.equal c b e) h) (λ g. order.through a b c h (greater_less c b g)) (not_less (compare c b) k)

  pub at_most_both : (a b c : A) → (compare b a ≢ Less) → (compare c b ≢ Less) → compare c a ≢ Less
  at_most_both a b c h k l = h (at_most_less b c a k l)

-- ---- numbers
abbrev Told : ℤ → ℤ → Ordering → Type 0
Told a b Less = a <ℤ b
Told a b Equal = a ≡ b
Told a b Greater = b <ℤ a

told : (a b : ℤ) → Told a b (compare_numbers a b)
unfolding compare_numbers
told a b = go (int_lt a b) refl (int_lt b a) refl
  where
    go : (s : Bool) → int_lt a b ≡ s → (t : Bool) → int_lt b a ≡ t → Told a b (cond s Less (cond t Greater Equal))
    go true e t d = lt_true a b e
    go false e true d = lt_true b a d
    go false e false d = ≤ℤ_antisym (lt_false b a d) (lt_false a b e)

pub number_less : (a b : ℤ) → (compare_numbers a b ≡ Less) ↔ (a <ℤ b)
unfolding compare_numbers
number_less a b = (λ e. subst (Told a b) e (told a b), λ h. rw (lt_z_yes h))

pub number_equal : (a b : ℤ) → (compare_numbers a b ≡ Equal) ↔ (a ≡ b)
unfolding compare_numbers
number_equal a b = (λ e. subst (Told a b) e (told a b), λ e. rw (e, lt_z_not {a = b} {b = b} (omega ints)))

pub number_greater : (a b : ℤ) → (compare_numbers a b ≡ Greater) ↔ (b <ℤ a)
unfolding compare_numbers
number_greater a b = (λ e. subst (Told a b) e (told a b), λ h. rw (lt_z_not {a = a} {b = b} (omega ints), lt_z_yes h))

-- the tests of numbers, as orders
pub is_below : (v l : ℤ) → (is_less (compare_numbers v l) ≡ true) ↔ (v <ℤ l)
is_below v l = (λ h. (number_less v l).0 ((is_less_lem (compare_numbers v l)).0 h), λ h. (is_less_lem (compare_numbers v l)).1 ((number_less v l).1 h))

pub is_at_most : (v l : ℤ) → (not (is_less (compare_numbers l v)) ≡ true) ↔ (v ≤ℤ l)
is_at_most v l = (
  λ h. ⊎_elim (λ k. k) (λ k. clash ((is_below l v).1 k) (not-true _ h)) (le_or_lt v l),
  λ h. ap not (refuted _ (λ k. let j = (is_below l v).0 k in omega ints)),
)

pub number_order : TotalOrder compare_numbers
number_order = record {
  equal = λ a b. (number_equal a b).0;
  self = λ a. (number_equal a a).1 refl;
  flips = λ a b. flipped a b (compare_numbers a b) refl;
  through = λ a b c h k. (number_less a c).1 (<ℤ_trans ((number_less a b).0 h) ((number_less b c).0 k));
}
  where
    flipped : (a b : ℤ) (o : Ordering) → compare_numbers a b ≡ o → compare_numbers b a ≡ flip o
    flipped a b Less e = (number_greater b a).1 ((number_less a b).0 e)
    flipped a b Equal e = (number_equal b a).1 (sym ((number_equal a b).0 e))
    flipped a b Greater e = (number_less b a).1 ((number_greater a b).0 e)

-- ---- byte strings: what a first byte each does to the comparison r of the rests
abbrev first : ℕ → ℕ → Ordering → Ordering
first x y r = cond (nat_lt x y) Less (cond (nat_lt y x) Greater r)

first_same : (x : ℕ) (r : Ordering) → first x x r ≡ r
first_same x r = rw (le-ltb x x (omega arith))

first_less : (x y : ℕ) (r : Ordering) → x < y → first x y r ≡ Less
first_less x y r h = rw (lt-ltb x y h)

-- equal only by both, less by either
first_equal : (x y : ℕ) (r : Ordering) → first x y r ≡ Equal → (x ≡ y) × (r ≡ Equal)
first_equal x y r h = go (nat_lt x y) refl (nat_lt y x) refl h
  where
    go : (s : Bool) → nat_lt x y ≡ s → (t : Bool) → nat_lt y x ≡ t → cond s Less (cond t Greater r) ≡ Equal → (x ≡ y) × (r ≡ Equal)
    go true e t d h = (cc, cc)
    go false e true d h = (cc, cc)
    go false e false d h = (omega (arith, ltb-false), h)

by_first : (x y : ℕ) (r : Ordering) → first x y r ≡ Less → (x < y) ⊎ ((x ≡ y) × (r ≡ Less))
by_first x y r h = go (nat_lt x y) refl (nat_lt y x) refl h
  where
    go : (s : Bool) → nat_lt x y ≡ s → (t : Bool) → nat_lt y x ≡ t → cond s Less (cond t Greater r) ≡ Less → (x < y) ⊎ ((x ≡ y) × (r ≡ Less))
    go true e t d h = inl (ltb-true x y e)
    go false e true d h = inr (cc, cc)
    go false e false d h = inr (omega (arith, ltb-false), h)

first_flips : (x y : ℕ) (r s : Ordering) → s ≡ flip r → first y x s ≡ flip (first x y r)
first_flips x y r s h = go (nat_lt x y) refl (nat_lt y x) refl
  where
    go : (p : Bool) → nat_lt x y ≡ p → (q : Bool) → nat_lt y x ≡ q → cond q Less (cond p Greater s) ≡ flip (cond p Less (cond q Greater r))
    go true e true d = absurd (omega (arith, ltb-true))
    go true e false d = refl
    go false e true d = refl
    go false e false d = h

bytes_equal : (a b : List ℕ) → compare_bytes a b ≡ Equal → a ≡ b
unfolding compare_bytes
bytes_equal [] [] h = refl
bytes_equal [] (y ∷ ys) h = cc
bytes_equal (x ∷ xs) [] h = cc
bytes_equal (x ∷ xs) (y ∷ ys) h =
    let k = first_equal x y (compare_bytes xs ys) h in
    ap₂ ◌∷◌ k.0 (bytes_equal xs ys k.1)

bytes_self : (a : List ℕ) → compare_bytes a a ≡ Equal
unfolding compare_bytes
bytes_self [] = refl
bytes_self (x ∷ xs) = first_same x (compare_bytes xs xs) ∙ bytes_self xs

bytes_flips : (a b : List ℕ) → compare_bytes b a ≡ flip (compare_bytes a b)
unfolding compare_bytes
bytes_flips [] [] = refl
bytes_flips [] (y ∷ ys) = refl
bytes_flips (x ∷ xs) [] = refl
bytes_flips (x ∷ xs) (y ∷ ys) = first_flips x y (compare_bytes xs ys) (compare_bytes ys xs) (bytes_flips xs ys)

bytes_through : (a b c : List ℕ) → compare_bytes a b ≡ Less → compare_bytes b c ≡ Less → compare_bytes a c ≡ Less
unfolding compare_bytes
bytes_through [] [] [] h k = h
bytes_through [] (y ∷ ys) [] h k = cc
bytes_through [] b (z ∷ zs) h k = refl
bytes_through (x ∷ xs) [] c h k = cc
bytes_through (x ∷ xs) (y ∷ ys) [] h k = cc
bytes_through (x ∷ xs) (y ∷ ys) (z ∷ zs) h k =
    ⊎_elim
    (λ p. ⊎_elim (λ q. first_less x z _ (omega arith)) (λ q. first_less x z _ (omega arith)) (by_first y z (compare_bytes ys zs) k))
    (λ p. ⊎_elim
    (λ q. first_less x z _ (omega arith))
    (λ q. rw (p.0, q.0) (first_same z (compare_bytes xs zs) ∙ bytes_through xs ys zs p.1 q.1))
    (by_first y z (compare_bytes ys zs) k))
    (by_first x y (compare_bytes xs ys) h)

pub bytes_order : TotalOrder compare_bytes
bytes_order = record { equal = bytes_equal; self = bytes_self; flips = bytes_flips; through = bytes_through }

-- a common beginning says nothing
pub common_beginning : (c a b : List ℕ) → compare_bytes (c ++ a) (c ++ b) ≡ compare_bytes a b
unfolding compare_bytes
common_beginning [] a b = refl
common_beginning (x ∷ c) a b = first_same x (compare_bytes (c ++ a) (c ++ b)) ∙ common_beginning c a b

-- a beginning is not greater
pub beginning_at_most : (l t : List ℕ) → (compare_bytes l (l ++ t) ≡ Less) ⊎ (compare_bytes l (l ++ t) ≡ Equal)
unfolding compare_bytes
beginning_at_most [] [] = inr refl
beginning_at_most [] (y ∷ t) = inl refl
beginning_at_most (x ∷ l) t = rw (first_same x (compare_bytes l (l ++ t))) (beginning_at_most l t)

-- nothing is below the empty byte string
pub none_below_empty : (a : List ℕ) → compare_bytes a [] ≢ Less
unfolding compare_bytes
none_below_empty [] k = true≢false (cc)
none_below_empty (x ∷ a) k = true≢false (cc)

-- where a is at most b, it is so once both are cut to their first bytes
pub take_mono : (w : ℕ) (a b : List ℕ) → (compare_bytes b a ≢ Less) → compare_bytes (take w b) (take w a) ≢ Less
unfolding compare_bytes
take_mono zero a b h k = none_below_empty [] k
take_mono (suc w) [] b h k = none_below_empty (take (suc w) b) k
take_mono (suc w) (x ∷ a) [] h k = h refl
take_mono (suc w) (x ∷ a) (y ∷ b) h k =
    ⊎_elim
    (λ l. h (first_less y x (compare_bytes b a) l))
    (λ e. take_mono w a b (λ l. h (rw e.0 (first_same x (compare_bytes b a) ∙ l))) e.1)
    (by_first y x (compare_bytes (take w b) (take w a)) k)
