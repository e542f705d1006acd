-- UTF-8 read byte by byte, and that `utf8` holds of what such a reader takes. Assumes nothing.
use Rattle.std.specs.Prelude.{◌≡◌, ℕ, ◌<◌, ◌≤◌, Bool, true, false, cond, ◌&&◌, ◌||◌, List, [], ◌∷◌, ◌++◌, length, nat_le, nat_lt}
use Rattle.std.proofs.Common.{arith, sym, ap, ◌∙◌}
use Rattle.std.proofs.lemmas.Bool.{false≢true}
use Rattle.std.proofs.Math.Bool.{and-false, or-false, or-true}
use Rattle.std.proofs.Math.Path.{refl}
use borrow.Author.Tests.{leb-true, ltb-true, le-leb, lt-leb}
use Rattle.values.specs.SomeEvery.{every}
use Rattle.values.specs.Utf8.{Range, ◌to◌, within, tail, forms, matches, any_form, is_code_point, code_points, all_code_points, utf8, concat}
use Rattle.values.specs.code.Utf8Rests.{follows, lowest_second, highest_second}
use Rattle.values.specs.laws.TestLaws.{and_both, both_and, same_test}
use Rattle.values.specs.laws.Utf8Laws.{first_part, concat_code_points, utf8_concat, utf8_code_point}

-- ---- what is left of each form that a byte begins

unfoldable pub after : ℕ → List (List Range) → List (List Range)
after b [] = []
after b ([] ∷ fs) = after b fs
after b ((r ∷ rs) ∷ fs) = cond (within b r) (rs ∷ after b fs) (after b fs)

abbrev any_follows : List (List Range) → List ℕ → Bool
any_follows [] s = false
any_follows (f ∷ fs) s = follows f s || any_follows fs s

any_after : (b : ℕ) (x : List ℕ) (fs : List (List Range)) → any_form (b ∷ x) fs ≡ any_form x (after b fs)
unfolding after
any_after b x [] = refl
any_after b x ([] ∷ fs) = any_after b x fs
any_after b x ((r ∷ rs) ∷ fs) = go (within b r) (any_after b x fs)
  where
    go :
        (t : Bool) → any_form (b ∷ x) fs ≡ any_form x (after b fs) →
        (t && matches x rs || any_form (b ∷ x) fs) ≡ any_form x (cond t (rs ∷ after b fs) (after b fs))
    go true e = rw e
    go false e = e

-- a beginning that passes a test, and then UTF-8
record Split (test : List ℕ → Bool) (s : List ℕ) : Type 0 where
  front : List ℕ
  back : List ℕ
  is : front ++ back ≡ s
  passes : test front ≡ true
  good : utf8 back ≡ true

follows_match : (x y : List ℕ) (rs : List Range) → matches x rs ≡ true → follows rs (x ++ y) ≡ utf8 y
follows_match [] y [] m = refl
follows_match [] y (r ∷ rs) m = absurd (false≢true m)
follows_match (b ∷ x) y [] m = absurd (false≢true m)
follows_match (b ∷ x) y (r ∷ rs) m =
    let k = and_both (within b r) (matches x rs) m in
    rw k.0 (follows_match x y rs k.1)

any_match : (x y : List ℕ) (fs : List (List Range)) → any_form x fs ≡ true → utf8 y ≡ true → any_follows fs (x ++ y) ≡ true
any_match x y [] m h = absurd (false≢true m)
any_match x y (f ∷ fs) m h = go (matches x f) refl m (λ k. any_match x y fs k h)
  where
    go :
        (t : Bool) → matches x f ≡ t → (t || any_form x fs) ≡ true → (any_form x fs ≡ true → any_follows fs (x ++ y) ≡ true) →
        (follows f (x ++ y) || any_follows fs (x ++ y)) ≡ true
    go true e m k = rw (follows_match x y f e, h)
    go false e m k = rw (k m) (or-true (follows f (x ++ y)))

follows_split : (rs : List Range) (s : List ℕ) → follows rs s ≡ true → Split (λ x. matches x rs) s
follows_split [] s h = record { front = []; back = s; is = refl; passes = refl; good = h }
follows_split (r ∷ rs) [] h = absurd (false≢true h)
follows_split (r ∷ rs) (b ∷ s) h =
    let k = and_both (within b r) (follows rs s) h in
    let z = follows_split rs s k.1 in
    record { front = b ∷ z.front; back = z.back; is = ap (λ (t : List ℕ). b ∷ t) z.is; passes = both_and k.0 z.passes; good = z.good }

any_split : (fs : List (List Range)) (s : List ℕ) → any_follows fs s ≡ true → Split (λ x. any_form x fs) s
any_split [] s h = absurd (false≢true h)
any_split (f ∷ fs) s h = go (follows f s) refl h (any_split fs s)
  where
    go :
        (t : Bool) → follows f s ≡ t → (t || any_follows fs s) ≡ true → (any_follows fs s ≡ true → Split (λ x. any_form x fs) s) →
        Split (λ x. any_form x (f ∷ fs)) s
    go true e h k =
        let z = follows_split f s e in
        record { front = z.front; back = z.back; is = z.is; passes = rw z.passes; good = z.good }
    go false e h k =
        let z = k h in
        record { front = z.front; back = z.back; is = z.is; passes = rw z.passes (or-true (matches z.front f)); good = z.good }

-- a byte, and what may follow it
utf8_first : (b : ℕ) (s : List ℕ) → utf8 (b ∷ s) ≡ any_follows (after b forms) s
unfolding utf8 is_code_point
utf8_first b s = same_test (utf8 (b ∷ s)) (any_follows (after b forms) s) there back
  where
    there : utf8 (b ∷ s) ≡ true → any_follows (after b forms) s ≡ true
    there h =
        let f = first_part b s in
        let q : all_code_points ((b ∷ f.rest) ∷ f.others) ≡ true = rw f.is at h in
        let k = and_both (is_code_point (b ∷ f.rest)) (all_code_points f.others) q in
        let w : b ∷ (f.rest ++ concat f.others) ≡ b ∷ s = rw f.is at (concat_code_points (b ∷ s)) in
        let e : f.rest ++ concat f.others ≡ s = cc in
        rw e at (any_match f.rest (concat f.others) (after b forms) (sym (any_after b f.rest forms) ∙ k.0) (utf8_concat f.others k.1))

    back : any_follows (after b forms) s ≡ true → utf8 (b ∷ s) ≡ true
    back h =
        let z = any_split (after b forms) s h in
        let e : utf8 (b ∷ (z.front ++ z.back)) ≡ utf8 z.back =
        utf8_code_point (b ∷ z.front) z.back (any_after b z.front forms ∙ z.passes) in
        rw z.is at (e ∙ z.good)

-- ---- first bytes that the table does not tell apart

-- each first range holds all the bytes from lo to hi, or none of them
abbrev pub clear : ℕ → ℕ → List Range → Bool
clear lo hi [] = true
clear lo hi ((l to h) ∷ rs) = nat_lt hi l || (nat_lt h lo || nat_le l lo && nat_le hi h)

module _ (lo hi b : ℕ) (from : lo ≤ b) (upto : b ≤ hi) where
  within_alike : (l h : ℕ) (rs : List Range) → clear lo hi ((l to h) ∷ rs) ≡ true → within b (l to h) ≡ within lo (l to h)
  within_alike l h rs e = go (nat_lt hi l) refl (nat_lt h lo) refl e
    where
      go : (t : Bool) → nat_lt hi l ≡ t → (u : Bool) → nat_lt h lo ≡ u → (t || (u || nat_le l lo && nat_le hi h)) ≡ true → (nat_le l b && nat_le b h) ≡ (nat_le l lo && nat_le lo h)
      go true p u q e = rw (lt-leb l b (omega (arith, ltb-true hi l p)), lt-leb l lo (omega (arith, ltb-true hi l p)))
      go false p true q e =
          rw (lt-leb b h (omega (arith, ltb-true h lo q)), lt-leb lo h (omega (arith, ltb-true h lo q)))
          (and-false (nat_le l b) ∙ sym (and-false (nat_le l lo)))
      go false p false q e =
          let k = and_both (nat_le l lo) (nat_le hi h) e in
          let m = leb-true l lo k.0 in
          let n = leb-true hi h k.1 in
          rw (le-leb l b (omega arith), le-leb b h (omega arith), le-leb l lo (omega arith), le-leb lo h (omega arith))

  after_alike : (fs : List (List Range)) → every (clear lo hi) fs ≡ true → after b fs ≡ after lo fs
  unfolding after
  after_alike [] e = refl
  after_alike ([] ∷ fs) e = after_alike fs e
  after_alike (((l to h) ∷ rs) ∷ fs) e =
      let k = and_both (clear lo hi ((l to h) ∷ rs)) (every (clear lo hi) fs) e in
      rw (within_alike l h rs k.0, after_alike fs k.1)

  -- what may follow any first byte from lo to hi: bytes of one form, or none
  pub first_follows : (f : List Range) → every (clear lo hi) forms ≡ true → after lo forms ≡ f ∷ [] → (s : List ℕ) → utf8 (b ∷ s) ≡ follows f s
  first_follows f p e s = utf8_first b s ∙ rw (after_alike forms p, e) (or-false (follows f s))

  pub first_none : every (clear lo hi) forms ≡ true → after lo forms ≡ [] → (s : List ℕ) → utf8 (b ∷ s) ≡ false
  first_none p e s = utf8_first b s ∙ rw (after_alike forms p, e)

-- first bytes by how many bytes their forms have, and those with which no form begins
module _ (b : ℕ) (s : List ℕ) where
  abbrev Leads : List Range → Type 0
  Leads rs = utf8 (b ∷ s) ≡ follows (lowest_second b to highest_second b ∷ rs) s

  pub one_byte : b ≤ 0x7F → utf8 (b ∷ s) ≡ utf8 s
  unfolding after
  one_byte h = first_follows 0x00 0x7F b (omega arith) h [] refl refl s

  pub two_bytes : 0xC2 ≤ b → b ≤ 0xDF → Leads []
  unfolding after
  two_bytes h k = let e = first_follows 0xC2 0xDF b h k _ refl refl s in grind arith

  e0 : 0xE0 ≤ b → b ≤ 0xE0 → Leads (tail ∷ [])
  unfolding after
  e0 h k = let e = first_follows 0xE0 0xE0 b h k _ refl refl s in grind arith

  e1 : 0xE1 ≤ b → b ≤ 0xEC → Leads (tail ∷ [])
  unfolding after
  e1 h k = let e = first_follows 0xE1 0xEC b h k _ refl refl s in grind arith

  ed : 0xED ≤ b → b ≤ 0xED → Leads (tail ∷ [])
  unfolding after
  ed h k = let e = first_follows 0xED 0xED b h k _ refl refl s in grind arith

  ee : 0xEE ≤ b → b ≤ 0xEF → Leads (tail ∷ [])
  unfolding after
  ee h k = let e = first_follows 0xEE 0xEF b h k _ refl refl s in grind arith

  f0 : 0xF0 ≤ b → b ≤ 0xF0 → Leads (tail ∷ tail ∷ [])
  unfolding after
  f0 h k = let e = first_follows 0xF0 0xF0 b h k _ refl refl s in grind arith

  f1 : 0xF1 ≤ b → b ≤ 0xF3 → Leads (tail ∷ tail ∷ [])
  unfolding after
  f1 h k = let e = first_follows 0xF1 0xF3 b h k _ refl refl s in grind arith

  f4 : 0xF4 ≤ b → b ≤ 0xF4 → Leads (tail ∷ tail ∷ [])
  unfolding after
  f4 h k = let e = first_follows 0xF4 0xF4 b h k _ refl refl s in grind arith

  pub three_bytes : 0xE0 ≤ b → b ≤ 0xEF → Leads (tail ∷ [])
  three_bytes h k = grind (arith, e0, e1, ed, ee)

  pub four_bytes : 0xF0 ≤ b → b ≤ 0xF4 → Leads (tail ∷ tail ∷ [])
  four_bytes h k = grind (arith, f0, f1, f4)

  pub no_first : 0x80 ≤ b → b ≤ 0xC1 → utf8 (b ∷ s) ≡ false
  unfolding after
  no_first h k = first_none 0x80 0xC1 b h k refl refl s

  pub past_first : 0xF5 ≤ b → b ≤ 0xFF → utf8 (b ∷ s) ≡ false
  unfolding after
  past_first h k = first_none 0xF5 0xFF b h k refl refl s

pub ruleset first_bytes = (one_byte, two_bytes, three_bytes, four_bytes, no_first, past_first)

pub nothing_left : (s : List ℕ) → length s < 1 → utf8 s ≡ true
unfolding utf8 code_points
nothing_left [] h = refl
nothing_left (b ∷ s) h = absurd (omega arith)
