-- The walk along the chain by record numbers, which tests each literal as it comes to it: one law a step, and that what it finds is what `sheet` reads.
-- Assumes nothing.
use Rattle.std.specs.Prelude.{ℕ, zero, suc, ◌+◌, ◌<◌, Bool, true, false, cond, ◌&&◌, List, [], ◌∷◌, map, ◌≡◌, eqb, ltb, length, get_or, Ok, Err, Option, Some, None}
use Rattle.std.proofs.Common.{arith, ap, subst, ◌∙◌, ltb-true}
use Rattle.std.proofs.Math.Path.{refl, sym}
use Rattle.values.specs.laws.OutcomeLaws.{ok_inj, ok_not_err, present_inj, missing_not_present, passed, gone}
use Rattle.values.specs.laws.TestLaws.{and_both}
use Rattle.values.specs.Outcomes.{Res, need, each, ◌>>=◌, ◌>>◌}
use Rattle.values.specs.Types.{Layout, layout}
use Rattle.values.specs.declared.datatypes.PrimitiveType.{PrimitiveType}
use Rattle.values.specs.declared.error.ErrorKind.{ErrorKind}
use Rattle.values.specs.declared.error.ErrorKind.TheVariants.{Malformed}
use Rattle.sheet.specs.code.Placed.{content_at, LiteralAt}
use Rattle.sheet.specs.code.ReadAnswers.{is_ok, literal_after, all_literals, hold_literals, records_from}
use Rattle.sheet.specs.laws.RecordLaws.{fits_room}
use Rattle.sheet.specs.laws.PartLaws.{content_by, content_fits}
use Rattle.sheet.specs.Records.{record_count, next_in, length_in, content, record_at}
use Rattle.sheet.specs.laws.RefusalLaws.{only_ok, only_bind, OnlyMalformed, must, chain_only}
use Rattle.sheet.specs.laws.SheetLaws.{Rising, none, higher, rising_few, chain_enough, chain_rises}
use Rattle.sheet.specs.Sheets.{chain}

-- ---- one law a step

-- the literal after record `at` has the number n, and is the first of those found
pub record Next (l : Layout) (s : List ℕ) (at n : ℕ) : Type 0 where
  pub above : at < n
  pub below : n < record_count s
  pub more : records_from l s at ≡ (records_from l s n >>= λ ns. Ok (n ∷ ns))

-- what `literal_after` tells of the numbers found
pub data After (l : Layout) (s : List ℕ) (at : ℕ) : Res (Option ℕ) → Type 0 where
  end : records_from l s at ≡ Ok [] → After l s at (Ok None)
  broken : records_from l s at ≡ Err Malformed → After l s at (Err Malformed)
  next : {n : ℕ} → Next l s at n → After l s at (Ok (Some n))

module _ {l : Layout} {s : List ℕ} {at : ℕ} where
  pub walk_ends : {r : Res (Option ℕ)} → After l s at r → r ≡ Ok None → records_from l s at ≡ Ok []
  walk_ends (end e) z = e
  walk_ends (broken e) z = ok_not_err z
  walk_ends (next x) z = missing_not_present (sym (ok_inj z))

  pub walk_breaks : {r : Res (Option ℕ)} {k : ErrorKind} → After l s at r → r ≡ Err k → records_from l s at ≡ Err k
  walk_breaks (end e) z = ok_not_err (sym z)
  walk_breaks {k = k} (broken e) z = let same : Malformed ≡ k = cc in rw (← same) e
  walk_breaks (next x) z = ok_not_err (sym z)

  pub walk_goes_on : {r : Res (Option ℕ)} {n : ℕ} → After l s at r → r ≡ Ok (Some n) → Next l s at n
  walk_goes_on (end e) z = missing_not_present (ok_inj z)
  walk_goes_on (broken e) z = ok_not_err z
  walk_goes_on (next x) z = subst (Next _ _ _) (present_inj (ok_inj z)) x

need_then : {A B : Type 0} (b : Bool) (x : A) (f : A → Res B) → ((need b Malformed >> Ok x) >>= f) ≡ (need b Malformed >> f x)
need_then true x f = refl
need_then false x f = refl

-- a record before others on the chain: it is tested first, or after them
first_tested : (l : Layout) (s : List ℕ) (n : ℕ) (o : Bool) (c : Res (List ℕ)) → is_ok (content l (record_at s n)) ≡ o → OnlyMalformed c
    → ((c >>= λ ns. Ok (n ∷ ns)) >>= hold_literals l s) ≡ (need o Malformed >> ((c >>= hold_literals l s) >>= λ ns. Ok (n ∷ ns)))
first_tested l s n true (Ok ns) h only = rw h (sym (need_then (all_literals l s ns) ns (λ ms. Ok (n ∷ ms))))
first_tested l s n false (Ok ns) h only = rw h
first_tested l s n true (Err e) h only = refl
first_tested l s n false (Err e) h only = ap Err (only.only e refl)

module _ (l : Layout) (s : List ℕ) (at : ℕ) (there : at < record_count s) where
  abbrev following : ℕ
  following = next_in (record_at s at)

  one_step : records_from l s at ≡ (chain (suc (record_count s)) s at >>= hold_literals l s)
  unfolding records_from
  one_step = rw (chain_enough s (record_count s) (suc (record_count s)) at there (omega arith) (omega arith))

  goes_on : {o : Bool} → eqb following 0 ≡ false → ltb at following ≡ true → ltb following (record_count s) ≡ true → is_ok (content l (record_at s following)) ≡ o
      → records_from l s at ≡ (need o Malformed >> (records_from l s following >>= λ ns. Ok (following ∷ ns)))
  unfolding records_from
  goes_on {o} z a b h = one_step ∙ rw (z, a, b) (first_tested l s following o (chain (record_count s) s following) h (chain_only (record_count s) s following))

  by_tests : (z a b o : Bool) → eqb following 0 ≡ z → ltb at following ≡ a → ltb following (record_count s) ≡ b → is_ok (content l (record_at s following)) ≡ o
      → After l s at (cond z (Ok None) (cond (a && b && o) (Ok (Some following)) (Err Malformed)))
  by_tests true a b o z f g h = end (one_step ∙ rw z)
  by_tests false false b o z f g h = broken (one_step ∙ rw (z, f))
  by_tests false true false o z f g h = broken (one_step ∙ rw (z, f, g))
  by_tests false true true false z f g h = broken (goes_on z f g h)
  by_tests false true true true z f g h =
      next (record { above = ltb-true at following f; below = ltb-true following (record_count s) g; more = goes_on z f g h })

pub tells : {l : Layout} {s : List ℕ} {at : ℕ} {r : Res (Option ℕ)} → r ≡ literal_after l s at → at < record_count s → After l s at r
unfolding literal_after
tells {l} {s} {at} {r} is there = subst (After l s at) (sym is) (by_tests l s at there _ _ _ _ refl refl refl refl)

-- ---- what `sheet` reads

module _ (l : Layout) (s : List ℕ) where
  both : (a b : Bool) {r : Res (List ℕ)} (x : List ℕ) (xs : List (List ℕ)) → r ≡ (need a Malformed >> Ok x)
      → (r >>= λ y. (need b Malformed >> Ok xs) >>= λ ys. Ok (y ∷ ys)) ≡ (need (a && b) Malformed >> Ok (x ∷ xs))
  both true true x xs e = rw e
  both true false x xs e = rw e
  both false b x xs e = rw e

  contents_tested : (ns : List ℕ) → each (λ n. content l (record_at s n)) ns ≡ (need (all_literals l s ns) Malformed >> Ok (map (content_at s) ns))
  contents_tested [] = refl
  contents_tested (n ∷ ns) = rw (contents_tested ns) (both (is_ok (content l (record_at s n))) (all_literals l s ns) _ _ (content_by l (record_at s n) refl))

  -- the contents of the literals after record `at` are those of the records with the numbers found
  pub literals_follow : {A : Type 0} (at : ℕ) (g : List (List ℕ) → Res A)
      → (chain (record_count s) s at >>= λ ns. each (λ n. content l (record_at s n)) ns >>= g) ≡ (records_from l s at >>= λ ns. g (map (content_at s) ns))
  unfolding records_from
  literals_follow {A} at g = go (chain (record_count s) s at)
    where
      go : (c : Res (List ℕ)) → (c >>= λ ns. each (λ n. content l (record_at s n)) ns >>= g) ≡ ((c >>= hold_literals l s) >>= λ ns. g (map (content_at s) ns))
      go (Ok ns) = rw (contents_tested ns) (need_then (all_literals l s ns) _ g ∙ sym (need_then (all_literals l s ns) ns _))
      go (Err e) = refl

  pub walk_malformed : (at : ℕ) → OnlyMalformed (records_from l s at)
  unfolding records_from
  walk_malformed at = only_bind (chain (record_count s) s at) _ (chain_only (record_count s) s at) (λ ns. must (all_literals l s ns) (Ok ns) only_ok)

  -- the numbers found are those on the chain, and their records all hold literals
  found : (at : ℕ) {ns : List ℕ} → records_from l s at ≡ Ok ns → Rising s at ns × (all_literals l s ns ≡ true)
  unfolding records_from
  found at e =
      let c = gone (chain (record_count s) s at) _ e in
      let h = passed (all_literals l s c.0) Malformed _ c.2 in
      rw (← ok_inj h.1) (chain_rises s (record_count s) at c.1, h.0)

  pub walk_few : (at : ℕ) {ns : List ℕ} → at < record_count s → records_from l s at ≡ Ok ns → at + length ns < record_count s
  walk_few at h e = rising_few h (found at e).0

module _ (t : PrimitiveType) (s : List ℕ) where
  rising_literals : {low : ℕ} {ns : List ℕ} → Rising s low ns → all_literals (layout t) s ns ≡ true
      → (i : ℕ) → i < length ns → LiteralAt (layout t) s (get_or ns i 0)
  rising_literals none h i j = absurd (omega arith)
  rising_literals (higher {n = n} a b rest) h zero j =
      let fit = content_fits (layout t) (record_at s n) (and_both (is_ok (content (layout t) (record_at s n))) _ h).0 in
      record { there = omega arith; short = fits_room t (length_in (record_at s n)) fit; fitting = fit }
  rising_literals (higher {n = n} a b rest) h (suc i) j =
      rising_literals rest (and_both (is_ok (content (layout t) (record_at s n))) _ h).1 i (omega arith)

  -- each of the numbers found is that of a record that holds a literal
  pub walk_literals : (at : ℕ) {ns : List ℕ} → records_from (layout t) s at ≡ Ok ns → (i : ℕ) → i < length ns → LiteralAt (layout t) s (get_or ns i 0)
  walk_literals at e = let f = found (layout t) s at e in rising_literals f.0 f.1
