-- What a verdict says of the values of a file. Assumes nothing.
use Rattle.std.specs.Prelude.{ℕ, Bool, ◌&&◌, ◌↔◌, ◌≡◌, ℤ}
use Rattle.std.proofs.Math.Bool.{true, false, not, cond, true≢false}
use mathlib.Core.List.Memᴰ.{head as here}
use mathlib.Core.List.Memᴰ.{tail as there}
use mathlib.Core.List.{List, [], ◌∷◌, map, Memᴰ as Isin}
use Rattle.std.proofs.Math.Path.{refl}
use Rattle.std.proofs.Common.{sym, ap, ◌∙◌}
use Rattle.values.specs.SomeEvery.{some, every}
use Rattle.values.specs.Order.{compare_numbers}
use Rattle.values.specs.Outcomes.{Row, missing, present}
use Rattle.values.specs.laws.OrderLaws.{is_at_most}
use Rattle.values.specs.laws.OutcomeLaws.{present_inj, missing_not_present}
use Rattle.values.specs.laws.TestLaws.{clash, refuted, and_both}
use Rattle.expr.specs.Holds.{bytes_tests, holds}
use Rattle.expr.specs.Predicates.{Predicate}
use Rattle.summary.specs.EndValues.{ordered, lies_in, may_hold}
use Rattle.summary.specs.Summaries.{Ends, none_present, ◌to◌}
use Rattle.ends.specs.RuledOut.{ruled_out}
use Rattle.verdict.specs.TextVerdicts.{text_verdict}
use Rattle.verdict.specs.Verdicts.{values_in, rows_in, verdict_of}
use Rattle.verdict.specs.declared.verdict.Verdict.{Verdict}
use Rattle.verdict.specs.declared.verdict.Verdict.TheVariants.{Skip, Read, Whole}
use Rattle.ends.specs.laws.BetweenLaws.{between_iff, lies_iff}
use Rattle.values.specs.laws.SomeLaws.{some_iff, every_iff}

-- ---- of values of any kind
module _ {A : Type 0} (meets : A → Bool) (rows : List A) where
  abbrev by_tests : Bool → Bool → Verdict
  by_tests met all = cond (not met) Skip (cond all Whole Read)

  pub skip_iff : (verdict_of meets rows ≡ Skip) ↔ ((r : A) → Isin r rows → meets r ≡ false)
  skip_iff = (λ e r m. refuted (meets r) (λ t. clash ((some_iff meets rows).1 (r, m, t)) (none (some meets rows) (every meets rows) e)), λ h. skipped (unmet h))
    where
      none : (met all : Bool) → by_tests met all ≡ Skip → met ≡ false
      none true true e = absurd (true≢false (cc))
      none true false e = absurd (true≢false (cc))
      none false all e = refl

      unmet : ((r : A) → Isin r rows → meets r ≡ false) → some meets rows ≡ false
      unmet h = refuted _ (λ t. let m = (some_iff meets rows).0 t in clash m.2 (h m.0 m.1))

      skipped : some meets rows ≡ false → verdict_of meets rows ≡ Skip
      skipped h = rw h

  pub whole_iff : (verdict_of meets rows ≡ Whole) ↔ (((r : A) × Isin r rows) × ((r : A) → Isin r rows → meets r ≡ true))
  whole_iff = (
    λ e. let t = both (some meets rows) (every meets rows) e in
        let m = (some_iff meets rows).0 t.0 in
        ((m.0, m.1), (every_iff meets rows).0 t.1),
    λ h. taken ((some_iff meets rows).1 (h.0.0, h.0.1, h.1 h.0.0 h.0.1)) ((every_iff meets rows).1 h.1),
  )
    where
      both : (met all : Bool) → by_tests met all ≡ Whole → (met ≡ true) × (all ≡ true)
      both true true e = (refl, refl)
      both true false e = absurd (true≢false (cc))
      both false all e = absurd (true≢false (cc))

      taken : some meets rows ≡ true → every meets rows ≡ true → verdict_of meets rows ≡ Whole
      taken h k = rw (h, k)

-- ---- of numbers: the values of a file are those that its summary lets it hold
module _ {A : Type 0} where
  present_in : (v : A) (xs : List A) → Isin (present v) (map present xs) ↔ Isin v xs
  present_in v xs = (back xs, forth xs)
    where
      back : (xs : List A) → Isin (present v) (map present xs) → Isin v xs
      back [] m = elim m [ ]
      back (x ∷ xs) (here e) = here (present_inj e)
      back (x ∷ xs) (there m) = there (back xs m)

      forth : (xs : List A) → Isin v xs → Isin (present v) (map present xs)
      forth [] m = elim m [ ]
      forth (x ∷ xs) (here e) = here (ap present e)
      forth (x ∷ xs) (there m) = there (forth xs m)

  not_missing : (xs : List A) → Isin missing (map present xs) → ⊥
  not_missing [] m = elim m [ ]
  not_missing (x ∷ xs) (here e) = missing_not_present e
  not_missing (x ∷ xs) (there m) = not_missing xs m

value_iff : (ends : Ends ℤ) (v : ℤ) → ordered compare_numbers ends ≡ true → Isin v (values_in ends) ↔ (lies_in compare_numbers ends v ≡ true)
value_iff none_present v h = (λ m. clash ((some_iff (λ x. true) []).1 (v, m, refl)) refl, λ e. clash e refl)
value_iff (low to high) v h =
    let m = between_iff low high v ((is_at_most low high).0 h) in
    let l = lies_iff low high v in
    (λ k. l.1 (m.0 k), λ k. m.1 (l.0 k))

pub row_iff : (ends : Ends ℤ) (has_missing : Bool) (r : Row ℤ) → ordered compare_numbers ends ≡ true
    → Isin r (rows_in ends has_missing) ↔ (may_hold compare_numbers ends has_missing r ≡ true)
row_iff ends true missing h = (λ m. refl, λ e. here refl)
row_iff ends false missing h = (λ m. absurd (not_missing (values_in ends) m), λ e. clash e refl)
row_iff ends true (present v) h = (flagged, λ e. there ((present_in v (values_in ends)).1 ((value_iff ends v h).1 e)))
  where
    flagged : Isin (present v) (missing ∷ map present (values_in ends)) → lies_in compare_numbers ends v ≡ true
    flagged (here e) = missing_not_present (sym e)
    flagged (there m) = (value_iff ends v h).0 ((present_in v (values_in ends)).0 m)
row_iff ends false (present v) h =
    (λ m. (value_iff ends v h).0 ((present_in v (values_in ends)).0 m), λ e. (present_in v (values_in ends)).1 ((value_iff ends v h).1 e))

-- ---- of texts
module _ (p : Predicate (List ℕ)) (ends : Ends (List ℕ)) (has_missing : Bool) where
  pub text_skipped : text_verdict p ends has_missing ≡ Skip → (ruled_out p ends ≡ true) × (has_missing ≡ true → holds bytes_tests p missing ≡ false)
  unfolding text_verdict
  text_skipped e =
      let t = and_both (ruled_out p ends) _ (ruled (ruled_out p ends && not (has_missing && holds bytes_tests p missing)) e) in
      (t.0, λ h. refuted _ (λ k. unmet (holds bytes_tests p missing) h k t.1))
    where
      ruled : (b : Bool) → cond b Skip Read ≡ Skip → b ≡ true
      ruled true e = refl
      ruled false e = absurd (true≢false (cc))

      unmet : (b : Bool) → has_missing ≡ true → b ≡ true → not (has_missing && b) ≡ true → ⊥
      unmet b h k t = true≢false (sym t ∙ rw (h, k))

  pub text_skips : ruled_out p ends ≡ true → (has_missing ≡ true → holds bytes_tests p missing ≡ false) → text_verdict p ends has_missing ≡ Skip
  unfolding text_verdict
  text_skips r f = rw r (go has_missing f)
    where
      go : (b : Bool) → (b ≡ true → holds bytes_tests p missing ≡ false) → cond (not (b && holds bytes_tests p missing)) Skip Read ≡ Skip
      go true f = rw (f refl)
      go false f = refl

  pub text_not_whole : text_verdict p ends has_missing ≡ Whole → ⊥
  unfolding text_verdict
  text_not_whole e = go (ruled_out p ends && not (has_missing && holds bytes_tests p missing)) e
    where
      go : (b : Bool) → cond b Skip Read ≡ Whole → ⊥
      go true e = true≢false (cc)
      go false e = true≢false (cc)
