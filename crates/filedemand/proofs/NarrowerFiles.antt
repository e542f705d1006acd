-- A file that is narrower than a skipped one is skipped too: of numbers, of texts, and of contents of any type. Assumes nothing.
use Rattle.std.specs.Prelude.{Ok}
use Prim.Native.Nat.{ℕ}
use mathlib.Core.Bool.{Bool, true}
use mathlib.Core.List.{List}
use mathlib.Core.Path.{◌≡◌, refl, sym, ap, ◌∙◌}
use lib.IntN.{ℤ}
use borrow.Author.Tests.{eq-eqb}
use Rattle.values.specs.Order.{compare_numbers, compare_bytes}
use Rattle.values.specs.Outcomes.{missing, present}
use Rattle.values.specs.laws.IntLaws.{ints}
use Rattle.values.specs.laws.OrderLaws.{is_at_most}
use Rattle.values.specs.laws.OutcomeLaws.{passing}
use Rattle.values.specs.laws.TestLaws.{clash}
use Rattle.values.specs.Types.{Layout, number, bytes, layout, type_number}
use Rattle.values.specs.declared.datatypes.PrimitiveType.{PrimitiveType}
use Rattle.values.specs.declared.error.ErrorKind.TheVariants.{NotUtf8, WrongSummary}
use Rattle.expr.specs.Holds.{number_tests, holds}
use Rattle.expr.specs.Predicates.{Predicate}
use Rattle.sheet.specs.Values.{number_of}
use Rattle.summary.specs.EndValues.{map_ends, compare_in, ordered, lies_in}
use Rattle.summary.specs.Summaries.{Ends, none_present, ◌to◌, Summary}
use Rattle.summary.specs.code.SummaryAnswers.{ends_encoded}
use Rattle.summary.specs.laws.EndLaws.{numbers_ordered, numbers_held_lem, bytes_ordered, bytes_held_lem}
use Rattle.ends.specs.laws.BetweenLaws.{lies_iff}
use Rattle.verdict.specs.Judged.{verdict_in, judged}
use Rattle.verdict.specs.TextVerdicts.{text_verdict}
use Rattle.verdict.specs.Verdicts.{rows_in, number_verdict}
use Rattle.verdict.specs.declared.verdict.Verdict.TheVariants.{Skip}
use Rattle.verdict.proofs.JudgedLaws.{judged_checks, judged_as}
use Rattle.verdict.specs.laws.VerdictLaws.{skip_iff, row_iff, text_skipped, text_skips}
use Rattle.filedemand.proofs.JoinedEnds.{Narrower}
use Rattle.filedemand.proofs.NarrowerTexts.{ruled_out_within}

-- ---- numbers
module _ (p : Predicate ℤ) (narrow wide : Ends ℤ) (n w : Bool) (narrower : Narrower compare_numbers narrow n wide w) where
  number_narrower : ordered compare_numbers narrow ≡ true → ordered compare_numbers wide ≡ true → number_verdict p wide w ≡ Skip → number_verdict p narrow n ≡ Skip
  unfolding number_verdict
  number_narrower a b e =
      let none = (skip_iff (holds number_tests p) (rows_in wide w)).0 e in
      (skip_iff (holds number_tests p) (rows_in narrow n)).1 (λ r m. none r ((row_iff wide w r b).1 (narrower r ((row_iff narrow n r a).0 m))))

-- what lies between two numbers of a file is one of its numbers
between_both : (ends : Ends ℤ) (l h z : ℤ) → lies_in compare_numbers ends l ≡ true → lies_in compare_numbers ends h ≡ true
    → lies_in compare_numbers (l to h) z ≡ true → lies_in compare_numbers ends z ≡ true
between_both none_present l h z a b e = clash a refl
between_both (m to k) l h z a b e =
    let low = (lies_iff m k l).0 a in
    let high = (lies_iff m k h).0 b in
    let at = (lies_iff l h z).0 e in
    (lies_iff m k z).1 (omega (ints, low.0, at.0), omega (ints, high.1, at.1))

-- the file of the numbers that contents stand for
module _ (column : PrimitiveType) (size : ℕ) (is : layout column ≡ number size) where
  held_too : (narrow wide : Ends (List ℕ)) (n w : Bool) → Narrower (compare_in column) narrow n wide w → (v : List ℕ)
      → lies_in compare_numbers (map_ends (number_of size) narrow) (number_of size v) ≡ true
      → lies_in compare_numbers (map_ends (number_of size) wide) (number_of size v) ≡ true
  held_too narrow wide n w narrower v e =
      sym (numbers_held_lem column size is wide w (present v)) ∙ narrower (present v) (numbers_held_lem column size is narrow n (present v) ∙ e)

  numbers_narrower : (narrow wide : Ends (List ℕ)) (n w : Bool) → ordered (compare_in column) narrow ≡ true → Narrower (compare_in column) narrow n wide w
      → Narrower compare_numbers (map_ends (number_of size) narrow) n (map_ends (number_of size) wide) w
  numbers_narrower narrow wide n w in_order narrower missing e = narrower missing e
  numbers_narrower none_present wide n w in_order narrower (present z) e = clash e refl
  numbers_narrower (l to h) wide n w in_order narrower (present z) e =
      let low = number_of size l in
      let high = number_of size h in
      let k = (is_at_most low high).0 (sym (numbers_ordered column size is (l to h)) ∙ in_order) in
      let held = held_too (l to h) wide n w narrower in
      between_both
      (map_ends (number_of size) wide)
      low
      high
      z
      (held l ((lies_iff low high low).1 (omega ints, k)))
      (held h ((lies_iff low high high).1 (k, omega ints)))
      e

-- ---- texts
module _ (p : Predicate (List ℕ)) (narrow wide : Ends (List ℕ)) (n w : Bool) (narrower : Narrower compare_bytes narrow n wide w) where
  text_narrower : ordered compare_bytes narrow ≡ true → text_verdict p wide w ≡ Skip → text_verdict p narrow n ≡ Skip
  text_narrower in_order e =
      let t = text_skipped p wide w e in
      text_skips p narrow n (ruled_out_within p narrow wide in_order (λ v. narrower (present v)) t.0) (λ h. t.1 (narrower missing h))

-- ---- contents of any type
module _ (column : PrimitiveType) (leaf : Predicate (List ℕ)) (narrow wide : Ends (List ℕ)) (n w : Bool) (narrower : Narrower (compare_in column) narrow n wide w)
    (in_order : ordered (compare_in column) narrow ≡ true) where
  verdict_narrower : ordered (compare_in column) wide ≡ true → verdict_in column leaf wide w ≡ Skip → verdict_in column leaf narrow n ≡ Skip
  verdict_narrower wide-order e = go (layout column) refl
    where
      go : (l : Layout) → layout column ≡ l → verdict_in column leaf narrow n ≡ Skip
      go (number size) is =
          let inner = numbers_narrower column size is narrow wide n w in_order narrower in
          let a = sym (numbers_ordered column size is narrow) ∙ in_order in
          let b = sym (numbers_ordered column size is wide) ∙ wide-order in
          rw is (number_narrower _ _ _ n w inner a b (rw is at e))
      go (bytes size) is =
          let inner : Narrower compare_bytes narrow n wide w
          = λ r h. sym (bytes_held_lem column size is wide w r) ∙ narrower r (bytes_held_lem column size is narrow n r ∙ h) in
          rw is (text_narrower leaf narrow wide n w inner (sym (bytes_ordered column size is narrow) ∙ in_order) (rw is at e))

  abbrev file : Ends (List ℕ) → Bool → Summary
  file ends has_missing = record { column = column; ends = ends; has_missing = has_missing }

  -- by a leaf of the same type, and of any
  judged_alike : ends_encoded column narrow ≡ true → judged column leaf (file wide w) ≡ Ok Skip → judged column leaf (file narrow n) ≡ Ok Skip
  judged_alike encoded e =
      let j = judged_as column leaf (file wide w) Skip e in
      judged_checks column leaf (file narrow n)
      ∙ passing NotUtf8 _ j.encoded
      ∙ passing NotUtf8 _ encoded
      ∙ passing WrongSummary _ (eq-eqb (type_number column) (type_number column) refl)
      ∙ passing WrongSummary _ in_order
      ∙ ap Ok (verdict_narrower j.in_order j.is)

  pub judged_narrower : (c : PrimitiveType) → ends_encoded column narrow ≡ true → judged c leaf (file wide w) ≡ Ok Skip → judged c leaf (file narrow n) ≡ Ok Skip
  judged_narrower c encoded e = let same = (judged_as c leaf (file wide w) Skip e).same in rw same (judged_alike encoded (rw same at e))
