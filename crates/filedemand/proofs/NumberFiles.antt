-- Files of numbers: the verdict, by the values that the file may hold, and by the records of such values. Assumes nothing.
use Rattle.std.specs.Prelude.{Ok}
use Prim.Native.Nat.{ℕ, ◌<◌}
use mathlib.Core.Bool.{Bool, true, false}
use mathlib.Core.List.{List, Memᴰ as Isin}
use mathlib.Core.Logic.{◌↔◌}
use mathlib.Core.Path.{◌≡◌, refl, sym, ap, subst, ◌∙◌}
use lib.IntN.{ℤ}
use Rattle.values.specs.Order.{compare_numbers}
use Rattle.values.specs.Outcomes.{Row, missing, present}
use Rattle.values.specs.laws.IntLaws.{ints}
use Rattle.values.specs.laws.OutcomeLaws.{ok_inj}
use Rattle.values.specs.laws.RangeLaws.{range_between, between_range}
use Rattle.values.specs.laws.TestLaws.{clash}
use Rattle.values.specs.laws.TypesLaws.{Sized, sized}
use Rattle.values.proofs.TwosComplement.{signed_in_range}
use Rattle.values.specs.Types.{number, layout, in_type}
use Rattle.values.specs.Words.{le_number, AllBytes}
use Rattle.values.specs.declared.datatypes.PrimitiveType.{PrimitiveType}
use Rattle.partition.specs.code.PartitionAnswers.{InType, OfPresent}
use Rattle.expr.specs.Holds.{number_tests, holds}
use Rattle.expr.specs.Predicates.{Predicate}
use Rattle.sheet.specs.Records.{value}
use Rattle.sheet.specs.Values.{map_row, map_literals, number_of}
use Rattle.sheet.specs.laws.ReadLaws.{number_literals, number_row_lem}
use Rattle.write.specs.Written.{number_bytes}
use Rattle.api.specs.HoldsTest.{holds_test}
use Rattle.demand.proofs.NumberKindLaws.{number_values}
use Rattle.demand.proofs.ReadBackLaws.{row_record, holds_read, row_back, record_back}
use Rattle.demand.proofs.RecordBytes.{record_bytes}
use Rattle.summary.specs.EndValues.{map_ends, compare_in, ordered, may_hold}
use Rattle.summary.specs.laws.EndLaws.{numbers_ordered, numbers_held_lem}
use Rattle.summary.specs.Summaries.{Ends, none_present, ◌to◌}
use Rattle.verdict.specs.Verdicts.{rows_in, number_verdict, verdict_of}
use Rattle.verdict.specs.declared.verdict.Verdict.{Verdict}
use Rattle.verdict.specs.declared.verdict.Verdict.TheVariants.{Skip, Whole}
use Rattle.ends.specs.laws.BetweenLaws.{lies_iff}
use Rattle.verdict.specs.laws.VerdictLaws.{skip_iff, whole_iff, row_iff}
use Rattle.files.specs.FileDemand.{Covers}
use Rattle.filedemand.proofs.VerdictParts.{VerdictParts, covered, covers_row}

module _ (column : PrimitiveType) (n : ℕ) (is : layout column ≡ number n) where
  -- what lies between two numbers of the type is one
  in_type_lem : (ends : Ends (List ℕ)) (has_missing : Bool) (r : Row ℤ) → may_hold compare_numbers (map_ends (number_of n) ends) has_missing r ≡ true
      → OfPresent (InType column) r
  unfolding in_type
  in_type_lem ends has_missing missing h = tt
  in_type_lem none_present has_missing (present z) h = clash h refl
  in_type_lem (l to h) has_missing (present z) e =
      let at = (lies_iff (number_of n l) (number_of n h) z).0 e in
      let size : 0 < n = subst Sized is (sized column) in
      let low = range_between n (number_of n l) (signed_in_range n (le_number l) size) in
      let high = range_between n (number_of n h) (signed_in_range n (le_number h) size) in
      rw is (between_range n (record { low = omega (ints, at.0, low.low); high = omega (ints, at.1, high.high) }))

-- ---- a file whose verdict is known
module _ {s f : List ℕ} {x : Verdict} (p : VerdictParts s f x) (n : ℕ) (is : layout p.column ≡ number n) where
  abbrev pub leaf : Predicate ℤ
  leaf = map_literals (number_of n) p.leaf

  abbrev ends : Ends ℤ
  ends = map_ends (number_of n) p.ends

  abbrev pub rows : List (Row ℤ)
  rows = rows_in ends p.has_missing

  by_rows : verdict_of (holds number_tests leaf) rows ≡ x
  unfolding number_verdict
  by_rows = let e = p.verdict_is in rw is at e

  pub skip_rows : (x ≡ Skip) ↔ ((r : Row ℤ) → Isin r rows → holds number_tests leaf r ≡ false)
  skip_rows = let i = skip_iff (holds number_tests leaf) rows in (λ e. i.0 (by_rows ∙ e), λ h. sym by_rows ∙ i.1 h)

  pub whole_rows : (x ≡ Whole) ↔ (((r : Row ℤ) × Isin r rows) × ((r : Row ℤ) → Isin r rows → holds number_tests leaf r ≡ true))
  whole_rows = let i = whole_iff (holds number_tests leaf) rows in (λ e. i.0 (by_rows ∙ e), λ h. sym by_rows ∙ i.1 h)

  ordered_ends : ordered compare_numbers ends ≡ true
  ordered_ends = sym (numbers_ordered p.column n is p.ends) ∙ p.in_order

  -- what the holds-test says of a record
  tested : (v : List ℕ) (row : Row (List ℕ)) → value (layout p.column) v ≡ Ok row → holds_test s v ≡ Ok (holds number_tests leaf (map_row (number_of n) row))
  tested v row e =
      holds_read (number_values p.column n is) s v p.transform p.leaf row leaf (map_row (number_of n) row) p.sheet_is e
      (number_literals n p.leaf) (number_row_lem n row)

  -- a record that the file may hold is one of its rows, which is met where the record is accepted
  pub covered_row : (v : List ℕ) → Covers f v → (r : Row ℤ) × Isin r rows × (holds_test s v ≡ Ok (holds number_tests leaf r))
  covered_row v c =
      let h = covered f p.summary_is v c in
      let r = map_row (number_of n) h.0 in
      (r, (row_iff ends p.has_missing r ordered_ends).1 (sym (numbers_held_lem p.column n is p.ends p.has_missing h.0) ∙ h.2), tested v h.0 h.1)

  -- and each row is that of a record
  pub row_covered : (r : Row ℤ) → Isin r rows → (v : List ℕ) × AllBytes v × Covers f v × (holds_test s v ≡ Ok (holds number_tests leaf r))
  unfolding number_values
  row_covered r m =
      let held = (row_iff ends p.has_missing r ordered_ends).0 m in
      let good = in_type_lem p.column n is p.ends p.has_missing r held in
      let law = number_values p.column n is in
      let v = row_record law r in
      let raw : Row (List ℕ) = map_row (λ z. number_bytes (layout p.column) z) r in
      let back : map_row (number_of n) raw ≡ r = ok_inj (sym (number_row_lem n raw) ∙ row_back law r good) in
      let may : may_hold (compare_in p.column) p.ends p.has_missing raw ≡ true
      = numbers_held_lem p.column n is p.ends p.has_missing raw ∙ ap (may_hold compare_numbers ends p.has_missing) back ∙ held in
      let read = record_back law r good in
      (v, record_bytes p.column r, covers_row f p.summary_is v raw read may, tested v raw read ∙ ap (λ y. Ok (holds number_tests leaf y)) back)
