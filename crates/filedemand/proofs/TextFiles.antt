-- Files of strings or binaries: what is skipped meets nothing, and none is whole. Assumes nothing.
use Rattle.std.specs.Prelude.{Ok}
use Prim.Native.Nat.{ℕ}
use mathlib.Core.Bool.{true, false, not, ◌||◌}
use mathlib.Core.List.{List}
use mathlib.Core.Path.{◌≡◌, sym, ◌∙◌}
use Rattle.values.specs.Order.{compare_bytes}
use Rattle.values.specs.Outcomes.{Row, missing, present}
use Rattle.values.specs.laws.OutcomeLaws.{ok_inj, going, passed}
use Rattle.values.specs.laws.TestLaws.{clash}
use Rattle.values.specs.Types.{bytes, layout, same_type}
use Rattle.values.specs.declared.datatypes.PrimitiveType.TheVariants.{String}
use Rattle.values.specs.declared.error.ErrorKind.TheVariants.{NotUtf8}
use Rattle.expr.specs.Holds.{bytes_tests, holds}
use Rattle.expr.specs.Predicates.{literals_in}
use Rattle.meets.specs.Tested.{tested, tested_sheet}
use Rattle.sheet.specs.Records.{value}
use Rattle.sheet.specs.Values.{read_bytes}
use Rattle.sheet.specs.code.Contents.{all_utf8, row_utf8}
use Rattle.sheet.specs.laws.ReadLaws.{then_need, bytes_literals, bytes_row}
use Rattle.api.specs.Demand3.{Accepts}
use Rattle.api.specs.HoldsTest.{holds_test}
use Rattle.summary.specs.EndValues.{may_hold}
use Rattle.summary.specs.laws.EndLaws.{bytes_held_lem}
use Rattle.verdict.specs.TextVerdicts.{text_verdict}
use Rattle.verdict.specs.declared.verdict.Verdict.{Verdict}
use Rattle.verdict.specs.declared.verdict.Verdict.TheVariants.{Skip, Whole}
use Rattle.ends.specs.laws.RuledOutLaws.{ruled_out_none}
use Rattle.verdict.specs.laws.VerdictLaws.{text_skipped, text_not_whole}
use Rattle.files.specs.FileDemand.{Covers}
use Rattle.filedemand.proofs.VerdictParts.{VerdictParts, covered}

module _ {s f : List ℕ} {x : Verdict} (p : VerdictParts s f x) (n : ℕ) (is : layout p.column ≡ bytes n) where
  by_table : text_verdict p.leaf p.ends p.has_missing ≡ x
  by_table = let e = p.verdict_is in rw is at e

  -- a record that is accepted is met
  tested_met : (row : Row (List ℕ)) → tested bytes_tests (read_bytes p.column) p.leaf row ≡ Ok true → holds bytes_tests p.leaf row ≡ true
  tested_met row e =
      let string = same_type p.column String in
      let a = not string || all_utf8 (literals_in p.leaf) in
      let b = not string || row_utf8 row in
      let two = rw (bytes_literals p.column p.leaf, bytes_row p.column row) at e in
      let t = passed a NotUtf8 _ (sym (then_need NotUtf8 a b p.leaf row (holds bytes_tests)) ∙ two) in
      ok_inj (passed b NotUtf8 _ t.1).1

  accepted_met : (v : List ℕ) (row : Row (List ℕ)) → value (layout p.column) v ≡ Ok row → Accepts s v → holds bytes_tests p.leaf row ≡ true
  unfolding holds_test tested_sheet
  accepted_met v row e met =
      let t = sym (going _ e) ∙ sym (going _ p.sheet_is) ∙ met in
      tested_met row (rw is at t)

  unmet : x ≡ Skip → (row : Row (List ℕ)) → may_hold compare_bytes p.ends p.has_missing row ≡ true → holds bytes_tests p.leaf row ≡ false
  unmet skipped missing h = (text_skipped p.leaf p.ends p.has_missing (by_table ∙ skipped)).1 h
  unmet skipped (present v) h = ruled_out_none p.leaf p.ends v (text_skipped p.leaf p.ends p.has_missing (by_table ∙ skipped)).0 h

  pub skip_loses_none : x ≡ Skip → (v : List ℕ) → Covers f v → Accepts s v → ⊥
  skip_loses_none skipped v c met =
      let h = covered f p.summary_is v c in
      clash (accepted_met v h.0 h.1 met) (unmet skipped h.0 (sym (bytes_held_lem p.column n is p.ends p.has_missing h.0) ∙ h.2))

  pub never_whole : x ≡ Whole → ⊥
  never_whole e = text_not_whole p.leaf p.ends p.has_missing (by_table ∙ e)
