-- Files of older writers over bytes: inclusive predicates lose none of their rows, those of the third question let in none that fails, and where nothing is lifted
-- the third question is strict. Assumes nothing.
use Rattle.std.specs.Prelude.{Ok, Err}
use Prim.Native.Nat.{ℕ}
use mathlib.Core.Bool.{true, false}
use mathlib.Core.List.{List}
use mathlib.Core.Logic.{⊎_elim, ◌↔◌}
use mathlib.Core.Path.{◌≡◌, refl, ap, fun_ext}
use Rattle.values.specs.Outcomes.{Res, ◌>>=◌}
use Rattle.values.specs.laws.TestLaws.{refuted}
use Rattle.values.specs.Types.{Layout, number, bytes, layout}
use Rattle.values.specs.declared.datatypes.PrimitiveType.{PrimitiveType}
use Rattle.values.specs.declared.transform.Transform.{Transform}
use Rattle.partition.specs.ResultType.{result_type}
use Rattle.expr.specs.Holds.{holds}
use Rattle.expr.specs.Operators.{project_limit}
use Rattle.expr.specs.Predicates.{Predicate}
use Rattle.projection.specs.Lifting.{lifted}
use Rattle.projection.specs.Steps.{Projected, mapped}
use Rattle.projection.specs.declared.question.Question.{Question}
use Rattle.projection.specs.declared.question.Question.TheVariants.{Inclusive, Strict, Older}
use Rattle.projection.proofs.OlderLeafDemandLaws.{numbers_older_is_strict, bytes_older_is_strict}
use Rattle.sheet.specs.Sheets.{Sheet, sheet}
use Rattle.sheet.specs.laws.SheetLaws.{sheet_read_lem}
use Rattle.sheet.specs.Values.{by_layout, each_literal, map_literals}
use Rattle.write.specs.Written.{answer_sheet}
use Rattle.answers.specs.Kinds.{Kind, numbers, byte_strings}
use Rattle.answers.specs.Answers.{projected, projected_leaf}
use Rattle.api.specs.Demand3.{Accepts}
use Rattle.api.specs.OlderDemand.{Filed, NoOlderRowLost, OlderIsSafe, OlderIsStrict, OlderDemand}
use Rattle.api.specs.Routines.{project_sheet}
use Rattle.demand.proofs.Demand3Proof.{ByNumbers, ByBytes, by_kind, numbers_law, bytes_law}
use Rattle.demand.proofs.FilingLaws.{FiledUnder, FilingLaws, number_filing, bytes_filing_lem}
use Rattle.demand.proofs.KindLaws.{KindLaws, Returned}
use Rattle.demand.proofs.KindRowLaws.{reading, good_leaf, row_of, meets_leaf, meets_written}
use Rattle.demand.proofs.NumberKindLaws.{number_known}

-- ---- in any kind
module _ {A B : Type 0} {k : Kind A B} {column : PrimitiveType} {transform : Transform} {s q : List ℕ} (v f : List ℕ) (d : Filed s f v) where
  module _ {question : Question} (a : Returned k column transform question s q) (law : KindLaws column a.to transform k) (filing : FilingLaws law) where
    abbrev place : FiledUnder law filing.MayFile v f
    place = filing.filed s v f (reading a law).head_is d

    meets_own : Accepts s v ↔ (holds law.row_tests a.leaf place.own.row ≡ true)
    meets_own = meets_leaf a law v place.own_record place.own

    meets_filed : Accepts q f ↔ (holds law.part_tests a.predicate place.under ≡ true)
    meets_filed = meets_written a law place.under f place.under_good place.bytes_is

  kept : (a : Returned k column transform Inclusive s q) (law : KindLaws column a.to transform k) → FilingLaws law → Accepts s v → Accepts q f
  kept a law filing met =
      let m = place a law filing in
      let over = filing.no_older_row_lost a.leaf a.predicate (good_leaf a law).all a.project_is in
      (meets_filed a law filing).1
      (over m.own.row m.own.part m.under (row_of a law v m.own_record m.own) m.may_file ((meets_own a law filing).0 met))

  safe : (a : Returned k column transform Older s q) (law : KindLaws column a.to transform k) → FilingLaws law → Accepts q f → Accepts s v
  safe a law filing met =
      let m = place a law filing in
      let over = filing.older_is_safe a.leaf a.predicate (good_leaf a law).all a.project_is in
      (meets_own a law filing).1
      (over m.own.row m.own.part m.under (row_of a law v m.own_record m.own) m.may_file ((meets_filed a law filing).0 met))

-- ---- the two kinds
module _ {question : Question} {s q : List ℕ} where
  numbers_filing : (b : ByNumbers question s q) → FilingLaws (numbers_law b)
  numbers_filing b =
      let a = b.answer in
      let k = number_known question b.column b.transform a.leaf a.predicate a.project_is in
      number_filing b.column a.to b.transform b.size b.is k a.result_is

  bytes_filing : (b : ByBytes question s q) → FilingLaws (bytes_law b)
  bytes_filing b = bytes_filing_lem b.column b.answer.to b.transform b.size b.is b.answer.result_is

no_older_row_lost : NoOlderRowLost
no_older_row_lost s q v f d met r =
    ⊎_elim
    (λ b. kept v f d b.answer (numbers_law b) (numbers_filing b) met)
    (λ b. kept v f d b.answer (bytes_law b) (bytes_filing b) met)
    (by_kind Inclusive s q r)

older_is_safe : OlderIsSafe
older_is_safe s q v f d r met =
    ⊎_elim
    (λ b. safe v f d b.answer (numbers_law b) (numbers_filing b) met)
    (λ b. safe v f d b.answer (bytes_law b) (bytes_filing b) met)
    (by_kind Older s q r)

-- ---- "For other transforms it equals strict"

-- what a leaf is answered, by how it is projected
abbrev answered_by : {A B : Type 0} → Kind A B → PrimitiveType → Transform → Predicate (List ℕ) → (Predicate A → Res (Projected (Predicate B)))
    → Res (Projected (List ℕ))
answered_by k column transform leaf project = do
  l ← each_literal k.read leaf
  to ← result_type transform column
  q ← project l
  Ok (mapped (λ p. answer_sheet to (map_literals (k.write to) p)) q)

leaf_older : (column : PrimitiveType) (transform : Transform) (leaf : Predicate (List ℕ)) → lifted column transform ≡ false
    → projected_leaf Older column transform leaf ≡ projected_leaf Strict column transform leaf
unfolding projected_leaf
leaf_older column transform leaf plain = go (layout column)
  where
    asked : Layout → Question → Res (Projected (List ℕ))
    asked l question =
        by_layout l (λ n. projected (numbers column transform n) column transform question leaf) (projected (byte_strings column transform) column transform question leaf)

    go : (l : Layout) → asked l Older ≡ asked l Strict
    go (number n) = ap (answered_by (numbers column transform n) column transform leaf) (fun_ext (λ x. numbers_older_is_strict column transform x plain))
    go (bytes n) = ap (answered_by (byte_strings column transform) column transform leaf) (fun_ext (λ x. bytes_older_is_strict column transform x))

older_is_strict : OlderIsStrict
unfolding project_sheet
older_is_strict s plain = go (sheet project_limit s) refl
  where
    go : (r : Res Sheet) → sheet project_limit s ≡ r
        → (r >>= λ x. projected_leaf Older x.head.column x.head.transform x.leaf)
        ≡ (r >>= λ x. projected_leaf Strict x.head.column x.head.transform x.leaf)
    go (Ok x) e =
        let read = sheet_read_lem project_limit s x e in
        leaf_older x.head.column x.head.transform x.leaf (refuted _ (λ h. plain (x.head, read.head_is, h)))
    go (Err k) e = refl

pub older_demand : OlderDemand
older_demand = record { no_older_row_lost = no_older_row_lost; older_is_safe = older_is_safe; older_is_strict = older_is_strict }
