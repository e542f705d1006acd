-- What a sheet that was read and a summary that was read are answered: two checks, and then the verdict by the column's kind. Assumes nothing.
use Rattle.std.specs.Prelude.{Bool, true, false, cond, not, ◌&&◌, ◌||◌, ◌≡◌, refl, Ok}
use Rattle.std.proofs.Common.{ap, ◌∙◌}
use Rattle.values.specs.Outcomes.{need, ◌>>◌}
use Rattle.values.specs.laws.OutcomeLaws.{need_both}
use Rattle.values.specs.Types.{layout, same_type}
use Rattle.values.specs.code.ByteTypes.{is_bytes}
use Rattle.values.specs.laws.TypesLaws.{bytes_layout, number_layout, same_type_lem}
use Rattle.values.specs.declared.datatypes.PrimitiveType.TheVariants.{String}
use Rattle.values.specs.declared.error.ErrorKind.TheVariants.{NotUtf8, WrongSummary}
use Rattle.sheet.specs.code.Contents.{all_utf8}
use Rattle.sheet.specs.code.SheetAnswers.{contents_of}
use Rattle.sheet.specs.declared.sheet.Sheet.{Sheet}
use Rattle.meets.specs.code.Leaves.{content_leaf, number_leaf}
use Rattle.meets.specs.laws.LeafLaws.{leaf_contents, leaf_numbers}
use Rattle.summary.specs.EndValues.{compare_in, ordered}
use Rattle.summary.specs.code.SummaryAnswers.{ends_in, ends_encoded, summary_of}
use Rattle.summary.specs.declared.summary.Summary.{Summary}
use Rattle.verdict.specs.Judged.{verdict_in, judged}
use Rattle.verdict.specs.TextVerdicts.{text_verdict}
use Rattle.verdict.specs.Verdicts.{number_verdict}
use Rattle.verdict.specs.code.VerdictAnswers.{number_ends}
use Rattle.verdict.specs.declared.verdict.Verdict.{Verdict}
use Rattle.verdict.proofs.JudgedLaws.{judged_checks}

module _ (x : Sheet) (y : Summary) where
  abbrev pub encoded : Bool
  encoded = (not (same_type x.literals.column String) || all_utf8 (contents_of x.literals)) && ends_encoded y.column (ends_in y.ends)

  abbrev pub fitting : Bool
  fitting = same_type x.literals.column y.column && ordered (compare_in y.column) (ends_in y.ends)

  -- the verdict, by the column's kind
  abbrev pub verdict_on : Verdict
  verdict_on = cond (is_bytes (layout y.column)) (text_verdict (content_leaf x) (ends_in y.ends) y.missing) (number_verdict (number_leaf x) (number_ends y) y.missing)

  -- where the type is the sheet's
  by_kind : x.literals.column ≡ y.column → verdict_in y.column (content_leaf x) (ends_in y.ends) y.missing ≡ verdict_on
  by_kind same = go (is_bytes (layout y.column)) refl
    where
      go : (b : Bool) → is_bytes (layout y.column) ≡ b → verdict_in y.column (content_leaf x) (ends_in y.ends) y.missing
          ≡ cond b (text_verdict (content_leaf x) (ends_in y.ends) y.missing) (number_verdict (number_leaf x) (number_ends y) y.missing)
      go true h = rw (bytes_layout y.column h)
      go false h =
          let n = number_layout (layout y.column) h in
          let leaf = leaf_numbers x n.0 (ap layout same ∙ n.1) in
          rw (n.1, leaf)

  after_utf8 : (need (same_type x.literals.column y.column) WrongSummary
      >> (need (ordered (compare_in x.literals.column) (ends_in y.ends)) WrongSummary
      >> Ok (verdict_in x.literals.column (content_leaf x) (ends_in y.ends) y.missing)))
      ≡ (need fitting WrongSummary >> Ok verdict_on)
  after_utf8 = go (same_type x.literals.column y.column) refl
    where
      go : (b : Bool) → same_type x.literals.column y.column ≡ b → (need b WrongSummary
          >> (need (ordered (compare_in x.literals.column) (ends_in y.ends)) WrongSummary
          >> Ok (verdict_in x.literals.column (content_leaf x) (ends_in y.ends) y.missing)))
          ≡ (need (b && ordered (compare_in y.column) (ends_in y.ends)) WrongSummary >> Ok verdict_on)
      go true e =
          let same = same_type_lem x.literals.column y.column e in
          ap (λ t. need (ordered (compare_in t) (ends_in y.ends)) WrongSummary >> Ok (verdict_in t (content_leaf x) (ends_in y.ends) y.missing)) same
          ∙ ap (λ v. need (ordered (compare_in y.column) (ends_in y.ends)) WrongSummary >> Ok v) (by_kind same)
      go false e = refl

  pub sheet_checks : judged x.literals.column (content_leaf x) (summary_of y) ≡ (need encoded NotUtf8 >> (need fitting WrongSummary >> Ok verdict_on))
  sheet_checks =
      judged_checks x.literals.column (content_leaf x) (summary_of y)
      ∙ rw (leaf_contents x, after_utf8)
      (need_both (not (same_type x.literals.column String) || all_utf8 (contents_of x.literals)) (ends_encoded y.column (ends_in y.ends)) NotUtf8
      (need fitting WrongSummary >> Ok verdict_on))
