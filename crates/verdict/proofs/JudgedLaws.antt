-- What a leaf and a summary are answered, as four checks in their order and a verdict. Assumes nothing.
use Rattle.std.specs.Prelude.{ℕ, Bool, true, not, ◌||◌, List, ◌≡◌, Ok}
use Rattle.std.proofs.Common.{sym, ◌∙◌}
use Rattle.std.proofs.Math.Path.{ap}
use Rattle.values.specs.Outcomes.{Res, need, ◌>>◌}
use Rattle.values.specs.laws.OutcomeLaws.{ok_inj, need_read, passed}
use Rattle.values.specs.Types.{same_type}
use Rattle.values.specs.laws.TypesLaws.{same_type_lem}
use Rattle.values.specs.declared.datatypes.PrimitiveType.{PrimitiveType}
use Rattle.values.specs.declared.datatypes.PrimitiveType.TheVariants.{String}
use Rattle.values.specs.declared.error.ErrorKind.TheVariants.{NotUtf8, WrongSummary}
use Rattle.expr.specs.Predicates.{Predicate, literals_in}
use Rattle.sheet.specs.code.Contents.{all_utf8}
use Rattle.sheet.specs.laws.ReadLaws.{bytes_literals}
use Rattle.summary.specs.EndValues.{compare_in, ordered}
use Rattle.summary.specs.Summaries.{Ends, Summary}
use Rattle.summary.specs.code.SummaryAnswers.{ends_encoded}
use Rattle.summary.specs.laws.EndLaws.{ends_read}
use Rattle.verdict.specs.Judged.{verdict_in, judged}
use Rattle.verdict.specs.declared.verdict.Verdict.{Verdict}

module _ (column : PrimitiveType) (leaf : Predicate (List ℕ)) (file : Summary) where
  abbrev pub literals_encoded : Bool
  literals_encoded = not (same_type column String) || all_utf8 (literals_in leaf)

  abbrev after_utf8 : Predicate (List ℕ) → Ends (List ℕ) → Res Verdict
  after_utf8 literals ends = do
    need (same_type column file.column) WrongSummary
    need (ordered (compare_in column) ends) WrongSummary
    Ok (verdict_in column literals ends file.has_missing)

  pub judged_checks : judged column leaf file ≡ (need literals_encoded NotUtf8 >> (need (ends_encoded file.column file.ends) NotUtf8 >> after_utf8 leaf file.ends))
  unfolding judged
  judged_checks =
      rw (bytes_literals column leaf, ends_read file.column file.ends)
      (need_read literals_encoded NotUtf8 leaf _
      ∙ ap (λ r. need literals_encoded NotUtf8 >> r) (need_read (ends_encoded file.column file.ends) NotUtf8 file.ends (after_utf8 leaf)))

-- what is known where there is a verdict
pub record JudgedAs (column : PrimitiveType) (leaf : Predicate (List ℕ)) (file : Summary) (x : Verdict) : Type 0 where
  pub encoded : literals_encoded column leaf file ≡ true
  pub same : column ≡ file.column
  pub in_order : ordered (compare_in column) file.ends ≡ true
  pub is : verdict_in column leaf file.ends file.has_missing ≡ x

pub judged_as : (column : PrimitiveType) (leaf : Predicate (List ℕ)) (file : Summary) (x : Verdict) → judged column leaf file ≡ Ok x → JudgedAs column leaf file x
judged_as column leaf file x e =
    let literals = passed (literals_encoded column leaf file) NotUtf8 _ (sym (judged_checks column leaf file) ∙ e) in
    let ends = passed (ends_encoded file.column file.ends) NotUtf8 _ literals.1 in
    let types = passed (same_type column file.column) WrongSummary _ ends.1 in
    let order = passed (ordered (compare_in column) file.ends) WrongSummary _ types.1 in
    record { encoded = literals.0; same = same_type_lem column file.column types.0; in_order = order.0; is = ok_inj order.1 }
