-- The test of a summary gives only the answers that document 02 names. Assumes nothing.
use Rattle.std.specs.Prelude.{ℕ, Bool, true, false, cond, List, ◌⊎◌, ◌≡◌, refl, ltb, length, Ok, Err}
use Rattle.std.proofs.Common.{inl, inr, ap}
use Rattle.values.specs.Outcomes.{Res, error_number}
use Rattle.values.specs.Types.{same_type}
use Rattle.values.specs.declared.datatypes.PrimitiveType.{PrimitiveType}
use Rattle.values.specs.declared.error.ErrorKind.{ErrorKind}
use Rattle.values.specs.declared.error.ErrorKind.TheVariants.{Malformed, NotUtf8, WrongSummary}
use Rattle.expr.specs.Operators.{holds_limit}
use Rattle.expr.specs.Predicates.{Predicate}
use Rattle.sheet.specs.Sheets.{sheet}
use Rattle.sheet.specs.laws.RefusalLaws.{Only, only_ok, only_bind, only_need, malformed, sheet_only}
use Rattle.answers.specs.Answers.{answer_of, refused_as, answer_number}
use Rattle.answers.specs.declared.answer.Refusal.TheVariants.{BufferTooSmall}
use Rattle.summary.specs.EndValues.{compare_in, ordered}
use Rattle.summary.specs.code.SummaryAnswers.{ends_encoded}
use Rattle.summary.specs.laws.SummaryLaws.{summary_only}
use Rattle.summary.specs.Summaries.{Summary, summary}
use Rattle.verdict.specs.Judged.{judged}
use Rattle.verdict.specs.declared.verdict.Verdict.{Verdict}
use Rattle.verdict.proofs.JudgedLaws.{literals_encoded, judged_checks}
use Rattle.files.specs.TestSummary.{test_summary, verdict_buffer, verdict_byte, test_answer}

-- what is refused is Malformed, not UTF-8, or a wrong summary
abbrev Refusal : ErrorKind → Type 0
Refusal e = (e ≡ Malformed) ⊎ ((e ≡ NotUtf8) ⊎ (e ≡ WrongSummary))

judged_only : (column : PrimitiveType) (leaf : Predicate (List ℕ)) (file : Summary) → Only Refusal (judged column leaf file)
judged_only column leaf file =
    rw (judged_checks column leaf file)
    (only_need (literals_encoded column leaf file) NotUtf8 _ (inr (inl refl)) (only_need (ends_encoded file.column file.ends) NotUtf8 _ (inr (inl refl)) (
    only_need (same_type column file.column) WrongSummary _ (inr (inr refl)) (
    only_need (ordered (compare_in column) file.ends) WrongSummary _ (inr (inr refl)) only_ok))))

test_only : (s f : List ℕ) → Only Refusal (test_summary s f)
unfolding test_summary
test_only s f =
    only_bind (sheet holds_limit s) _ (malformed (inl refl) (sheet_only holds_limit s)) (λ x.
    only_bind (summary f) _ (malformed (inl refl) (summary_only f)) (λ file. judged_only x.head.column x.leaf file))

-- 0, 2, 3, 4 and 11, and no other
pub answers : (s f out : List ℕ) → let n = answer_number (test_answer s f out) in (n ≡ 0) ⊎ ((n ≡ 2) ⊎ ((n ≡ 3) ⊎ ((n ≡ 4) ⊎ (n ≡ 11))))
answers s f out = go (ltb (length out) verdict_buffer) (test_summary s f) (test_only s f)
  where
    refusal : {e : ErrorKind} → Refusal e → (error_number e ≡ 3) ⊎ ((error_number e ≡ 4) ⊎ (error_number e ≡ 11))
    refusal (inl is) = inl (ap error_number is)
    refusal (inr (inl is)) = inr (inl (ap error_number is))
    refusal (inr (inr is)) = inr (inr (ap error_number is))

    go : (small : Bool) (r : Res Verdict) → Only Refusal r
        → let n = answer_number (cond small (Err BufferTooSmall) (refused_as (answer_of (verdict_byte r)))) in (n ≡ 0) ⊎ ((n ≡ 2) ⊎ ((n ≡ 3) ⊎ ((n ≡ 4) ⊎ (n ≡ 11))))
    go true r h = inr (inl refl)
    go false (Ok v) h = inl refl
    go false (Err e) h = inr (inr (refusal (h.only e refl)))
