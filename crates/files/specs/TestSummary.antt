-- The test of a file's summary over bytes: whether the file is to be skipped, to be read, or taken whole, and the rules of the lent buffer. Assumes nothing.
use Rattle.std.specs.Prelude.{ℕ, List, [], ◌∷◌, Ok}
use Rattle.values.specs.Outcomes.{Res, ◌>>=◌}
use Rattle.expr.specs.Operators.{holds_limit}
use Rattle.projection.specs.Steps.{Projected}
use Rattle.sheet.specs.Sheets.{sheet}
use Rattle.answers.specs.Answers.{as_result, Answer}
use Rattle.api.specs.Routines.{answered, left_in}
use Rattle.summary.specs.Summaries.{summary}
use Rattle.verdict.specs.Judged.{judged}
use Rattle.verdict.specs.Verdicts.{verdict_number}
use Rattle.verdict.specs.declared.verdict.Verdict.{Verdict}

-- 02, #104: "Given a sheet as for the holds-test and such a summary": 3 of the sheet, then of the summary, then 4 and 11
unfoldable pub test_summary : List ℕ → List ℕ → Res Verdict
test_summary s f = do
  x ← sheet holds_limit s
  file ← summary f
  judged x.head.column x.leaf file

-- 02: "write one byte (an empty buffer is 2)"
abbrev pub verdict_buffer : ℕ
verdict_buffer = 1

abbrev pub verdict_byte : Res Verdict → Res (Projected (List ℕ))
verdict_byte r = as_result do
  v ← r
  Ok (verdict_number v ∷ [])

-- the contract: what the routine answers, and what it leaves in the buffer, for all bytes
module _ (s f out : List ℕ) where
  abbrev pub test_answer : Answer
  test_answer = answered verdict_buffer out (verdict_byte (test_summary s f))

  abbrev pub test_leaves : List ℕ
  test_leaves = left_in verdict_buffer out (verdict_byte (test_summary s f))
