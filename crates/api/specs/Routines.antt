-- The routines over bytes: what a sheet, and a value to be transformed, are answered, and the rules of the lent buffer. Assumes nothing.
use Rattle.std.specs.Prelude.{ℕ, cond, List, nat_lt, length, Err}
use Rattle.values.specs.Outcomes.{Res, ◌>>=◌}
use Rattle.values.specs.Types.{layout}
use Rattle.expr.specs.Operators.{project_limit}
use Rattle.projection.specs.Steps.{Projected}
use Rattle.projection.specs.declared.question.Question.{Question}
use Rattle.sheet.specs.Records.{record_size, value}
use Rattle.sheet.specs.Sheets.{head, sheet}
use Rattle.answers.specs.Answers.{projected_leaf, transformed_row, as_result, answer_of, left_of, Answer, refused_as}
use Rattle.answers.specs.declared.answer.Refusal.TheVariants.{BufferTooSmall}
use Rattle.write.specs.Written.{sheet_buffer}

-- ---- what is answered

-- `project` and `strict_project`: the answer sheet of a sheet
unfoldable pub project_sheet : Question → List ℕ → Res (Projected (List ℕ))
project_sheet question s = do
  x ← sheet project_limit s
  projected_leaf question x.head.column x.head.transform x.leaf

-- `transform_literal`: the record of a value's partition value. 01: "For a transform, type, transform and width come as numbers under the head's rules"
unfoldable pub transform_value : ℕ → ℕ → ℕ → List ℕ → Res (List ℕ)
transform_value type transform width v = do
  h ← head type transform width
  row ← value (layout h.column) v
  transformed_row h.column h.transform row

-- ---- the lent buffer. 01: "result buffer under 8,256 bytes (64 for one value)": `sheet_buffer`, and a record
abbrev pub value_buffer : ℕ
value_buffer = record_size

-- 2 comes before every other check
abbrev pub answered : ℕ → List ℕ → Res (Projected (List ℕ)) → Answer
answered size out r = cond (nat_lt (length out) size) (Err BufferTooSmall) (refused_as (answer_of r))

abbrev pub left_in : ℕ → List ℕ → Res (Projected (List ℕ)) → List ℕ
left_in size out r = cond (nat_lt (length out) size) out (left_of out r)

-- ---- the contracts: what each routine answers, and what it leaves in the buffer, for all bytes
module _ (question : Question) (s out : List ℕ) where
  abbrev pub project_answer : Answer
  project_answer = answered sheet_buffer out (project_sheet question s)

  abbrev pub project_leaves : List ℕ
  project_leaves = left_in sheet_buffer out (project_sheet question s)

module _ (type transform width : ℕ) (v out : List ℕ) where
  abbrev pub transform_answer : Answer
  transform_answer = answered value_buffer out (as_result (transform_value type transform width v))

  abbrev pub transform_leaves : List ℕ
  transform_leaves = left_in value_buffer out (as_result (transform_value type transform width v))
