-- What a leaf, and a row to be transformed, are answered: read, project or transform, write; and what is left in the lent buffer. Assumes nothing.
use Rattle.std.specs.Prelude.{ℕ, List, length, Result, Ok, Err, Option, Some, None}
use Rattle.values.specs.Outcomes.{Res, error_number, ◌>>=◌, Row}
use Rattle.values.specs.Words.{over}
use Rattle.values.specs.declared.datatypes.PrimitiveType.{PrimitiveType}
use Rattle.values.specs.declared.transform.Transform.{Transform}
use Rattle.partition.specs.ResultType.{result_type}
use Rattle.expr.specs.Predicates.{Predicate}
use Rattle.projection.specs.Steps.{Projected, some, none, mapped}
use Rattle.projection.specs.declared.question.Question.{Question}
use Rattle.sheet.specs.Values.{each_literal, read_row, map_row, map_literals}
use Rattle.write.specs.Written.{value_record, answer_sheet}
use Rattle.answers.specs.Kinds.{Kind, by_kind}
use Rattle.answers.specs.declared.answer.Refusal.{Refusal}
use Rattle.answers.specs.declared.answer.Refusal.TheVariants.{BufferTooSmall, Kind as of_kind}

-- ---- what is answered. 01: "Checks run .. 4, 5, then Unknown (7), then the steps below"
module _ {A B : Type 0} (k : Kind A B) (column : PrimitiveType) (transform : Transform) where
  abbrev pub projected : Question → Predicate (List ℕ) → Res (Projected (List ℕ))
  projected question leaf = do
    l ← each_literal k.read leaf
    to ← result_type transform column
    q ← k.project question l
    Ok (mapped (λ p. answer_sheet to (map_literals (k.write to) p)) q)

  abbrev pub transformed : Row (List ℕ) → Res (List ℕ)
  transformed row = do
    r ← read_row k.read row
    to ← result_type transform column
    p ← k.partition r
    Ok (value_record (map_row (k.write to) p))

-- the answer sheet of a leaf, its literals still the contents of their records
unfoldable pub projected_leaf : Question → PrimitiveType → Transform → Predicate (List ℕ) → Res (Projected (List ℕ))
projected_leaf question column transform leaf = by_kind column transform (λ A B k. projected k column transform question leaf)

-- the value record of a row's partition value
unfoldable pub transformed_row : PrimitiveType → Transform → Row (List ℕ) → Res (List ℕ)
transformed_row column transform row = by_kind column transform (λ A B k. transformed k column transform row)

-- a partition value is a result, as a predicate is
abbrev pub as_result : Res (List ℕ) → Res (Projected (List ℕ))
as_result r = do
  bytes ← r
  Ok (some bytes)

-- ---- what is returned and left, 01's first table

-- how many bytes are the result, where there is one
abbrev pub answer_of : Res (Projected (List ℕ)) → Res (Option ℕ)
answer_of (Ok (some bytes)) = Ok (Some (length bytes))
answer_of (Ok none) = Ok None
answer_of (Err e) = Err e

-- "result written .. later bytes unchanged"; else "nothing written"
abbrev pub left_of : List ℕ → Res (Projected (List ℕ)) → List ℕ
left_of out (Ok (some bytes)) = over 0 bytes out
left_of out (Ok none) = out
left_of out (Err e) = out

-- what a routine answers: that, or one refusal more, the buffer's
abbrev pub Answer : Type 0
Answer = Result (Option ℕ) Refusal

abbrev pub refused_as : Res (Option ℕ) → Answer
refused_as (Ok count) = Ok count
refused_as (Err e) = Err (of_kind e)

-- 01's number and count of each answer
abbrev pub answer_number : Answer → ℕ
answer_number (Ok (Some n)) = 0
answer_number (Ok None) = 1
answer_number (Err BufferTooSmall) = 2
answer_number (Err (of_kind e)) = error_number e

abbrev pub answer_count : Answer → ℕ
answer_count (Ok (Some n)) = n
answer_count (Ok None) = 0
answer_count (Err e) = 0
