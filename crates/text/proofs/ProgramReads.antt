-- What a projection left in its buffer, as the line of its answer; and both lines of a sheet. Assumes nothing.
use Rattle.std.specs.Prelude.{ℕ, ◌+◌, ◌*◌, ◌^◌, ◌≤◌, ◌<◌, List, ◌++◌, ◌≡◌, refl, length, take, drop, Ok, Err}
use Rattle.std.proofs.Common.{arith, take_at, le-ltb}
use Rattle.values.specs.Outcomes.{Res}
use Rattle.projection.specs.Steps.{Projected, some, none}
use Rattle.write.specs.Written.{sheet_buffer}
use Rattle.answers.specs.Answers.{answer_of, left_of, Answer, refused_as, answer_number, answer_count}
use Rattle.api.specs.Routines.{project_sheet, answered, left_in}
use Rattle.values.specs.Characters.{ascii}
use Rattle.projection.specs.declared.question.Question.TheVariants.{Inclusive, Strict}
use Rattle.text.specs.Text.{answer_line}
use Rattle.text.specs.Program.{answer_in, projection_line, printed}
use Rattle.text.specs.laws.TextLaws.{line_few}
use Rattle.values.specs.laws.ErrorLaws.{error_range}

read_back : (r : Res (Projected (List ℕ))) (before : List ℕ) → take (answer_count (refused_as (answer_of r))) (left_of before r) ≡ answer_in r
read_back (Ok (some q)) before = take_at q (drop (0 + length q) before) (length q) refl
read_back (Ok none) before = refl
read_back (Err e) before = refl

two_digits : (r : Res (Projected (List ℕ))) → answer_number (refused_as (answer_of r)) < 10 ^ 2
two_digits (Ok (some q)) = omega arith
two_digits (Ok none) = omega arith
two_digits (Err e) = (error_range e).1

-- a buffer that is long enough, before and after the call, and what is handed back
pub record Asked (r : Res (Projected (List ℕ))) (before after : List ℕ) (answer : Answer) : Type 0 where
  pub room : sheet_buffer ≤ length before
  pub number : answer ≡ answered sheet_buffer before r
  pub buffer : after ≡ left_in sheet_buffer before r

module _ {r : Res (Projected (List ℕ))} {before after : List ℕ} {answer : Answer} (t : Asked r before after answer) where
  answer_is : answer ≡ refused_as (answer_of r)
  answer_is = rw (le-ltb (length before) sheet_buffer t.room) at t.number

  after_is : after ≡ left_of before r
  after_is = rw (le-ltb (length before) sheet_buffer t.room) at t.buffer

  -- whatever it starts with, the line fits half of the output
  pub line_half : {n : ℕ} (count : ℕ) (word : List ℕ) → length word ≤ 9 → n ≡ answer_number answer
      → length (answer_line word n (take count after)) ≤ 2 * sheet_buffer
  line_half count word short e =
      rw (e, answer_is) (omega (arith, short, line_few word (answer_number (refused_as (answer_of r))) (take count after) (two_digits r)))

  pub line_is : {n count : ℕ} (word : List ℕ) → n ≡ answer_number answer → count ≡ answer_count answer
      → answer_line word n (take count after) ≡ projection_line word r
  line_is word e f = rw (e, f, answer_is, after_is, read_back r before)

-- both lines of a sheet
module _ (input : List ℕ) where
  abbrev pub first : List ℕ
  first = projection_line (ascii "inclusive") (project_sheet Inclusive input)

  abbrev pub second : List ℕ
  second = projection_line (ascii "strict") (project_sheet Strict input)

  pub both : printed input ≡ first ++ second
  unfolding printed
  both = refl
