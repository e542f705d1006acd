-- Laws of what the program prints: that it fits its buffer, and what a sheet that is too long prints. Assumes nothing.
use Rattle.std.specs.Prelude.{ℕ, suc, ◌*◌, ◌%◌, ◌≤◌, ◌<◌, ◌^◌, Bool, true, false, List, ◌≡◌, refl, eqb, length, take, Ok, Err}
use Rattle.std.proofs.Common.{arith, sym, ◌∙◌, length-append, length-take-le, lt-ltb}
use Rattle.std.proofs.lemmas.Bool.{lt-leb}
use Rattle.values.specs.Outcomes.{Res, need, ◌>>◌}
use Rattle.values.specs.laws.ErrorLaws.{error_range}
use Rattle.values.specs.declared.error.ErrorKind.TheVariants.{Malformed}
use Rattle.expr.specs.Operators.{project_limit}
use Rattle.projection.specs.Steps.{Projected, some, none}
use Rattle.projection.specs.declared.question.Question.{Question}
use Rattle.projection.specs.declared.question.Question.TheVariants.{Inclusive, Strict}
use Rattle.sheet.specs.Records.{record_size}
use Rattle.sheet.specs.Sheets.{Sheet, sheet}
use Rattle.answers.specs.Answers.{answer_of, refused_as, answer_number}
use Rattle.api.specs.Routines.{project_sheet}
use Rattle.values.specs.Characters.{ascii}
use Rattle.text.specs.Text.{answer_line, digits}
use Rattle.text.specs.laws.TextLaws.{line_few}
use Rattle.text.specs.Program.{answer_in, printed, output_size}

number_digits : (r : Res (Projected (List ℕ))) → answer_number (refused_as (answer_of r)) < 10 ^ 2
number_digits (Ok (some answer)) = omega arith
number_digits (Ok none) = omega arith
number_digits (Err e) = (error_range e).1

pub printed_fits : (input : List ℕ) → length (printed input) ≤ output_size
unfolding printed
printed_fits input =
    let inclusive = project_sheet Inclusive input in
    let strict = project_sheet Strict input in
    let first = line_few (ascii "inclusive") (answer_number (refused_as (answer_of inclusive))) (answer_in inclusive) (number_digits inclusive) in
    let second = line_few (ascii "strict") (answer_number (refused_as (answer_of strict))) (answer_in strict) (number_digits strict) in
    rw length-append (omega (arith, first, second))

-- ---- 01: "Over 4,160 bytes is 3"

-- whether or not a test before it passes
refused_either_way : (test : Bool) → ◌≡◌ {A = Res Sheet} (need test Malformed >> Err Malformed) (Err Malformed)
refused_either_way true = refl
refused_either_way false = refl

too_long : (question : Question) (input : List ℕ) → record_size * suc project_limit < length input → project_sheet question input ≡ Err Malformed
unfolding project_sheet sheet
too_long question input h =
    rw (lt-ltb 0 (length input) (omega arith), lt-leb (length input) (record_size * suc project_limit) h, refused_either_way (eqb (length input % record_size) 0))

pub over_the_longest : (input : List ℕ) → record_size * suc project_limit < length input → printed input ≡ ascii "inclusive 3\nstrict 3\n"
unfolding printed answer_line digits
over_the_longest input h = rw (too_long Inclusive input h, too_long Strict input h)

-- so the first n bytes, where they are more than the longest sheet has, print what all of them print
pub cut_prints_the_same : (n : ℕ) (input : List ℕ) → record_size * suc project_limit < n → n ≤ length input → printed (take n input) ≡ printed input
cut_prints_the_same n input more h =
    over_the_longest (take n input) (omega (arith, length-take-le n input h, more)) ∙ sym (over_the_longest input (omega arith))
