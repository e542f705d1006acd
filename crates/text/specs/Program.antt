-- Program `weighpick`, from the bytes of standard input to those of standard output. Document 01: "Program `weighpick` reads one sheet from standard input and
-- prints two lines: question, answer number, then, after 0, operator and literals, one space apart." How a line is written stands in `Text`. Assumes nothing.
use Rattle.std.specs.Prelude.{ℕ, ◌*◌, List, [], ◌∷◌, ◌++◌, ◌≡◌, refl, pos, Ok, Err}
use Rattle.values.specs.Outcomes.{Res}
use Rattle.values.specs.Transforms.{transform_of}
use Rattle.values.specs.Types.{in_type}
use Rattle.values.specs.Words.{signed_bytes}
use Rattle.transform.specs.Floor.{floor_mod}
use Rattle.transform.specs.Truncate.{truncated}
use Rattle.partition.specs.Partition.{transform_number}
use Rattle.partition.specs.ResultType.{result_type}
use Rattle.projection.specs.Projection.{project_numbers}
use Rattle.projection.specs.Steps.{Projected, some, none}
use Rattle.projection.specs.declared.question.Question.TheVariants.{Inclusive, Strict}
use Rattle.sheet.specs.Records.{content}
use Rattle.sheet.specs.Sheets.{sheet, head, fields}
use Rattle.write.specs.Written.{answer_sheet, sheet_buffer}
use Rattle.answers.specs.Answers.{projected_leaf, answer_of, refused_as, answer_number}
use Rattle.api.specs.Requests.{sheet_of}
use Rattle.api.specs.Routines.{project_sheet}
use Rattle.values.specs.Characters.{ascii}
use Rattle.text.specs.Text.{digits, answer_line}

-- the answer sheet of a projection; after 1 and after a refusal there is none
abbrev pub answer_in : Res (Projected (List ℕ)) → List ℕ
answer_in (Ok (some answer)) = answer
answer_in (Ok none) = []
answer_in (Err e) = []

-- "question, answer number, then, after 0, operator and literals": the line of a question's word and of what its projection answers
abbrev pub projection_line : List ℕ → Res (Projected (List ℕ)) → List ℕ
projection_line word r = answer_line word (answer_number (refused_as (answer_of r))) (answer_in r)

-- "reads one sheet .. and prints two lines"; "Over 4,160 bytes is 3", as of any sheet to be projected (`over_the_longest`)
unfoldable pub printed : List ℕ → List ℕ
printed input = projection_line (ascii "inclusive") (project_sheet Inclusive input) ++ projection_line (ascii "strict") (project_sheet Strict input)

-- a buffer of so many bytes holds what is printed, whatever is read (`printed_fits`): two lines, with at most two characters for each byte
-- of the longest answer sheet
abbrev pub output_size : ℕ
output_size = 4 * sheet_buffer

-- "For Int, Truncate 10, < 300"
sample : printed (sheet_of 201 1 1 10 (signed_bytes 4 (pos 300) ∷ [])) ≡ ascii "inclusive 0 202 290\nstrict 0 201 300\n"
unfolding printed answer_line digits project_sheet sheet fields head transform_of content projected_leaf result_type project_numbers transform_number in_type
    truncated floor_mod answer_sheet
sample = refl
