-- `program::put_sheet` meets its contract: both projections are asked, and their lines written one after the other. Assumes nothing.
use Rattle.std.specs.Prelude.{ℕ, ◌+◌, ◌*◌, ◌≤◌, ◌≡◌, length, replicate}
use Rattle.std.proofs.Common.{arith, ap, ◌∙◌, length-append, append_assoc}
use Rattle.projection.specs.declared.question.Question.TheVariants.{Inclusive, Strict}
use Rattle.write.specs.Written.{sheet_buffer}
use Rattle.api.specs.Routines.{project_sheet}
use Rattle.values.specs.Characters.{ascii}
use lib.Dec.{lit≤}
use Rattle.text.specs.Program.{output_size}
use Rattle.text.proofs.ProgramReads.{Asked, line_half, line_is, both}
use Rattle.text.proofs.program.put_sheet.Goals as goal
use Rattle.text.proofs.program.put_sheet.Goals.{After-answer_count, After-answer_count-2}

-- what each call leaves in the buffer
inclusive_asked : {g : _} (c : After-answer_count g) → Asked (project_sheet Inclusive c.args.sheet.now) (replicate sheet_buffer 0) c.project-inclusive.new.out c.project-inclusive.result
inclusive_asked c = record { room = omega arith; number = c.project-inclusive.ensures.number; buffer = c.project-inclusive.ensures.buffer }

strict_asked : {g : _} (c : After-answer_count-2 g)
    → Asked (project_sheet Strict c.args.sheet.now) c.project-inclusive.new.out c.strict_project-strict.new.out c.strict_project-strict.result
strict_asked c = record {
  room = omega (arith, c.project-inclusive.auto.out);
  number = c.strict_project-strict.ensures.number;
  buffer = c.strict_project-strict.ensures.buffer;
}

-- two halves of the output: that there is room is shown of any word
half : (before n N : ℕ) → before + output_size ≤ N → n ≤ 2 * sheet_buffer → before + n ≤ N
half before n N h k = omega arith

halves : (before n m N : ℕ) {written : ℕ} → written ≡ before + n → before + output_size ≤ N → n ≤ 2 * sheet_buffer → m ≤ 2 * sheet_buffer → written + m ≤ N
halves before n m N e h k l = omega arith

pub put_line-requires : goal.put_line-requires
put_line-requires g c = (
  omega (arith, g.N.fits),
  half (length c.args.out.now.items) _ _ c.requires (line_half (inclusive_asked (goal.at.put_line-requires g c).After-answer_count) _ _ (lit≤ tt) c.answer_number.ensures),
)

pub put_line-requires-2 : goal.put_line-requires-2
put_line-requires-2 g c = (
  omega (arith, g.N.fits),
  halves (length c.args.out.now.items) _ _ _ (ap length c.put_line.ensures ∙ length-append c.args.out.now.items _) c.requires
      (line_half (inclusive_asked (goal.at.put_line-requires-2 g c).After-answer_count) _ _ (lit≤ tt) c.answer_number.ensures)
      (line_half (strict_asked (goal.at.put_line-requires-2 g c).After-answer_count-2) _ _ (lit≤ tt) c.answer_number-2.ensures),
)

pub returns : goal.returns
returns g c =
    let line = line_is (inclusive_asked (goal.at.returns g c).After-answer_count) (ascii "inclusive") c.answer_number.ensures c.answer_count.ensures in
    let line_2 = line_is (strict_asked (goal.at.returns g c).After-answer_count-2) (ascii "strict") c.answer_number-2.ensures c.answer_count-2.ensures in
    let written = rw line at c.put_line.ensures in
    let written_2 = rw (line_2, written) at c.put_line-2.ensures in
    rw (both c.args.sheet.now) (written_2 ∙ append_assoc c.args.out.now.items _ _)
