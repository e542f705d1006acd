-- What a sheet that was read is answered, and what it promises to the steps. Assumes nothing.
use Rattle.std.specs.Prelude.{◌≡◌, ℕ, suc, ◌*◌, ◌≤◌, List, length, Ok, Err, Option}
use Rattle.std.proofs.Common.{arith, sym, ap, ◌∙◌}
use Rattle.values.specs.Outcomes.{Res}
use Rattle.values.specs.Types.{layout}
use Rattle.values.specs.declared.error.ErrorKind.{ErrorKind}
use Rattle.expr.specs.Operators.{by_arity, project_limit}
use Rattle.projection.specs.declared.question.Question.{Question}
use Rattle.sheet.specs.Records.{record_size}
use Rattle.sheet.specs.Sheets as sheets
use Rattle.sheet.specs.code.SheetAnswers.{sheet_of, sheet_told}
use Rattle.sheet.specs.declared.sheet.Sheet.{Sheet}
use Rattle.sheet.specs.laws.ReadLaws.{literals_taken, length_placed}
use Rattle.sheet.specs.laws.SheetLaws.{sheet_read_lem}
use Rattle.answers.specs.code.Settled.{Settled}
use Rattle.answers.specs.code.Leaves.{projected_at}
use Rattle.answers.specs.laws.SettledLaws.{settled_as}
use Rattle.api.specs.Routines.{project_sheet}

module _ (question : Question) (s : List ℕ) {r : Res Sheet} (told : sheet_told r ≡ sheets.sheet project_limit s) where
  pub no_sheet : {e : ErrorKind} → r ≡ Err e → project_sheet question s ≡ Err e
  unfolding project_sheet
  no_sheet is = rw (← told, is)

  module _ {y : Sheet} (is : r ≡ Ok y) where
    read : sheets.sheet project_limit s ≡ Ok (sheet_of y)
    read = sym told ∙ ap sheet_told is

    pub few : length y.literals.records.now ≤ project_limit
    few =
        let l = y.literals in
        let n = length l.records.now in
        let x = sheet_read_lem project_limit s (sheet_of y) read in
        let all = ap length (literals_taken (layout l.column) l.sheet.now l.records.now n (by_arity y.operator) l.placed y.taken) in
        omega (arith, x.few, all, length_placed (layout l.column) l.sheet.now l.records.now n l.placed)

    pub short : length s ≤ record_size * suc project_limit
    short = let x = sheet_read_lem project_limit s (sheet_of y) read in omega (arith, x.length_is, x.others_few)

    pub sheet_answered : {out after : List ℕ} {answer : Res (Option ℕ)} → Settled (projected_at question (sheet_of y)) out after answer
        → Settled (project_sheet question s) out after answer
    unfolding project_sheet
    sheet_answered h = settled_as (rw read) h
