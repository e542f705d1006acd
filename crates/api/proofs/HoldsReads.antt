-- What each return of the holds-test comes to, by what was read before it. Assumes nothing.
use Rattle.std.specs.Prelude.{◌≡◌, ℕ, List, Ok, Err}
use Rattle.std.proofs.Common.{◌∙◌}
use Rattle.values.specs.Outcomes.{Res}
use Rattle.values.specs.declared.error.ErrorKind.{ErrorKind}
use Rattle.expr.specs.Operators.{holds_limit}
use Rattle.sheet.specs.Sheets as sheets
use Rattle.sheet.specs.code.SheetAnswers.{sheet_told}
use Rattle.sheet.specs.declared.sheet.Sheet.{Sheet}
use Rattle.meets.specs.code.HeldAnswers.{value_meets}
use Rattle.meets.specs.laws.LeafLaws.{value_answered}
use Rattle.api.specs.HoldsTest.{holds_test}

module _ (s v : List ℕ) {r : Res Sheet} (told : sheet_told r ≡ sheets.sheet holds_limit s) where
  pub no_sheet : {e : ErrorKind} → r ≡ Err e → holds_test s v ≡ Err e
  unfolding holds_test
  no_sheet is = rw (← told, is)

  pub sheet_tested : {y : Sheet} → r ≡ Ok y → value_meets y.operator y.literals v ≡ holds_test s v
  unfolding holds_test
  sheet_tested {y} is = value_answered y v ∙ rw (← told, is)
