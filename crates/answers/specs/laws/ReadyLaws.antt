-- What a leaf of a sheet that was read is answered: 4, then 5, then the steps. Assumes nothing.
use Rattle.std.specs.Prelude.{Bool, true, false, not, ◌||◌, ◌≡◌, length, Ok, Err}
use Rattle.std.proofs.Common.{◌∙◌}
use Rattle.values.specs.Types.{layout, same_type}
use Rattle.values.specs.declared.datatypes.PrimitiveType.{PrimitiveType}
use Rattle.values.specs.declared.datatypes.PrimitiveType.TheVariants.{String}
use Rattle.values.specs.declared.error.ErrorKind.{ErrorKind}
use Rattle.values.specs.declared.error.ErrorKind.TheVariants.{NotUtf8}
use Rattle.partition.specs.ResultType.{result_type}
use Rattle.expr.specs.Operators.{by_arity}
use Rattle.expr.specs.Predicates.{literals_in}
use Rattle.projection.specs.declared.question.Question.{Question}
use Rattle.sheet.specs.code.Contents.{all_utf8}
use Rattle.sheet.specs.code.SheetAnswers.{contents_of, sheet_of}
use Rattle.sheet.specs.declared.sheet.Sheet.{Sheet}
use Rattle.sheet.specs.laws.ReadLaws.{literals_taken}
use Rattle.answers.specs.laws.LeafLaws.{leaf_not_utf8, leaf_no_type, leaf_steps}
use Rattle.answers.specs.code.Leaves.{projected_at, steps_under}

module _ (question : Question) (y : Sheet) where
  -- whether the literals are what the column asks for
  abbrev pub literals_ok : Bool
  literals_ok = not (same_type y.literals.column String) || all_utf8 (contents_of y.literals)

  literals_encoded_lem : (not (same_type y.literals.column String) || all_utf8 (literals_in (sheet_of y).leaf)) ≡ literals_ok
  literals_encoded_lem =
      let l = y.literals in
      rw (literals_taken (layout l.column) l.sheet.now l.records.now (length l.records.now) (by_arity y.operator) l.placed y.taken)

  pub ready_not_utf8 : literals_ok ≡ false → projected_at question (sheet_of y) ≡ Err NotUtf8
  ready_not_utf8 h = leaf_not_utf8 question y.literals.column y.transform (sheet_of y).leaf (literals_encoded_lem ∙ h)

  pub ready_no_type : {e : ErrorKind} → literals_ok ≡ true → result_type y.transform y.literals.column ≡ Err e → projected_at question (sheet_of y) ≡ Err e
  ready_no_type h r = leaf_no_type question y.literals.column y.transform (sheet_of y).leaf (literals_encoded_lem ∙ h) r

  pub ready_steps : {to : PrimitiveType} → literals_ok ≡ true → result_type y.transform y.literals.column ≡ Ok to
      → projected_at question (sheet_of y) ≡ steps_under question y.literals.column to y.transform (sheet_of y).leaf
  ready_steps h r = leaf_steps question y.literals.column y.transform (sheet_of y).leaf (literals_encoded_lem ∙ h) r
