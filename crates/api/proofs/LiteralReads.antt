-- What a value to be transformed is answered, by what its type, transform and width are read as. Assumes nothing.
use Rattle.std.specs.Prelude.{◌≡◌, ℕ, List, Ok, Err, Option}
use Rattle.values.specs.Numbered.{find}
use Rattle.values.specs.Outcomes.{Res}
use Rattle.values.specs.Transforms.{transform_of}
use Rattle.values.specs.Types.{types}
use Rattle.values.specs.declared.datatypes.PrimitiveType.{PrimitiveType}
use Rattle.values.specs.declared.error.ErrorKind.{ErrorKind}
use Rattle.values.specs.declared.transform.Transform.{Transform}
use Rattle.sheet.specs.Sheets.{head}
use Rattle.answers.specs.Answers.{as_result}
use Rattle.answers.specs.code.Settled.{Settled}
use Rattle.answers.specs.code.Rows.{value_answer}
use Rattle.answers.specs.laws.SettledLaws.{settled_refused, settled_as}
use Rattle.api.specs.Routines.{transform_value}

module _ (type transform width : ℕ) (v : List ℕ) {out : List ℕ} where
  pub no_type : {e : ErrorKind} → find types type ≡ Err e → Settled (as_result (transform_value type transform width v)) out out (Err e)
  unfolding transform_value head
  no_type h = settled_refused (rw h)

  module _ {column : PrimitiveType} (typed : find types type ≡ Ok column) where
    pub no_transform : {e : ErrorKind} → transform_of transform width ≡ Err e → Settled (as_result (transform_value type transform width v)) out out (Err e)
    unfolding transform_value head
    no_transform h = settled_refused (rw (typed, h))

    pub value_answered : {t : Transform} {after : List ℕ} {answer : Res (Option ℕ)} → transform_of transform width ≡ Ok t
        → Settled (value_answer column t v) out after answer → Settled (as_result (transform_value type transform width v)) out after answer
    unfolding transform_value head
    value_answered h s = settled_as (rw (typed, h)) s
