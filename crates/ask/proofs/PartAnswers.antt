-- What is answered of a partition value, by its result type and its transform, in the form in which a return asks it. Assumes nothing.
use Rattle.std.specs.Prelude.{◌≡◌, ◌≢◌, ℕ, Bool, true, List, ℤ, Option, Ok, Err}
use Rattle.std.proofs.Common.{sym, ap, ◌∙◌}
use Rattle.values.specs.Outcomes.{Res, Row}
use Rattle.values.specs.Types.{bytes, layout, content_size}
use Rattle.values.specs.declared.datatypes.PrimitiveType.{PrimitiveType}
use Rattle.values.specs.declared.error.ErrorKind.{ErrorKind}
use Rattle.values.specs.declared.error.ErrorKind.TheVariants.{FeatureUnsupported}
use Rattle.values.specs.declared.transform.Transform.{Transform}
use Rattle.values.specs.declared.transform.Transform.TheVariants.{Identity, Truncate, Void, Unknown}
use Rattle.partition.specs.ResultType.{result_type}
use Rattle.expr.specs.Holds.{number_tests, bytes_tests}
use Rattle.expr.specs.Operators.{Operator}
use Rattle.expr.specs.code.OperatorAnswers.{takes_one}
use Rattle.projection.specs.declared.question.Question.{Question}
use Rattle.numbers.specs.code.Boundaries.{number_leaf, number_projected}
use Rattle.numbers.specs.declared.steps.NumberTest.{NumberTest}
use Rattle.strings.specs.code.Prefixes.{bytes_leaf, Lent, bytes_projected}
use Rattle.answers.proofs.OtherTransforms.{stepping, not_identity}
use Rattle.ask.specs.LeafAnswers.{without_predicate}
use Rattle.ask.specs.code.Askings.{number_row, number_answer, text_answer, meets_row, step_held}
use Rattle.ask.specs.declared.asked.Asked.TheVariants as asked
use Rattle.ask.specs.laws.PartAnswerLaws.{NumberPart, number_of_part, TextPart, text_of_part}
use Rattle.ask.proofs.TextTypes.{only_void}

module _ (question : Question) (column : PrimitiveType) (transform : Transform) (a : Operator) (single : takes_one a ≡ true) where
  module _ (l : ℤ) (r : Row (List ℕ)) where
    abbrev number : Res Bool
    number = number_answer (asked.Part question) column transform a l r

    number_part : NumberPart question column transform a l r
    number_part = number_of_part column transform l r question a single

    pub number_untyped : {e : ErrorKind} → result_type transform column ≡ Err e → number ≡ Err e
    number_untyped t = number_part.no_type _ t

    module _ {type : PrimitiveType} (t : result_type transform column ≡ Ok type) where
      pub number_unknown : transform ≡ Unknown → number ≡ Err FeatureUnsupported
      number_unknown is = number_part.unknown type t is

      pub number_void : transform ≡ Void → number ≡ Ok (without_predicate question)
      number_void is = number_part.void type t is

      pub number_itself : transform ≡ Identity → number ≡ Ok (meets_row number_tests a l (number_row r))
      number_itself is = number_part.identity type t is

      pub number_stepped : transform ≢ Unknown → transform ≢ Void → transform ≢ Identity → (p : Res (Option NumberTest))
          → number_projected p ≡ number_leaf question column transform a l → number ≡ step_held number_tests question (number_projected p) (number_row r)
      number_stepped u v i p e = number_part.stepped type t (stepping transform v u) (not_identity transform i) ∙ ap (λ q. step_held number_tests question q (number_row r)) (sym e)

  module _ (l : List ℕ) (r : Row (List ℕ)) where
    abbrev text : Res Bool
    text = text_answer (asked.Part question) column transform a l r

    text_part : TextPart question column transform a l r
    text_part = text_of_part column transform l r question a single

    pub text_untyped : {e : ErrorKind} → result_type transform column ≡ Err e → text ≡ Err e
    text_untyped t = text_part.no_type _ t

    module _ {type : PrimitiveType} (t : result_type transform column ≡ Ok type) where
      pub text_unknown : transform ≡ Unknown → text ≡ Err FeatureUnsupported
      text_unknown is = text_part.unknown type t is

      pub text_itself : transform ≡ Identity → text ≡ Ok (meets_row bytes_tests a l r)
      text_itself is = text_part.identity type t is

      pub text_cut : {width : ℕ} → transform ≡ Truncate width → (p : Lent) → bytes_projected p ≡ bytes_leaf question column (Truncate width) a l
          → text ≡ step_held bytes_tests question (bytes_projected p) r
      text_cut is p e = text_part.stepped type t (rw is) (rw is) ∙ rw (is, e)

      -- byte strings have a result type under no other transform than Void
      pub text_void : layout column ≡ bytes content_size → transform ≢ Unknown → transform ≢ Identity → ((width : ℕ) → transform ≢ Truncate width)
          → text ≡ Ok (without_predicate question)
      text_void bs u i m = text_part.void type t (only_void column type bs transform t u i m)

-- for a return's search
pub ruleset number_parts = (number_untyped, number_unknown, number_void, number_itself)

pub ruleset text_parts = (text_untyped, text_unknown, text_itself, text_void)
