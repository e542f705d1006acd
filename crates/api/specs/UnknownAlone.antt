-- 02, #102: "7 is left for Unknown", over the bytes of the routines. Assumes nothing.
use Rattle.std.specs.Prelude.{ℕ, List, ◌≡◌, Err}
use Rattle.values.specs.declared.error.ErrorKind.TheVariants.{FeatureUnsupported}
use Rattle.projection.specs.declared.question.Question.{Question}
use Rattle.api.specs.Demand3.{transform_in}
use Rattle.api.specs.Routines.{project_sheet, transform_value}

-- 01: "7 Unknown"
abbrev pub unknown : ℕ
unknown = 7

-- the holds-test gives 0, 1, 3 and 4 only (`HoldsTestLaws.answers`), the test of a summary 0, 2, 3, 4 and 11 (`files/TestSummaryLaws`), pooling 0, 3, 4, 11 and 12
-- (`pool/PoolAnswerLaws`); `filter/FilterDemand` has filters
pub record SevenIsUnknown : Type 0 where
  pub projections : (question : Question) (s : List ℕ) → project_sheet question s ≡ Err FeatureUnsupported → transform_in s ≡ unknown
  pub values : (type transform width : ℕ) (v : List ℕ) → transform_value type transform width v ≡ Err FeatureUnsupported → transform ≡ unknown
