-- What the code of verdicts goes by, as the definitions have it. Assumes nothing.
use Rattle.std.specs.Prelude.{Bool, cond, ℤ}
use Rattle.values.specs.Types.{layout}
use Rattle.sheet.specs.code.Contents.{number_in}
use Rattle.summary.specs.EndValues.{map_ends}
use Rattle.summary.specs.Summaries.{Ends}
use Rattle.summary.specs.code.SummaryAnswers.{ends_in}
use Rattle.summary.specs.declared.summary.Summary.{Summary}
use Rattle.verdict.specs.declared.verdict.Verdict.{Verdict}
use Rattle.verdict.specs.declared.verdict.Verdict.TheVariants.{Skip, Read, Whole}

-- by whether some value meets the predicate, and whether some does not
abbrev pub verdict_by : Bool → Bool → Verdict
verdict_by met unmet = cond met (cond unmet Read Whole) Skip

-- the ends of a file of numbers that was read
abbrev pub number_ends : Summary → Ends ℤ
number_ends y = map_ends (number_in (layout y.column)) (ends_in y.ends)
