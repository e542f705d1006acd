-- What a leaf and a file's summary are answered: 4, then 11, then the verdict. Literals and ends are still the contents of their records. Assumes nothing.
use Rattle.std.specs.Prelude.{ℕ, Bool, List, Ok}
use Rattle.values.specs.Outcomes.{Res, need, ◌>>=◌, ◌>>◌}
use Rattle.values.specs.Types.{layout, same_type}
use Rattle.values.specs.declared.datatypes.PrimitiveType.{PrimitiveType}
use Rattle.values.specs.declared.error.ErrorKind.TheVariants.{WrongSummary}
use Rattle.expr.specs.Predicates.{Predicate}
use Rattle.sheet.specs.Values.{read_bytes, each_literal, by_layout, map_literals, number_of}
use Rattle.summary.specs.Summaries.{Ends, Summary}
use Rattle.summary.specs.EndValues.{map_ends, read_ends, compare_in, ordered}
use Rattle.verdict.specs.TextVerdicts.{text_verdict}
use Rattle.verdict.specs.Verdicts.{number_verdict}
use Rattle.verdict.specs.declared.verdict.Verdict.{Verdict}

-- by whether the column has numbers of n bytes
abbrev pub verdict_in : PrimitiveType → Predicate (List ℕ) → Ends (List ℕ) → Bool → Verdict
verdict_in column leaf ends has_missing =
    by_layout
    (layout column)
    (λ n. number_verdict (map_literals (number_of n) leaf) (map_ends (number_of n) ends) has_missing)
    (text_verdict leaf ends has_missing)

-- 01: "4: a String literal or value is not UTF-8", each by its own type. 02: "11 a summary whose lowest is above its highest or whose type isn't the sheet's,
-- after 4"
unfoldable pub judged : PrimitiveType → Predicate (List ℕ) → Summary → Res Verdict
judged column leaf file = do
  literals ← each_literal (read_bytes column) leaf
  ends ← read_ends (read_bytes file.column) file.ends
  need (same_type column file.column) WrongSummary
  need (ordered (compare_in column) ends) WrongSummary
  Ok (verdict_in column literals ends file.has_missing)
