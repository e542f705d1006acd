-- Summaries by what they say, to write examples with. Assumes nothing.
use Rattle.std.specs.Prelude.{ℕ, List, ◌++◌}
use Rattle.values.specs.Outcomes.{missing, present}
use Rattle.values.specs.Words.{le_bytes}
use Rattle.write.specs.Written.{value_record}

-- the summary of a type, a flag and two ends, and of a file without present values
abbrev pub summary_of : ℕ → ℕ → List ℕ → List ℕ → List ℕ
summary_of type flag lowest highest = value_record (present lowest) ++ value_record (present highest) ++ le_bytes 1 type ++ le_bytes 1 flag

abbrev pub no_values : ℕ → ℕ → List ℕ
no_values type flag = value_record missing ++ value_record missing ++ le_bytes 1 type ++ le_bytes 1 flag
