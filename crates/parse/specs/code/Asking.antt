-- What is asked of the leaves of a filter, as the code has it. Assumes nothing.
use Rattle.std.specs.Prelude.{Bool, List, [], ℕ}
use Rattle.std.specs.Result.{result_unwrap_or}
use Rattle.values.specs.Outcomes.{Res}
use Rattle.columns.specs.Cells.{Side, rows, parts, Cell, cells_of}
use Rattle.columns.specs.laws.CellLaws.{CellsRead}
use Rattle.leaves.specs.Fitting.{Leaf}
use Rattle.ask.specs.LeafAnswers.{row_answer, part_answer}
use Rattle.ask.specs.declared.asked.Asked.{Asked}
use Rattle.ask.specs.declared.asked.Asked.TheVariants as asked

abbrev pub side_for : Asked → Side
side_for asked.Row = rows
side_for (asked.Part question) = parts

abbrev pub ask_in : Asked → List Cell → Leaf → Res Bool
ask_in asked.Row cells l = row_answer cells l
ask_in (asked.Part question) cells l = part_answer question cells l

-- the values beside a list, and none where they are broken
unfoldable pub cells_in : Side → List ℕ → List ℕ → List Cell
cells_in side c v = result_unwrap_or (cells_of side c v) []

-- they are there
abbrev pub ValuesRead : Asked → List ℕ → List ℕ → Type 0
ValuesRead a c v = CellsRead (side_for a) c v (cells_in (side_for a) c v)
