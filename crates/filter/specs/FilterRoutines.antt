-- The routines of filters, over bytes: a column list c, a text t, and one value record a column. The lines are in the order of the answers. Assumes nothing.
use Rattle.std.specs.Prelude.{ℕ, Bool, List, map}
use Rattle.values.specs.Outcomes.{Res, ◌>>=◌}
use Rattle.projection.specs.declared.question.Question.{Question}
use Rattle.columns.specs.Cells.{Side, rows, parts, Cell, cells_of}
use Rattle.grammar.specs.Filters.{straight, answered}
use Rattle.leaves.specs.Fitting.{Leaf}
use Rattle.ask.specs.LeafAnswers.{row_answer, part_answer}
use Rattle.parse.specs.FilterText.{filter_in, turn}

-- 3 and 4, then 10, 9 and 10, then 5 to 8: "all between 4 and 5"
abbrev pub filtered : Side → (List Cell → Leaf → Res Bool) → List ℕ → List ℕ → List ℕ → Res Bool
filtered side ask c t v = do
  cells ← cells_of side c v
  f ← filter_in (map (λ x. x.column) cells) t
  answered (ask cells) (straight turn f)

unfoldable pub filter_row : List ℕ → List ℕ → List ℕ → Res Bool
filter_row c t v = filtered rows row_answer c t v

unfoldable pub filter_parts : Question → List ℕ → List ℕ → List ℕ → Res Bool
filter_parts question c t v = filtered parts (part_answer question) c t v
