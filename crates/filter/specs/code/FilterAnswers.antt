-- What a filter is answered, as the code has it: by whichever of the three is asked. Assumes nothing.
use Rattle.std.specs.Prelude.{ℕ, Bool, List}
use Rattle.values.specs.Outcomes.{Res, ◌>>=◌}
use Rattle.grammar.specs.Filters.{straight, answered}
use Rattle.ask.specs.declared.asked.Asked.{Asked}
use Rattle.parse.specs.FilterText.{filter_in, turn}
use Rattle.parse.specs.code.Asking.{side_for, ask_in}
use Rattle.parse.specs.code.FilterReads.{columns_of, ask}
use Rattle.parse.specs.declared.request.Request.{Request}
use Rattle.filter.specs.FilterRoutines.{filtered}

-- what a text is answered, of columns and values that are there
abbrev pub text_answered : Request → Res Bool
text_answered q = do
  f ← filter_in (columns_of q) q.text.now
  answered (ask q) (straight turn f)

abbrev pub filter_answered : Asked → List ℕ → List ℕ → List ℕ → Res Bool
filter_answered a c t v = filtered (side_for a) (ask_in a) c t v
