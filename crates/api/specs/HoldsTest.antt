-- The holds-test over bytes: whether a row's value meets a sheet's leaf, or a partition value an answer sheet's predicate. Assumes nothing.
use Rattle.std.specs.Prelude.{ℕ, Bool, List}
use Rattle.values.specs.Outcomes.{Res, ◌>>=◌}
use Rattle.values.specs.Types.{layout}
use Rattle.expr.specs.Operators.{holds_limit}
use Rattle.sheet.specs.Records.{value}
use Rattle.sheet.specs.Sheets.{sheet}
use Rattle.meets.specs.Tested.{tested_sheet}

-- 01: "The holds-test takes a sheet of up to 129 records, with up to 128 literals after 301 or 302, and one value of the sheet's type; it checks the head's
-- rules, then ignores transform and width, and gives only 0, 1, 3, 4"
unfoldable pub holds_test : List ℕ → List ℕ → Res Bool
holds_test s v = do
  x ← sheet holds_limit s
  row ← value (layout x.head.column) v
  tested_sheet x row
