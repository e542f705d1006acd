-- Whether a row meets a sheet's leaf: its literals and the row's value are read, and then tested. Assumes nothing.
use Rattle.std.specs.Prelude.{ℕ, Bool, true, false, List, Ok, Err}
use Rattle.values.specs.Outcomes.{Res, error_number, ◌>>=◌, Row}
use Rattle.values.specs.Types.{layout}
use Rattle.expr.specs.Holds.{Tests, number_tests, bytes_tests, holds}
use Rattle.expr.specs.Predicates.{Predicate}
use Rattle.sheet.specs.Records.{value}
use Rattle.sheet.specs.Sheets.{Sheet}
use Rattle.sheet.specs.Values.{read_number, read_bytes, each_literal, read_row, by_layout}

-- the literals first, then the value: 4 where one of them is not what the column asks for
abbrev pub tested : {A : Type 0} → Tests A → (List ℕ → Res A) → Predicate (List ℕ) → Row (List ℕ) → Res Bool
tested by read leaf row = do
  l ← each_literal read leaf
  r ← read_row read row
  Ok (holds by l r)

unfoldable pub tested_sheet : Sheet → Row (List ℕ) → Res Bool
tested_sheet x row =
    let column = x.head.column in
    by_layout (layout column) (λ n. tested number_tests (read_number n) x.leaf row) (tested bytes_tests (read_bytes column) x.leaf row)

-- a row's value as its record has it
abbrev pub value_tested : Sheet → List ℕ → Res Bool
value_tested x v = do
  row ← value (layout x.head.column) v
  tested_sheet x row

-- 01: "0: for the holds-test: yes, nothing written", "1: no"
abbrev pub held_number : Res Bool → ℕ
held_number (Ok true) = 0
held_number (Ok false) = 1
held_number (Err e) = error_number e
