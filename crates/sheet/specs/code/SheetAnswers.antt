-- A sheet that was read, as the definitions have it. Assumes nothing.
use Rattle.std.specs.Prelude.{ℕ, List, [], ℤ, length, Ok, Err}
use Rattle.values.specs.Outcomes.{Res}
use Rattle.values.specs.Types.{layout}
use Rattle.expr.specs.Operators.{by_arity}
use Rattle.expr.specs.code.OperatorAnswers.{leaf_of}
use Rattle.sheet.specs.Sheets as sheets
use Rattle.sheet.specs.code.Placed.{contents_at, numbers_at}
use Rattle.sheet.specs.code.ReadAnswers.{parts_at}
use Rattle.sheet.specs.declared.literals.Literals.{Literals}
use Rattle.sheet.specs.declared.parts.ContentParts.{ContentParts}
use Rattle.sheet.specs.declared.sheet.Sheet.{Sheet}

-- the literals, in the order of the chain: their contents, and the numbers that these are
abbrev pub contents_of : Literals → List (List ℕ)
contents_of x = contents_at x.sheet.now x.records.now (length x.records.now)

abbrev pub numbers_of : Literals → List ℤ
numbers_of x = numbers_at (layout x.column) x.sheet.now x.records.now (length x.records.now)

-- beginnings of contents, in the order of their records' numbers
abbrev pub parts_of : ContentParts → List (List ℕ)
parts_of x = parts_at x.sheet.now x.sizes.now x.records.now (length x.records.now)

-- the sheet that it is
abbrev pub sheet_of : Sheet → sheets.Sheet
sheet_of x = record {
  head = record { column = x.literals.column; transform = x.transform };
  leaf = leaf_of [] (by_arity x.operator) (contents_of x.literals);
}

abbrev pub sheet_told : Res Sheet → Res sheets.Sheet
sheet_told (Ok x) = Ok (sheet_of x)
sheet_told (Err e) = Err e
