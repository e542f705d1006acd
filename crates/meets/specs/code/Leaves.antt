-- The leaf of a sheet that was read, as the code tests it: over the contents of its literals, and over the numbers that these are. Assumes nothing.
use Rattle.std.specs.Prelude.{ℕ, List, ℤ, pos}
use Rattle.expr.specs.Operators.{by_arity}
use Rattle.expr.specs.Predicates.{Predicate}
use Rattle.expr.specs.code.OperatorAnswers.{leaf_of}
use Rattle.sheet.specs.code.SheetAnswers.{numbers_of, sheet_of}
use Rattle.sheet.specs.declared.sheet.Sheet.{Sheet}

abbrev pub content_leaf : Sheet → Predicate (List ℕ)
content_leaf x = (sheet_of x).leaf

abbrev pub number_leaf : Sheet → Predicate ℤ
number_leaf x = leaf_of (pos 0) (by_arity x.operator) (numbers_of x.literals)
