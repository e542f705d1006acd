-- `file::some_number_meets` meets its contract: ends of a type of numbers that are in order are numbers in order. Assumes nothing.
use Rattle.std.specs.Prelude.{ℕ, false, true, not, List, ◌≡◌, ◌≤ℤ◌, length}
use Rattle.std.proofs.Common.{arith}
use Rattle.values.specs.Order.{is_less}
use Rattle.values.specs.Types.{layout}
use Rattle.values.specs.code.ByteTypes.{is_bytes}
use Rattle.values.specs.declared.datatypes.PrimitiveType.{PrimitiveType}
use Rattle.values.specs.laws.OrderLaws.{is_at_most}
use Rattle.values.specs.laws.SignedLaws.{back}
use Rattle.sheet.specs.Values.{number_of}
use Rattle.sheet.specs.laws.RecordLaws.{number_type}
use Rattle.summary.specs.EndValues.{compare_in}
use Rattle.summary.specs.code.Fitting.{EndsFit}
use Rattle.summary.specs.laws.EndLaws.{numbers_compared}
use Rattle.verdict.proofs.file.some_number_meets.Goals as goal

ends_ordered : (column : PrimitiveType) (low high : List ℕ) → is_bytes (layout column) ≡ false → EndsFit (layout column) low high
    → not (is_less (compare_in column high low)) ≡ true → number_of (length low) low ≤ℤ number_of (length high) high
ends_ordered column low high h fit e =
    let l = number_type column (length low) h fit.low in
    let k = number_type column (length high) h fit.high in
    let same : length high ≡ length low = cc in
    rw same ((is_at_most _ _).0 (rw (numbers_compared column (length low) l.is high low) at e))

pub some_meets-requires : goal.some_meets-requires
some_meets-requires c =
    let column = c.args.file.now.column in
    let fit = c.args.file.now.fitting c.in-Some.ends c.in-Some.is in
    let e = ends_ordered column _ _ c.requires.numbers fit (rw c.in-Some.is at c.requires.in_order) in
    grind (arith, back)
