-- `answer::put_numbers` meets its contract: to write the records that are left is to write them all. Assumes nothing.
use Prim.Native.Nat.{◌+◌, ◌*◌}
use mathlib.Core.List.{map}
use mathlib.Core.Path.{◌≡◌}
use lib.ListN.{drop}
use Rattle.values.specs.Types.{layout}
use Rattle.values.specs.Words.{over}
use Rattle.sheet.specs.Records.{record_size}
use Rattle.write.specs.Written.{answer_bytes, literal_records, number_bytes}
use Rattle.write.proofs.answer.put_numbers.Given as goal

abbrev pub invariant-loop-i : goal.invariant-loop-i
invariant-loop-i l =
    over 0 (answer_bytes l.fn.operator l.fn.to (map (number_bytes (layout l.fn.to)) l.literals)) l.fn.d
    ≡ over (record_size * (l.i + 1)) (literal_records (l.i + 1) (map (number_bytes (layout l.fn.to)) (drop l.i l.literals))) l.d
