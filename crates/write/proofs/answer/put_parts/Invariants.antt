-- `answer::put_parts` meets its contract: to write the records that are left is to write them all. Assumes nothing.
use Rattle.std.specs.Prelude.{◌+◌, ◌*◌, ◌≡◌, map, drop}
use Rattle.values.specs.Words.{over}
use Rattle.sheet.specs.Records.{record_size}
use Rattle.sheet.specs.code.ReadAnswers.{part_at}
use Rattle.sheet.specs.code.SheetAnswers.{parts_of}
use Rattle.write.specs.Written.{answer_bytes, literal_records}
use Rattle.write.proofs.answer.put_parts.Given as goal

abbrev pub invariant-loop-i : goal.invariant-loop-i
invariant-loop-i l =
    let p = l.fn.parts in
    over 0 (answer_bytes l.fn.operator l.fn.to (parts_of p)) l.fn.d
    ≡ over (record_size * (l.i + 1)) (literal_records (l.i + 1) (map (part_at p.sheet.now p.sizes.now) (drop l.i p.records.now))) l.d
