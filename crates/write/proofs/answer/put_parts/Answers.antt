-- `answer::put_parts` meets its contract: to write the records that are left is to write them all. Assumes nothing.
use Rattle.std.proofs.Common.{arith, ◌≤◌, ◌<◌, ℕ, sym, ◌∙◌, refl, length, map, get_or, drop, length-take}
use Rattle.std.proofs.Math.Seq.{take-length}
use Rattle.values.specs.Types.{content_size}
use Rattle.sheet.specs.Records.{header_size, record_at}
use Rattle.sheet.specs.code.ReadAnswers.{part_at}
use Rattle.sheet.specs.declared.parts.ContentParts.{ContentParts}
use Rattle.write.specs.laws.AnswerSheetLaws.{head_then, next_left, turn, no_more}
use Rattle.write.proofs.answer.put_parts.Goals as goal

part_short : (p : ContentParts) (i : ℕ) → i < length p.records.now → length (part_at p.sheet.now p.sizes.now (get_or p.records.now i 0)) ≤ content_size
part_short p i less =
    let k = get_or p.records.now i 0 in
    omega (arith, (p.parts.each i less).short, length-take (get_or p.sizes.now k 0) (drop header_size (record_at p.sheet.now k)))

pub loop-i-init : goal.loop-i-init
loop-i-init c =
    let a = c.args in
    let p = a.parts in
    let next = (rw c.len-n.ensures at c.next_after.ensures) ∙ next_left (part_at p.sheet.now p.sizes.now) 0 p.records.now 0 (omega arith) in
    let contents = map (part_at p.sheet.now p.sizes.now) p.records.now in
    rw (take-length p.records.now) (sym (head_then a.operator a.to contents a.d.now (omega arith) next c.put_head.ensures refl))

pub loop-i-preserved : goal.loop-i-preserved
loop-i-preserved c =
    let p = c.args.parts in
    let i = c.loop-i.i in
    let less : i < length p.records.now = omega (arith, c.loop-i-test.true, c.len-n.ensures) in
    c.loop-i.invariant
    ∙ turn (part_at p.sheet.now p.sizes.now) 0 p.records.now i c.loop-i.d less (omega arith) (part_short p i less)
    (rw c.len-n.ensures at c.next_after-in-loop-i.ensures) (rw c.content.ensures at c.put_string.ensures)

pub returns : goal.returns
returns c =
    let p = c.args.parts in
    sym (c.loop-i.invariant ∙ no_more (part_at p.sheet.now p.sizes.now) 0 p.records.now c.loop-i.i c.loop-i.d (omega (arith, c.loop-i-test.false, c.len-n.ensures)))
