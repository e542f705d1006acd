-- `answer::put_numbers` meets its contract: to write the records that are left is to write them all. Assumes nothing.
use native.Mathlib.Omega.{arith}
use mathlib.Core.Bool.{true}
use mathlib.Core.List.{map}
use mathlib.Core.Path.{◌≡◌, refl, sym, ◌∙◌}
use lib.IntN.{ℤ, pos}
use lib.ListN.{get_or}
use Rattle.values.specs.laws.SignedLaws.{back}
use Rattle.values.specs.laws.RangeLaws.{in_type_long}
use Rattle.values.specs.Types.{layout, in_type}
use Rattle.write.specs.laws.AnswerSheetLaws.{head_then, next_left, turn, no_more, all_at}
use Rattle.write.specs.laws.WriteLaws.{length_number}
use Rattle.write.specs.Written.{number_bytes}
use Rattle.write.proofs.answer.put_numbers.Goals as goal

pub loop-i-init : goal.loop-i-init
loop-i-init c =
    let a = c.args in
    let f = number_bytes (layout a.to) in
    let ls = a.literals.now in
    sym (head_then a.operator a.to (map f ls) a.d.now (omega arith) (c.next_after.ensures ∙ next_left f (pos 0) ls 0 (omega arith)) c.put_head.ensures refl)

pub loop-i-preserved : goal.loop-i-preserved
loop-i-preserved c =
    let a = c.args in
    let f = number_bytes (layout a.to) in
    let i = c.loop-i.i in
    let z = get_or a.literals.now i (pos 0) in
    let inside : in_type a.to z ≡ true = all_at (λ (v : ℤ). in_type a.to v ≡ true) (pos 0) a.literals.now i c.requires.literals_fit (omega arith) in
    let put = rw (back (in_type_long a.to z inside)) at c.put_number.ensures in
    c.loop-i.invariant
    ∙ turn f (pos 0) a.literals.now i c.loop-i.d (omega arith) (omega arith) (length_number a.to z) c.next_after-in-loop-i.ensures put

pub returns : goal.returns
returns c =
    let a = c.args in
    sym (c.loop-i.invariant ∙ no_more (number_bytes (layout a.to)) (pos 0) a.literals.now c.loop-i.i c.loop-i.d (omega arith))
