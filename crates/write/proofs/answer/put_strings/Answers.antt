-- `answer::put_strings` meets its contract: to write the records that are left is to write them all. Assumes nothing.
use Prim.Native.Nat.{ℕ, zero, suc, ◌≤◌, ◌<◌}
use native.Mathlib.Omega.{arith}
use mathlib.Core.List.{List, [], ◌∷◌}
use mathlib.Core.Path.{refl, sym, ◌∙◌}
use denote.Ref.{Bor}
use lib.ListN.{length, get_or}
use Rattle.values.specs.code.Places.{AllOf}
use Rattle.values.specs.Types.{content_size}
use Rattle.write.specs.laws.AnswerSheetLaws.{head_then, next_left, turn, no_more}
use Rattle.values.specs.code.Lent.{each_now}
use Rattle.write.proofs.answer.put_strings.Goals as goal

abbrev held : Bor (List ℕ) → List ℕ
held x = x.now

-- what is read past the end
abbrev past : Bor (List ℕ)
past = record { ref_ptr = (0, 0); now = [] }

short_at : (xs : List (Bor (List ℕ))) (i : ℕ) → AllOf (λ (bs : List ℕ). length bs ≤ content_size) (each_now xs) → i < length xs
    → length (get_or xs i past).now ≤ content_size
short_at [] i h less = absurd (omega arith)
short_at (x ∷ xs) zero h less = h.0
short_at (x ∷ xs) (suc i) h less = short_at xs i h.1 (omega arith)

pub loop-i-init : goal.loop-i-init
loop-i-init c =
    let a = c.args in
    let next = c.next_after.ensures ∙ next_left held past a.literals.now 0 (omega arith) in
    sym (head_then a.operator a.to (each_now a.literals.now) a.d.now (omega arith) next c.put_head.ensures refl)

pub put_string-requires-clause-bs_len_bound : goal.put_string-requires-clause-bs_len_bound
put_string-requires-clause-bs_len_bound c = short_at c.args.literals.now c.loop-i.i c.requires.literals_fit (omega arith)

pub loop-i-preserved : goal.loop-i-preserved
loop-i-preserved c =
    let ls = c.args.literals.now in
    let i = c.loop-i.i in
    let short = short_at ls i c.requires.literals_fit (omega arith) in
    c.loop-i.invariant
    ∙ turn held past ls i c.loop-i.d (omega arith) (omega arith) short c.next_after-in-loop-i.ensures c.put_string.ensures

pub returns : goal.returns
returns c = sym (c.loop-i.invariant ∙ no_more held past c.args.literals.now c.loop-i.i c.loop-i.d (omega arith))
