-- `records::zeros` meets its contract. The loop's invariant: the words gathered so far, and the bytes that are left, a multiple of eight,
-- answer for the whole run. The measure is how many are left. Assumes nothing.
use Prim.Native.Nat.{◌-◌, ◌%◌}
use mathlib.Core.Path.{◌≡◌}
use lib.Dec.{eqb}
use Rattle.sheet.proofs.Zeros.{Run}
use Rattle.sheet.proofs.records.zeros.Given as goal

abbrev pub invariant-loop-i : goal.invariant-loop-i
invariant-loop-i l = Run l.s l.at l.n l.i (eqb l.all 0) × ((l.n - l.i) % 8 ≡ 0)

abbrev pub decreases-loop-i : goal.decreases-loop-i
decreases-loop-i l = l.n - l.i
