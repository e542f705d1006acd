-- `records::few_zeros` meets its contract: after each part, what is left of the run answers for the whole. Assumes nothing.
use Prim.Native.Nat.{ℕ, ◌*◌, ◌/◌}
use native.Mathlib.Omega.{arith}
use mathlib.Core.Bool.{true}
use mathlib.Core.List.{List}
use mathlib.Core.Path.{◌≡◌}
use Rattle.sheet.proofs.Zeros.{Run, none, ends, goes_on, last, ended}
use Rattle.sheet.proofs.records.few_zeros.Goals as goal
use Rattle.sheet.proofs.records.few_zeros.Goals.{Joined-n-ge2, Joined-n-ge4, then-n-ge4+else-u32_at-ne0, else-n-ge4, then-n-ge2+else-u16_at-ne0, else-n-ge2}

-- the run is read as far as i, a multiple of m
record Far (s : List ℕ) (at n m i : ℕ) : Type 0 where
  run : Run s at n i true
  whole : i ≡ m * (n / m)

-- how far the run was read where the arms meet: past the four, and past the two
four-read : (c : Joined-n-ge4) → Far c.args.s.now c.args.at c.args.n 4 c.if-n-ge4.i
four-read c =
    let start = none c.args.s.now c.args.at c.args.n in
    elim c.if-n-ge4.branch [
      | then-n-ge4+else-u32_at-ne0 w ↦ record {
        run = rw w.i-is (goes_on start 4 w.u32_at.ensures w.if-n-ge4.true w.if-u32_at-ne0.false);
        whole = omega (arith, w.i-is, w.if-n-ge4.true);
      }
      | else-n-ge4 w ↦ record { run = rw w.i-is start; whole = omega (arith, w.i-is, w.if-n-ge4.false) }
    ]

two-read : (c : Joined-n-ge2) → Far c.args.s.now c.args.at c.args.n 4 c.if-n-ge4.i → Far c.args.s.now c.args.at c.args.n 2 c.if-n-ge2.i
two-read c r =
    elim c.if-n-ge2.branch [
      | then-n-ge2+else-u16_at-ne0 w ↦ record {
        run = rw w.i-is (goes_on r.run 2 w.u16_at.ensures (omega (arith, r.whole, w.if-n-ge2.true)) w.if-u16_at-ne0.false);
        whole = omega (arith, w.i-is, r.whole, w.if-n-ge2.true);
      }
      | else-n-ge2 w ↦ record { run = rw w.i-is r.run; whole = omega (arith, w.i-is, r.whole, w.if-n-ge2.false) }
    ]

pub returns-then-u32_at-ne0 : goal.returns-then-u32_at-ne0
returns-then-u32_at-ne0 c =
    let a = c.args in
    ends (none a.s.now a.at a.n) 4 c.u32_at.ensures (omega arith) c.if-u32_at-ne0.true

pub returns-then-u16_at-ne0 : goal.returns-then-u16_at-ne0
returns-then-u16_at-ne0 c =
    let r = four-read (goal.at.returns-then-u16_at-ne0 c).Joined-n-ge4 in
    ends r.run 2 c.u16_at.ensures (omega (arith, r.whole)) c.if-u16_at-ne0.true

pub returns-then-i-n : goal.returns-then-i-n
returns-then-i-n c =
    let at = goal.at.returns-then-i-n c in
    let r = two-read at.Joined-n-ge2 (four-read at.Joined-n-ge4) in
    last r.run (omega (arith, r.whole))

pub returns : goal.returns
returns c =
    let at = goal.at.returns c in
    ended (two-read at.Joined-n-ge2 (four-read at.Joined-n-ge4)).run c.if-i-n.false
