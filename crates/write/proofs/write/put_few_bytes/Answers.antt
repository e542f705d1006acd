-- `write::put_few_bytes` meets its contract: after each part, to write what is left is to write them all. Assumes nothing.
use Prim.Native.Nat.{ℕ, ◌+◌, ◌<◌}
use native.Mathlib.Omega.{arith}
use mathlib.Core.List.{List}
use mathlib.Core.Path.{refl}
use lib.ListN.{length, drop}
use Rattle.values.specs.Words.{over}
use Rattle.write.proofs.Copies.{Copied, word_copied, byte_copied, all_copied}
use Rattle.write.proofs.write.put_few_bytes.Goals as goal
use Rattle.write.proofs.write.put_few_bytes.Goals.{Joined-bs-i-ge2, Joined-bs-i-ge4, then-bs-i-ge4, else-bs-i-ge4, then-bs-i-ge2, else-bs-i-ge2}

-- the bytes before index i are copied, and fewer than m are left
abbrev Left : (at from : ℕ) → List ℕ → List ℕ → ℕ → ℕ → List ℕ → Type 0
Left at from bs d₀ m i d = Copied at bs d₀ (over (at + from) (drop from bs) d₀) i d × (length bs < i + m)

-- where the arms meet: past the four, and past the two
four-copied : (c : Joined-bs-i-ge4) → Left c.args.at c.args.from c.args.bs.now c.args.d.now 4 c.if-bs-i-ge4.i c.if-bs-i-ge4.d
four-copied c =
    let a = c.args in
    let start : Left a.at a.from a.bs.now a.d.now 8 a.from a.d.now = (record { within = c.requires.from_in_bounds; size = refl; same = refl }, c.requires.bs_len_bound) in
    elim c.if-bs-i-ge4.branch [
      | then-bs-i-ge4 w ↦ (
        rw (w.d-is, w.i-is) (word_copied c.requires.bs_in_bounds start.0 4 (omega (arith, w.if-bs-i-ge4.true)) (λ j. omega (arith, c.type_inv.bs j)) w.u32_at.ensures w.put_u32.ensures),
        omega (arith, w.i-is, w.if-bs-i-ge4.true),
      )
      | else-bs-i-ge4 w ↦ (rw (w.d-is, w.i-is) start.0, omega (arith, w.i-is, w.if-bs-i-ge4.false))
    ]

two-copied : (c : Joined-bs-i-ge2) → Left c.args.at c.args.from c.args.bs.now c.args.d.now 4 c.if-bs-i-ge4.i c.if-bs-i-ge4.d
    → Left c.args.at c.args.from c.args.bs.now c.args.d.now 2 c.if-bs-i-ge2.i c.if-bs-i-ge2.d
two-copied c four =
    elim c.if-bs-i-ge2.branch [
      | then-bs-i-ge2 w ↦ (
        rw (w.d-is, w.i-is) (word_copied c.requires.bs_in_bounds four.0 2 (omega (arith, w.if-bs-i-ge2.true)) (λ j. omega (arith, c.type_inv.bs j)) w.u16_at.ensures w.put_u16.ensures),
        omega (arith, w.i-is, w.if-bs-i-ge2.true, four.1),
      )
      | else-bs-i-ge2 w ↦ (rw (w.d-is, w.i-is) four.0, omega (arith, w.i-is, w.if-bs-i-ge2.false))
    ]

pub returns-then-i-bs : goal.returns-then-i-bs
returns-then-i-bs c =
    let g = goal.at.returns-then-i-bs c in
    let two = two-copied g.Joined-bs-i-ge2 (four-copied g.Joined-bs-i-ge4) in
    let room = c.requires.bs_in_bounds in
    all_copied room (byte_copied room two.0 c.if-i-bs.true) (omega (arith, two.1))

pub returns-else-i-bs : goal.returns-else-i-bs
returns-else-i-bs c =
    let g = goal.at.returns-else-i-bs c in
    all_copied c.requires.bs_in_bounds (two-copied g.Joined-bs-i-ge2 (four-copied g.Joined-bs-i-ge4)).0 c.if-i-bs.false
