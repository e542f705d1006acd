-- `literal::content_of` meets its contract: the part of the sheet is the part of its record. Assumes nothing.
use Prim.Native.Nat.{◌+◌, ◌-◌, ◌*◌}
use native.Mathlib.Omega.{arith}
use mathlib.Core.Path.{◌≡◌, ◌∙◌}
use Rattle.sheet.specs.laws.PartLaws.{length_here, content_here}
use Rattle.sheet.specs.Records.{header_size, record_size}
use Rattle.sheet.proofs.literal.content_of.Goals as goal

pub slice_bounds-result-end : goal.slice_bounds-result-end
slice_bounds-result-end c =
    let a = c.args in
    omega (arith, length_here a.s.now a.k)

pub returns : goal.returns
returns c =
    let a = c.args in
    let n = c.u16_at-n.result in
    let e : n ≡ _ = c.u16_at-n.ensures ∙ length_here a.s.now a.k in
    let size : record_size * a.k + header_size + n - (record_size * a.k + header_size) ≡ n = omega arith in
    rw (size, e) (content_here a.s.now a.k c.requires.k_bound)
