-- `literal::beginning_of` meets its contract: the part of the sheet is the part of its record. Assumes nothing.
use Prim.Native.Nat.{◌+◌, ◌-◌, ◌*◌}
use native.Mathlib.Omega.{arith}
use mathlib.Core.Path.{◌≡◌, sym}
use Rattle.sheet.specs.laws.PartLaws.{in_record}
use Rattle.sheet.specs.Records.{header_size, record_size}
use Rattle.sheet.proofs.literal.beginning_of.Goals as goal

pub returns : goal.returns
returns c =
    let a = c.args in
    let size : record_size * a.k + header_size + a.n - (record_size * a.k + header_size) ≡ a.n = omega arith in
    rw size (sym (in_record a.s.now a.k header_size a.n (omega (arith, c.requires.n_le_content_size))))
