-- `literal::is_literal` meets its contract: a length of the type leaves room in the record, and the run of zeros is what the test asks besides.
-- Assumes nothing.
use Prim.Native.Nat.{◌+◌, ◌-◌, ◌*◌, ◌≤◌}
use mathlib.Core.Bool.{Bool, true}
use mathlib.Core.Path.{◌≡◌, sym, ◌∙◌}
use Rattle.values.specs.Types.{layout, fits, content_size}
use Rattle.values.specs.Words.{zero_at}
use Rattle.sheet.specs.code.ReadAnswers.{is_ok}
use Rattle.sheet.specs.laws.RecordLaws.{fits_room}
use Rattle.sheet.specs.Records.{header_size, record_size, content, record_at}
use Rattle.sheet.specs.laws.PartLaws.{literal_refused, literal_tested}
use Rattle.sheet.proofs.literal.is_literal.Goals as goal
use Rattle.sheet.proofs.literal.is_literal.Goals.{Else-not-length_fits}

-- past the first test the length is one of the type
typed : (c : Else-not-length_fits) → fits (layout c.args.column) c.u16_at-n.result ≡ true
typed c = sym c.length_fits.ensures ∙ c.if-not-length_fits.false

room : (c : Else-not-length_fits) → c.u16_at-n.result ≤ content_size
room c = fits_room c.args.column _ (typed c)

tested : (c : Else-not-length_fits) {r : Bool} → let a = c.args in let n = c.u16_at-n.result in
    r ≡ zero_at (record_size * a.k + header_size + n) (content_size - n) a.s.now → r ≡ is_ok (content (layout a.column) (record_at a.s.now a.k))
tested c =
    let u = c.u16_at-n in
    literal_tested _ _ _ u.result c.requires u.ensures (typed c) (room c)

pub returns-then-not-length_fits : goal.returns-then-not-length_fits
returns-then-not-length_fits c =
    let u = c.u16_at-n in
    literal_refused _ _ _ u.result c.requires u.ensures (sym c.length_fits.ensures ∙ c.if-not-length_fits.true)

pub returns-then-n-eq8 : goal.returns-then-n-eq8
returns-then-n-eq8 c = tested (goal.at.returns-then-n-eq8 c).Else-not-length_fits (rw c.if-n-eq8.true c.zeros.ensures)

pub returns : goal.returns
returns c = tested (goal.at.returns c).Else-not-length_fits c.zeros-2.ensures
