-- `literals::Literals::are_utf8` meets its contract. The loop's invariant: the literals from index i on answer for all. Assumes nothing.
use Rattle.std.specs.Prelude.{◌≡◌, map, length, take}
use lib.Seq.{slice}
use Rattle.sheet.specs.code.Placed.{content_at}
use Rattle.sheet.specs.code.Contents.{all_utf8}
use Rattle.sheet.proofs.literals.Literals.are_utf8.Given as goal

abbrev pub invariant-loop-i : goal.invariant-loop-i
invariant-loop-i l =
    let n = length l.self.records.now in
    all_utf8 (map (content_at l.self.sheet.now) (slice l.i n l.self.records.now)) ≡ all_utf8 (map (content_at l.self.sheet.now) (take n l.self.records.now))
