-- `string::put_projection` meets its contract. Assumes nothing.
use Rattle.std.proofs.Common.{sym, ap, ◌∙◌, [], ◌∷◌}
use Rattle.strings.specs.code.Prefixes.{bytes_projected}
use Rattle.answers.specs.code.Leaves.{one_bytes_written}
use Rattle.answers.specs.laws.BytesLeafLaws.{answer_length, one_written}
use Rattle.answers.specs.laws.SettledLaws.{settled_written}
use Rattle.answers.proofs.string.put_projection.Goals as goal

pub returns : goal.returns
returns c =
    let a = c.args in
    let o = c.in_ok-operator.operator in
    let t = c.in_ok-operator.part.now in
    let short = rw c.in_ok-operator.was at c.requires.no_longer in
    let one = rw c.in_ok-operator.was at c.requires.one_literal in
    settled_written
    (ap (λ q. one_bytes_written a.to (bytes_projected q)) c.in_ok-operator.was ∙ one_written a.to t o one)
    (sym (answer_length o a.to (t ∷ []) (short, tt)))
    c.put_strings.ensures
