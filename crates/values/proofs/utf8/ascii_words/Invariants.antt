-- `ascii_words` meets its contract. The loop's invariant: without the words that were passed the rest is UTF-8 just when the whole is. Assumes nothing.
use Rattle.std.proofs.Common.{◌≡◌, ◌*◌, drop}
use Rattle.values.specs.Utf8.{utf8}
use Rattle.values.proofs.utf8.ascii_words.Given as goal

abbrev pub invariant-loop-i : goal.invariant-loop-i
invariant-loop-i l = utf8 (drop (8 * l.i) l.s) ≡ utf8 l.s
