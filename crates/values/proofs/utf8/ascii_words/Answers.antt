-- `ascii_words` meets its contract: a word of ASCII at the start changes nothing. Assumes nothing.
use Rattle.std.proofs.Common.{ℕ, sym, ap, ◌∙◌, arith}
use lib.Bits.{bit_and}
use Rattle.values.proofs.Ascii.{ascii_word}
use Rattle.values.proofs.utf8.ascii_words.Goals as goal

pub loop-i-preserved : goal.loop-i-preserved
loop-i-preserved c =
    let clear = ap (λ (w : ℕ). bit_and w 0x8080808080808080) (sym c.u64_at.ensures) ∙ c.if-u64_at-ne0.false in
    ascii_word c.loop-i.i c.args.s.now (λ j. omega (arith, c.type_inv.s j)) (omega arith) clear ∙ c.loop-i.invariant
