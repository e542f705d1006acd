-- `hexadecimal::put_hexadecimal` meets its contract. The loop's invariant: with the digits of the bytes that are left all is written. Assumes nothing.
use Rattle.std.specs.Prelude.{◌≡◌, ◌++◌, drop}
use Rattle.text.specs.Text.{hex_digits, hexadecimal}
use Rattle.text.proofs.hexadecimal.put_hexadecimal.Given as goal

abbrev pub invariant-loop-b : goal.invariant-loop-b
invariant-loop-b g l = l.out.items ++ hex_digits (drop l.b-index l.bs) ≡ l.fn.out.items ++ hexadecimal l.bs
