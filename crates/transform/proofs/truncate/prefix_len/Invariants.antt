-- The bytes passed and those that the loop has yet to pass are the first width code points. Assumes nothing.
use Prim.Native.Nat.{◌+◌}
use mathlib.Core.Path.{◌≡◌}
use lib.ListN.{length, drop}
use Rattle.transform.specs.Truncate.{first_code_points}
use Rattle.transform.proofs.Passed.{to_pass}
use Rattle.transform.proofs.truncate.prefix_len.Given as goal

abbrev pub invariant-loop-i : goal.invariant-loop-i
invariant-loop-i l = l.i + to_pass l.i (drop l.i l.s) l.left ≡ length (first_code_points l.width l.s)
