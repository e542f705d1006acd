-- What the code of `ends` answers, as the definitions have it. Assumes nothing.
use Rattle.std.specs.Prelude.{ℕ, Bool, true, List}
use Rattle.expr.specs.Operators.{Operator, none, one, many}
use Rattle.ends.specs.RuledOut.{binary_ruled_out}

-- 02's table for an operator that takes one literal; the ends rule out all others
abbrev pub ruled_out_one : Operator → List ℕ → List ℕ → List ℕ → Bool
ruled_out_one (none o) low high l = true
ruled_out_one (one o) low high l = binary_ruled_out low high o l
ruled_out_one (many o) low high l = true
