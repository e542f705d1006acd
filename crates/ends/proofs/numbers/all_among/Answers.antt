-- `numbers::all_among` meets its contract: fewer literals than numbers are not all of them. Assumes nothing.
use Rattle.std.proofs.Common.{arith}
use Rattle.ends.proofs.Scans.{far_apart}
use Rattle.ends.proofs.numbers.all_among.Goals as goal

pub returns-then-distance-len : goal.returns-then-distance-len
returns-then-distance-len c = far_apart c.ranges.low c.ranges.high c.args.literals c.requires (omega arith)
