-- `chain::count_from` meets its contract. The measure is how many records are left. Assumes nothing.
use Rattle.std.proofs.Common.{◌-◌}
use Rattle.sheet.specs.Records.{record_count}
use Rattle.sheet.proofs.chain.+count_from.Given as goal

abbrev pub decreases-count_from : goal.decreases-count_from
decreases-count_from l = record_count l.s.now - l.at
