-- A pooled summary stands for both files: all that `files` states of it. Assumes nothing.
use Rattle.files.specs.PoolDemand.{PoolDemand}
use Rattle.filedemand.proofs.PoolBytes.{pooled_is_summary, pooled_again, adds_its_mark, empty_adds_nothing, either_order}
use Rattle.filedemand.proofs.PoolFiles.{pooled_covers_each, pooled_skips_each, no_row_in_skipped_pool}

pub pool_demand : PoolDemand
pool_demand = record {
  pooled_is_summary = pooled_is_summary;
  pooled_again = pooled_again;
  pooled_covers_each = pooled_covers_each;
  pooled_skips_each = pooled_skips_each;
  no_row_in_skipped_pool = no_row_in_skipped_pool;
  adds_its_mark = adds_its_mark;
  empty_adds_nothing = empty_adds_nothing;
  either_order = either_order;
}
