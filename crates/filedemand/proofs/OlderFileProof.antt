-- Files of older writers known only by their ends: the clauses of `OlderFileDemand`, each from one on ends and one on rows that are filed. Assumes nothing.
use Rattle.files.specs.OlderFileDemand.{NoOlderRowInSkippedFile, OnlyRowsInWholeOlderFile, OlderFileDemand}
use Rattle.demand.proofs.OlderProof.{older_demand}
use Rattle.filedemand.proofs.FileDemandProof.{file_demand}

no_older_row_in_skipped_file : NoOlderRowInSkippedFile
no_older_row_in_skipped_file s q f v p filed covers returns skips met =
    file_demand.skip_loses_none q f p skips covers (older_demand.no_older_row_lost s q v p filed met returns)

only_rows_in_whole_older_file : OnlyRowsInWholeOlderFile
only_rows_in_whole_older_file s q f v p filed covers returns whole =
    older_demand.older_is_safe s q v p filed returns (file_demand.whole_takes_all q f p whole covers)

pub older_file_demand : OlderFileDemand
older_file_demand = record {
  no_older_row_in_skipped_file = no_older_row_in_skipped_file;
  only_rows_in_whole_older_file = only_rows_in_whole_older_file;
}
