-- Files of older writers known only by their ends: document 02, #107, joined to #104, over the bytes of the routines. Sheets are s, answer sheets q, summaries f,
-- and value records v and p. Assumes nothing.
use Rattle.std.specs.Prelude.{ℕ, List}
use Rattle.projection.specs.declared.question.Question.TheVariants.{Inclusive, Older}
use Rattle.api.specs.Demand3.{Returns, Accepts}
use Rattle.api.specs.OlderDemand.{Filed}
use Rattle.files.specs.FileDemand.{Covers, Skips, Wholly}

-- no row that meets the leaf is filed in a file that the inclusive predicate skips
abbrev pub NoOlderRowInSkippedFile : Type 0
NoOlderRowInSkippedFile = (s q f v p : List ℕ) → Filed s p v → Covers f p → Returns Inclusive s q → Skips q f → Accepts s v → ⊥

-- every row that is filed in a file that the third question's predicate takes whole meets the leaf
abbrev pub OnlyRowsInWholeOlderFile : Type 0
OnlyRowsInWholeOlderFile = (s q f v p : List ℕ) → Filed s p v → Covers f p → Returns Older s q → Wholly q f → Accepts s v

pub record OlderFileDemand : Type 0 where
  pub no_older_row_in_skipped_file : NoOlderRowInSkippedFile
  pub only_rows_in_whole_older_file : OnlyRowsInWholeOlderFile
