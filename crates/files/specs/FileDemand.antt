-- Files known only by their ends lose no weighing: document 02, #104, over the bytes of the routines, and joined to demand 3. Sheets are s, answer sheets q,
-- summaries f, and value records v and p. Assumes nothing.
use Rattle.std.specs.Prelude.{ℕ, ◌<◌, Bool, true, List, ◌↔◌, ◌≡◌, Ok}
use Rattle.values.specs.Outcomes.{Res, ◌>>=◌}
use Rattle.values.specs.Types.{layout}
use Rattle.values.specs.Words.{AllBytes}
use Rattle.projection.specs.declared.question.Question.TheVariants.{Inclusive, Strict}
use Rattle.sheet.specs.Records.{value}
use Rattle.api.specs.Demand3.{type_in, Returns, Accepts, RowOf, Numeric}
use Rattle.summary.specs.EndValues.{compare_in, may_hold}
use Rattle.summary.specs.Summaries.{summary}
use Rattle.verdict.specs.declared.verdict.Verdict.{Verdict}
use Rattle.verdict.specs.declared.verdict.Verdict.TheVariants.{Skip, Whole}
use Rattle.files.specs.TestSummary.{test_summary}

-- ---- the values of a file

-- whether the file of a summary may hold the value of a record
unfoldable pub covers : List ℕ → List ℕ → Res Bool
covers f v = do
  file ← summary f
  row ← value (layout file.column) v
  Ok (may_hold (compare_in file.column) file.ends file.has_missing row)

abbrev pub Covers : List ℕ → List ℕ → Type 0
Covers f v = covers f v ≡ Ok true

abbrev pub Skips : List ℕ → List ℕ → Type 0
Skips s f = test_summary s f ≡ Ok Skip

abbrev pub Wholly : List ℕ → List ℕ → Type 0
Wholly s f = test_summary s f ≡ Ok Whole

-- ---- the verdict: records that are there, or that are asked for, are bytes; what is said of every record is said of every list of numbers
abbrev pub SomeCovered : List ℕ → Type 0
SomeCovered f = (v : List ℕ) × AllBytes v × Covers f v

module _ (s f : List ℕ) where
  abbrev pub NoneAccepted : Type 0
  NoneAccepted = (v : List ℕ) → AllBytes v → Covers f v → Accepts s v → ⊥

  abbrev pub AllAccepted : Type 0
  AllAccepted = (v : List ℕ) → AllBytes v → Covers f v → Accepts s v

-- "losing none": no value that a skipped file may hold meets the predicate, and every one that a file taken whole may hold meets it, whatever the type
abbrev pub SkipLosesNone : Type 0
SkipLosesNone = (s f v : List ℕ) → Skips s f → Covers f v → Accepts s v → ⊥

abbrev pub WholeTakesAll : Type 0
WholeTakesAll = (s f v : List ℕ) → Wholly s f → Covers f v → Accepts s v

-- of whole-number and time columns: "skip exactly if no value .. meets the predicate"
abbrev pub SkipIsExact : Type 0
SkipIsExact = (s f : List ℕ) (x : Verdict) → Numeric s → test_summary s f ≡ Ok x → (x ≡ Skip) ↔ NoneAccepted s f

-- "whole exactly if all of them do", and there is one: "an empty file: skip"
abbrev pub WholeIsExact : Type 0
WholeIsExact = (s f : List ℕ) (x : Verdict) → Numeric s → test_summary s f ≡ Ok x → (x ≡ Whole) ↔ (SomeCovered f × AllAccepted s f)

-- "For strings and binaries .. whole isn't given"; 01: "9 String, 10 Binary"
abbrev pub TextsNeverWhole : Type 0
TextsNeverWhole = (s f : List ℕ) → 8 < type_in s → Wholly s f → ⊥

-- ---- joined to demand 3: f is a file of partition values, and q was returned for the leaf s

-- no row that meets the leaf has its partition value in a file that the inclusive predicate skips
abbrev pub NoRowInSkippedFile : Type 0
NoRowInSkippedFile = (s q f v p : List ℕ) → RowOf s p v → Covers f p → Returns Inclusive s q → Skips q f → Accepts s v → ⊥

-- every row that has its partition value in a file that the strict predicate takes whole meets the leaf
abbrev pub OnlyRowsInWholeFile : Type 0
OnlyRowsInWholeFile = (s q f v p : List ℕ) → RowOf s p v → Covers f p → Returns Strict s q → Wholly q f → Accepts s v

pub record FileDemand : Type 0 where
  pub skip_loses_none : SkipLosesNone
  pub whole_takes_all : WholeTakesAll
  pub skip_is_exact : SkipIsExact
  pub whole_is_exact : WholeIsExact
  pub texts_never_whole : TextsNeverWhole
  pub no_row_in_skipped_file : NoRowInSkippedFile
  pub only_rows_in_whole_file : OnlyRowsInWholeFile
