-- Two files that are pooled: the pooled one covers what either covers, and each is skipped where it is. Assumes nothing.
use Prim.Native.Nat.{ℕ}
use mathlib.Core.Bool.{◌||◌}
use mathlib.Core.List.{List}
use mathlib.Core.Logic.{⊎_elim}
use mathlib.Core.Path.{sym, ◌∙◌}
use Rattle.values.specs.laws.OutcomeLaws.{going, gone}
use Rattle.expr.specs.Operators.{holds_limit}
use Rattle.sheet.specs.Sheets.{sheet}
use Rattle.summary.specs.EndValues.{compare_in}
use Rattle.pool.specs.laws.PoolLaws.{joined_ends}
use Rattle.files.specs.FileDemand.{Covers, Skips}
use Rattle.files.specs.PoolDemand.{PooledCoversEach, PooledSkipsEach, NoRowInSkippedPool}
use Rattle.files.specs.TestSummary.{test_summary}
use Rattle.filedemand.proofs.FileDemandProof.{file_demand}
use Rattle.filedemand.proofs.JoinedEnds.{Narrower, column_sorts, first_narrower, second_narrower}
use Rattle.filedemand.proofs.NarrowerFiles.{judged_narrower}
use Rattle.filedemand.proofs.PoolParts.{Sound, PoolParts, pool_parts, pooled_sound}
use Rattle.filedemand.proofs.VerdictParts.{covered, covers_row}

module _ {a b f : List ℕ} (p : PoolParts a b f) where
  -- each of the two is narrower than the pooled file
  abbrev InPool : {c : List ℕ} → Sound p.column c → Type 0
  InPool x =
      Narrower (compare_in p.column) x.ends x.has_missing (joined_ends (compare_in p.column) p.first.ends p.second.ends)
      (p.first.has_missing || p.second.has_missing)

  first_in : InPool p.first
  first_in = first_narrower (column_sorts p.column) p.first.ends p.second.ends p.first.has_missing p.second.has_missing

  second_in : InPool p.second
  second_in = second_narrower (column_sorts p.column) p.first.ends p.second.ends p.first.has_missing p.second.has_missing

  -- what holds of every narrower file
  module _ {c : List ℕ} (x : Sound p.column c) (in_pool : InPool x) where
    covered_too : (v : List ℕ) → Covers c v → Covers f v
    covered_too v e = let h = covered c x.is v e in covers_row f (pooled_sound p) v h.0 h.1 (in_pool h.0 h.2)

    skipped_too : (s : List ℕ) → Skips s f → Skips s c
    unfolding test_summary
    skipped_too s e =
        let y = gone (sheet holds_limit s) _ e in
        let skipped = sym (going _ (pooled_sound p)) ∙ y.2 in
        going _ y.1 ∙ going _ x.is
        ∙ judged_narrower p.column y.0.leaf x.ends _ x.has_missing _ in_pool x.in_order_lem y.0.head.column x.encoded skipped

pub pooled_covers_each : PooledCoversEach
pooled_covers_each a b f v pools =
    let p = pool_parts a b f pools in
    ⊎_elim (covered_too p p.first (first_in p) v) (covered_too p p.second (second_in p) v)

pub pooled_skips_each : PooledSkipsEach
pooled_skips_each s a b f pools e =
    let p = pool_parts a b f pools in
    (skipped_too p p.first (first_in p) s e, skipped_too p p.second (second_in p) s e)

pub no_row_in_skipped_pool : NoRowInSkippedPool
no_row_in_skipped_pool s q a b f v p row pools covers =
    file_demand.no_row_in_skipped_file s q f v p row (pooled_covers_each a b f p pools covers)
