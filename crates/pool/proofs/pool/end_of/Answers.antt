-- `pool::end_of` meets its contract: two summaries that are pooled have two records each. Assumes nothing.
use Rattle.std.specs.Prelude.{◌≡◌, ℕ, ◌*◌, ◌≤◌, List, length, Ok}
use Rattle.std.proofs.Common.{arith, sym, ◌∙◌}
use Rattle.values.specs.laws.OutcomeLaws.{gone}
use Rattle.sheet.specs.Records.{record_size}
use Rattle.summary.specs.Summaries.{summary}
use Rattle.summary.specs.laws.SummaryBytesLaws.{summary_parts}
use Rattle.pool.specs.Pooling.{pool}
use Rattle.pool.specs.declared.pool.Pooled.{Pooled}
use Rattle.pool.proofs.pool.end_of.Goals as goal

both_there : (f g : List ℕ) {p : Pooled} → pool f g ≡ Ok p → (record_size * 2 ≤ length f) × (record_size * 2 ≤ length g)
unfolding pool
both_there f g e =
    let x = gone (summary f) _ e in
    let y = gone (summary g) _ x.2 in
    let a = (summary_parts f x.0 x.1).sized in
    let b = (summary_parts g y.0 y.1).sized in
    (omega (arith, a), omega (arith, b))

pub record_of-requires : goal.record_of-requires
record_of-requires c =
    let there = both_there c.args.first.now c.args.second.now (sym c.pool.ensures ∙ c.in-Ok.is) in
    record { k_in_bounds = omega (arith, there.0, c.requires); k_in_bounds_2 = omega (arith, there.1, c.requires) }
