-- `chain::count_from` meets its contract: the next literal is stored behind those before it, and the end of the chain, or its break, ends the walk. Assumes nothing.
use Rattle.std.specs.Prelude.{ℕ, Ok}
use Rattle.std.proofs.Common.{arith, ap, ◌∙◌, length-set}
use Rattle.values.specs.Types.{layout}
use Rattle.sheet.specs.laws.WalkLaws.{Next, tells, walk_ends, walk_breaks, walk_goes_on}
use Rattle.sheet.proofs.Walks.{Ends, ended, broken, gone_on}
use Rattle.sheet.specs.code.ReadAnswers.{broken_chain}
use Rattle.sheet.proofs.chain.+count_from.Goals as goal
use Rattle.sheet.proofs.chain.+count_from.Goals.{In-Ok-Some, In-Err, In-Ok-None}

-- the literal that goes on with the chain
here : (t : ℕ) (c : In-Ok-Some t) → Next (layout c.args.column) c.args.s.now c.args.at c.in-Ok-Some.next
here t c = walk_goes_on (tells c.literal_after.ensures c.requires.at_bound) (c.in-Ok-Some.is ∙ ap Ok c.in-Ok-Some.field-0-is)

stops : (t : ℕ) (c : In-Err t) → Ends (layout c.args.column) c.args.s.now c.args.at c.args.filled c.args.records.now broken_chain c.args.records.now
stops t c = broken (walk_breaks (tells c.literal_after.ensures c.requires.at_bound) c.in-Err.is)

none : (t : ℕ) (c : In-Ok-None t) → Ends (layout c.args.column) c.args.s.now c.args.at c.args.filled c.args.records.now c.args.filled c.args.records.now
none t c = ended (walk_ends (tells c.literal_after.ensures c.requires.at_bound) (c.in-Ok-None.is ∙ ap Ok c.in-Ok-None.field-0-is))

pub overflow_cast-records : goal.overflow_cast-records
overflow_cast-records t c = let below = (here t (goal.at.overflow_cast-records t c).In-Ok-Some).below in omega arith

pub bounds-records-filled : goal.bounds-records-filled
bounds-records-filled t c =
    let x = here t (goal.at.bounds-records-filled t c).In-Ok-Some in
    let above = x.above in
    let below = x.below in
    omega arith

pub count_from-requires : goal.count_from-requires
count_from-requires t c =
    let x = here t (goal.at.count_from-requires t c).In-Ok-Some in
    let above = x.above in
    let below = x.below in
    let sized = length-set c.args.records.now c.args.filled c.in-Ok-Some.next in
    (omega arith, (omega arith, (omega arith, (omega arith, omega arith))))

pub returns-in-Err : goal.returns-in-Err
returns-in-Err t c = let e = stops t (goal.at.returns-in-Err t c).In-Err in record { value = e.value; stored = e.stored }

pub returns-in-Ok-None : goal.returns-in-Ok-None
returns-in-Ok-None t c = let e = none t (goal.at.returns-in-Ok-None t c).In-Ok-None in record { value = e.value; stored = e.stored }

pub returns-in-Ok-Some : goal.returns-in-Ok-Some
returns-in-Ok-Some t c =
    let x = here t (goal.at.returns-in-Ok-Some t c).In-Ok-Some in
    let above = x.above in
    let below = x.below in
    let e = gone_on {before = c.args.records.now} x (omega arith) (record { value = c.count_from.ensures.value; stored = c.count_from.ensures.stored }) in
    record { value = e.value; stored = e.stored }
