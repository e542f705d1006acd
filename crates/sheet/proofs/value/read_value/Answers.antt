-- `value::read_value` meets its contract: a record of another size is refused whatever it says, and the rest follows the definition. Assumes nothing.
use Rattle.std.proofs.Common.{sym, ◌∙◌}
use Rattle.sheet.proofs.ValueReads.{Opened, wrong_size, with_next_lem, missing_read, not_missing, present_read, not_present, room_present}
use Rattle.sheet.proofs.value.read_value.Goals as goal
use Rattle.sheet.proofs.value.read_value.Goals.{After-u16_at-2}

-- where both words of the header were read
opened : (c : After-u16_at-2) → Opened c.args.v.now c.u16_at-2.result
opened c = record { size = c.if-v-ne-RECORD_SIZE.false; first = sym c.u16_at.ensures ∙ c.if-u16_at-ne0.false; says = c.u16_at-2.ensures }

pub returns-then-v-ne-RECORD_SIZE : goal.returns-then-v-ne-RECORD_SIZE
returns-then-v-ne-RECORD_SIZE c = wrong_size c.args.column c.args.v.now c.if-v-ne-RECORD_SIZE.true

pub returns-then-u16_at-ne0 : goal.returns-then-u16_at-ne0
returns-then-u16_at-ne0 c = with_next_lem c.args.column c.args.v.now c.u16_at.result c.u16_at.ensures c.if-u16_at-ne0.true

pub returns-then-zeros : goal.returns-then-zeros
returns-then-zeros c =
    missing_read c.args.column (opened (goal.at.returns-then-zeros c).After-u16_at-2) c.if-u16_at-eq-MISSING_MARK.true (sym c.zeros.ensures ∙ c.if-zeros.true)

pub returns-then-u16_at-eq-MISSING_MARK : goal.returns-then-u16_at-eq-MISSING_MARK
returns-then-u16_at-eq-MISSING_MARK c =
    not_missing c.args.column (opened (goal.at.returns-then-u16_at-eq-MISSING_MARK c).After-u16_at-2) c.if-u16_at-eq-MISSING_MARK.true
    (sym c.zeros.ensures ∙ c.if-zeros.false)

pub content_of-requires-clause-k_bound : goal.content_of-requires-clause-k_bound
content_of-requires-clause-k_bound c = room_present c.args.column c.args.v.now (sym c.is_literal.ensures ∙ c.if-is_literal.true)

pub returns-then-is_literal : goal.returns-then-is_literal
returns-then-is_literal c =
    let o = opened (goal.at.returns-then-is_literal c).After-u16_at-2 in
    rw c.content_of.ensures (present_read c.args.column o c.if-u16_at-eq-MISSING_MARK.false (sym c.is_literal.ensures ∙ c.if-is_literal.true))

pub returns-else-is_literal : goal.returns-else-is_literal
returns-else-is_literal c =
    let o = opened (goal.at.returns-else-is_literal c).After-u16_at-2 in
    not_present c.args.column o c.if-u16_at-eq-MISSING_MARK.false (sym c.is_literal.ensures ∙ c.if-is_literal.false)
