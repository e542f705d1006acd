-- `reader::read_sheet` meets its contract: size, head, chain and count are read in their order, and the first that fails is the answer. Assumes nothing.
use Rattle.std.proofs.Common.{rules, sym, ap, ◌∙◌}
use Rattle.std.specs.Prelude.{◌≡◌, ℕ, List, length, take, Ok}
use native.Mathlib.Nat.{zero-add}
use Rattle.values.specs.Types.{layout}
use Rattle.sheet.specs.code.ReadAnswers.{records_from}
use Rattle.sheet.proofs.SheetReads.{no_record, part_record, too_long, no_head, no_chain, wrong_count, sheet_made, walk_refused, walk_found, front_placed, front_contents}
use Rattle.sheet.specs.declared.head.Head.{Head}
use Rattle.sheet.proofs.reader.read_sheet.Goals as goal
use Rattle.sheet.proofs.reader.read_sheet.Goals.{Then-takes_count}

pub returns-then-size-eq0-clause-told : goal.returns-then-size-eq0-clause-told
returns-then-size-eq0-clause-told c = sym (no_record c.args.most c.args.s.now c.if-size-eq0.true)

pub returns-then-size-ne0-clause-told : goal.returns-then-size-ne0-clause-told
returns-then-size-ne0-clause-told c = sym (part_record c.args.most c.args.s.now c.if-size-eq0.false c.if-size-ne0.true)

pub returns-then-most-size-clause-told : goal.returns-then-most-size-clause-told
returns-then-most-size-clause-told c = sym (too_long c.args.most c.args.s.now c.if-size-eq0.false c.if-size-ne0.false c.if-most-size.true)

pub returns-in_err-head-clause-told : goal.returns-in_err-head-clause-told
returns-in_err-head-clause-told c =
    let none = no_head c.args.most c.args.s.now c.if-size-eq0.false c.if-size-ne0.false c.if-most-size.false (sym c.read_head.ensures ∙ c.in_err-head.was) in
    rw none (search rules)

pub returns-in_err-count-clause-told : goal.returns-in_err-count-clause-told
returns-in_err-count-clause-told c =
    let h = c.in_ok-head.head in
    let broken = walk_refused (records_from (layout h.column) c.args.s.now 0) (sym c.walk.ensures.value ∙ c.in_err-count.was) in
    let none = no_chain c.args.most c.args.s.now c.if-size-eq0.false c.if-size-ne0.false c.if-most-size.false h (sym c.read_head.ensures ∙ c.in_ok-head.was) broken in
    rw none (search rules)

-- the records' numbers that were found, which stand at the start of the records
record Found (h : Head) (s records : List ℕ) (count : ℕ) : Type 0 where
  ns : List ℕ
  is : records_from (layout h.column) s 0 ≡ Ok ns
  many : length ns ≡ count
  front : take count records ≡ ns

found : (c : Then-takes_count) → Found c.in_ok-head.head c.args.s.now c.walk.new.records c.in_ok-count.count
found c =
    let f = walk_found (records_from (layout c.in_ok-head.head.column) c.args.s.now 0) (sym c.walk.ensures.value ∙ c.in_ok-count.was) in
    let front = c.walk.ensures.stored.stored f.0 f.1 in
    record { ns = f.0; is = f.1; many = f.2; front = rw (f.2, zero-add) at front }

pub slice_bounds-result-end : goal.slice_bounds-result-end
slice_bounds-result-end c = let f = found c in sym (ap length f.front ∙ f.many)

pub invariant_of-result : goal.invariant_of-result
invariant_of-result c = let f = found c in record { placed = rw f.front (front_placed c.in_ok-head.head c.args.s.now f.is) }

pub invariant_of-result-then-takes_count : goal.invariant_of-result-then-takes_count
invariant_of-result-then-takes_count c =
    let f = found (goal.at.invariant_of-result-then-takes_count c).Then-takes_count in
    record { taken = rw (f.front, f.many) (sym c.takes_count.ensures ∙ c.if-takes_count.true) }

pub returns-then-takes_count-clause-told : goal.returns-then-takes_count-clause-told
returns-then-takes_count-clause-told c =
    let f = found (goal.at.returns-then-takes_count-clause-told c).Then-takes_count in
    let h = c.in_ok-head.head in
    let made = sheet_made c.args.most c.args.s.now c.if-size-eq0.false c.if-size-ne0.false c.if-most-size.false h (sym c.read_head.ensures ∙ c.in_ok-head.was) f.is
    (rw f.many (sym c.takes_count.ensures ∙ c.if-takes_count.true)) in
    rw (made, f.front, front_contents c.args.s.now f.ns)

pub returns-else-takes_count-clause-told : goal.returns-else-takes_count-clause-told
returns-else-takes_count-clause-told c =
    let h = c.in_ok-head.head in
    let f = walk_found (records_from (layout h.column) c.args.s.now 0) (sym c.walk.ensures.value ∙ c.in_ok-count.was) in
    sym
    (wrong_count c.args.most c.args.s.now c.if-size-eq0.false c.if-size-ne0.false c.if-most-size.false h (sym c.read_head.ensures ∙ c.in_ok-head.was) f.1
    (rw f.2 (sym c.takes_count.ensures ∙ c.if-takes_count.false)))
