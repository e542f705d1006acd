-- `reader::read_summary` meets its contract: where all but the ends was read, the ends decide. Assumes nothing.
use Rattle.std.proofs.Common.{rules, sym, ◌∙◌}
use Rattle.std.specs.Prelude.{option_copied}
use Rattle.summary.proofs.SummaryReads.{Read, value_found, no_ends, summary_made, ends_fit}
use Rattle.summary.proofs.reader.read_summary.Goals as goal
use Rattle.summary.proofs.reader.read_summary.Goals.{After-ends_of}

read : (c : After-ends_of) → Read c.args.f.now c.in_ok-column.column (option_copied c.in_ok-lowest.lowest) (option_copied c.in_ok-highest.highest)
read c = record {
  sized = c.if-f-ne-SUMMARY_SIZE.false;
  typed = sym c.try_from.ensures ∙ c.in_ok-column.was;
  flagged = c.if-flag.false;
  lowest = value_found c.in_ok-column.column c.read_value.ensures c.record_in.ensures.bytes c.in_ok-lowest.was;
  highest = value_found c.in_ok-column.column c.read_value-2.ensures c.record_in-2.ensures.bytes c.in_ok-highest.was;
}

pub returns-in_err-ends : goal.returns-in_err-ends
returns-in_err-ends c = let none = no_ends (read (goal.at.returns-in_err-ends c).After-ends_of) c.ends_of.ensures c.in_err-ends.was in rw none (search rules)

pub invariant_of-result : goal.invariant_of-result
invariant_of-result c = record { fitting = ends_fit (read (goal.at.invariant_of-result c).After-ends_of) c.ends_of.ensures c.in_ok-ends.was }

pub returns : goal.returns
returns c = summary_made (read (goal.at.returns c).After-ends_of) c.ends_of.ensures c.in_ok-ends.was
