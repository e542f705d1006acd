-- `calendar::YearGroups::leap` meets its contract: its test is the calendar's leap rule, for counts in their ranges. Assumes nothing.
use Rattle.transform.proofs.Groups.{leaps}
use Rattle.transform.proofs.calendar.YearGroups.leap.Goals as goal

pub returns : goal.returns
returns c =
    let g = c.args.self in
    leaps g.n100 g.n4 g.n1 c.requires
