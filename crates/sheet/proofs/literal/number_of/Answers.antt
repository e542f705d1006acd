-- `literal::number_of` meets its contract: each arm reads the number of its type's layout. Assumes nothing.
use Rattle.sheet.proofs.ColumnArms.{numbering}
use Rattle.sheet.proofs.literal.number_of.Goals as goal

pub returns-in-Int : goal.returns-in-Int
returns-in-Int c = search numbering

pub returns-in-Long : goal.returns-in-Long
returns-in-Long c = search numbering

pub returns-in-Date : goal.returns-in-Date
returns-in-Date c = search numbering

pub returns-in-Time : goal.returns-in-Time
returns-in-Time c = search numbering

pub returns-in-Timestamp : goal.returns-in-Timestamp
returns-in-Timestamp c = search numbering

pub returns-in-Timestamptz : goal.returns-in-Timestamptz
returns-in-Timestamptz c = search numbering

pub returns-in-TimestampNs : goal.returns-in-TimestampNs
returns-in-TimestampNs c = search numbering

pub returns-in-TimestamptzNs : goal.returns-in-TimestamptzNs
returns-in-TimestamptzNs c = search numbering
