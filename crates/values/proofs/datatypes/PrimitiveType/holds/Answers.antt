-- `values::datatypes::PrimitiveType::holds` meets its contract: each arm answers for its type's layout. Assumes nothing.
use Rattle.values.proofs.Held.{held}
use Rattle.values.proofs.datatypes.PrimitiveType.holds.Goals as goal

pub returns-in-Int : goal.returns-in-Int
returns-in-Int c = search held

pub returns-in-Long : goal.returns-in-Long
returns-in-Long c = search held

pub returns-in-Date : goal.returns-in-Date
returns-in-Date c = search held

pub returns-in-Time : goal.returns-in-Time
returns-in-Time c = search held

pub returns-in-Timestamp : goal.returns-in-Timestamp
returns-in-Timestamp c = search held

pub returns-in-Timestamptz : goal.returns-in-Timestamptz
returns-in-Timestamptz c = search held

pub returns-in-TimestampNs : goal.returns-in-TimestampNs
returns-in-TimestampNs c = search held

pub returns-in-TimestamptzNs : goal.returns-in-TimestamptzNs
returns-in-TimestamptzNs c = search held

pub returns-in-String : goal.returns-in-String
returns-in-String c = search held

pub returns-in-Binary : goal.returns-in-Binary
returns-in-Binary c = search held
