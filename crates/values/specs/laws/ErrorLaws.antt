-- The numbers of the refusals: 0, 1 and 2 are other answers', and two digits are enough. Assumes nothing.
use Rattle.std.specs.Prelude.{◌<◌, ◌≤◌}
use Rattle.std.proofs.Common.{arith}
use Rattle.values.specs.Outcomes.{error_number}
use Rattle.values.specs.declared.error.ErrorKind.{ErrorKind}
use Rattle.values.specs.declared.error.ErrorKind.TheVariants.{Malformed, NotUtf8, NoResultType, DataInvalid, FeatureUnsupported, Overflow, OutsideGrammar, TooLarge, WrongSummary, DifferentTypes}

pub error_range : (e : ErrorKind) → (3 ≤ error_number e) × (error_number e < 100)
error_range Malformed = (omega arith, omega arith)
error_range NotUtf8 = (omega arith, omega arith)
error_range NoResultType = (omega arith, omega arith)
error_range DataInvalid = (omega arith, omega arith)
error_range FeatureUnsupported = (omega arith, omega arith)
error_range Overflow = (omega arith, omega arith)
error_range OutsideGrammar = (omega arith, omega arith)
error_range TooLarge = (omega arith, omega arith)
error_range WrongSummary = (omega arith, omega arith)
error_range DifferentTypes = (omega arith, omega arith)
