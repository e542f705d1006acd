-- A summary that was read, as the definitions have it, and what its ends are asked. Assumes nothing.
use Rattle.std.specs.Prelude.{ℕ, Bool, true, not, ◌&&◌, ◌||◌, List, Ok, Err, Option, Some, None}
use Rattle.values.specs.Outcomes.{Res}
use Rattle.values.specs.Types.{same_type}
use Rattle.values.specs.Utf8.{utf8}
use Rattle.values.specs.declared.datatypes.PrimitiveType.{PrimitiveType}
use Rattle.values.specs.declared.datatypes.PrimitiveType.TheVariants.{String}
use Rattle.summary.specs.Summaries as summaries
use Rattle.summary.specs.Summaries.{none_present, ◌to◌}
use Rattle.summary.specs.declared.summary.Ends.{Ends}
use Rattle.summary.specs.declared.summary.Summary.{Summary}

-- the contents of the ends
abbrev pub ends_in : Option Ends → summaries.Ends (List ℕ)
ends_in None = none_present
ends_in (Some e) = e.lowest.now to e.highest.now

abbrev pub ends_told : Res (Option Ends) → Res (summaries.Ends (List ℕ))
ends_told (Ok ends) = Ok (ends_in ends)
ends_told (Err e) = Err e

-- the summary that it is
abbrev pub summary_of : Summary → summaries.Summary
summary_of x = record { column = x.column; ends = ends_in x.ends; has_missing = x.missing }

abbrev pub summary_told : Res Summary → Res summaries.Summary
summary_told (Ok x) = Ok (summary_of x)
summary_told (Err e) = Err e

-- whether the ends are UTF-8
abbrev pub ends_utf8 : summaries.Ends (List ℕ) → Bool
ends_utf8 none_present = true
ends_utf8 (l to h) = utf8 l && utf8 h

-- whether they are what their type asks for
abbrev pub ends_encoded : PrimitiveType → summaries.Ends (List ℕ) → Bool
ends_encoded column ends = not (same_type column String) || ends_utf8 ends
