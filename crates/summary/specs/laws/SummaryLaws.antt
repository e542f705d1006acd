-- What is no summary is 3. Assumes nothing.
use Rattle.std.specs.Prelude.{Bool, true, false, List, ℕ, refl, eqb, leb, length}
use Rattle.values.specs.Numbered.{find}
use Rattle.values.specs.Outcomes.{Row, missing, present}
use Rattle.values.specs.Types.{types, layout}
use Rattle.values.specs.Words.{word}
use Rattle.sheet.specs.Records.{record_at, value}
use Rattle.sheet.specs.laws.RefusalLaws.{OnlyMalformed, only_ok, only_err, only_bind, must, value_only, find_only}
use Rattle.summary.specs.Summaries.{type_at, flag_at, summary_size, says_none, highest_flag, ends_of, summary}

ends_only : {A : Type 0} (none : Bool) (low high : Row A) → OnlyMalformed (ends_of none low high)
ends_only true missing missing = only_ok
ends_only true missing (present h) = only_err refl
ends_only true (present l) h = only_err refl
ends_only false missing h = only_err refl
ends_only false (present l) missing = only_err refl
ends_only false (present l) (present h) = only_ok

pub summary_only : (f : List ℕ) → OnlyMalformed (summary f)
unfolding summary
summary_only f =
    must (eqb (length f) summary_size) _ (
    only_bind (find types (word type_at 1 f)) _ (find_only types (word type_at 1 f)) (λ column.
    must (leb (word flag_at 1 f) highest_flag) _ (
    only_bind (value (layout column) (record_at f 0)) _ (value_only (layout column) (record_at f 0)) (λ low.
    only_bind (value (layout column) (record_at f 1)) _ (value_only (layout column) (record_at f 1)) (λ high.
    only_bind (ends_of (says_none (word flag_at 1 f)) low high) _ (ends_only (says_none (word flag_at 1 f)) low high) (λ ends. only_ok))))))
