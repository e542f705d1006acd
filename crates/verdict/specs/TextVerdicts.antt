-- The verdict on a file of strings or binaries known only by its ends, by document 02's table, #104. Assumes nothing.
use Rattle.std.specs.Prelude.{ℕ, Bool, true, false, not, cond, ◌&&◌, List, [], ◌∷◌, ◌≡◌, refl}
use Rattle.values.specs.Characters.{ascii}
use Rattle.values.specs.Order as order
use Rattle.values.specs.Order.{compare_bytes}
use Rattle.values.specs.Outcomes.{missing}
use Rattle.expr.specs.Holds.{bytes_tests, holds}
use Rattle.expr.specs.Operators.{is_null, not_null, eq, not_eq, starts_with, not_starts_with, is_in, not_in}
use Rattle.expr.specs.Predicates.{Predicate, unary, test, binary, set}
use Rattle.summary.specs.Summaries.{Ends, none_present, ◌to◌}
use Rattle.ends.specs.RuledOut.{ruled_out}
use Rattle.verdict.specs.declared.verdict.Verdict.{Verdict}
use Rattle.verdict.specs.declared.verdict.Verdict.TheVariants.{Skip, Read}

-- 02: "For strings and binaries .. whole isn't given"; a missing value, where flagged, is tested as any other
unfoldable pub text_verdict : Predicate (List ℕ) → Ends (List ℕ) → Bool → Verdict
text_verdict p ends has_missing = cond (ruled_out p ends && not (has_missing && holds bytes_tests p missing)) Skip Read

-- ---- examples: a file of lots from "ab" to "abz"
abbrev lots : Ends (List ℕ)
lots = ascii "ab" to ascii "abz"

-- every lot there starts with "ab"; "abc" may be there, and "b" is not
by_beginning : (text_verdict (test (binary not_starts_with (ascii "ab"))) lots false ≡ Skip)
    × (text_verdict (test (binary starts_with (ascii "abc"))) lots false ≡ Read)
    × (text_verdict (test (binary starts_with (ascii "b"))) lots false ≡ Skip)
unfolding text_verdict compare_bytes order.starts_with
by_beginning = (refl, refl, refl)

-- the lowest is above "a", and starts with it
starts_above : text_verdict (test (binary starts_with (ascii "a"))) lots false ≡ Read
unfolding text_verdict compare_bytes order.starts_with
starts_above = refl

-- NotNull is met by all of them, and the file is still to be read; so is one of a single value that Eq asks for, and one of missing values alone under IsNull
never_whole : (text_verdict (unary not_null) lots false ≡ Read) × (text_verdict (test (binary eq (ascii "ab"))) (ascii "ab" to ascii "ab") false ≡ Read)
    × (text_verdict (unary is_null) none_present true ≡ Read)
unfolding text_verdict compare_bytes
never_whole = (refl, refl, refl)

-- where no value is present, NotNull rules out a match as well
none_there : text_verdict (unary not_null) none_present true ≡ Skip
unfolding text_verdict
none_there = refl

-- both ends are the one excluded literal, among others too; both are excluded, and what lies between them is not
excluded : (text_verdict (test (binary not_eq (ascii "ab"))) (ascii "ab" to ascii "ab") false ≡ Skip)
    × (text_verdict (test (set not_in (ascii "a" ∷ ascii "ab" ∷ []))) (ascii "ab" to ascii "ab") false ≡ Skip)
    × (text_verdict (test (set not_in (ascii "ab" ∷ ascii "abz" ∷ []))) lots false ≡ Read)
unfolding text_verdict compare_bytes
excluded = (refl, refl, refl)

-- a missing lot differs from every literal (02, #106)
excluded_but_missing : (text_verdict (test (binary not_eq (ascii "ab"))) (ascii "ab" to ascii "ab") true ≡ Read)
    × (text_verdict (test (binary not_starts_with (ascii "ab"))) lots true ≡ Read)
    × (text_verdict (test (set not_in (ascii "ab" ∷ []))) none_present true ≡ Read)
    × (text_verdict (test (binary starts_with (ascii "b"))) lots true ≡ Skip)
unfolding text_verdict compare_bytes order.starts_with
excluded_but_missing = (refl, refl, refl, refl)

-- of no literal: every one lies outside the ends, and none is at both
of_none : (text_verdict (test (set is_in [])) lots false ≡ Skip) × (text_verdict (test (set not_in [])) lots false ≡ Read)
unfolding text_verdict
of_none = (refl, refl)
