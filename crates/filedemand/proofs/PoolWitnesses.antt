-- What `files` states of pooled summaries is about something: for each clause summaries, a sheet and records that meet what the clause asks; and a predicate that
-- skips two files and not the pooled one. Assumes nothing.
use Rattle.std.specs.Prelude.{Ok}
use Prim.Native.Nat.{ℕ}
use mathlib.Core.Bool.{Bool, true, false}
use mathlib.Core.List.{List, [], ◌∷◌, ◌++◌}
use mathlib.Core.Path.{◌≡◌, refl}
use lib.IntN.{ℤ, pos}
use Rattle.values.specs.Characters.{ascii}
use Rattle.values.specs.Order as order
use Rattle.values.specs.Order.{compare_numbers, compare_bytes}
use Rattle.values.specs.Outcomes.{Row, missing, present}
use Rattle.values.specs.Transforms.{transform_of}
use Rattle.values.specs.Words.{le_bytes, AllBytes}
use Rattle.values.specs.laws.WordLaws.{all_bytes}
use Rattle.values.specs.Types.{layout}
use Rattle.values.specs.declared.datatypes.PrimitiveType.TheVariants.{Int}
use Rattle.projection.specs.declared.question.Question.TheVariants.{Inclusive}
use Rattle.sheet.specs.Records.{content, value}
use Rattle.sheet.specs.Sheets.{head, sheet, fields}
use Rattle.sheet.specs.Values.{map_row}
use Rattle.write.specs.Written.{value_record, number_bytes, answer_sheet}
use Rattle.api.specs.Demand3.{Returns, RowOf}
use Rattle.api.specs.Requests.{sheet_of}
use Rattle.demand.proofs.RecordBytes.{both_bytes, record_bytes}
use Rattle.demand.proofs.Witnesses.{int, int_value, below300, at_most290, returned, starts_ab}
use Rattle.summary.specs.Summaries.{summary}
use Rattle.pool.specs.Pooling.{pool_of, pool, pooled}
use Rattle.verdict.specs.Judged.{judged}
use Rattle.verdict.specs.TextVerdicts.{text_verdict}
use Rattle.ends.specs.Between.{between}
use Rattle.verdict.specs.Verdicts.{number_verdict}
use Rattle.verdict.specs.declared.verdict.Verdict.TheVariants.{Read}
use Rattle.files.specs.FileDemand.{Covers, Skips}
use Rattle.files.specs.FileRequests.{summary_of}
use Rattle.files.specs.PoolDemand.{Pools, NoneIn}
use Rattle.files.specs.TestSummary.{test_summary}
use Rattle.filedemand.proofs.FileWitnesses.{high, empty_file, missing_alone, rows, held}

-- ---- files of an Int, from 300 to 303 and from 310 to 450; together they are skipped by ≤ 290
abbrev ints : Bool → ℤ → ℤ → List ℕ
ints true l h = summary_of 1 1 (int l) (int h)
ints false l h = summary_of 1 0 (int l) (int h)

abbrev higher : List ℕ
higher = ints false (pos 310) (pos 450)

abbrev group : List ℕ
group = ints false (pos 300) (pos 450)

grouped : Pools high higher group
unfolding pooled pool pool_of summary value content compare_numbers
grouped = refl

skipped : Skips at_most290 group
unfolding test_summary sheet fields head transform_of content value summary judged number_verdict between compare_numbers answer_sheet
skipped = refl

pub pooled_covers_each_asks : (a b f v : List ℕ) × Pools a b f × Covers a v
pooled_covers_each_asks = (high, higher, group, int_value (pos 300), grouped, held.0)

pub pooled_skips_each_asks : (s a b f : List ℕ) × Pools a b f × Skips s f
pooled_skips_each_asks = (at_most290, high, higher, group, grouped, skipped)

pub no_row_in_skipped_pool_asks : (s q a b f v p : List ℕ) × RowOf s p v × Pools a b f × Covers a p × Returns Inclusive s q × Skips q f
no_row_in_skipped_pool_asks =
    (below300, at_most290, high, higher, group, int_value (pos 305), int_value (pos 300), rows.0, grouped, held.0, returned.0, skipped)

-- 305 lies in neither of the two files, and the pooled one may hold it
abbrev is305 : List ℕ
is305 = sheet_of 205 1 0 0 (int (pos 305) ∷ [])

between_the_two : Skips is305 high × Skips is305 higher × (test_summary is305 group ≡ Ok Read)
unfolding test_summary sheet fields head transform_of content value summary judged number_verdict between compare_numbers
between_the_two = (refl, refl, refl)

pub wider_than_both : (s a b f : List ℕ) × Pools a b f × Skips s a × Skips s b × (test_summary s f ≡ Ok Read)
wider_than_both = (is305, high, higher, group, grouped, between_the_two.0, between_the_two.1, between_the_two.2)

-- ---- files of a Binary, from "ac" to "b" and from "ad" to "c", which StartsWith "ab" skips
abbrev binaries : List ℕ → List ℕ → List ℕ
binaries l h = summary_of 10 0 l h

binary_grouped : Pools (binaries (ascii "ac") (ascii "b")) (binaries (ascii "ad") (ascii "c")) (binaries (ascii "ac") (ascii "c"))
unfolding pooled pool pool_of summary value content compare_bytes
binary_grouped = refl

binary_skipped : Skips starts_ab (binaries (ascii "ac") (ascii "c"))
unfolding test_summary sheet fields head transform_of content value summary judged text_verdict compare_bytes order.starts_with answer_sheet
binary_skipped = refl

pub binary_pooled_skips_each_asks : (s a b f : List ℕ) × Pools a b f × Skips s f
binary_pooled_skips_each_asks =
    (starts_ab, binaries (ascii "ac") (ascii "b"), binaries (ascii "ad") (ascii "c"), binaries (ascii "ac") (ascii "c"), binary_grouped, binary_skipped)

-- ---- files without present values: the one of missing values adds its mark, the empty one nothing
abbrev int_record : Row ℤ → List ℕ
int_record r = value_record (map_row (λ z. number_bytes (layout Int) z) r)

summary_bytes : (flag : ℕ) (r q : Row ℤ) → AllBytes (int_record r ++ int_record q ++ le_bytes 1 1 ++ le_bytes 1 flag)
summary_bytes flag r q =
    both_bytes (int_record r ++ int_record q ++ le_bytes 1 1) (le_bytes 1 flag)
    (both_bytes (int_record r ++ int_record q) (le_bytes 1 1) (both_bytes (int_record r) (int_record q) (record_bytes Int r) (record_bytes Int q)) (all_bytes 1 1))
    (all_bytes 1 flag)

marks : NoneIn true missing_alone × Pools missing_alone high (ints true (pos 300) (pos 303))
unfolding pooled pool pool_of summary value content compare_numbers
marks = ((Int, refl), refl)

nothing : NoneIn false empty_file × Pools empty_file high high
unfolding pooled pool pool_of summary value content compare_numbers
nothing = ((Int, refl), refl)

pub adds_its_mark_asks : (e f g : List ℕ) × AllBytes e × AllBytes f × NoneIn true e × Pools e f g
adds_its_mark_asks =
    (missing_alone, high, ints true (pos 300) (pos 303), summary_bytes 3 missing missing, summary_bytes 0 (present (pos 300)) (present (pos 303)), marks.0, marks.1)

pub empty_adds_nothing_asks : (e f g : List ℕ) × AllBytes e × AllBytes f × NoneIn false e × Pools e f g
empty_adds_nothing_asks =
    (empty_file, high, high, summary_bytes 2 missing missing, summary_bytes 0 (present (pos 300)) (present (pos 303)), nothing.0, nothing.1)
