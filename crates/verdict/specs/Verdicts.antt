-- The verdict on a file of numbers known only by its ends, as document 02, #104, has it: over the values that the file may hold. Assumes nothing.
use Rattle.std.specs.Prelude.{ℕ, Bool, true, false, not, cond, List, [], ◌∷◌, ◌++◌, map, ◌≡◌, refl, ℤ, pos, negsuc}
use Rattle.values.specs.SomeEvery.{some, every}
use Rattle.values.specs.Order.{compare_numbers}
use Rattle.values.specs.Outcomes.{Row, missing, present}
use Rattle.expr.specs.Holds.{number_tests, holds}
use Rattle.expr.specs.Operators.{is_null, less_than, not_eq, is_in}
use Rattle.expr.specs.Predicates.{Predicate, unary, test, binary, set}
use Rattle.summary.specs.Summaries.{Ends, none_present, ◌to◌}
use Rattle.ends.specs.Between.{between}
use Rattle.verdict.specs.declared.verdict.Verdict.{Verdict}
use Rattle.verdict.specs.declared.verdict.Verdict.TheVariants.{Skip, Read, Whole}

-- ---- the values of a file

abbrev pub values_in : Ends ℤ → List ℤ
values_in none_present = []
values_in (low to high) = between low high

-- 02: each "value between the ends, or missing where flagged"
abbrev pub rows_in : Ends ℤ → Bool → List (Row ℤ)
rows_in ends has_missing = cond has_missing (missing ∷ []) [] ++ map present (values_in ends)

-- ---- the verdict

-- 02: "skip exactly if no value .. meets the predicate; whole exactly if all of them do; read otherwise. A summary with no present value and no missing one
-- is an empty file: skip"
abbrev pub verdict_of : {A : Type 0} → (A → Bool) → List A → Verdict
verdict_of meets rows = cond (not (some meets rows)) Skip (cond (every meets rows) Whole Read)

unfoldable pub number_verdict : Predicate ℤ → Ends ℤ → Bool → Verdict
number_verdict p ends has_missing = verdict_of (holds number_tests p) (rows_in ends has_missing)

-- 02: "write one byte .. 0 skip, 1 read or 2 whole"
abbrev pub verdict_number : Verdict → ℕ
verdict_number Skip = 0
verdict_number Read = 1
verdict_number Whole = 2

-- ---- examples: a file of numbers from -2 to 1
abbrev few : Ends ℤ
few = negsuc 1 to pos 1

abbrev below : ℤ → Predicate ℤ
below l = test (binary less_than l)

by_ends : (number_verdict (below (negsuc 1)) few false ≡ Skip) × (number_verdict (below (pos 0)) few false ≡ Read) × (number_verdict (below (pos 2)) few false ≡ Whole)
unfolding number_verdict between compare_numbers
by_ends = (refl, refl, refl)

-- -2, -1, 0 and 1 are all the values; without -1 one of them is left out
by_set : (number_verdict (test (set is_in (pos 1 ∷ negsuc 0 ∷ pos 0 ∷ negsuc 1 ∷ []))) few false ≡ Whole)
    × (number_verdict (test (set is_in (pos 1 ∷ pos 0 ∷ negsuc 1 ∷ []))) few false ≡ Read)
unfolding number_verdict between compare_numbers
by_set = (refl, refl)

-- a missing value does not meet < 2; without present values there are only those that are missing
by_flag : (number_verdict (below (pos 2)) few true ≡ Read) × (number_verdict (below (pos 2)) none_present true ≡ Skip)
    × (number_verdict (unary is_null) none_present true ≡ Whole)
unfolding number_verdict between compare_numbers
by_flag = (refl, refl, refl)

-- but it meets NotEq (02, #106): by NotEq 2 these files are taken whole with their missing values; by NotEq 1 a file of 1 alone is skipped, and read if a missing
-- value occurs
by_flag_and_not_eq : (number_verdict (test (binary not_eq (pos 2))) few true ≡ Whole) × (number_verdict (test (binary not_eq (pos 2))) none_present true ≡ Whole)
    × (number_verdict (test (binary not_eq (pos 1))) (pos 1 to pos 1) true ≡ Read) × (number_verdict (test (binary not_eq (pos 1))) (pos 1 to pos 1) false ≡ Skip)
unfolding number_verdict between compare_numbers
by_flag_and_not_eq = (refl, refl, refl, refl)

empty_file_lem : number_verdict (test (binary not_eq (pos 0))) none_present false ≡ Skip
unfolding number_verdict
empty_file_lem = refl
