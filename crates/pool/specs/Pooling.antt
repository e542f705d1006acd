-- One summary for two files, document 02, #105: whose the ends are, what is marked, and the bytes of the pooled summary. Assumes nothing.
use Rattle.std.specs.Prelude.{ℕ, Bool, true, false, ◌||◌, List, [], ◌∷◌, ◌++◌, ◌≡◌, refl, ℤ, pos, negsuc, Ok, Err}
use Rattle.values.specs.Characters.{ascii}
use Rattle.values.specs.Order.{compare_numbers, compare_bytes, is_less}
use Rattle.values.specs.Outcomes.{Res, need, ◌>>=◌, ◌>>◌}
use Rattle.values.specs.Types.{same_type}
use Rattle.values.specs.Utf8.{is_code_point, code_points, utf8}
use Rattle.values.specs.Words.{field, signed_bytes}
use Rattle.values.specs.declared.datatypes.PrimitiveType.{PrimitiveType}
use Rattle.values.specs.declared.datatypes.PrimitiveType.TheVariants.{Int, Long, String, Binary}
use Rattle.values.specs.declared.error.ErrorKind.TheVariants.{NotUtf8, WrongSummary, DifferentTypes}
use Rattle.std.specs.declared.cmp.Ordering.{Ordering}
use Rattle.sheet.specs.Records.{record_at}
use Rattle.sheet.specs.Values.{read_bytes}
use Rattle.summary.specs.EndValues.{read_ends, compare_in, ordered}
use Rattle.summary.specs.Summaries.{Ends, none_present, ◌to◌, some_present, Summary, type_at, flag_of, summary}
use Rattle.pool.specs.declared.pool.Pooled.{Pooled}
use Rattle.pool.specs.declared.pool.Whose.{Whose}
use Rattle.pool.specs.declared.pool.Whose.TheVariants.{First, Second}

-- ---- whose the ends are

-- 02: "the bytes of one of the two": what the first file has, or the second
abbrev pub of : {A : Type 0} → Whose → A → A → A
of First a b = a
of Second a b = b

-- the second's where it is the better one; 02: "equal ends give the first file's"
abbrev pub second_where : Bool → Whose
second_where true = Second
second_where false = First

-- 02: "the lower of the lowest ends, the higher of the highest". "A file with no present value adds only its missing mark": both ends are then the other's, and
-- where neither has a present value the first's
module _ {A : Type 0} (compare : A → A → Ordering) where
  abbrev pub whose_lowest : Ends A → Ends A → Whose
  whose_lowest x none_present = First
  whose_lowest none_present (m to k) = Second
  whose_lowest (l to h) (m to k) = second_where (is_less (compare m l))

  abbrev pub whose_highest : Ends A → Ends A → Whose
  whose_highest x none_present = First
  whose_highest none_present (m to k) = Second
  whose_highest (l to h) (m to k) = second_where (is_less (compare h k))

-- ---- the pooled summary

-- 02: "missing if either has it"; a value is present if either has one
abbrev pub joined : PrimitiveType → Ends (List ℕ) → Bool → Ends (List ℕ) → Bool → Pooled
joined column xs xMissing ys yMissing = record {
  lowest = whose_lowest (compare_in column) xs ys;
  highest = whose_highest (compare_in column) xs ys;
  flag = flag_of (xMissing || yMissing) (some_present xs || some_present ys);
}

-- 01: "4: a String literal or value is not UTF-8". 02: "11 a summary whose lowest is above its highest", "12 the two summaries have different types, after 11"
unfoldable pub pool_of : Summary → Summary → Res Pooled
pool_of x y = do
  xs ← read_ends (read_bytes x.column) x.ends
  ys ← read_ends (read_bytes y.column) y.ends
  need (ordered (compare_in x.column) xs) WrongSummary
  need (ordered (compare_in y.column) ys) WrongSummary
  need (same_type x.column y.column) DifferentTypes
  Ok (joined x.column xs x.has_missing ys y.has_missing)

-- 3 of either file, and then the rest
unfoldable pub pool : List ℕ → List ℕ → Res Pooled
pool first second = do
  x ← summary first
  y ← summary second
  pool_of x y

-- ---- its bytes

-- 02, #104: "two value records, lowest first, a type byte and a flag byte"
abbrev pub pooled_bytes : List ℕ → List ℕ → Pooled → List ℕ
pooled_bytes first second p =
    record_at (of p.lowest first second) 0 ++ record_at (of p.highest first second) 1 ++ field type_at 1 first ++ (p.flag ∷ [])

unfoldable pub pooled : List ℕ → List ℕ → Res (List ℕ)
pooled first second = do
  p ← pool first second
  Ok (pooled_bytes first second p)

-- ---- examples
abbrev file : PrimitiveType → Ends (List ℕ) → Bool → Summary
file column ends has_missing = record { column = column; ends = ends; has_missing = has_missing }

abbrev ints : ℤ → ℤ → Bool → Summary
ints low high has_missing = file Int (signed_bytes 4 low to signed_bytes 4 high) has_missing

-- from -2 to 1 and from -2 to 3: equal ends are the first's, on both sides
by_ends : (pool_of (ints (negsuc 1) (pos 1) false) (ints (negsuc 1) (pos 3) true) ≡ Ok (record { lowest = First; highest = Second; flag = 1 }))
    × (pool_of (ints (negsuc 1) (pos 3) false) (ints (pos 0) (pos 3) false) ≡ Ok (record { lowest = First; highest = First; flag = 0 }))
unfolding pool_of compare_numbers
by_ends = (refl, refl)

-- numbers are signed, and byte strings compare by byte: 00 is below fe
by_type : (pool_of (ints (pos 0) (pos 0) false) (ints (negsuc 1) (negsuc 1) false) ≡ Ok (record { lowest = Second; highest = First; flag = 0 }))
    × (pool_of (file Binary ((0 ∷ []) to (0 ∷ [])) false) (file Binary ((0xFE ∷ []) to (0xFE ∷ [])) false) ≡ Ok (record { lowest = First; highest = Second; flag = 0 }))
unfolding pool_of compare_numbers compare_bytes
by_type = (refl, refl)

-- a file of missing values adds its mark, an empty one nothing; of two without present values the ends are the first's
without_values : (pool_of (file Int none_present true) (ints (pos 0) (pos 3) false) ≡ Ok (record { lowest = Second; highest = Second; flag = 1 }))
    × (pool_of (ints (pos 0) (pos 3) false) (file Int none_present false) ≡ Ok (record { lowest = First; highest = First; flag = 0 }))
    × (pool_of (file Int none_present false) (file Int none_present true) ≡ Ok (record { lowest = First; highest = First; flag = 3 }))
unfolding pool_of compare_numbers
without_values = (refl, refl, refl)

-- 4 of either file comes before 11 of either, and 11 before 12
in_their_order : (pool_of (ints (pos 1) (pos 0) false) (file String ((0xFF ∷ []) to (0xFF ∷ [])) false) ≡ Err NotUtf8)
    × (pool_of (file Long none_present false) (ints (pos 1) (pos 0) false) ≡ Err WrongSummary)
    × (pool_of (file String none_present false) (file Binary (ascii "a" to ascii "b") false) ≡ Err DifferentTypes)
unfolding pool_of compare_numbers compare_bytes utf8 code_points is_code_point
in_their_order = (refl, refl, refl)
