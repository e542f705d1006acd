-- The values that the ends of a file stand for, their order, and which values lie between them. Assumes nothing.
use Rattle.std.specs.Prelude.{ℕ, Bool, true, false, not, ◌&&◌, List, Ok}
use Rattle.values.specs.Order.{compare_numbers, compare_bytes, is_less}
use Rattle.values.specs.Outcomes.{Res, ◌>>=◌, Row, missing, present}
use Rattle.values.specs.Types.{layout}
use Rattle.values.specs.declared.datatypes.PrimitiveType.{PrimitiveType}
use Rattle.std.specs.declared.cmp.Ordering.{Ordering}
use Rattle.sheet.specs.Values.{number_of, by_layout}
use Rattle.summary.specs.Summaries.{Ends, none_present, ◌to◌}

-- ---- each of the two ends

abbrev pub map_ends : {A B : Type 0} → (A → B) → Ends A → Ends B
map_ends f none_present = none_present
map_ends f (l to h) = f l to f h

abbrev pub read_ends : {A B : Type 0} → (A → Res B) → Ends A → Res (Ends B)
read_ends read none_present = Ok none_present
read_ends read (l to h) = do
  x ← read l
  y ← read h
  Ok (x to y)

-- ---- their order

-- two contents of a type, as their values are ordered. 01: "numbers signed"; "Strings and binaries compare by byte"
abbrev pub compare_in : PrimitiveType → List ℕ → List ℕ → Ordering
compare_in column a b = by_layout (layout column) (λ n. compare_numbers (number_of n a) (number_of n b)) (compare_bytes a b)

module _ {A : Type 0} (compare : A → A → Ordering) where
  -- 02: "11 a summary whose lowest is above its highest": true where it is not so
  abbrev pub ordered : Ends A → Bool
  ordered none_present = true
  ordered (l to h) = not (is_less (compare h l))

  -- 02: a "value between the ends", the ends themselves among them
  abbrev pub lies_in : Ends A → A → Bool
  lies_in none_present v = false
  lies_in (l to h) v = not (is_less (compare v l)) && not (is_less (compare h v))

  -- 02: a "value between the ends, or missing where flagged"
  abbrev pub may_hold : Ends A → Bool → Row A → Bool
  may_hold ends has_missing missing = has_missing
  may_hold ends has_missing (present v) = lies_in ends v
