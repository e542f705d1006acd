-- The ends of a file: which are UTF-8 where their type asks for it, and their order, which is that of the values of the type. Assumes nothing.
use Rattle.std.specs.Prelude.{ℕ, Bool, true, false, not, ◌&&◌, ◌||◌, List, ◌≡◌, refl, Ok}
use Rattle.std.proofs.Math.Bool.{or-true}
use Rattle.values.specs.Order.{compare_numbers, compare_bytes}
use Rattle.values.specs.Outcomes.{need, ◌>>=◌, ◌>>◌, Row, missing, present}
use Rattle.values.specs.Types.{number, bytes, layout, same_type}
use Rattle.values.specs.Utf8.{utf8}
use Rattle.values.specs.declared.datatypes.PrimitiveType.{PrimitiveType}
use Rattle.values.specs.declared.datatypes.PrimitiveType.TheVariants.{String}
use Rattle.values.specs.declared.error.ErrorKind.TheVariants.{NotUtf8}
use Rattle.sheet.specs.Values.{read_bytes, map_row, number_of}
use Rattle.summary.specs.EndValues.{map_ends, read_ends, compare_in, ordered, may_hold}
use Rattle.summary.specs.Summaries.{Ends, none_present, ◌to◌}
use Rattle.summary.specs.code.SummaryAnswers.{ends_encoded}

-- ---- UTF-8
pub ends_read : (column : PrimitiveType) (ends : Ends (List ℕ))
    → read_ends (read_bytes column) ends ≡ (need (ends_encoded column ends) NotUtf8 >> Ok ends)
ends_read column none_present = rw (or-true (not (same_type column String)))
ends_read column (l to h) = both (same_type column String) (utf8 l) (utf8 h)
  where
    both : (s a b : Bool)
        → ((need (not s || a) NotUtf8 >> Ok l) >>= λ x. (need (not s || b) NotUtf8 >> Ok h) >>= λ y. Ok (x to y))
        ≡ (need (not s || (a && b)) NotUtf8 >> Ok (l to h))
    both true true true = refl
    both true true false = refl
    both true false b = refl
    both false a b = refl

-- ---- the order of contents is that of numbers, or of byte strings
module _ (column : PrimitiveType) (n : ℕ) (is : layout column ≡ number n) where
  pub numbers_compared : (a b : List ℕ) → compare_in column a b ≡ compare_numbers (number_of n a) (number_of n b)
  numbers_compared a b = rw is

  pub numbers_ordered : (ends : Ends (List ℕ)) → ordered (compare_in column) ends ≡ ordered compare_numbers (map_ends (number_of n) ends)
  numbers_ordered none_present = refl
  numbers_ordered (l to h) = rw is

  pub numbers_held_lem : (ends : Ends (List ℕ)) (has_missing : Bool) (row : Row (List ℕ))
      → may_hold (compare_in column) ends has_missing row ≡ may_hold compare_numbers (map_ends (number_of n) ends) has_missing (map_row (number_of n) row)
  numbers_held_lem ends has_missing missing = refl
  numbers_held_lem none_present has_missing (present v) = refl
  numbers_held_lem (l to h) has_missing (present v) = rw is

module _ (column : PrimitiveType) (n : ℕ) (is : layout column ≡ bytes n) where
  pub bytes_compared : (a b : List ℕ) → compare_in column a b ≡ compare_bytes a b
  bytes_compared a b = rw is

  pub bytes_ordered : (ends : Ends (List ℕ)) → ordered (compare_in column) ends ≡ ordered compare_bytes ends
  bytes_ordered none_present = refl
  bytes_ordered (l to h) = rw is

  pub bytes_held_lem : (ends : Ends (List ℕ)) (has_missing : Bool) (row : Row (List ℕ))
      → may_hold (compare_in column) ends has_missing row ≡ may_hold compare_bytes ends has_missing row
  bytes_held_lem ends has_missing missing = refl
  bytes_held_lem none_present has_missing (present v) = refl
  bytes_held_lem (l to h) has_missing (present v) = rw is
