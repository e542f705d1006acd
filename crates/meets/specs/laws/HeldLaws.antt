-- The holds-test as one answer for a column, an operator's kind, literals and a value: what is read of a leaf and of a row, and the closed form.
-- Assumes nothing.
use Rattle.std.specs.Prelude.{ℕ, not, ◌||◌, List, ◌≡◌, refl, ℤ, Ok}
use Rattle.std.proofs.Common.{inr, ap, ◌∙◌}
use Rattle.values.specs.Outcomes.{Row, missing, present}
use Rattle.values.specs.Types.{Layout, number, bytes, layout, same_type}
use Rattle.values.specs.Words.{le_number, signed}
use Rattle.values.specs.declared.datatypes.PrimitiveType.{PrimitiveType}
use Rattle.values.specs.declared.datatypes.PrimitiveType.TheVariants.{String}
use Rattle.values.specs.declared.error.ErrorKind.TheVariants.{NotUtf8}
use Rattle.expr.specs.Holds.{Tests, number_tests, bytes_tests, holds}
use Rattle.expr.specs.Operators.{Operator, none, one, many, by_arity}
use Rattle.expr.specs.laws.PredicateLaws.{arity_of}
use Rattle.expr.specs.Predicates.{Predicate, unary, test, binary, set, by_arity_in, operator_in, literals_in}
use Rattle.sheet.specs.laws.RefusalLaws.{Only, only_ok, only_need}
use Rattle.sheet.specs.Sheets.{Sheet}
use Rattle.sheet.specs.Values.{read_number, read_bytes, map_row, map_literals, by_layout}
use Rattle.meets.specs.code.HeldAnswers.{held, numbers_held, bytes_held, held_of}
use Rattle.sheet.specs.code.Contents.{all_utf8, row_utf8}
use Rattle.sheet.specs.laws.ReadLaws.{map_operator, map_literals_lem, number_literals, number_row_lem, then_need, bytes_literals, bytes_row}
use Rattle.meets.specs.Tested.{tested, tested_sheet}
use Rattle.meets.specs.laws.TestedLaws.{Refusal}

-- ---- a predicate by its operator and its literals
module _ {A : Type 0} (by : Tests A) where
  holds_held : (p : Predicate A) (r : Row A) → holds by p r ≡ held by (by_arity (operator_in p)) (literals_in p) r
  holds_held p missing = rw (arity_of (by_arity_in p))
  holds_held (unary o) (present v) = rw (arity_of (none o))
  holds_held (test (binary o l)) (present v) = rw (arity_of (one o))
  holds_held (test (set o ls)) (present v) = rw (arity_of (many o))

-- ---- a sheet's leaf against a row
module _ (leaf : Predicate (List ℕ)) (r : Row (List ℕ)) where
  abbrev a : Operator
  a = by_arity (operator_in leaf)

  abbrev ls : List (List ℕ)
  ls = literals_in leaf

  numbers_tested : (n : ℕ) → tested number_tests (read_number n) leaf r ≡ Ok (numbers_held (number n) a ls r)
  numbers_tested n =
      let f : List ℕ → ℤ = λ bs. signed n (le_number bs) in
      rw (number_literals n leaf, number_row_lem n r)
      (ap Ok (holds_held number_tests (map_literals f leaf) (map_row f r) ∙ rw (map_operator f leaf, map_literals_lem f leaf)))

  bytes_tested : (column : PrimitiveType) → tested bytes_tests (read_bytes column) leaf r ≡ bytes_held column a ls r
  bytes_tested column =
      rw (bytes_literals column leaf, bytes_row column r)
      (then_need NotUtf8 (not (same_type column String) || all_utf8 ls) (not (same_type column String) || row_utf8 r) leaf r (holds bytes_tests)
      ∙ rw (holds_held bytes_tests leaf r))

  same_layout : (column : PrimitiveType) (l : Layout)
      → by_layout l (λ n. tested number_tests (read_number n) leaf r) (tested bytes_tests (read_bytes column) leaf r)
      ≡ by_layout l (λ n. Ok (numbers_held (number n) a ls r)) (bytes_held column a ls r)
  same_layout column (number n) = numbers_tested n
  same_layout column (bytes n) = bytes_tested column

pub tested_held : (x : Sheet) (r : Row (List ℕ)) → tested_sheet x r ≡ held_of x.head.column (by_arity (operator_in x.leaf)) (literals_in x.leaf) r
unfolding tested_sheet held_of
tested_held x r = same_layout x.leaf r x.head.column (layout x.head.column)

-- ---- the answers

pub held_only : (column : PrimitiveType) (a : Operator) (ls : List (List ℕ)) (r : Row (List ℕ)) → Only Refusal (held_of column a ls r)
unfolding held_of
held_only column a ls r = by (layout column)
  where
    by : (l : Layout) → Only Refusal (by_layout l (λ n. Ok (numbers_held (number n) a ls r)) (bytes_held column a ls r))
    by (number n) = only_ok
    by (bytes n) =
        only_need (not (same_type column String) || all_utf8 ls) NotUtf8 _ (inr refl) (only_need (not (same_type column String) || row_utf8 r) NotUtf8 _ (inr refl) only_ok)
