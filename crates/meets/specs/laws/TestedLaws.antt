-- The holds-test of a row in one form for numbers and for byte strings: what is refused, and then a test. Assumes nothing.
use Rattle.std.specs.Prelude.{ℕ, Bool, false, not, ◌||◌, List, ◌⊎◌, ◌≡◌, refl, Ok}
use Rattle.std.proofs.Common.{inr}
use Rattle.values.specs.Outcomes.{need, ◌>>◌, Row}
use Rattle.values.specs.Types.{Layout, number, bytes, layout, same_type}
use Rattle.values.specs.declared.datatypes.PrimitiveType.{PrimitiveType}
use Rattle.values.specs.declared.datatypes.PrimitiveType.TheVariants.{Int, Long, Date, Time, Timestamp, Timestamptz, TimestampNs, TimestamptzNs, String, Binary}
use Rattle.values.specs.declared.error.ErrorKind.TheVariants.{Malformed, NotUtf8}
use Rattle.values.specs.declared.error.ErrorKind.{ErrorKind}
use Rattle.expr.specs.Holds.{number_tests, bytes_tests, holds}
use Rattle.expr.specs.Predicates.{literals_in}
use Rattle.sheet.specs.laws.RefusalLaws.{Only, only_ok, only_need}
use Rattle.sheet.specs.Sheets.{Sheet}
use Rattle.sheet.specs.Values.{read_number, read_bytes, map_row, map_literals, number_of, by_layout}
use Rattle.sheet.specs.code.Contents.{all_utf8, row_utf8}
use Rattle.sheet.specs.laws.ReadLaws.{number_literals, number_row_lem, then_need, bytes_literals, bytes_row}
use Rattle.meets.specs.Tested.{tested, tested_sheet}

module _ (x : Sheet) (row : Row (List ℕ)) where
  -- of a String the literals are to be UTF-8, and the value
  abbrev pub literals_encoded : Bool
  literals_encoded = not (same_type x.head.column String) || all_utf8 (literals_in x.leaf)

  abbrev pub row_encoded : Bool
  row_encoded = not (same_type x.head.column String) || row_utf8 row

  -- the test, by the column's kind
  abbrev pub sheet_holds : Bool
  sheet_holds =
      by_layout
      (layout x.head.column)
      (λ n. holds number_tests (map_literals (number_of n) x.leaf) (map_row (number_of n) row))
      (holds bytes_tests x.leaf row)

-- no String has a layout of numbers
pub not_string : (column : PrimitiveType) (n : ℕ) → layout column ≡ number n → same_type column String ≡ false
not_string Int n e = refl
not_string Long n e = refl
not_string Date n e = refl
not_string Time n e = refl
not_string Timestamp n e = refl
not_string Timestamptz n e = refl
not_string TimestampNs n e = refl
not_string TimestamptzNs n e = refl
not_string String n e = cc
not_string Binary n e = refl

pub tested_steps : (x : Sheet) (row : Row (List ℕ))
    → tested_sheet x row ≡ (need (literals_encoded x row) NotUtf8 >> (need (row_encoded x row) NotUtf8 >> Ok (sheet_holds x row)))
unfolding tested_sheet
tested_steps x row = go (layout x.head.column) refl
  where
    go : (l : Layout) → layout x.head.column ≡ l
        → by_layout l (λ n. tested number_tests (read_number n) x.leaf row) (tested bytes_tests (read_bytes x.head.column) x.leaf row)
        ≡ (need (literals_encoded x row) NotUtf8
        >> (need (row_encoded x row) NotUtf8
        >> Ok (by_layout l (λ n. holds number_tests (map_literals (number_of n) x.leaf) (map_row (number_of n) row)) (holds bytes_tests x.leaf row))))
    go (number n) e = rw (not_string x.head.column n e, number_literals n x.leaf, number_row_lem n row)
    go (bytes n) e =
        rw (bytes_literals x.head.column x.leaf, bytes_row x.head.column row)
        (then_need NotUtf8 (literals_encoded x row) (row_encoded x row) x.leaf row (holds bytes_tests))

-- what is refused is Malformed or not UTF-8
abbrev pub Refusal : ErrorKind → Type 0
Refusal e = (e ≡ Malformed) ⊎ (e ≡ NotUtf8)

pub tested_only : (x : Sheet) (row : Row (List ℕ)) → Only Refusal (tested_sheet x row)
tested_only x row =
    rw (tested_steps x row) (only_need (literals_encoded x row) NotUtf8 _ (inr refl) (only_need (row_encoded x row) NotUtf8 _ (inr refl) only_ok))
