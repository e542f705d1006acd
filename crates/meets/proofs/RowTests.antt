-- The test of a row in the code's words: two checks for UTF-8, and then a test by the column's kind. Assumes nothing.
use Rattle.std.specs.Prelude.{ℕ, Bool, true, false, not, ◌||◌, List, map, ◌≡◌, refl, length, Ok}
use Rattle.std.proofs.Common.{sym, ap, ◌∙◌}
use Rattle.values.specs.Outcomes.{need, ◌>>◌, Row, missing, present}
use Rattle.values.specs.Types.{Layout, number, bytes, layout, fits, same_type}
use Rattle.values.specs.code.ByteTypes.{is_bytes}
use Rattle.values.specs.laws.TypesLaws.{bytes_layout}
use Rattle.values.specs.declared.datatypes.PrimitiveType.{PrimitiveType}
use Rattle.values.specs.declared.datatypes.PrimitiveType.TheVariants.{String}
use Rattle.values.specs.declared.error.ErrorKind.TheVariants.{NotUtf8}
use Rattle.expr.specs.Holds.{number_tests, bytes_tests, missing_meets}
use Rattle.expr.specs.Operators.{Operator}
use Rattle.sheet.specs.Values.{number_of, by_layout}
use Rattle.sheet.specs.code.Contents.{all_utf8, row_utf8, number_in}
use Rattle.sheet.specs.code.SheetAnswers.{contents_of, numbers_of}
use Rattle.sheet.specs.declared.literals.Literals.{Literals}
use Rattle.sheet.specs.laws.ReadLaws.{placed_numbers}
use Rattle.sheet.specs.laws.RecordLaws.{number_type}
use Rattle.meets.specs.code.HeldAnswers.{held, numbers_held, bytes_held, held_of, present_held}
use Rattle.meets.specs.laws.TestedLaws.{not_string}

module _ (column : PrimitiveType) (a : Operator) (ls : List (List ℕ)) where
  -- the test, by the column's kind
  abbrev pub row_holds : Row (List ℕ) → Bool
  row_holds r = by_layout (layout column) (λ n. numbers_held (number n) a ls r) (held bytes_tests a ls r)

  pub row_checks : (r : Row (List ℕ)) → held_of column a ls r
      ≡ (need (not (same_type column String) || all_utf8 ls) NotUtf8 >> (need (not (same_type column String) || row_utf8 r) NotUtf8 >> Ok (row_holds r)))
  unfolding held_of
  row_checks r = go (layout column) refl
    where
      go : (l : Layout) → layout column ≡ l
          → by_layout l (λ n. Ok (numbers_held (number n) a ls r)) (bytes_held column a ls r)
          ≡ (need (not (same_type column String) || all_utf8 ls) NotUtf8
          >> (need (not (same_type column String) || row_utf8 r) NotUtf8
          >> Ok (by_layout l (λ n. numbers_held (number n) a ls r) (held bytes_tests a ls r))))
      go (number n) e = rw (not_string column n e)
      go (bytes n) e = refl

  pub missing_tested : row_holds missing ≡ missing_meets a
  missing_tested = go (layout column)
    where
      go : (l : Layout) → by_layout l (λ n. numbers_held (number n) a ls missing) (held bytes_tests a ls missing) ≡ missing_meets a
      go (number n) = refl
      go (bytes n) = refl

  pub bytes_tested : (v : List ℕ) → is_bytes (layout column) ≡ true → row_holds (present v) ≡ present_held bytes_tests a ls v
  bytes_tested v h = rw (bytes_layout column h)

pub number_tested : (a : Operator) (x : Literals) (v : List ℕ) → is_bytes (layout x.column) ≡ false → fits (layout x.column) (length v) ≡ true
    → row_holds x.column a (contents_of x) (present v) ≡ present_held number_tests a (numbers_of x) (number_of (length v) v)
number_tested a x v h e =
    let is = (number_type x.column (length v) h e).is in
    let z = number_of (length v) v in
    let given : row_holds x.column a (contents_of x) (present v) ≡ present_held number_tests a (map (number_in (number (length v))) (contents_of x)) z = rw is in
    let numbers = placed_numbers (layout x.column) x.sheet.now x.records.now (length x.records.now) x.placed in
    given ∙ ap (λ ls. present_held number_tests a ls z) (sym (numbers ∙ ap (λ l. map (number_in l) (contents_of x)) is))

pub ruleset row_tests = (row_checks, missing_tested, bytes_tested, number_tested)
