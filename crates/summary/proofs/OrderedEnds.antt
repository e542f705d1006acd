-- Contents of a type of numbers compare as the numbers that they are. Assumes nothing.
use Rattle.std.specs.Prelude.{◌≡◌, ℕ, true, false, List, length, int_lt}
use Rattle.std.proofs.Common.{ap, ap₂, sym, ◌∙◌, eqb-true}
use Rattle.values.specs.Order.{is_less}
use Rattle.values.specs.Types.{layout, fits}
use Rattle.values.specs.Words.{le_number, signed}
use Rattle.values.specs.code.ByteTypes.{is_bytes}
use Rattle.values.specs.declared.datatypes.PrimitiveType.{PrimitiveType}
use Rattle.values.specs.laws.TypesLaws.{number_layout}
use Rattle.expr.proofs.NumberTests.{less_told}
use Rattle.sheet.specs.Values.{number_of}
use Rattle.summary.specs.EndValues.{compare_in}
use Rattle.summary.specs.laws.EndLaws.{numbers_compared}

module _ (column : PrimitiveType) where
  -- a content's number, of as many bytes as the layout has
  number_told : (numbers : is_bytes (layout column) ≡ false) (a : List ℕ) → fits (layout column) (length a) ≡ true
      → number_of (number_layout (layout column) numbers).0 a ≡ signed (length a) (le_number a)
  number_told numbers a fit =
      let l = number_layout (layout column) numbers in
      sym (ap (λ n. signed n (le_number a)) (eqb-true (length a) l.0 (rw l.1 at fit)))

  pub numbers_below : (a b : List ℕ) → is_bytes (layout column) ≡ false → fits (layout column) (length a) ≡ true → fits (layout column) (length b) ≡ true
      → is_less (compare_in column a b) ≡ int_lt (signed (length a) (le_number a)) (signed (length b) (le_number b))
  numbers_below a b numbers f g =
      let l = number_layout (layout column) numbers in
      ap is_less (numbers_compared column l.0 l.1 a b)
      ∙ sym (less_told (number_of l.0 a) (number_of l.0 b))
      ∙ ap₂ int_lt (number_told numbers a f) (number_told numbers b g)
