-- The record of a number, or of none, is bytes; and so is a list whose members are looked at. Assumes nothing.
use Prim.Native.Nat.{ℕ, zero, suc, ◌-◌}
use native.Mathlib.Omega.{arith}
use mathlib.Core.Bool.{true}
use mathlib.Core.List.{List, [], ◌∷◌, ◌++◌}
use mathlib.Core.Path.{◌≡◌}
use lib.Dec.{ltb}
use lib.IntN.{ℤ}
use lib.ListN.{length, replicate}
use borrow.Author.Tests.{ltb-true}
use Rattle.values.specs.Outcomes.{Row, missing, present}
use Rattle.values.specs.SomeEvery.{every}
use Rattle.values.specs.Types.{Layout, number, bytes, content_size, layout}
use Rattle.values.specs.Words.{le_bytes, unsigned, AllBytes}
use Rattle.values.specs.laws.TestLaws.{and_both}
use Rattle.values.specs.laws.WordLaws.{all_bytes}
use Rattle.values.specs.declared.datatypes.PrimitiveType.{PrimitiveType}
use Rattle.sheet.specs.Records.{missing_mark}
use Rattle.sheet.specs.Values.{map_row}
use Rattle.write.specs.Written.{value_record, number_bytes}

pub both_bytes : (xs ys : List ℕ) → AllBytes xs → AllBytes ys → AllBytes (xs ++ ys)
both_bytes [] ys h k i = k i
both_bytes (x ∷ xs) ys h k zero = h 0
both_bytes (x ∷ xs) ys h k (suc i) = both_bytes xs ys (λ j. h (suc j)) k i

zeros : (n : ℕ) → AllBytes (replicate n 0)
zeros zero i = omega arith
zeros (suc n) zero = omega arith
zeros (suc n) (suc i) = zeros n i

number_bytes_lem : (l : Layout) (z : ℤ) → AllBytes (number_bytes l z)
number_bytes_lem (number n) z = all_bytes n (unsigned n z)
number_bytes_lem (bytes n) z = λ i. omega arith

-- the fields of a record: its next, its length, and the rest
fields : (next size : ℕ) (rest : List ℕ) → AllBytes rest → AllBytes (le_bytes 2 next ++ (le_bytes 2 size ++ rest))
fields next size rest h = both_bytes (le_bytes 2 next) (le_bytes 2 size ++ rest) (all_bytes 2 next) (both_bytes (le_bytes 2 size) rest (all_bytes 2 size) h)

pub record_bytes : (ty : PrimitiveType) (r : Row ℤ) → AllBytes (value_record (map_row (λ z. number_bytes (layout ty) z) r))
record_bytes ty missing = fields 0 missing_mark (replicate content_size 0) (zeros content_size)
record_bytes ty (present z) =
    let bs = number_bytes (layout ty) z in
    fields 0 (length bs) (bs ++ replicate (content_size - length bs) 0)
    (both_bytes bs (replicate (content_size - length bs) 0) (number_bytes_lem (layout ty) z) (zeros (content_size - length bs)))

pub looked_at : (bs : List ℕ) → every (λ b. ltb b 256) bs ≡ true → AllBytes bs
looked_at [] h i = omega arith
looked_at (b ∷ bs) h zero = ltb-true b 256 (and_both (ltb b 256) (every (λ x. ltb x 256) bs) h).0
looked_at (b ∷ bs) h (suc i) = looked_at bs (and_both (ltb b 256) (every (λ x. ltb x 256) bs) h).1 i
