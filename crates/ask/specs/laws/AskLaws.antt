-- What a fitted leaf is answered is the answer of its typed literal, for a row and for partition values. Assumes nothing.
use Rattle.std.specs.Prelude.{ℕ, true, not, ◌||◌, List, ◌≡◌, refl, ℤ, length}
use Rattle.std.proofs.lemmas.Bool.{false≢true}
use Rattle.std.proofs.Common.{eqb-true}
use Rattle.values.specs.Outcomes.{Row, missing, present}
use Rattle.values.specs.Types.{Layout, number, bytes, layout, in_layout, in_type, same_type}
use Rattle.values.specs.Utf8.{utf8}
use Rattle.values.specs.Words.{le_number, signed, signed_bytes}
use Rattle.values.specs.declared.datatypes.PrimitiveType.{PrimitiveType}
use Rattle.values.specs.declared.datatypes.PrimitiveType.TheVariants.{String}
use Rattle.values.specs.declared.transform.Transform.{Transform}
use Rattle.values.specs.laws.TestLaws.{and_both}
use Rattle.values.proofs.TwosComplement.{signed_bytes_lem}
use Rattle.expr.specs.Operators.{one}
use Rattle.projection.specs.declared.question.Question.{Question}
use Rattle.sheet.specs.Values.{map_row}
use Rattle.sheet.specs.code.Contents.{row_utf8}
use Rattle.sheet.specs.laws.ReadLaws.{number_row_lem, bytes_row}
use Rattle.sheet.specs.laws.RecordLaws.{FitsRow}
use Rattle.meets.specs.Tested.{tested_sheet}
use Rattle.columns.specs.Cells.{Cell}
use Rattle.leaves.specs.Fitting.{Leaf, decimal, text, fits, fits_length, content_of}
use Rattle.ask.specs.LeafAnswers.{row_at, row_answer, part_answer}
use Rattle.ask.specs.code.Askings.{number_row, number_answer, text_answer}
use Rattle.ask.specs.declared.asked.Asked.TheVariants as asked

-- ---- numbers: the column of one, which reads back as it was written, and a value that is as long as its type asks for
pub number_column : (column : PrimitiveType) (z : ℤ) → in_type column z ≡ true → (n : ℕ) × (layout column ≡ number n)
unfolding in_type
number_column column z h = go (layout column) h
  where
    go : (k : Layout) → in_layout k z ≡ true → (n : ℕ) × (k ≡ number n)
    go (number n) h = (n, refl)
    go (bytes n) h = absurd (false≢true h)

read_back : (column : PrimitiveType) (z : ℤ) (n : ℕ) → in_type column z ≡ true → layout column ≡ number n
    → signed n (le_number (signed_bytes n z)) ≡ z
unfolding in_type
read_back column z n h is = signed_bytes_lem n z (rw is at h)

sized_row : (column : PrimitiveType) (n : ℕ) (r : Row (List ℕ)) → layout column ≡ number n → FitsRow column r
    → map_row (λ bs. signed n (le_number bs)) r ≡ number_row r
sized_row column n missing is h = refl
sized_row column n (present bs) is h = rw (eqb-true (length bs) n (rw is at h))

-- ---- texts
bytes_column : (k : Layout) (n : ℕ) → fits_length k n ≡ true → (m : ℕ) × (k ≡ bytes m)
bytes_column (number m) n h = absurd (false≢true h)
bytes_column (bytes m) n h = (m, refl)

same_row : (r : Row (List ℕ)) → map_row (λ bs. bs) r ≡ r
same_row missing = refl
same_row (present bs) = refl

-- ---- a leaf whose content is a literal that fits its column, and the value at its place
module _ (cells : List Cell) (l : Leaf) (r : Row (List ℕ)) (at : row_at cells l.place ≡ r) where
  abbrev column : PrimitiveType
  column = l.head.column

  abbrev transform : Transform
  transform = l.head.transform

  module _ (z : ℤ) (fit : fits column (decimal z) ≡ true) (written : l.content ≡ content_of column (decimal z)) where
    pub row_number : FitsRow column r → row_answer cells l ≡ number_answer asked.Row column transform (one l.operator) z r
    unfolding row_answer tested_sheet number_answer
    row_number h =
        let k = number_column column z fit in
        let back = read_back column z k.0 fit k.1 in
        let sized = sized_row column k.0 r k.1 h in
        rw (at, written, k.1, number_row_lem k.0 r, back, sized)

    pub part_number : (question : Question) → part_answer question cells l ≡ number_answer (asked.Part question) column transform (one l.operator) z r
    unfolding part_answer number_answer
    part_number question =
        let k = number_column column z fit in
        let back = read_back column z k.0 fit k.1 in
        rw (at, written, k.1, back)

  module _ (s : List ℕ) (fit : fits column (text s) ≡ true) (written : l.content ≡ content_of column (text s)) where
    passed : (fits_length (layout column) (length s) ≡ true) × ((not (same_type column String) || utf8 s) ≡ true)
    passed = and_both (fits_length (layout column) (length s)) (not (same_type column String) || utf8 s) fit

    pub row_text : (not (same_type column String) || row_utf8 r) ≡ true → row_answer cells l ≡ text_answer asked.Row column transform (one l.operator) s r
    unfolding row_answer tested_sheet text_answer
    row_text h = let k = bytes_column (layout column) (length s) passed.0 in rw (at, written, k.1, passed.1, bytes_row column r, h)

    pub part_text : (question : Question) → part_answer question cells l ≡ text_answer (asked.Part question) column transform (one l.operator) s r
    unfolding part_answer text_answer
    part_text question =
        let k = bytes_column (layout column) (length s) passed.0 in
        rw (at, written, k.1, passed.1, same_row r)
