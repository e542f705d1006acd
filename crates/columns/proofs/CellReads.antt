-- The values beside a list one after another. Assumes nothing.
use Rattle.std.specs.Prelude.{◌≡◌, ◌≢◌, ℕ, zero, suc, ◌+◌, ◌*◌, ◌/◌, ◌%◌, ◌≤◌, ◌<◌, Bool, true, false, cond, ◌&&◌}
use Rattle.std.specs.Prelude.{List, [], ◌∷◌, map, get_or, length, take, drop, Ok, Err, refl}
use Rattle.std.specs.Simd.{first_chunks}
use Rattle.std.proofs.Common.{arith, sym, ap, ◌∙◌, add-one, drop-cons, drop_of_length-le, eq-eqb, ne_eqb}
use Rattle.std.proofs.Math.Bool.{and_assoc, and-true}
use Rattle.std.proofs.lemmas.List.{drop-drop}
use Rattle.values.specs.Outcomes.{Res, need, each, ◌>>=◌, ◌>>◌, Row}
use Rattle.values.specs.laws.OutcomeLaws.{need_both}
use Rattle.values.specs.Types.{layout}
use Rattle.values.specs.declared.datatypes.PrimitiveType.{PrimitiveType}
use Rattle.values.specs.declared.error.ErrorKind.TheVariants.{Malformed, NotUtf8}
use Rattle.sheet.specs.Records.{record_size, record_at, value}
use Rattle.sheet.specs.laws.ReadLaws.{bytes_row, then_need}
use Rattle.columns.specs.Columns.{Column}
use Rattle.columns.specs.Cells.{Side, type_of, Cell, cells_from, read_cell, cells_of}
use Rattle.columns.specs.code.ColumnAnswers.{columns_in, no_column, column_at, encoded, encoded_value, without_value}
use Rattle.columns.specs.laws.ColumnLaws.{columns_good}

-- chunks, and one by its place
chunks_length : (size n : ℕ) (v : List ℕ) → length (first_chunks size n v) ≡ n
chunks_length size zero v = refl
chunks_length size (suc n) v = ap suc (chunks_length size n (drop size v))

chunk_at : (size n k : ℕ) (v d : List ℕ) → k < n → get_or (first_chunks size n v) k d ≡ take size (drop (size * k) v)
chunk_at size zero k v d h = absurd (omega arith)
chunk_at size (suc n) zero v d h = let start : size * 0 ≡ 0 = omega arith in rw start
chunk_at size (suc n) (suc k) v d h =
    let next : size + size * k ≡ size * suc k = omega arith in
    chunk_at size n k (drop size v) d (omega arith) ∙ rw (drop-drop, next)

module _ (side : Side) where
  abbrev all_encoded : List Cell → Bool
  all_encoded [] = true
  all_encoded (x ∷ xs) = encoded (type_of side x.column) x.row && all_encoded xs

  all_read : (xs : List Cell) → each (read_cell side) xs ≡ (need (all_encoded xs) NotUtf8 >> Ok (map (λ x. x.row) xs))
  all_read [] = refl
  all_read (x ∷ xs) =
      let one = encoded (type_of side x.column) x.row in
      rw (bytes_row (type_of side x.column) x.row, all_read xs)
      (then_need NotUtf8 one (all_encoded xs) x.row (map (λ y. y.row) xs) ◌∷◌ ∙ need_both one (all_encoded xs) NotUtf8 _)

  -- what values are answered, where t says whether all before them were UTF-8
  abbrev pub answered : Bool → Res (List Cell) → Res (Unit {0})
  answered t (Ok xs) = cond (t && all_encoded xs) (Ok tt) (Err NotUtf8)
  answered t (Err e) = Err e

  all_answered : (r : Res (List Cell)) → without_value (r >>= λ xs. each (read_cell side) xs >>= λ read. Ok xs) ≡ answered true r
  all_answered (Err e) = refl
  all_answered (Ok xs) = rw (all_read xs) (go (all_encoded xs))
    where
      go : (t : Bool) → without_value ((need t NotUtf8 >> Ok (map (λ x. x.row) xs)) >>= λ read. Ok xs) ≡ cond t (Ok tt) (Err NotUtf8)
      go true = refl
      go false = refl

  -- the first of them
  one_answered : (t : Bool) (d : Column) (r : Res (Row (List ℕ))) (rest : Res (List Cell))
      → answered t (r >>= λ row. rest >>= λ xs. Ok (record { column = d; row = row } ∷ xs)) ≡ (encoded_value (type_of side d) r >>= λ b. answered (t && b) rest)
  one_answered t d (Ok row) (Ok xs) = rw (and_assoc t (encoded (type_of side d) row) (all_encoded xs))
  one_answered t d (Ok row) (Err e) = refl
  one_answered t d (Err e) rest = refl

  module _ (c v : List ℕ) where
    -- from the value at place k on
    abbrev pub answered_from : Bool → ℕ → Res (Unit {0})
    answered_from t k = answered t (cells_from side v k (drop k (columns_in c)))

    value_here : (t : Bool) (k : ℕ) → k < length (columns_in c) → let column = type_of side (column_at (columns_in c) k) in
        answered_from t k ≡ (encoded_value column (value (layout column) (record_at v k)) >>= λ b. answered_from (t && b) (k + 1))
    value_here t k h =
        let d = column_at (columns_in c) k in
        let here : drop k (columns_in c) ≡ d ∷ drop (suc k) (columns_in c) = drop-cons (columns_in c) k no_column h in
        rw (here, add-one) (one_answered t d (value (layout (type_of side d)) (record_at v k)) (cells_from side v (suc k) (drop (suc k) (columns_in c))))

    -- by what the code found in the record
    pub value_told : {records : List (List ℕ)} → records ≡ first_chunks record_size (length v / record_size) v → length records ≡ length (columns_in c)
        → (t : Bool) (k : ℕ) → k < length records → {column : PrimitiveType} → column ≡ type_of side (column_at (columns_in c) k) → (d : List ℕ) {r : Res Bool}
        → r ≡ encoded_value column (value (layout column) (get_or records k d)) → answered_from t k ≡ (r >>= λ b. answered_from (t && b) (k + 1))
    value_told {records} made count t k less typed d told =
        let n = length v / record_size in
        let within : k < n = omega (arith, ap length made, chunks_length record_size n v) in
        let at : get_or records k d ≡ record_at v k = ap (λ (l : List (List ℕ)). get_or l k d) made ∙ chunk_at record_size n k v d within in
        value_here t k (omega arith) ∙ rw (← typed, ← (rw at at told))

    pub no_values_left : (t : Bool) (k : ℕ) → length (columns_in c) ≤ k → answered_from t k ≡ cond t (Ok tt) (Err NotUtf8)
    no_values_left t k h = rw (drop_of_length-le (columns_in c) {i = k} h, and-true t)

    module _ (some : 0 < length (columns_in c)) where
      other_size : length v ≢ record_size * length (columns_in c) → without_value (cells_of side c v) ≡ Err Malformed
      unfolding cells_of
      other_size other = rw (columns_good c some, ne_eqb (length v) (record_size * length (columns_in c)) other)

      pub other_count : length v / record_size ≢ length (columns_in c) → without_value (cells_of side c v) ≡ Err Malformed
      other_count other = other_size (λ e. other (omega arith))

      pub bytes_left : length v % record_size ≢ 0 → without_value (cells_of side c v) ≡ Err Malformed
      bytes_left other = other_size (λ e. other (omega arith))

      pub all_values : length v / record_size ≡ length (columns_in c) → length v % record_size ≡ 0 → answered_from true 0 ≡ without_value (cells_of side c v)
      unfolding cells_of
      all_values count whole =
          let size : length v ≡ record_size * length (columns_in c) = omega arith in
          rw (columns_good c some, eq-eqb (length v) (record_size * length (columns_in c)) size)
          (sym (all_answered (cells_from side v 0 (columns_in c))))

-- for a return's search
pub ruleset values = (no_values_left, other_count, bytes_left, all_values)
