-- What the values of one type owe, of whatever kind they are: they are read from contents, written to them and read back, and the holds-test goes by them.
-- Then what is read and what is written of rows and leaves. Assumes nothing.
use Rattle.std.specs.Prelude.{Ok}
use Prim.Native.Nat.{ℕ, suc, ◌*◌, ◌≤◌}
use native.Mathlib.Omega.{arith}
use mathlib.Core.Bool.{true}
use mathlib.Core.List.{List, [], ◌∷◌, map}
use mathlib.Core.Path.{◌≡◌, refl, sym, ap, subst, ◌∙◌}
use lib.ListN.{length, length-map}
use Rattle.values.specs.code.Places.{AllOf}
use Rattle.values.specs.Outcomes.{Res, each, Row, missing, present}
use Rattle.values.specs.laws.OutcomeLaws.{ok_inj, going, gone, each_put, each_length, each_all}
use Rattle.values.specs.Types.{layout, fits}
use Rattle.values.specs.declared.datatypes.PrimitiveType.{PrimitiveType}
use Rattle.values.specs.declared.transform.Transform.{Transform}
use Rattle.values.specs.declared.transform.Transform.TheVariants.{Identity}
use Rattle.expr.specs.Operators.{holds_limit}
use Rattle.expr.specs.Holds.{Tests, holds}
use Rattle.expr.specs.Predicates.{Predicate, unary, test, binary, set, literals_in}
use Rattle.partition.specs.code.PartitionAnswers.{OfPresent}
use Rattle.projection.specs.laws.LiteralLaws.{Landed}
use Rattle.sheet.specs.laws.RecordLaws.{FitsRow}
use Rattle.write.specs.laws.RoundTripLaws.{value_back}
use Rattle.sheet.specs.Records.{record_size, value}
use Rattle.sheet.specs.laws.SheetLaws.{Fits}
use Rattle.sheet.specs.Sheets.{Sheet, sheet}
use Rattle.sheet.specs.Values.{each_literal, read_row, map_row, map_literals}
use Rattle.write.specs.Written.{value_record, answer_sheet}
use Rattle.write.specs.laws.WrittenLaws.{length_answer, answer_back}
use Rattle.api.specs.HoldsTest.{holds_test}
use Rattle.meets.specs.Tested.{tested, tested_sheet}

abbrev pub sheet_of : PrimitiveType → Transform → Predicate (List ℕ) → Sheet
sheet_of column transform leaf = record { head = record { column = column; transform = transform }; leaf = leaf }

pub record ValueLaws {A : Type 0} (column : PrimitiveType) (read : List ℕ → Res A) (write : A → List ℕ) (by : Tests A) : Type 1 where
  -- a value that a record of the type can hold
  pub Good : A → Type 0
  pub reads : (bs : List ℕ) (x : A) → fits (layout column) (length bs) ≡ true → read bs ≡ Ok x → Good x
  pub fit : (x : A) → Good x → fits (layout column) (length (write x)) ≡ true
  pub back : (x : A) → Good x → read (write x) ≡ Ok x
  pub tests : (transform : Transform) (leaf : Predicate (List ℕ)) (row : Row (List ℕ))
      → tested_sheet (sheet_of column transform leaf) row ≡ tested by read leaf row

-- ---- the literals of a leaf are read in their turn
literals_each : {A B : Type 0} (read : A → Res B) (leaf : Predicate A) (l : Predicate B) → each_literal read leaf ≡ Ok l
    → each read (literals_in leaf) ≡ Ok (literals_in l)
literals_each read (unary o) l e = ap (λ p. Ok (literals_in p)) (ok_inj e)
literals_each read (test (binary o b)) l e =
    let a = gone (read b) _ e in
    each_put read b [] a.1 refl ∙ ap (λ p. Ok (literals_in p)) (ok_inj a.2)
literals_each read (test (set o bs)) l e =
    let a = gone (each read bs) _ e in
    a.1 ∙ ap (λ p. Ok (literals_in p)) (ok_inj a.2)

literals_map : {A B : Type 0} (f : A → B) (p : Predicate A) → literals_in (map_literals f p) ≡ map f (literals_in p)
literals_map f (unary o) = refl
literals_map f (test (binary o l)) = refl
literals_map f (test (set o ls)) = refl

module _ {A : Type 0} {column : PrimitiveType} {read : List ℕ → Res A} {write : A → List ℕ} {by : Tests A} (law : ValueLaws column read write by) where
  -- ---- what is read
  pub row_good : (raw : Row (List ℕ)) (r : Row A) → FitsRow column raw → read_row read raw ≡ Ok r → OfPresent law.Good r
  row_good missing r h e = subst (OfPresent law.Good) (ok_inj e) tt
  row_good (present bs) r h e = let a = gone (read bs) _ e in subst (OfPresent law.Good) (ok_inj a.2) (law.reads bs a.0 h a.1)

  pub leaf_good : (most : ℕ) (leaf : Predicate (List ℕ)) (l : Predicate A) → Fits column (literals_in leaf) → length (literals_in leaf) ≤ most
      → each_literal read leaf ≡ Ok l → Landed law.Good most l
  leaf_good most leaf l h few e =
      let each_is = literals_each read leaf l e in
      record {
        all = each_all read (λ bs. fits (layout column) (length bs) ≡ true) law.Good (λ bs x d fit. law.reads bs x fit d) (literals_in leaf) each_is h;
        count = omega (arith, each_length read (literals_in leaf) each_is);
      }

  -- ---- what is written
  abbrev pub row_record : Row A → List ℕ
  row_record r = value_record (map_row write r)

  abbrev pub predicate_sheet : Predicate A → List ℕ
  predicate_sheet p = answer_sheet column (map_literals write p)

  pub row_fits : (r : Row A) → OfPresent law.Good r → FitsRow column (map_row write r)
  row_fits missing h = tt
  row_fits (present x) h = law.fit x h

  pub row_back : (r : Row A) → OfPresent law.Good r → read_row read (map_row write r) ≡ Ok r
  row_back missing h = refl
  row_back (present x) h = rw (law.back x h)

  pub record_back : (r : Row A) → OfPresent law.Good r → value (layout column) (row_record r) ≡ Ok (map_row write r)
  record_back r h = value_back column (map_row write r) (row_fits r h)

  -- the records of two values tell them apart
  pub record_inj : (r p : Row A) → OfPresent law.Good r → OfPresent law.Good p → row_record r ≡ row_record p → r ≡ p
  record_inj r p h k e =
      let same = ok_inj (sym (record_back r h) ∙ ap (value (layout column)) e ∙ record_back p k) in
      ok_inj (sym (row_back r h) ∙ ap (read_row read) same ∙ row_back p k)

  each_fits : (xs : List A) → AllOf law.Good xs → Fits column (map write xs)
  each_fits [] h = tt
  each_fits (x ∷ xs) h = (law.fit x h.0, each_fits xs h.1)

  each_back : (xs : List A) → AllOf law.Good xs → each read (map write xs) ≡ Ok xs
  each_back [] h = refl
  each_back (x ∷ xs) h = each_put read (write x) (map write xs) (law.back x h.0) (each_back xs h.1)

  leaf_back : (p : Predicate A) → AllOf law.Good (literals_in p) → each_literal read (map_literals write p) ≡ Ok p
  leaf_back (unary o) h = refl
  leaf_back (test (binary o x)) h = rw (law.back x h.0)
  leaf_back (test (set o xs)) h = rw (each_back xs h)

  sheet_back : (p : Predicate A) → Landed law.Good holds_limit p
      → sheet holds_limit (predicate_sheet p) ≡ Ok (sheet_of column Identity (map_literals write p))
  sheet_back p h =
      let are = literals_map write p in
      answer_back holds_limit column (map_literals write p) (omega arith) (rw are (each_fits (literals_in p) h.all))
      (rw (are, length-map) h.count)

  pub sheet_length : (p : Predicate A) → AllOf law.Good (literals_in p) → length (predicate_sheet p) ≡ record_size * suc (length (literals_in p))
  sheet_length p h =
      let are = literals_map write p in
      length_answer column (map_literals write p) (rw are (each_fits (literals_in p) h)) ∙ ap (λ ls. record_size * suc (length ls)) are ∙ rw length-map

  -- ---- the holds-test of a sheet and a record that are read, and of those that are written
  pub holds_read : (s v : List ℕ) (transform : Transform) (leaf : Predicate (List ℕ)) (raw : Row (List ℕ)) (l : Predicate A) (r : Row A)
      → sheet holds_limit s ≡ Ok (sheet_of column transform leaf) → value (layout column) v ≡ Ok raw
      → each_literal read leaf ≡ Ok l → read_row read raw ≡ Ok r → holds_test s v ≡ Ok (holds by l r)
  unfolding holds_test
  holds_read s v transform leaf raw l r a b e d = going _ a ∙ going _ b ∙ law.tests transform leaf raw ∙ going _ e ∙ going _ d

  pub holds_written : (p : Predicate A) (r : Row A) → Landed law.Good holds_limit p → OfPresent law.Good r
      → holds_test (predicate_sheet p) (row_record r) ≡ Ok (holds by p r)
  holds_written p r h k =
      holds_read (predicate_sheet p) (row_record r) Identity (map_literals write p) (map_row write r) p r
      (sheet_back p h) (record_back r k) (leaf_back p h.all) (row_back r k)
