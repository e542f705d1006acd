-- Rows, leaves and predicates over bytes and over values, in any kind: what is met of the one is met of the other. Assumes nothing.
use Rattle.std.specs.Prelude.{Ok}
use Prim.Native.Nat.{ℕ, suc, ◌*◌, ◌≤◌}
use native.Mathlib.Omega.{arith}
use mathlib.Core.Bool.{Bool, true}
use mathlib.Core.List.{List}
use mathlib.Core.Logic.{◌↔◌}
use mathlib.Core.Path.{◌≡◌, refl, sym, ap, ap₂, ◌∙◌}
use lib.ListN.{length}
use Rattle.values.specs.Words.{AllBytes}
use Rattle.values.specs.Outcomes.{Res, Row}
use Rattle.values.specs.laws.OutcomeLaws.{ok_inj}
use Rattle.values.specs.declared.datatypes.PrimitiveType.{PrimitiveType}
use Rattle.values.specs.declared.transform.Transform.{Transform}
use Rattle.expr.specs.Operators.{project_limit, holds_limit}
use Rattle.expr.specs.Holds.{holds}
use Rattle.partition.specs.code.PartitionAnswers.{OfPresent}
use Rattle.projection.specs.laws.LeafDemand as over-values
use Rattle.projection.specs.laws.LiteralLaws.{Landed}
use Rattle.projection.specs.declared.question.Question.{Question}
use Rattle.sheet.specs.Records.{record_size}
use Rattle.sheet.specs.laws.SheetLaws.{Read, sheet_read_lem, wider}
use Rattle.api.specs.Demand3.{RowOf, Accepts, SomeRow, AllRows}
use Rattle.api.specs.HoldsTest.{holds_test}
use Rattle.answers.specs.Kinds.{Kind}
use Rattle.sheet.specs.Values.{map_row}
use Rattle.demand.proofs.KindLaws.{KindLaws, Returned, HasPart, good_row, good_part, row_part, part_row}
use Rattle.demand.proofs.ReadBackLaws.{sheet_of, leaf_good, row_record, row_back, record_back, record_inj, sheet_length, holds_read, holds_written}

accepted : {r : Res Bool} {b : Bool} → r ≡ Ok b → (r ≡ Ok true) ↔ (b ≡ true)
accepted e = (λ h. ok_inj (sym e ∙ h), λ h. e ∙ ap Ok h)

module _ {A B : Type 0} {k : Kind A B} {column : PrimitiveType} {transform : Transform} {question : Question} {s q : List ℕ}
    (a : Returned k column transform question s q) (law : KindLaws column a.to transform k) where
  pub reading : Read project_limit s (sheet_of column transform a.content)
  reading = sheet_read_lem project_limit s _ a.sheet_is

  -- the leaf's literals are of the column's type, the predicate's of the result type
  pub good_leaf : Landed law.rows.Good project_limit a.leaf
  good_leaf = leaf_good law.rows project_limit a.content a.leaf reading.fit reading.few a.leaf_is

  pub good_predicate : Landed law.parts.Good holds_limit a.predicate
  good_predicate = law.project_good question a.leaf a.predicate good_leaf a.project_is

  pub answer_length : length q ≤ record_size * suc holds_limit
  answer_length =
      let size = sheet_length law.parts a.predicate good_predicate.all in
      rw (← a.bytes_is, size) (omega (arith, good_predicate.count))

  abbrev pub Part : List ℕ → List ℕ → Type 0
  Part v p = HasPart k column a.to v p

  pub part_of : (v p : List ℕ) → RowOf s p v → Part v p
  part_of v p h = row_part law s v p reading.head_is h

  -- the predicate of the record of a value that is of the result type
  pub meets_written : (y : Row B) (p : List ℕ) → OfPresent law.parts.Good y → row_record law.parts y ≡ p
      → Accepts q p ↔ (holds law.part_tests a.predicate y ≡ true)
  meets_written y p good is =
      accepted (ap₂ holds_test (sym a.bytes_is) (sym is) ∙ holds_written law.parts a.predicate y good_predicate good)

  module _ (v p : List ℕ) (m : Part v p) where
    pub meets_leaf : Accepts s v ↔ (holds law.row_tests a.leaf m.row ≡ true)
    meets_leaf =
        accepted (holds_read law.rows s v transform a.content m.content a.leaf m.row
        (wider project_limit s holds_limit _ a.sheet_is (omega arith)) m.value_is a.leaf_is m.row_is)

    pub meets_predicate : Accepts q p ↔ (holds law.part_tests a.predicate m.part ≡ true)
    meets_predicate = meets_written m.part p (good_part law v p m) m.bytes_is

  -- two value records with the same partition value's record have the same partition value
  pub same_part : (u v p : List ℕ) (m : Part u p) (n : Part v p) → m.part ≡ n.part
  same_part u v p m n =
      record_inj law.parts m.part n.part (good_part law u p m) (good_part law v p n) (m.bytes_is ∙ sym n.bytes_is)

  -- r is a row of y, over values
  abbrev Row-of : Row A → Row B → Type 0
  Row-of r y = over-values.RowOf law.rows.Good k.partition r y

  pub row_of : (v p : List ℕ) (m : Part v p) → Row-of m.row m.part
  row_of v p m = (good_row law v p m, m.part_is)

  -- ---- nothing is lost, if nothing is over values
  module _ (v p : List ℕ) (h : RowOf s p v) where
    pub no_row_lost : ((r : Row A) (y : Row B) → Row-of r y
        → holds law.row_tests a.leaf r ≡ true → holds law.part_tests a.predicate y ≡ true) → Accepts s v → Accepts q p
    no_row_lost f met =
        let m = part_of v p h in
        (meets_predicate v p m).1 (f m.row m.part (row_of v p m) ((meets_leaf v p m).0 met))

    pub strict_is_safe : ((r : Row A) (y : Row B) → Row-of r y
        → holds law.part_tests a.predicate y ≡ true → holds law.row_tests a.leaf r ≡ true) → Accepts q p → Accepts s v
    strict_is_safe f met =
        let m = part_of v p h in
        (meets_leaf v p m).1 (f m.row m.part (row_of v p m) ((meets_predicate v p m).0 met))

  -- ---- a row over values can be written: some row, and all rows
  abbrev pub part_record : Row B → List ℕ
  part_record y = row_record law.parts y

  written : (r : Row A) (y : Row B) → Row-of r y → Part (row_record law.rows r) (part_record y)
  written r y e = record {
    content = map_row law.row_write r;
    row = r;
    part = y;
    value_is = record_back law.rows r e.0;
    row_is = row_back law.rows r e.0;
    part_is = e.1;
    bytes_is = refl;
  }

  module _ (bytes : (r : Row A) → AllBytes (row_record law.rows r)) where
    pub some_row : (y : Row B) → (r : Row A) × Row-of r y × (holds law.row_tests a.leaf r ≡ true) → SomeRow s (part_record y)
    unfolding written
    some_row y f =
        let u = row_record law.rows f.0 in
        let m = written f.0 y f.1 in
        (u, bytes f.0, part_row law s u (part_record y) reading.head_is m, (meets_leaf u (part_record y) m).1 f.2)

    pub all_rows : (y : Row B) → AllRows s (part_record y) → (r : Row A) → Row-of r y → holds law.row_tests a.leaf r ≡ true
    unfolding written
    all_rows y f r e =
        let u = row_record law.rows r in
        let m = written r y e in
        (meets_leaf u (part_record y) m).0 (f u (bytes r) (part_row law s u (part_record y) reading.head_is m))

  pub row_some : (y : Row B) (p : List ℕ) → ((u : List ℕ) (m : Part u p) → m.part ≡ y) → SomeRow s p
      → (r : Row A) × Row-of r y × (holds law.row_tests a.leaf r ≡ true)
  row_some y p same f =
      let m = part_of f.0 p f.2 in
      (m.row, (good_row law f.0 p m, m.part_is ∙ ap Ok (same f.0 m)), (meets_leaf f.0 p m).0 f.3)

  pub rows_all : (y : Row B) (p : List ℕ) → ((u : List ℕ) (m : Part u p) → m.part ≡ y)
      → ((r : Row A) → Row-of r y → holds law.row_tests a.leaf r ≡ true) → AllRows s p
  rows_all y p same f u b h =
      let m = part_of u p h in
      (meets_leaf u p m).1 (f m.row (good_row law u p m, m.part_is ∙ ap Ok (same u m)))
