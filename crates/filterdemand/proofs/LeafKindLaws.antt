-- One leaf in any kind of values: what a row and a partition value are answered, over bytes and over values. Assumes nothing.
use Rattle.std.specs.Prelude.{Ok, Err}
use Prim.Native.Nat.{ℕ}
use native.Mathlib.Omega.{arith}
use mathlib.Core.Bool.{true, false≢true}
use mathlib.Core.List.{List, [], ◌∷◌, map}
use mathlib.Core.Path.{◌≡◌, refl, sym, ap, ap₂, subst₂, ◌∙◌}
use lib.ListN.{length, length-map}
use Rattle.values.specs.code.Places.{AllOf}
use Rattle.values.specs.Outcomes.{Res, each, ◌>>=◌, Row, missing, present}
use Rattle.values.specs.laws.OutcomeLaws.{ok_inj, ok_not_err, going, gone, each_put}
use Rattle.values.specs.Types.{layout, fits}
use Rattle.values.specs.declared.datatypes.PrimitiveType.{PrimitiveType}
use Rattle.values.specs.declared.error.ErrorKind.{ErrorKind}
use Rattle.values.specs.declared.transform.Transform.{Transform}
use Rattle.values.specs.declared.transform.Transform.TheVariants.{Identity}
use Rattle.partition.specs.ResultType.{result_type}
use Rattle.partition.specs.code.PartitionAnswers.{OfPresent}
use Rattle.expr.specs.Holds.{Tests, holds}
use Rattle.expr.specs.Operators.{project_limit, holds_limit}
use Rattle.expr.specs.Predicates.{Predicate, unary, test, binary, set, literals_in}
use Rattle.projection.specs.laws.LeafDemand as over-values
use Rattle.projection.specs.laws.LiteralLaws.{Landed}
use Rattle.projection.specs.Steps.{Projected, some, none, mapped}
use Rattle.projection.specs.declared.question.Question.{Question}
use Rattle.projection.specs.declared.question.Question.TheVariants.{Inclusive, Strict}
use Rattle.sheet.specs.laws.RecordLaws.{FitsRow, value_read}
use Rattle.sheet.specs.laws.RefusalLaws.{Only}
use Rattle.sheet.specs.laws.SheetLaws.{Fits}
use Rattle.sheet.specs.Records.{value}
use Rattle.sheet.specs.Values.{read_bytes, each_literal, read_row, map_row, map_literals}
use Rattle.write.specs.Written.{answer_sheet}
use Rattle.write.specs.laws.WrittenLaws.{answer_back}
use Rattle.meets.specs.Tested.{tested_sheet}
use Rattle.answers.specs.Answers.{projected}
use Rattle.answers.specs.Kinds.{Kind}
use Rattle.api.specs.HoldsTest.{holds_test}
use Rattle.ask.specs.LeafAnswers.{accepted, by_part}
use Rattle.filter.specs.FilterDemand.{by_returned}
use Rattle.demand.proofs.FilingLaws.{FiledUnder, FilingLaws}
use Rattle.demand.proofs.KindLaws.{KindLaws, HasPart, good_row, good_part}
use Rattle.demand.proofs.ReadBackLaws.{ValueLaws, sheet_of, row_record, row_back, record_back, holds_read}
use Rattle.filterdemand.proofs.JoinedLaws.{Refusal, Follows, Leads}

-- ---- what is written of a predicate is read back
module _ {A : Type 0} {column : PrimitiveType} {read : List ℕ → Res A} {write : A → List ℕ} {by : Tests A} (law : ValueLaws column read write by) where
  written_fits : (p : Predicate A) → AllOf law.Good (literals_in p) → Fits column (literals_in (map_literals write p))
  written_fits (unary o) h = tt
  written_fits (test (binary o x)) h = (law.fit x h.0, tt)
  written_fits (test (set o xs)) h = go xs h
    where
      go : (xs : List A) → AllOf law.Good xs → Fits column (map write xs)
      go [] h = tt
      go (x ∷ xs) h = (law.fit x h.0, go xs h.1)

  written_count : (p : Predicate A) → length (literals_in (map_literals write p)) ≡ length (literals_in p)
  written_count (unary o) = refl
  written_count (test (binary o x)) = refl
  written_count (test (set o xs)) = rw length-map

  written_back : (p : Predicate A) → AllOf law.Good (literals_in p) → each_literal read (map_literals write p) ≡ Ok p
  written_back (unary o) h = refl
  written_back (test (binary o x)) h = rw (law.back x h.0)
  written_back (test (set o xs)) h = rw (go xs h)
    where
      go : (xs : List A) → AllOf law.Good xs → each read (map write xs) ≡ Ok xs
      go [] h = refl
      go (x ∷ xs) h = each_put read (write x) (map write xs) (law.back x h.0) (go xs h.1)

  -- the holds-test of a predicate's sheet goes by what any record is read as
  pub holds_back : (p : Predicate A) → Landed law.Good holds_limit p → (v : List ℕ) (raw : Row (List ℕ)) (r : Row A)
      → value (layout column) v ≡ Ok raw → read_row read raw ≡ Ok r → holds_test (answer_sheet column (map_literals write p)) v ≡ Ok (holds by p r)
  holds_back p h v raw r value_is row_is =
      let few = h.count in
      let sheet_is = answer_back holds_limit column (map_literals write p) (omega arith) (written_fits p h.all) (omega (arith, written_count p)) in
      holds_read law _ v Identity (map_literals write p) raw p r sheet_is value_is (written_back p h.all) row_is

-- ---- what a kind owes beside `KindLaws`: partition values are read without a refusal, and over values nothing is lost, in files of older writers too
pub record LeafLaws {A B : Type 0} {column to : PrimitiveType} {transform : Transform} {k : Kind A B} (law : KindLaws column to transform k) : Type 1 where
  pub same_tests : k.parts ≡ law.part_tests
  pub part_read_lem : (bs : List ℕ) (x : B) → fits (layout to) (length bs) ≡ true → law.part_read bs ≡ Ok x → k.read_part bs ≡ x
  pub part_reads : (bs s : List ℕ) → read_bytes to bs ≡ Ok s → (x : B) × (law.part_read bs ≡ Ok x)
  pub filing : FilingLaws law
  pub strict_is_safe : (leaf : Predicate A) (q : Predicate B) → AllOf law.rows.Good (literals_in leaf) → k.project Strict leaf ≡ Ok (some q)
      → over-values.StrictIsSafe law.row_tests law.part_tests law.rows.Good k.partition leaf q

module _ {A B : Type 0} {column to : PrimitiveType} {transform : Transform} {k : Kind A B} (law : KindLaws column to transform k) (more : LeafLaws law) where
  row_part_read : (raw : Row (List ℕ)) (r : Row B) → FitsRow to raw → read_row law.part_read raw ≡ Ok r → map_row k.read_part raw ≡ r
  row_part_read missing r h e = ok_inj e
  row_part_read (present bs) r h e = let a = gone (law.part_read bs) _ e in ap present (more.part_read_lem bs a.0 h a.1) ∙ ok_inj a.2

  row_part_reads : (raw s : Row (List ℕ)) → read_row (read_bytes to) raw ≡ Ok s → (r : Row B) × (read_row law.part_read raw ≡ Ok r)
  row_part_reads missing s e = (missing, refl)
  row_part_reads (present bs) s e =
      let a = gone (read_bytes to bs) _ e in
      let x = more.part_reads bs a.0 a.1 in
      (present x.0, rw x.1)

  -- ---- a predicate's sheet, tested with a partition record
  pub part_held : (question : Question) (leaf : Predicate A) (q : Predicate B) → Landed law.rows.Good project_limit leaf
      → k.project question leaf ≡ Ok (some q) → (p : List ℕ) (raw s : Row (List ℕ)) → value (layout to) p ≡ Ok raw → read_row (read_bytes to) raw ≡ Ok s
      → holds_test (answer_sheet to (map_literals (k.write to) q)) p ≡ Ok (holds k.parts q (map_row k.read_part raw))
  part_held question leaf q h e p raw s value_is read_is =
      let r = row_part_reads raw s read_is in
      let same = row_part_read raw r.0 (value_read to p raw value_is).fit r.1 in
      holds_back law.parts q (law.project_good question leaf q h e) p raw r.0 value_is r.1
      ∙ ap₂ (λ by x. Ok (holds by q x)) (sym more.same_tests) (sym same)

  -- ---- a leaf: what a row is answered, and what a partition value is by its record
  module _ (content : Predicate (List ℕ)) (leaf : Predicate A) (leaf_is : each_literal k.read content ≡ Ok leaf) where
    row_tested : (v p : List ℕ) (m : HasPart k column to v p) (raw : Row (List ℕ)) → value (layout column) v ≡ Ok raw
        → tested_sheet (sheet_of column transform content) raw ≡ Ok (holds law.row_tests leaf m.row)
    row_tested v p m raw value_is =
        let same : raw ≡ m.content = ok_inj (sym value_is ∙ m.value_is) in
        law.rows.tests transform content raw ∙ going _ leaf_is ∙ going _ (ap (read_row k.read) same ∙ m.row_is)

    by_part_is : (question : Question) (y : Row B) (f : List ℕ) (part : Row (List ℕ)) → OfPresent law.parts.Good y → row_record law.parts y ≡ f
        → value (layout to) f ≡ Ok part
        → by_part k column transform question content part ≡ (k.project question leaf >>= λ q. Ok (accepted law.part_tests question q y))
    by_part_is question y f part good bytes_is part_is =
        let same : part ≡ map_row (k.write to) y = ok_inj (sym part_is ∙ ap (value (layout to)) (sym bytes_is) ∙ record_back law.parts y good) in
        let read = row_part_read part y (value_read to f part part_is).fit (ap (read_row law.part_read) same ∙ row_back law.parts y good) in
        going _ leaf_is ∙ going _ law.result ∙ rw (read, more.same_tests)

    -- a row's record v, and the record f that is asked
    module _ (good : AllOf law.rows.Good (literals_in leaf)) (v f : List ℕ) (raw part : Row (List ℕ)) (value_is : value (layout column) v ≡ Ok raw)
        (part_is : value (layout to) f ≡ Ok part) where
      pub leaf_follows : FiledUnder law more.filing.MayFile v f → Only Refusal (k.project Inclusive leaf)
          → Follows (tested_sheet (sheet_of column transform content) raw) (by_part k column transform Inclusive content part)
      leaf_follows d only =
          subst₂ Follows (sym (row_tested v d.own_record d.own raw value_is))
          (sym (by_part_is Inclusive d.under f part d.under_good d.bytes_is part_is))
          (go (k.project Inclusive leaf) refl (λ e x. only.only e x))
        where
          go : (r : Res (Projected (Predicate B))) → k.project Inclusive leaf ≡ r → ((e : ErrorKind) → r ≡ Err e → Refusal e)
              → Follows (Ok (holds law.row_tests leaf d.own.row)) (r >>= λ q. Ok (accepted law.part_tests Inclusive q d.under))
          go (Ok (some q)) e h = λ met.
              more.filing.no_older_row_lost leaf q good e d.own.row d.own.part d.under
              (good_row law v d.own_record d.own, d.own.part_is) d.may_file (ok_inj met)
          go (Ok none) e h = λ met. refl
          go (Err x) e h = h x refl

      pub leaf_leads : HasPart k column to v f → Leads (tested_sheet (sheet_of column transform content) raw) (by_part k column transform Strict content part)
      leaf_leads m = record {
        says = holds law.row_tests leaf m.row;
        is = row_tested v f m raw value_is;
        yes_where = λ e. go (k.project Strict leaf) refl (sym (by_part_is Strict m.part f part (good_part law v f m) m.bytes_is part_is) ∙ e);
      }
        where
          go : (r : Res (Projected (Predicate B))) → k.project Strict leaf ≡ r
              → (r >>= λ q. Ok (accepted law.part_tests Strict q m.part)) ≡ Ok true → holds law.row_tests leaf m.row ≡ true
          go (Ok (some q)) e met = more.strict_is_safe leaf q good e m.row m.part (good_row law v f m, m.part_is) (ok_inj met)
          go (Ok none) e met = absurd (false≢true (ok_inj met))
          go (Err x) e met = ok_not_err met

-- ---- a leaf's answer by a partition record is what its projection's answer comes to with that record
module _ {A B : Type 0} (k : Kind A B) (column : PrimitiveType) (transform : Transform) (question : Question)
    (content : Predicate (List ℕ)) (leaf : Predicate A) (leaf_is : each_literal k.read content ≡ Ok leaf) (raw : Row (List ℕ)) (p : List ℕ) where
  -- of a leaf that has a predicate
  abbrev pub Held : Type 0
  Held = (to : PrimitiveType) (q : Predicate B) → result_type transform column ≡ Ok to → k.project question leaf ≡ Ok (some q)
      → holds_test (answer_sheet to (map_literals (k.write to) q)) p ≡ Ok (holds k.parts q (map_row k.read_part raw))

  pub by_part_returned : Held → by_part k column transform question content raw ≡ by_returned question (projected k column transform question content) p
  by_part_returned held = rw leaf_is (go (result_type transform column) refl)
    where
      then : (to : PrimitiveType) → result_type transform column ≡ Ok to → (r : Res (Projected (Predicate B))) → k.project question leaf ≡ r
          → (r >>= λ q. Ok (accepted k.parts question q (map_row k.read_part raw)))
          ≡ by_returned question (r >>= λ q. Ok (mapped (λ x. answer_sheet to (map_literals (k.write to) x)) q)) p
      then to a (Ok (some q)) e = sym (held to q a e)
      then to a (Ok none) e = refl
      then to a (Err x) e = refl

      go : (t : Res PrimitiveType) → result_type transform column ≡ t
          → (t >>= λ to. k.project question leaf >>= λ q. Ok (accepted k.parts question q (map_row k.read_part raw)))
          ≡ by_returned question (t >>= λ to. k.project question leaf >>= λ q. Ok (mapped (λ x. answer_sheet to (map_literals (k.write to) x)) q)) p
      go (Ok to) a = then to a (k.project question leaf) refl
      go (Err x) a = refl
