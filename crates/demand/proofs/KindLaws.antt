-- What a kind of values owes over one column: what is read, projected and transformed is good in its type, and the routines go by the kind. Then what a
-- returned answer sheet and a value record that has a partition value were read as. Assumes nothing.
use Rattle.std.specs.Prelude.{Ok}
use Prim.Native.Nat.{ℕ}
use mathlib.Core.Bool.{true≢false}
use mathlib.Core.List.{List}
use mathlib.Core.Path.{◌≡◌, refl, sym, ap, ◌∙◌}
use Rattle.values.specs.Outcomes.{Res, Row}
use Rattle.values.specs.laws.OutcomeLaws.{ok_inj, going, gone}
use Rattle.values.specs.Types.{layout}
use Rattle.values.specs.declared.datatypes.PrimitiveType.{PrimitiveType}
use Rattle.values.specs.declared.transform.Transform.{Transform}
use Rattle.partition.specs.ResultType.{result_type}
use Rattle.expr.specs.Operators.{project_limit, holds_limit}
use Rattle.expr.specs.Holds.{Tests}
use Rattle.expr.specs.Predicates.{Predicate}
use Rattle.partition.specs.code.PartitionAnswers.{OfPresent}
use Rattle.projection.specs.laws.LiteralLaws.{Landed}
use Rattle.projection.specs.Steps.{Projected, some, none, mapped}
use Rattle.projection.specs.declared.question.Question.{Question}
use Rattle.sheet.specs.laws.RecordLaws.{value_read}
use Rattle.sheet.specs.Records.{value}
use Rattle.sheet.specs.Sheets.{head, sheet}
use Rattle.sheet.specs.Values.{each_literal, read_row, map_row, map_literals}
use Rattle.write.specs.Written.{value_record, answer_sheet}
use Rattle.api.specs.Demand3.{type_in, transform_in, width_in, RowOf}
use Rattle.answers.specs.Kinds.{Kind}
use Rattle.answers.specs.Answers.{projected, transformed, transformed_row}
use Rattle.api.specs.Routines.{transform_value}
use Rattle.demand.proofs.ReadBackLaws.{sheet_of, ValueLaws, row_good}

-- `to` is the result type
pub record KindLaws {A B : Type 0} (column to : PrimitiveType) (transform : Transform) (k : Kind A B) : Type 1 where
  pub result : result_type transform column ≡ Ok to
  pub row_write : A → List ℕ
  pub row_tests : Tests A
  pub rows : ValueLaws column k.read row_write row_tests
  pub part_read : List ℕ → Res B
  pub part_tests : Tests B
  pub parts : ValueLaws to part_read (k.write to) part_tests
  pub part_good : (r : Row A) (p : Row B) → OfPresent rows.Good r → k.partition r ≡ Ok p → OfPresent parts.Good p
  pub project_good : (question : Question) (l : Predicate A) (p : Predicate B) → Landed rows.Good project_limit l
      → k.project question l ≡ Ok (some p) → Landed parts.Good holds_limit p
  pub transforms : (row : Row (List ℕ)) → transformed_row column transform row ≡ transformed k column transform row

-- s is read as a leaf, and q is written of the predicate that it is projected to
pub record Returned {A B : Type 0} (k : Kind A B) (column : PrimitiveType) (transform : Transform) (question : Question) (s q : List ℕ) : Type 0 where
  pub to : PrimitiveType
  pub content : Predicate (List ℕ)
  pub leaf : Predicate A
  pub predicate : Predicate B
  pub sheet_is : sheet project_limit s ≡ Ok (sheet_of column transform content)
  pub leaf_is : each_literal k.read content ≡ Ok leaf
  pub result_is : result_type transform column ≡ Ok to
  pub project_is : k.project question leaf ≡ Ok (some predicate)
  pub bytes_is : answer_sheet to (map_literals (k.write to) predicate) ≡ q

-- v is read as a row, and p is written of its partition value
pub record HasPart {A B : Type 0} (k : Kind A B) (column to : PrimitiveType) (v p : List ℕ) : Type 0 where
  pub content : Row (List ℕ)
  pub row : Row A
  pub part : Row B
  pub value_is : value (layout column) v ≡ Ok content
  pub row_is : read_row k.read content ≡ Ok row
  pub part_is : k.partition row ≡ Ok part
  pub bytes_is : value_record (map_row (k.write to) part) ≡ p

-- both are of their types
module _ {A B : Type 0} {k : Kind A B} {column to : PrimitiveType} {transform : Transform} (law : KindLaws column to transform k) (v p : List ℕ)
    (m : HasPart k column to v p) where
  pub good_row : OfPresent law.rows.Good m.row
  good_row = row_good law.rows m.content m.row (value_read column v m.content m.value_is).fit m.row_is

  pub good_part : OfPresent law.parts.Good m.part
  good_part = law.part_good m.row m.part good_row m.part_is

mapped_some : {P Q : Type 0} (f : P → Q) (r : Projected P) {q : Q} → ◌≡◌ {A = Res (Projected Q)} (Ok (mapped f r)) (Ok (some q)) → (p : P) × (r ≡ some p) × (f p ≡ q)
mapped_some f (some p) e = (p, refl, cc)
mapped_some f none e = absurd (true≢false (cc))

module _ {A B : Type 0} (k : Kind A B) (column : PrimitiveType) (transform : Transform) where
  pub returned : (question : Question) (s q : List ℕ) (content : Predicate (List ℕ)) → sheet project_limit s ≡ Ok (sheet_of column transform content)
      → projected k column transform question content ≡ Ok (some q) → Returned k column transform question s q
  returned question s q content is e =
      let l = gone (each_literal k.read content) _ e in
      let to = gone (result_type transform column) _ l.2 in
      let p = gone (k.project question l.0) _ to.2 in
      let b = mapped_some (λ x. answer_sheet to.0 (map_literals (k.write to.0) x)) p.0 p.2 in
      record {
        to = to.0;
        content = content;
        leaf = l.0;
        predicate = b.0;
        sheet_is = is;
        leaf_is = l.1;
        result_is = to.1;
        project_is = p.1 ∙ ap Ok b.1;
        bytes_is = b.2;
      }

module _ {A B : Type 0} {k : Kind A B} {column to : PrimitiveType} {transform : Transform} (law : KindLaws column to transform k) (s v p : List ℕ)
    (head_is : head (type_in s) (transform_in s) (width_in s) ≡ Ok (record { column = column; transform = transform })) where
  pub row_part : RowOf s p v → HasPart k column to v p
  unfolding transform_value
  row_part h =
      let c = gone (value (layout column) v) _ (sym (going _ head_is) ∙ h) in
      let r = gone (read_row k.read c.0) _ (sym (law.transforms c.0) ∙ c.2) in
      let t = gone (result_type transform column) _ r.2 in
      let u = gone (k.partition r.0) _ t.2 in
      let as_record : PrimitiveType → List ℕ = λ ty. value_record (map_row (k.write ty) u.0) in
      record {
        content = c.0;
        row = r.0;
        part = u.0;
        value_is = c.1;
        row_is = r.1;
        part_is = u.1;
        bytes_is = ap as_record (ok_inj {x = to} (sym law.result ∙ t.1)) ∙ ok_inj {x = as_record t.0} u.2;
      }

  pub part_row : HasPart k column to v p → RowOf s p v
  unfolding transform_value
  part_row m =
      going _ head_is
      ∙ going _ m.value_is
      ∙ law.transforms m.content
      ∙ going _ m.row_is
      ∙ going _ law.result
      ∙ going _ m.part_is
      ∙ ap Ok m.bytes_is
