-- A fitted leaf: its answers by a row and by the record that the row is filed under, and by any partition record and by what its projection returns. Assumes
-- nothing.
use Rattle.std.specs.Prelude.{Ok}
use Prim.Native.Nat.{ℕ}
use native.Mathlib.Omega.{arith}
use mathlib.Core.Bool.{Bool, true}
use mathlib.Core.List.{List}
use mathlib.Core.Logic.{⊎_elim}
use mathlib.Core.Path.{◌≡◌, refl, sym, subst, ◌∙◌}
use lib.IntN.{ℤ}
use Rattle.values.specs.Outcomes.{Res, Row}
use Rattle.values.specs.laws.OutcomeLaws.{passing, going, gone}
use Rattle.values.specs.Types.{Layout, number, bytes, layout}
use Rattle.values.specs.Words.{le_number, signed}
use Rattle.values.specs.declared.datatypes.PrimitiveType.{PrimitiveType}
use Rattle.values.specs.declared.error.ErrorKind.TheVariants.{NotUtf8}
use Rattle.values.specs.declared.transform.Transform.{Transform}
use Rattle.partition.specs.laws.PartitionRowLaws.{number_row_lem, bytes_row}
use Rattle.partition.specs.Partition.{known, number_partition, bytes_partition}
use Rattle.partition.specs.ResultType.{result_type}
use Rattle.expr.specs.Operators.{project_limit}
use Rattle.expr.specs.Predicates.{Predicate, test, binary}
use Rattle.projection.specs.laws.LiteralLaws.{Landed}
use Rattle.projection.specs.Steps.{some}
use Rattle.projection.specs.declared.question.Question.{Question}
use Rattle.projection.specs.declared.question.Question.TheVariants.{Inclusive, Strict}
use Rattle.sheet.specs.laws.RefusalLaws.{Only}
use Rattle.sheet.specs.Records.{value}
use Rattle.sheet.specs.Sheets.{head}
use Rattle.sheet.specs.Values.{read_number, read_bytes, read_row, by_layout}
use Rattle.answers.specs.Answers.{projected, projected_leaf, transformed, transformed_row}
use Rattle.answers.specs.Kinds.{Kind, numbers, byte_strings}
use Rattle.api.specs.Demand3.{type_in, transform_in, width_in, RowOf}
use Rattle.api.specs.OlderDemand.{Filed}
use Rattle.api.specs.Routines.{transform_value}
use Rattle.columns.specs.Cells.{type_or, Cell}
use Rattle.leaves.specs.Fitting.{Leaf}
use Rattle.ask.specs.LeafAnswers.{row_at, predicate_in, row_answer, by_part, part_answer}
use Rattle.filter.specs.FilterDemand.{by_returned}
use Rattle.demand.proofs.BytesKindLaws.{bytes_kind}
use Rattle.demand.proofs.KindLaws.{KindLaws, row_part}
use Rattle.demand.proofs.NumberKindLaws.{number_known, number_kind}
use Rattle.filterdemand.proofs.FittedLaws.{FitsIn}
use Rattle.filterdemand.proofs.JoinedLaws.{Refusal, Follows, Leads}
use Rattle.filterdemand.proofs.BothKindsLaws.{number_leaf_lem, bytes_leaf_lem, numbers_refusals, bytes_refusals}
use Rattle.filterdemand.proofs.LeafKindLaws as kinds
use Rattle.filterdemand.proofs.LeafKindLaws.{LeafLaws, part_held, by_part_returned}

-- ---- a row that has a partition value has a result type, and its transform is known
pub record Known (column : PrimitiveType) (transform : Transform) : Type 0 where
  pub to : PrimitiveType
  pub result : result_type transform column ≡ Ok to
  pub is_known : known transform ≡ true

module _ (column : PrimitiveType) (transform : Transform) where
  row_known : (row : Row (List ℕ)) (p : List ℕ) → transformed_row column transform row ≡ Ok p → Known column transform
  unfolding transformed_row
  row_known row p e = go (layout column) e
    where
      go : (l : Layout)
          → by_layout l (λ n. transformed (numbers column transform n) column transform row) (transformed (byte_strings column transform) column transform row)
          ≡ Ok p
          → Known column transform
      go (number n) e =
          let r = gone (read_row (read_number n) row) _ e in
          let t = gone (result_type transform column) _ r.2 in
          let u = gone (number_partition column transform r.0) _ t.2 in
          record { to = t.0; result = t.1; is_known = (number_row_lem column transform r.0 u.0 u.1).0 }
      go (bytes n) e =
          let r = gone (read_row (read_bytes column) row) _ e in
          let t = gone (result_type transform column) _ r.2 in
          let u = gone (bytes_partition column transform r.0) _ t.2 in
          record { to = t.0; result = t.1; is_known = (bytes_row column transform r.0 u.0 u.1).0 }

  value_known : (s v p : List ℕ) → head (type_in s) (transform_in s) (width_in s) ≡ Ok (record { column = column; transform = transform })
      → RowOf s p v → Known column transform
  unfolding transform_value
  value_known s v p head_is h = let r = gone (value (layout column) v) _ (sym (going _ head_is) ∙ h) in row_known r.0 p r.2

  filed_known : (s v p : List ℕ) → head (type_in s) (transform_in s) (width_in s) ≡ Ok (record { column = column; transform = transform })
      → Filed s p v → Known column transform
  filed_known s v p head_is d = ⊎_elim (λ h. value_known s v p head_is h) (λ x. value_known s v x.1.0 head_is x.1.2) d

module _ (l : Leaf) (fits : FitsIn l.head.column l.content) where
  abbrev column : PrimitiveType
  column = l.head.column

  abbrev transform : Transform
  transform = l.head.transform

  bytes_read : read_bytes column l.content ≡ Ok l.content
  bytes_read = passing NotUtf8 _ fits.held

  -- ---- a row, and a record that it is filed under
  module _ (cells others : List Cell) (s v p : List ℕ) (head_is : head (type_in s) (transform_in s) (width_in s) ≡ Ok l.head)
      (value_is : value (layout column) v ≡ Ok (row_at cells l.place))
      (part_is : value (layout (type_or column (result_type transform column))) p ≡ Ok (row_at others l.place)) where
    -- what the record is answered, by the leaf's kind
    by_kind : (question : Question) (P : Res Bool → Type 0) (has : Known column transform)
        → ((A B : Type 0) (k : Kind A B) (law : KindLaws column has.to transform k) → LeafLaws law → ((leaf : Predicate A) → Only Refusal (k.project Inclusive leaf))
        → (x : A) → k.read l.content ≡ Ok x → P (by_part k column transform question (predicate_in l) (row_at others l.place)))
        → P (part_answer question others l)
    unfolding part_answer
    by_kind question P has f = go (layout column) refl
      where
        go : (lay : Layout) → layout column ≡ lay
            → P (by_layout lay (λ n. by_part (numbers column transform n) column transform question (predicate_in l) (row_at others l.place))
            (by_part (byte_strings column transform) column transform question (predicate_in l) (row_at others l.place)))
        go (number n) is =
            f ℤ ℤ (numbers column transform n) (number_kind column has.to transform n is has.is_known has.result)
            (number_leaf_lem column has.to transform n has.result is has.is_known) (numbers_refusals column has.to transform n has.result has.is_known)
            (signed n (le_number l.content)) refl
        go (bytes n) is =
            f (List ℕ) (List ℕ) (byte_strings column transform) (bytes_kind column has.to transform n is has.result)
            (bytes_leaf_lem column has.to transform n has.result is) (bytes_refusals column has.to transform n has.result has.is_known is)
            l.content bytes_read

    part_read_lem : (has : Known column transform) → value (layout has.to) p ≡ Ok (row_at others l.place)
    part_read_lem has = subst (λ t. value (layout (type_or column t)) p ≡ Ok (row_at others l.place)) has.result part_is

    pub leaf_follows : Filed s p v → Follows (row_answer cells l) (part_answer Inclusive others l)
    unfolding row_answer
    leaf_follows d =
        let has = filed_known column transform s v p head_is d in
        by_kind Inclusive (Follows (row_answer cells l)) has (λ A B k law more refusals x read_is.
        kinds.leaf_follows law more (predicate_in l) (test (binary l.operator x)) (going _ read_is) (law.rows.reads l.content x fits.fit read_is, tt) v p _ _
        value_is (part_read_lem has) (more.filing.filed s v p head_is d) (refusals (test (binary l.operator x))))

    pub leaf_leads : RowOf s p v → Leads (row_answer cells l) (part_answer Strict others l)
    unfolding row_answer
    leaf_leads h =
        let has = value_known column transform s v p head_is h in
        by_kind Strict (Leads (row_answer cells l)) has (λ A B k law more refusals x read_is.
        kinds.leaf_leads law more (predicate_in l) (test (binary l.operator x)) (going _ read_is) (law.rows.reads l.content x fits.fit read_is, tt) v p _ _
        value_is (part_read_lem has) (row_part law s v p head_is h))

  -- ---- any partition record
  module _ (question : Question) (others : List Cell) (p : List ℕ) (read : Row (List ℕ))
      (part_is : value (layout (type_or column (result_type transform column))) p ≡ Ok (row_at others l.place))
      (read_is : read_row (read_bytes (type_or column (result_type transform column))) (row_at others l.place) ≡ Ok read) where
    abbrev raw : Row (List ℕ)
    raw = row_at others l.place

    returned_by : {A B : Type 0} (k : Kind A B) (x : A) → k.read l.content ≡ Ok x
        → ((to : PrimitiveType) (q : Predicate B) → result_type transform column ≡ Ok to → k.project question (test (binary l.operator x)) ≡ Ok (some q)
        → (law : KindLaws column to transform k) × LeafLaws law)
        → by_part k column transform question (predicate_in l) raw ≡ by_returned question (projected k column transform question (predicate_in l)) p
    returned_by {A} {B} k x x_is laws =
        let leaf = test (binary l.operator x) in
        by_part_returned k column transform question (predicate_in l) leaf (going _ x_is) raw p (λ to q result e.
        let law = (laws to q result e).0 in
        let good = law.rows.reads l.content x fits.fit x_is in
        let landed : Landed law.rows.Good project_limit leaf = record { all = (good, tt); count = omega arith } in
        part_held law (laws to q result e).1 question leaf q landed e p raw read
        (subst (λ t. value (layout (type_or column t)) p ≡ Ok raw) result part_is)
        (subst (λ t. read_row (read_bytes (type_or column t)) raw ≡ Ok read) result read_is))

    pub leaf_returned : part_answer question others l ≡ by_returned question (projected_leaf question column transform (predicate_in l)) p
    unfolding part_answer projected_leaf
    leaf_returned = go (layout column) refl
      where
        go : (lay : Layout) → layout column ≡ lay
            → by_layout lay (λ n. by_part (numbers column transform n) column transform question (predicate_in l) raw)
            (by_part (byte_strings column transform) column transform question (predicate_in l) raw)
            ≡ by_returned question (by_layout lay (λ n. projected (numbers column transform n) column transform question (predicate_in l))
            (projected (byte_strings column transform) column transform question (predicate_in l))) p
        go (number n) is = returned_by (numbers column transform n) (signed n (le_number l.content)) refl (λ to q result e.
            let k = number_known question column transform _ q e in
            (number_kind column to transform n is k result, number_leaf_lem column to transform n result is k))
        go (bytes n) is = returned_by (byte_strings column transform) l.content bytes_read (λ to q result e.
            (bytes_kind column to transform n is result, bytes_leaf_lem column to transform n result is))
