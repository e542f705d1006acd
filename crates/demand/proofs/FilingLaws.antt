-- What a kind of values owes of files of older writers: a row that is filed over bytes is filed over values, and nothing is lost over values. Numbers and byte
-- strings owe it. Assumes nothing.
use Rattle.std.specs.Prelude.{Ok}
use Prim.Native.Nat.{ℕ}
use mathlib.Core.Bool.{true, false}
use mathlib.Core.List.{List}
use mathlib.Core.Logic.{inl, inr}
use mathlib.Core.Path.{◌≡◌, refl, sym, subst, ◌∙◌}
use lib.IntN.{suc_ℤ}
use Rattle.values.specs.code.Places.{AllOf}
use Rattle.values.specs.Outcomes.{Row, present}
use Rattle.values.specs.laws.RangeLaws.{next_in_type}
use Rattle.values.specs.laws.TestLaws.{clash}
use Rattle.values.specs.Types.{number, bytes, layout}
use Rattle.values.specs.declared.datatypes.PrimitiveType.{PrimitiveType}
use Rattle.values.specs.declared.datatypes.PrimitiveType.TheVariants.{Int, Date}
use Rattle.values.specs.declared.transform.Transform.{Transform}
use Rattle.values.specs.declared.transform.Transform.TheVariants.{Identity, Truncate, Year, Month, Day, Hour, Void, Unknown}
use Rattle.partition.specs.code.PartitionAnswers.{InType, OfPresent}
use Rattle.partition.specs.Partition.{known}
use Rattle.partition.specs.ResultType.{with_days, result_type}
use Rattle.expr.specs.Holds.{holds}
use Rattle.expr.specs.Predicates.{Predicate, literals_in}
use Rattle.projection.specs.Lifting.{lifted}
use Rattle.projection.specs.Steps.{some}
use Rattle.projection.specs.declared.question.Question.TheVariants.{Inclusive, Older}
use Rattle.projection.specs.laws.LeafDemand as over-values
use Rattle.projection.proofs.LeafDemandLaws.{bytes_no_row_lost, bytes_strict_is_safe}
use Rattle.projection.specs.laws.OlderLeafDemand as older-values
use Rattle.projection.proofs.OlderLeafDemandLaws.{numbers_no_older_row_lost, numbers_older_is_safe, bytes_older_is_strict}
use Rattle.sheet.specs.Sheets.{head}
use Rattle.answers.specs.Kinds.{Kind, numbers, byte_strings}
use Rattle.answers.specs.laws.BytesLeafLaws.{no_time, not_listed}
use Rattle.api.specs.Demand3.{type_in, transform_in, width_in, HoldsNumber}
use Rattle.api.specs.OlderDemand.{Filed}
use Rattle.demand.proofs.BytesKindLaws.{all_parts, row_held, bytes_values, bytes_kind}
use Rattle.demand.proofs.ExactLaws.{head_lifts, number_held}
use Rattle.demand.proofs.KindLaws.{KindLaws, HasPart, good_part, row_part}
use Rattle.demand.proofs.NumberKindLaws.{lifted_four, number_values, number_kind}
use Rattle.demand.proofs.ReadBackLaws.{row_record}

-- v is a row, and f is written of a value that rows of v's partition value may be filed under
pub record FiledUnder {A B : Type 0} {column to : PrimitiveType} {transform : Transform} {k : Kind A B} (law : KindLaws column to transform k)
    (MayFile : Row B → Row B → Type 0) (v f : List ℕ) : Type 0 where
  pub own_record : List ℕ
  pub own : HasPart k column to v own_record
  pub under : Row B
  pub under_good : OfPresent law.parts.Good under
  pub bytes_is : row_record law.parts under ≡ f
  pub may_file : MayFile own.part under

pub record FilingLaws {A B : Type 0} {column to : PrimitiveType} {transform : Transform} {k : Kind A B} (law : KindLaws column to transform k) : Type 1 where
  -- under which values rows of a partition value may be filed
  pub MayFile : Row B → Row B → Type 0
  pub filed : (s v f : List ℕ) → head (type_in s) (transform_in s) (width_in s) ≡ Ok (record { column = column; transform = transform }) → Filed s f v
      → FiledUnder law MayFile v f
  pub no_older_row_lost : (leaf : Predicate A) (q : Predicate B) → AllOf law.rows.Good (literals_in leaf) → k.project Inclusive leaf ≡ Ok (some q)
      → (r : Row A) (p f : Row B) → over-values.RowOf law.rows.Good k.partition r p → MayFile p f
      → holds law.row_tests leaf r ≡ true → holds law.part_tests q f ≡ true
  pub older_is_safe : (leaf : Predicate A) (q : Predicate B) → AllOf law.rows.Good (literals_in leaf) → k.project Older leaf ≡ Ok (some q)
      → (r : Row A) (p f : Row B) → over-values.RowOf law.rows.Good k.partition r p → MayFile p f
      → holds law.part_tests q f ≡ true → holds law.row_tests leaf r ≡ true

-- a row under its own partition value
under_own : {A B : Type 0} {column to : PrimitiveType} {transform : Transform} {k : Kind A B} (law : KindLaws column to transform k)
    (MayFile : Row B → Row B → Type 0) → ((y : Row B) → MayFile y y) → (v f : List ℕ) → HasPart k column to v f → FiledUnder law MayFile v f
under_own law MayFile itself v f m = record {
  own_record = f;
  own = m;
  under = m.part;
  under_good = good_part law v f m;
  bytes_is = m.bytes_is;
  may_file = itself m.part;
}

-- ---- numbers: where the transform is lifted, a row of a negative number under the next one too
module _ (column to : PrimitiveType) (transform : Transform) (n : ℕ) (is : layout column ≡ number n) (Known-is : known transform ≡ true)
    (result : result_type transform column ≡ Ok to) where
  abbrev numbers_law : KindLaws column to transform (numbers column transform n)
  numbers_law = number_kind column to transform n is Known-is result

  number_filed : (s v f : List ℕ) → head (type_in s) (transform_in s) (width_in s) ≡ Ok (record { column = column; transform = transform }) → Filed s f v
      → FiledUnder numbers_law (older-values.Filed (lifted column transform)) v f
  unfolding number_kind number_values
  number_filed s v f head_is (inl h) =
      under_own numbers_law (older-values.Filed (lifted column transform)) (λ y. inl refl) v f (row_part numbers_law s v f head_is h)
  number_filed s v f head_is (inr x) =
      let p = x.1.0 in
      let z = x.1.1 in
      let below = x.1.4 in
      let m = row_part numbers_law s v p head_is x.1.2 in
      let lifting = (head_lifts column transform s head_is).0 x.0 in
      let four = lifted_four column to transform Known-is result lifting in
      let good = good_part numbers_law v p m in
      let part_is : m.part ≡ present z = number_held to four m.part z good (subst (λ c. HoldsNumber c z) (sym m.bytes_is) x.1.3) in
      record {
        own_record = p;
        own = m;
        under = present (suc_ℤ z);
        under_good = next_in_type to z (subst (OfPresent (InType to)) part_is good) below;
        bytes_is = rw four (sym x.1.5);
        may_file = inr (lifting, z, part_is, below, refl);
      }

  pub number_filing : FilingLaws numbers_law
  unfolding number_kind number_values
  number_filing = record {
    MayFile = older-values.Filed (lifted column transform);
    filed = number_filed;
    no_older_row_lost = λ leaf q good e r p f h d. numbers_no_older_row_lost column transform leaf q good e r p f h d;
    older_is_safe = λ leaf q good e r p f h d. numbers_older_is_safe column transform leaf q good e r p f h d;
  }

-- ---- byte strings: no transform of theirs is lifted
module _ (column to : PrimitiveType) (transform : Transform) (n : ℕ) (is : layout column ≡ bytes n) (result : result_type transform column ≡ Ok to) where
  abbrev bytes_law : KindLaws column to transform (byte_strings column transform)
  bytes_law = bytes_kind column to transform n is result

  not_lifted : lifted column transform ≡ false
  unfolding result_type
  not_lifted = go transform result
    where
      go : (t : Transform) → result_type t column ≡ Ok to → lifted column t ≡ false
      go Identity r = refl
      go (Truncate width) r = refl
      go Year r = not_listed with_days column Int (no_time column n is).0 r
      go Month r = not_listed with_days column Int (no_time column n is).0 r
      go Day r = not_listed with_days column Date (no_time column n is).0 r
      go Hour r = refl
      go Void r = refl
      go Unknown r = refl

  bytes_filed : (s v f : List ℕ) → head (type_in s) (transform_in s) (width_in s) ≡ Ok (record { column = column; transform = transform }) → Filed s f v
      → FiledUnder bytes_law (λ p f. p ≡ f) v f
  bytes_filed s v f head_is (inl h) = under_own bytes_law (λ p f. p ≡ f) (λ y. refl) v f (row_part bytes_law s v f head_is h)
  bytes_filed s v f head_is (inr x) = clash ((head_lifts column transform s head_is).0 x.0) not_lifted

  pub bytes_filing_lem : FilingLaws bytes_law
  unfolding bytes_kind bytes_values
  bytes_filing_lem = record {
    MayFile = λ p f. p ≡ f;
    filed = bytes_filed;
    no_older_row_lost = λ leaf q good e r p f h d met.
        rw (← d) (bytes_no_row_lost column transform leaf q (all_parts column n (literals_in leaf) good).0 e r p (row_held column n transform r p h) met);
    older_is_safe = λ leaf q good e r p f h d met.
        bytes_strict_is_safe column transform leaf q (all_parts column n (literals_in leaf) good).0 (sym (bytes_older_is_strict column transform leaf) ∙ e) r p
        (row_held column n transform r p h) (rw (← d) at met);
  }
