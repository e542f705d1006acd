-- 7 is Unknown's alone, over the bytes of the routines: reading refuses with 3 and 4, a pair without a result type with 5, steps with 6 and 8. Assumes nothing.
use Rattle.std.specs.Prelude.{Ok}
use Prim.Native.Nat.{ℕ}
use mathlib.Core.Bool.{not, ◌||◌, true≢false}
use mathlib.Core.List.{List}
use mathlib.Core.Path.{◌≡◌, refl, sym, ap, ◌∙◌}
use Rattle.values.specs.Outcomes.{Res, need, ◌>>◌, each, Row, missing, present}
use Rattle.values.specs.laws.OutcomeLaws.{ok_inj, gone}
use Rattle.values.specs.laws.TypesLaws.{transform_code, transform_numbers}
use Rattle.values.specs.Transforms.{transform_of}
use Rattle.values.specs.Types.{Layout, number, bytes, layout, same_type, types}
use Rattle.values.specs.Numbered.{find}
use Rattle.values.specs.Utf8.{utf8}
use Rattle.values.specs.Words.{word}
use Rattle.values.specs.declared.datatypes.PrimitiveType.{PrimitiveType}
use Rattle.values.specs.declared.datatypes.PrimitiveType.TheVariants.{Int, Date, String}
use Rattle.values.specs.declared.error.ErrorKind.{ErrorKind}
use Rattle.values.specs.declared.error.ErrorKind.TheVariants.{Malformed, NotUtf8, NoResultType, DataInvalid, FeatureUnsupported, Overflow}
use Rattle.values.specs.declared.transform.Transform.{Transform}
use Rattle.values.specs.declared.transform.Transform.TheVariants.{Identity, Truncate, Year, Month, Day, Hour, Void, Unknown}
use Rattle.partition.specs.Partition.{known, of_row, partition, transform_number, transform_bytes, number_partition, bytes_partition}
use Rattle.partition.specs.ResultType.{is_one_of, for_types, truncatable, with_days, with_hours, result_type}
use Rattle.expr.specs.Operators.{project_limit}
use Rattle.expr.specs.Predicates.{Predicate, unary, test, binary, set}
use Rattle.projection.specs.declared.question.Question.{Question}
use Rattle.sheet.specs.Records.{value}
use Rattle.sheet.specs.Sheets.{Head, head, sheet}
use Rattle.sheet.specs.Values.{read_bytes, each_literal, read_row, by_layout}
use Rattle.sheet.specs.laws.RefusalLaws.{Only, only_ok, only_err, only_bind, only_then, only_need, only_wider, only_each}
use Rattle.sheet.specs.laws.RefusalLaws.{malformed, value_only, head_only, sheet_only}
use Rattle.sheet.specs.laws.SheetLaws.{sheet_read_lem}
use Rattle.answers.specs.Answers.{projected, projected_leaf, transformed, transformed_row}
use Rattle.answers.specs.Kinds.{Kind, numbers, byte_strings}
use Rattle.api.specs.Demand3.{transform_in}
use Rattle.api.specs.Routines.{project_sheet, transform_value}
use Rattle.api.specs.UnknownAlone.{unknown, SevenIsUnknown}
use Rattle.demand.proofs.StepRefusalLaws.{number_only, bytes_only, numbers_refused, bytes_refused}

-- a refusal with 7 says X; every other says nothing
abbrev pub Seven : Type 0 → ErrorKind → Type 0
Seven X e = e ≡ FeatureUnsupported → X

module _ {X : Type 0} where
  three : Seven X Malformed
  three e = absurd (true≢false (cc))

  four : Seven X NotUtf8
  four e = absurd (true≢false (cc))

  five : Seven X NoResultType
  five e = absurd (true≢false (cc))

  six : Seven X DataInvalid
  six e = absurd (true≢false (cc))

  eight : Seven X Overflow
  eight e = absurd (true≢false (cc))

  pub weaker : {A Y : Type 0} {r : Res A} → (Y → X) → Only (Seven Y) r → Only (Seven X) r
  weaker f h = only_wider (λ e seven is. f (seven is)) h

  -- ---- reading
  bytes_read : (column : PrimitiveType) (bs : List ℕ) → Only (Seven X) (read_bytes column bs)
  bytes_read column bs = only_need (not (same_type column String) || utf8 bs) NotUtf8 _ four only_ok

  pub literals_only : {A : Type 0} (read : List ℕ → Res A) → ((bs : List ℕ) → Only (Seven X) (read bs)) → (leaf : Predicate (List ℕ)) → Only (Seven X) (each_literal read leaf)
  literals_only read h (unary o) = only_ok
  literals_only read h (test (binary o l)) = only_bind (read l) _ (h l) (λ x. only_ok)
  literals_only read h (test (set o ls)) = only_bind (each read ls) _ (only_each read h ls) (λ xs. only_ok)

  row_only : {A : Type 0} (read : List ℕ → Res A) → ((bs : List ℕ) → Only (Seven X) (read bs)) → (row : Row (List ℕ)) → Only (Seven X) (read_row read row)
  row_only read h missing = only_ok
  row_only read h (present v) = only_bind (read v) _ (h v) (λ x. only_ok)

  -- ---- 5
  listed : (types : List PrimitiveType) (column to : PrimitiveType) → Only (Seven X) (for_types types column to)
  listed types column to = only_need (is_one_of column types) NoResultType _ five only_ok

  pub result_only : (transform : Transform) (column : PrimitiveType) → Only (Seven X) (result_type transform column)
  unfolding result_type
  result_only Identity column = only_ok
  result_only (Truncate width) column = listed truncatable column column
  result_only Year column = listed with_days column Int
  result_only Month column = listed with_days column Int
  result_only Day column = listed with_days column Date
  result_only Hour column = listed with_hours column Int
  result_only Void column = only_ok
  result_only Unknown column = only_ok

-- ---- a kind, by what its reading, its projections and its partition values are refused with
abbrev pub Unknowns : Transform → ErrorKind → Type 0
Unknowns transform = Seven (transform ≡ Unknown)

module _ (column : PrimitiveType) (transform : Transform) where
  pub record KindRefusals {A B : Type 0} (k : Kind A B) : Type 0 where
    pub reads : (bs : List ℕ) → Only (Unknowns transform) (k.read bs)
    pub projects : (to : PrimitiveType) → result_type transform column ≡ Ok to → (question : Question) (leaf : Predicate A)
        → Only (Unknowns transform) (k.project question leaf)
    pub parts : (to : PrimitiveType) → result_type transform column ≡ Ok to → (row : Row A) → Only (Unknowns transform) (k.partition row)

  module _ {A B : Type 0} {k : Kind A B} (kind : KindRefusals k) where
    projected_only : (question : Question) (leaf : Predicate (List ℕ)) → Only (Unknowns transform) (projected k column transform question leaf)
    projected_only question leaf =
        only_bind (each_literal k.read leaf) _ (literals_only k.read kind.reads leaf) (λ l.
        only_then (result_type transform column) _ (result_only transform column) (λ to e.
        only_bind (k.project question l) _ (kind.projects to e question l) (λ q. only_ok)))

    transformed_only : (row : Row (List ℕ)) → Only (Unknowns transform) (transformed k column transform row)
    transformed_only row =
        only_bind (read_row k.read row) _ (row_only k.read kind.reads row) (λ r.
        only_then (result_type transform column) _ (result_only transform column) (λ to e.
        only_bind (k.partition r) _ (kind.parts to e r) (λ p. only_ok)))

-- Unknown's 7 comes before every value
part_only : {A B : Type 0} (transform : Transform) (f : A → Res (Row B)) → ((v : A) → Only (Unknowns transform) (f v)) → (row : Row A)
    → Only (Unknowns transform) (partition transform f row)
unfolding partition
part_only {A} transform f h row = go transform refl
  where
    of_row_lem : (row : Row A) → Only (Unknowns transform) (of_row f row)
    of_row_lem missing = only_ok
    of_row_lem (present v) = h v

    go : (t : Transform) → transform ≡ t → Only (Unknowns transform) (need (known t) FeatureUnsupported >> of_row f row)
    go Identity e = of_row_lem row
    go (Truncate width) e = of_row_lem row
    go Year e = of_row_lem row
    go Month e = of_row_lem row
    go Day e = of_row_lem row
    go Hour e = of_row_lem row
    go Void e = of_row_lem row
    go Unknown e = only_err (λ d. e)

module _ (column : PrimitiveType) (transform : Transform) where
  seven : transform ≡ Unknown → Unknowns transform FeatureUnsupported
  seven is e = is

  pub number_refusals : (n : ℕ) → KindRefusals column transform (numbers column transform n)
  unfolding number_partition
  number_refusals n = record {
    reads = λ bs. only_ok;
    projects = λ to e question leaf. numbers_refused six eight column to transform seven e question leaf;
    parts = λ to e row. part_only transform (transform_number column transform) (number_only six eight column to transform seven e) row;
  }

  pub bytes_refusals : (n : ℕ) → layout column ≡ bytes n → KindRefusals column transform (byte_strings column transform)
  unfolding bytes_partition
  bytes_refusals n is = record {
    reads = bytes_read column;
    projects = λ to e question leaf. bytes_refused six eight column to transform seven e n is question leaf;
    parts = λ to e row. part_only transform (transform_bytes column transform) (bytes_only six eight column to n is transform seven e) row;
  }

  leaf_only : (question : Question) (leaf : Predicate (List ℕ)) → Only (Unknowns transform) (projected_leaf question column transform leaf)
  unfolding projected_leaf
  leaf_only question leaf = go (layout column) refl
    where
      go : (l : Layout) → layout column ≡ l → Only (Unknowns transform) (by_layout l
          (λ n. projected (numbers column transform n) column transform question leaf) (projected (byte_strings column transform) column transform question leaf))
      go (number n) is = projected_only column transform (number_refusals n) question leaf
      go (bytes n) is = projected_only column transform (bytes_refusals n is) question leaf

  value_row_only : (row : Row (List ℕ)) → Only (Unknowns transform) (transformed_row column transform row)
  unfolding transformed_row
  value_row_only row = go (layout column) refl
    where
      go : (l : Layout) → layout column ≡ l → Only (Unknowns transform) (by_layout l
          (λ n. transformed (numbers column transform n) column transform row) (transformed (byte_strings column transform) column transform row))
      go (number n) is = transformed_only column transform (number_refusals n) row
      go (bytes n) is = transformed_only column transform (bytes_refusals n is) row

-- ---- the routines

-- a head with Unknown was read from a 7
pub head_unknown : (type transform width : ℕ) (h : Head) → head type transform width ≡ Ok h → h.transform ≡ Unknown → transform ≡ unknown
unfolding head
head_unknown type transform width h e is =
    let t = gone (find types type) _ e in
    let f = gone (transform_of transform width) _ t.2 in
    let same : f.0 ≡ h.transform = ap (λ (x : Head). x.transform) (ok_inj f.2) in
    sym (transform_numbers transform width f.0 f.1).0 ∙ ap transform_code (same ∙ is)

sheet_unknown : (question : Question) (s : List ℕ) → Only (Seven (transform_in s ≡ unknown)) (project_sheet question s)
unfolding project_sheet
sheet_unknown question s =
    only_then (sheet project_limit s) _ (malformed three (sheet_only project_limit s)) (λ x e.
    let named = head_unknown (word 4 1 s) (word 5 1 s) (word 8 4 s) x.head (sheet_read_lem project_limit s x e).head_is in
    weaker named (leaf_only x.head.column x.head.transform question x.leaf))

value_unknown : (type transform width : ℕ) (v : List ℕ) → Only (Seven (transform ≡ unknown)) (transform_value type transform width v)
unfolding transform_value
value_unknown type transform width v =
    only_then (head type transform width) _ (malformed three (head_only type transform width)) (λ h e.
    only_bind (value (layout h.column) v) _ (malformed three (value_only (layout h.column) v)) (λ row.
    weaker (head_unknown type transform width h e) (value_row_only h.column h.transform row)))

pub seven_is_unknown : SevenIsUnknown
seven_is_unknown = record {
  projections = λ question s e. (sheet_unknown question s).only FeatureUnsupported e refl;
  values = λ type transform width v e. (value_unknown type transform width v).only FeatureUnsupported e refl;
}
