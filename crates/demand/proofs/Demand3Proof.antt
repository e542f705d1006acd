-- Demand 3 over the bytes of the routines: a sheet that is answered is one of numbers or one of byte strings, and for each the demand is that over leaves.
-- Assumes nothing.
use Rattle.std.specs.Prelude.{Ok}
use Prim.Native.Nat.{ℕ}
use native.Mathlib.Omega.{arith}
use mathlib.Core.List.{List}
use mathlib.Core.Logic.{◌⊎◌, inl, inr, ⊎_elim}
use mathlib.Core.Path.{◌≡◌, refl, sym, ap, ◌∙◌}
use Rattle.values.specs.code.Places.{AllOf}
use Rattle.values.specs.Numbered.{find}
use Rattle.values.specs.laws.OutcomeLaws.{ok_inj, gone}
use Rattle.values.specs.Transforms.{transform_of}
use Rattle.values.specs.Types.{Layout, number, bytes, layout, types, type_number}
use Rattle.values.specs.laws.TypesLaws.{type_number_lem}
use Rattle.values.specs.declared.datatypes.PrimitiveType.{PrimitiveType}
use Rattle.values.specs.declared.transform.Transform.{Transform}
use Rattle.expr.specs.Operators.{project_limit}
use Rattle.expr.specs.Predicates.{Predicate, literals_in}
use Rattle.projection.specs.laws.LeafDemand.{HeldIn}
use Rattle.projection.proofs.LeafDemandLaws.{bytes_no_row_lost, bytes_strict_is_safe}
use Rattle.projection.specs.Steps.{some}
use Rattle.projection.specs.declared.question.Question.{Question}
use Rattle.projection.specs.declared.question.Question.TheVariants.{Inclusive, Strict}
use Rattle.sheet.specs.Sheets.{Head, head, sheet}
use Rattle.api.specs.Demand3.{type_in, transform_in, width_in, Returns, Accepts, RowOf, NoRowLost, StrictIsSafe, Numeric, StrictIsExact, InclusiveIsExact, Demand3}
use Rattle.sheet.specs.Values.{by_layout}
use Rattle.answers.specs.Kinds.{Kind, numbers, byte_strings}
use Rattle.answers.specs.Answers.{projected, projected_leaf}
use Rattle.api.specs.Routines.{project_sheet}
use Rattle.demand.proofs.BytesKindLaws.{bytes_above, bytes_values, all_parts, row_held, bytes_kind}
use Rattle.demand.proofs.ExactLaws as exact
use Rattle.demand.proofs.KindLaws.{KindLaws, Returned, returned}
use Rattle.demand.proofs.NumberKindLaws.{number_known, number_kind}
use Rattle.demand.proofs.KindRowLaws.{reading, good_leaf}
use Rattle.demand.proofs.KindRowLaws as rows
use Rattle.demand.proofs.ReadBackLaws.{sheet_of}

-- ---- an answer sheet is one of a column of numbers, or of byte strings
pub record By {A B : Type 0} (lay : ℕ → Layout) (kind : PrimitiveType → Transform → ℕ → Kind A B) (question : Question) (s q : List ℕ) : Type 0 where
  pub column : PrimitiveType
  pub transform : Transform
  pub size : ℕ
  pub is : layout column ≡ lay size
  pub answer : Returned (kind column transform size) column transform question s q

abbrev pub ByNumbers : Question → List ℕ → List ℕ → Type 0
ByNumbers question s q = By number numbers question s q

abbrev pub ByBytes : Question → List ℕ → List ℕ → Type 0
ByBytes question s q = By bytes (λ column transform n. byte_strings column transform) question s q

module _ (question : Question) (s q : List ℕ) where
  by_layout_lem : (column : PrimitiveType) (transform : Transform) (content : Predicate (List ℕ)) → sheet project_limit s ≡ Ok (sheet_of column transform content)
      → projected_leaf question column transform content ≡ Ok (some q) → ByNumbers question s q ⊎ ByBytes question s q
  unfolding projected_leaf
  by_layout_lem column transform content a e = go (layout column) refl e
    where
      go : (l : Layout) → layout column ≡ l
          → by_layout l (λ n. projected (numbers column transform n) column transform question content)
          (projected (byte_strings column transform) column transform question content)
          ≡ Ok (some q)
          → ByNumbers question s q ⊎ ByBytes question s q
      go (number n) is e =
          let answer = returned (numbers column transform n) column transform question s q content a e in
          inl (record { column = column; transform = transform; size = n; is = is; answer = answer })
      go (bytes n) is e =
          let answer = returned (byte_strings column transform) column transform question s q content a e in
          inr (record { column = column; transform = transform; size = n; is = is; answer = answer })

  pub by_kind : Returns question s q → ByNumbers question s q ⊎ ByBytes question s q
  unfolding project_sheet
  by_kind e =
      let x = gone (sheet project_limit s) _ e in
      by_layout_lem x.0.head.column x.0.head.transform x.0.leaf x.1 x.2

-- the laws of an answer's kind
module _ {question : Question} {s q : List ℕ} where
  abbrev pub numbers_law : (b : ByNumbers question s q) → KindLaws b.column b.answer.to b.transform (numbers b.column b.transform b.size)
  numbers_law b =
      let a = b.answer in
      let k = number_known question b.column b.transform a.leaf a.predicate a.project_is in
      number_kind b.column a.to b.transform b.size b.is k a.result_is

  abbrev pub bytes_law : (b : ByBytes question s q) → KindLaws b.column b.answer.to b.transform (byte_strings b.column b.transform)
  bytes_law b = bytes_kind b.column b.answer.to b.transform b.size b.is b.answer.result_is

-- ---- byte strings
pub head_type : (type transform width : ℕ) (h : Head) → head type transform width ≡ Ok h → type_number h.column ≡ type
unfolding head
head_type type transform width h e =
    let t = gone (find types type) _ e in
    let f = gone (transform_of transform width) _ t.2 in
    ap (λ x. type_number x.column) (sym (ok_inj f.2)) ∙ type_number_lem type t.0 t.1

module _ {question : Question} {s q : List ℕ} (b : ByBytes question s q) where
  not_numeric : Numeric s → ⊥
  not_numeric h =
      let type = head_type (type_in s) (transform_in s) (width_in s) _ (reading b.answer (bytes_law b)).head_is in
      omega (arith, type, bytes_above b.column b.size b.is)

  literals_held : AllOf (HeldIn b.column) (literals_in b.answer.leaf)
  unfolding bytes_kind bytes_values
  literals_held = (all_parts b.column b.size (literals_in b.answer.leaf) (good_leaf b.answer (bytes_law b)).all).0

module _ (s q v p : List ℕ) (h : RowOf s p v) where
  bytes_kept : ByBytes Inclusive s q → Accepts s v → Accepts q p
  unfolding bytes_kind bytes_values
  bytes_kept b met =
      let a = b.answer in
      let over = bytes_no_row_lost b.column b.transform a.leaf a.predicate (literals_held b) a.project_is in
      rows.no_row_lost a (bytes_law b) v p h (λ r y e m. over r y (row_held b.column b.size b.transform r y e) m) met

  bytes_safe : ByBytes Strict s q → Accepts q p → Accepts s v
  unfolding bytes_kind bytes_values
  bytes_safe b met =
      let a = b.answer in
      let over = bytes_strict_is_safe b.column b.transform a.leaf a.predicate (literals_held b) a.project_is in
      rows.strict_is_safe a (bytes_law b) v p h (λ r y e m. over r y (row_held b.column b.size b.transform r y e) m) met

-- ---- the four clauses
no_row_lost : NoRowLost
no_row_lost s q v p h met r =
    ⊎_elim (λ b. exact.no_row_lost b.is s q v p h b.answer met) (λ b. bytes_kept s q v p h b met) (by_kind Inclusive s q r)

strict_is_safe : StrictIsSafe
strict_is_safe s q v p h r met =
    ⊎_elim (λ b. exact.strict_is_safe b.is s q v p h b.answer met) (λ b. bytes_safe s q v p h b met) (by_kind Strict s q r)

strict_is_exact : StrictIsExact
strict_is_exact s q v p numeric h r =
    ⊎_elim (λ b. exact.strict_is_exact b.is s q v p b.answer h) (λ b. absurd (not_numeric b numeric)) (by_kind Strict s q r)

inclusive_is_exact : InclusiveIsExact
inclusive_is_exact s q v p numeric h r =
    ⊎_elim (λ b. exact.inclusive_is_exact b.is s q v p b.answer h) (λ b. absurd (not_numeric b numeric)) (by_kind Inclusive s q r)

pub demand3 : Demand3
demand3 = record { no_row_lost = no_row_lost; strict_is_safe = strict_is_safe; strict_is_exact = strict_is_exact; inclusive_is_exact = inclusive_is_exact }
