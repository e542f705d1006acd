-- Numbers and times over bytes: nothing is kept that need not be. Assumes nothing.
use Rattle.std.specs.Prelude.{Ok}
use Prim.Native.Nat.{ℕ}
use native.Mathlib.Omega.{arith}
use mathlib.Core.Bool.{true}
use mathlib.Core.List.{List}
use mathlib.Core.Logic.{◌⊎◌, inl, inr, ⊎_elim, ◌↔◌}
use mathlib.Core.Path.{◌≡◌, refl, sym, ap, subst, ◌∙◌}
use lib.IntN.{ℤ, suc_ℤ}
use Rattle.values.specs.Outcomes.{Row, missing, present}
use Rattle.values.specs.laws.OutcomeLaws.{ok_inj}
use Rattle.values.specs.Types.{number, layout, in_type}
use Rattle.values.proofs.TwosComplement.{signed_bytes_lem}
use Rattle.values.specs.declared.datatypes.PrimitiveType.{PrimitiveType}
use Rattle.values.specs.declared.transform.Transform.{Transform}
use Rattle.partition.specs.code.PartitionAnswers.{InType, OfPresent}
use Rattle.partition.specs.Partition.{known, number_partition}
use Rattle.projection.specs.laws.LeafDemand as over-values
use Rattle.projection.proofs.LeafDemandLaws.{numbers_strict_exact, numbers_inclusive_exact}
use Rattle.projection.proofs.LandingLaws.{number_partition_lands}
use Rattle.projection.specs.Lifting.{lifted}
use Rattle.projection.specs.declared.question.Question.{Question}
use Rattle.projection.specs.declared.question.Question.TheVariants.{Inclusive, Strict}
use Rattle.sheet.specs.Sheets.{Head, head}
use Rattle.write.specs.Written.{value_record, number_bytes}
use Rattle.api.specs.Demand3.{type_in, transform_in, width_in, RowOf, Accepts, SomeRow, AllRows, HoldsNumber, Lifts, OneAbove}
use Rattle.answers.specs.Kinds.{numbers}
use Rattle.sheet.specs.Values.{map_row}
use Rattle.demand.proofs.KindLaws.{KindLaws, Returned, good_part}
use Rattle.demand.proofs.RecordBytes.{record_bytes}
use Rattle.demand.proofs.NumberKindLaws.{lifted_four, number_known, number_values, number_kind}
use Rattle.demand.proofs.KindRowLaws as rows
use Rattle.demand.proofs.KindRowLaws.{reading, good_leaf, Part, part_of, row_of, meets_predicate, same_part, some_row, all_rows, row_some, rows_all}

-- what is lifted, by the head of a sheet
pub head_lifts : (column : PrimitiveType) (transform : Transform) (s : List ℕ)
    → head (type_in s) (transform_in s) (width_in s) ≡ Ok (record { column = column; transform = transform }) → Lifts s ↔ (lifted column transform ≡ true)
head_lifts column transform s head_is = (
  λ h. subst (λ (x : Head). lifted x.column x.transform ≡ true) (ok_inj (sym h.1 ∙ head_is)) h.2,
  λ h. (record { column = column; transform = transform }, head_is, h),
)

-- ---- value records of four bytes
module _ (to : PrimitiveType) (four : layout to ≡ number 4) where
  abbrev record_of : Row ℤ → List ℕ
  record_of y = value_record (map_row (λ z. number_bytes (layout to) z) y)

  holds_number : (z : ℤ) → InType to z → HoldsNumber (record_of (present z)) z
  unfolding in_type
  holds_number z h = rw four (refl, signed_bytes_lem 4 z (rw four at h))

  pub number_held : (y : Row ℤ) (z : ℤ) → OfPresent (InType to) y → HoldsNumber (record_of y) z → y ≡ present z
  number_held missing z h k = let no : ⊥ = omega (arith, k.0) in absurd no
  number_held (present x) z h k = ap present (sym (holds_number x h).1 ∙ k.1)

module _ {column : PrimitiveType} {transform : Transform} {n : ℕ} (is : layout column ≡ number n) where
  module _ (question : Question) (s q : List ℕ) (a : Returned (numbers column transform n) column transform question s q) where
    abbrev to : PrimitiveType
    to = a.to

    known_is : known transform ≡ true
    known_is = number_known question column transform a.leaf a.predicate a.project_is

    abbrev law : KindLaws column to transform (numbers column transform n)
    law = number_kind column to transform n is known_is a.result_is

    lifts : Lifts s ↔ (lifted column transform ≡ true)
    lifts = head_lifts column transform s (reading a law).head_is

    one_above_lem : (v p : List ℕ) (m : Part a law v p) → lifted column transform ≡ true
        → over-values.OneAbove (InType column) (number_partition column transform) a.leaf m.part → OneAbove s p
    unfolding number_kind number_values
    one_above_lem v p m h f =
        let four = lifted_four column to transform known_is a.result_is h in
        let z = f.0 in
        let below = number_partition_lands column to transform f.3.0 (present z) a.result_is f.3.1.1 f.3.1.0 in
        let here = subst (OfPresent (InType to)) f.1 (good_part law v p m) in
        let same : record_of to four (present (suc_ℤ z)) ≡ p = ap (record_of to four) (sym f.1) ∙ m.bytes_is in (
          record_of to four (present z),
          record_bytes to (present z),
          z,
          holds_number to four z below,
          f.2,
          subst (λ b. HoldsNumber b (suc_ℤ z)) same (holds_number to four (suc_ℤ z) here),
          some_row a law (record_bytes column) (present z) f.3,
        )

    above_one : (v p : List ℕ) (m : Part a law v p) → lifted column transform ≡ true → OneAbove s p
        → over-values.OneAbove (InType column) (number_partition column transform) a.leaf m.part
    unfolding number_kind number_values
    above_one v p m h f =
        let four = lifted_four column to transform known_is a.result_is h in
        let z = f.2 in
        let held : (u b : List ℕ) (k : Part a law u b) (x : ℤ) → HoldsNumber b x → k.part ≡ present x
        = λ u b k x i. number_held to four k.part x (good_part law u b k) (subst (λ c. HoldsNumber c x) (sym k.bytes_is) i) in
        (z, held v p m (suc_ℤ z) f.5, f.4, row_some a law (present z) f.0 (λ u k. held u f.0 k z f.3) f.6)

  -- ---- exactness
  pub strict_is_exact : (s q v p : List ℕ) → Returned (numbers column transform n) column transform Strict s q → RowOf s p v
      → Accepts q p ↔ AllRows s p
  unfolding number_kind number_values
  strict_is_exact s q v p a h =
      let by = law Strict s q a in
      let m = part_of a by v p h in
      let f = numbers_strict_exact column transform a.leaf a.predicate (good_leaf a by).all a.project_is m.row m.part (row_of a by v p m) in
      let met = meets_predicate a by v p m in (
        λ k. rows_all a by m.part p (λ u k. same_part a by u v p k m) (f.0 (met.0 k)),
        λ k. met.1 (f.1 (all_rows a by (record_bytes column) m.part (subst (AllRows s) (sym m.bytes_is) k))),
      )

  pub inclusive_is_exact : (s q v p : List ℕ) → Returned (numbers column transform n) column transform Inclusive s q → RowOf s p v
      → Accepts q p ↔ (SomeRow s p ⊎ (Lifts s × OneAbove s p))
  unfolding number_kind number_values
  inclusive_is_exact s q v p a h =
      let by = law Inclusive s q a in
      let m = part_of a by v p h in
      let f = numbers_inclusive_exact column transform a.leaf a.predicate (good_leaf a by).all a.project_is m.row m.part (row_of a by v p m) in
      let met = meets_predicate a by v p m in
      let up = lifts Inclusive s q a in (
        λ k. ⊎_elim
            (λ x. inl (subst (SomeRow s) m.bytes_is (some_row a by (record_bytes column) m.part x)))
            (λ x. inr (up.1 x.0, one_above_lem Inclusive s q a v p m x.0 x.1))
            (f.0 (met.0 k)),
        λ k. met.1 (f.1 (⊎_elim
            (λ x. inl (row_some a by m.part p (λ u k. same_part a by u v p k m) x))
            (λ x. inr (up.0 x.0, above_one Inclusive s q a v p m (up.0 x.0) x.1))
            k)),
      )

  -- ---- nothing is lost, of any list of numbers that is a row
  module _ (s q v p : List ℕ) (h : RowOf s p v) where
    pub no_row_lost : Returned (numbers column transform n) column transform Inclusive s q → Accepts s v → Accepts q p
    unfolding number_kind number_values
    no_row_lost a met =
        let by = law Inclusive s q a in
        let over = numbers_inclusive_exact column transform a.leaf a.predicate (good_leaf a by).all a.project_is in
        rows.no_row_lost a by v p h (λ r y e m. (over r y e).1 (inl (r, e, m))) met

    pub strict_is_safe : Returned (numbers column transform n) column transform Strict s q → Accepts q p → Accepts s v
    unfolding number_kind number_values
    strict_is_safe a met =
        let by = law Strict s q a in
        let over = numbers_strict_exact column transform a.leaf a.predicate (good_leaf a by).all a.project_is in
        rows.strict_is_safe a by v p h (λ r y e m. (over r y e).0 m r e) met
