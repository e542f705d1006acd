-- The sizes of a column's numbers and of its partition values, and what a signed local holds. Assumes nothing.
use Rattle.std.specs.Prelude.{◌≡◌, ◌≢◌, ℕ, Bool, true, false, List, [], ◌∷◌, length, ℤ, pos, ◌+ℤ◌, FitsSigned, Option, Some, None, Ok, refl}
use Rattle.std.specs.Option.{SomeIff, option_eq}
use Rattle.std.specs.Ordering.{int_eq}
use Rattle.std.proofs.Common.{sym, ap, ◌∙◌}
use Rattle.std.proofs.Math.Bool.{or-false}
use Rattle.std.proofs.lemmas.Bool.Decides.{Decides-int_eq}
use Rattle.std.proofs.Math.IntN.{suc_ℤ, +ℤ_one}
use Rattle.std.specs.Int.{w64}
use mir.Val.{to_z, of_z}
use Rattle.values.specs.Order.{compare_numbers, is_equal}
use Rattle.values.specs.Outcomes.{Row, missing, present}
use Rattle.values.specs.Types.{layout, in_type}
use Rattle.values.specs.code.ByteTypes.{is_bytes}
use Rattle.values.specs.declared.datatypes.PrimitiveType.{PrimitiveType}
use Rattle.values.specs.declared.datatypes.PrimitiveType.TheVariants.{Int, Date}
use Rattle.values.specs.declared.transform.Transform.{Transform}
use Rattle.values.specs.declared.transform.Transform.TheVariants.{Identity, Truncate, Year, Month, Day, Hour, Void, Unknown}
use Rattle.values.specs.laws.OutcomeLaws.{ok_inj}
use Rattle.values.specs.laws.RangeLaws.{in_type_long}
use Rattle.values.specs.laws.SignedLaws.{back}
use Rattle.values.specs.laws.OrderLaws.{is_equal_lem, number_equal}
use Rattle.values.specs.laws.TestLaws.{clash, refuted, same_test}
use Rattle.expr.specs.Holds.{number_tests, missing_meets, meets}
use Rattle.expr.specs.Operators.{Operator, none, one, many, is_in, not_in, by_arity, operator_of}
use Rattle.expr.specs.Predicates.{set}
use Rattle.expr.specs.code.OperatorAnswers.{takes_many}
use Rattle.expr.specs.declared.operator.PredicateOperator.{PredicateOperator}
use Rattle.expr.specs.declared.operator.PredicateOperator.TheVariants.{In}
use Rattle.expr.specs.laws.PredicateLaws.{operator_of_lem}
use Rattle.partition.specs.ResultType.{truncatable, with_days, with_hours, result_type}
use Rattle.partition.specs.laws.PartitionLaws.{listed_to}
use Rattle.sheet.specs.laws.RecordLaws.{FitsRow, number_type}
use Rattle.columns.specs.Cells.{type_or}
use Rattle.ask.specs.code.Askings.{NumberSized, meets_two}
use Rattle.ask.specs.laws.AskLaws.{number_column}

column_numbers : (column : PrimitiveType) (z : ℤ) → in_type column z ≡ true → is_bytes (layout column) ≡ false
column_numbers column z h = rw (number_column column z h).1

result_numbers : (column to : PrimitiveType) (t : Transform) → t ≢ Unknown → result_type t column ≡ Ok to → is_bytes (layout column) ≡ false
    → is_bytes (layout to) ≡ false
unfolding result_type
result_numbers column to Identity u r n = rw (← ok_inj r) n
result_numbers column to (Truncate width) u r n = rw (← listed_to truncatable column column r) n
result_numbers column to Year u r n = rw (← listed_to with_days column Int r)
result_numbers column to Month u r n = rw (← listed_to with_days column Int r)
result_numbers column to Day u r n = rw (← listed_to with_days column Date r)
result_numbers column to Hour u r n = rw (← listed_to with_hours column Int r)
result_numbers column to Void u r n = rw (← ok_inj r) n
result_numbers column to Unknown u r n = absurd (u refl)

sized : (type : PrimitiveType) → is_bytes (layout type) ≡ false → (r : Row (List ℕ)) → FitsRow type r → NumberSized r
sized type n missing fit = tt
sized type n (present bs) fit = (number_type type (length bs) n fit).size

module _ (column : PrimitiveType) (z : ℤ) (inside : in_type column z ≡ true) (r : Row (List ℕ)) where
  pub row_sized : FitsRow column r → NumberSized r
  row_sized fit = sized column (column_numbers column z inside) r fit

  pub part_sized : (transform : Transform) (to : PrimitiveType) → result_type transform column ≡ Ok to → transform ≢ Unknown
      → FitsRow (type_or column (result_type transform column)) r → NumberSized r
  part_sized transform to t u fit = sized to (result_numbers column to transform u t (column_numbers column z inside)) r (rw t at fit)

-- a number of a column, as a local holds it
pub seen : (column : PrimitiveType) (z : ℤ) → in_type column z ≡ true → to_z w64 (of_z w64 z) ≡ z
seen column z h = back (in_type_long column z h)

-- ---- t and the number above it
module _ (t v : ℤ) where
  pub first_met : v ≡ t → true ≡ meets number_tests (set is_in (t ∷ suc_ℤ t ∷ [])) v
  first_met e = rw ((number_equal v t).1 e)

  -- the number above t is there where it is one of 64 bits, as v is
  pub second_asked : v ≢ t → FitsSigned w64 v → FitsSigned w64 t → {b : Bool} (above : Option ℤ)
      → SomeIff above (FitsSigned w64 (to_z w64 (of_z w64 t) +ℤ pos 1)) (to_z w64 (of_z w64 t) +ℤ pos 1)
      → b ≡ option_eq int_eq above (Some (to_z w64 (of_z w64 v))) → b ≡ meets number_tests (set is_in (t ∷ suc_ℤ t ∷ [])) v
  second_asked n f g above told e =
      e
      ∙ rw (refuted _ (λ k. n ((number_equal v t).0 ((is_equal_lem _).0 k))), back f, or-false) (go above (rw (back g, +ℤ_one t) at told))
    where
      go : (above : Option ℤ) → SomeIff above (FitsSigned w64 (suc_ℤ t)) (suc_ℤ t) → option_eq int_eq above (Some v) ≡ is_equal (compare_numbers v (suc_ℤ t))
      go None told = sym (refuted _ (λ k. told (rw (← (number_equal v (suc_ℤ t)).0 ((is_equal_lem _).0 k)) f)))
      go (Some x) told =
          let d = Decides-int_eq x v in
          same_test _ _
          (λ k. (is_equal_lem _).1 ((number_equal v (suc_ℤ t)).1 (sym (d.0 k) ∙ told.1)))
          (λ k. d.1 (told.1 ∙ sym ((number_equal v (suc_ℤ t)).0 ((is_equal_lem _).0 k))))

-- ---- a set operator with both
pub two_missing : (a : Operator) (t : ℤ) → takes_many a ≡ true → meets_two a t missing ≡ missing_meets a
two_missing (none o) t h = clash h refl
two_missing (one o) t h = clash h refl
two_missing (many o) t h = refl

-- what is not In is NotIn
pub other_set : (o : PredicateOperator) → takes_many (by_arity o) ≡ true → o ≢ In → by_arity o ≡ many not_in
other_set o h n = go (by_arity o) refl h
  where
    go : (a : Operator) → by_arity o ≡ a → takes_many a ≡ true → a ≡ many not_in
    go (none u) e h = clash h refl
    go (one b) e h = clash h refl
    go (many is_in) e h = absurd (n (sym (operator_of_lem o) ∙ ap operator_of e))
    go (many not_in) e h = refl
