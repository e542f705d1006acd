-- Numbers and times are a lawful kind: what is read is in the column's type, and partition values and predicates are in the result type.
-- Assumes nothing.
use Rattle.std.specs.Prelude.{Ok}
use Prim.Native.Nat.{ℕ}
use native.Mathlib.Omega.{arith}
use mathlib.Core.Bool.{true, false, false≢true}
use mathlib.Core.Logic.{◌⊎◌, inl, inr, ⊎_elim}
use mathlib.Core.Path.{◌≡◌, refl, sym, ap, subst, ◌∙◌}
use lib.IntN.{ℤ}
use lib.ListN.{length}
use borrow.Author.Tests.{eq-eqb}
use Rattle.values.specs.Order.{compare_numbers}
use Rattle.values.specs.laws.OutcomeLaws.{ok_inj}
use Rattle.values.specs.laws.TestLaws.{clash}
use Rattle.values.specs.Types.{Layout, number, bytes, layout, fits, in_layout, in_type}
use Rattle.values.specs.Words.{le_number, unsigned}
use Rattle.values.specs.laws.TypesLaws.{Sized, sized}
use Rattle.values.specs.laws.WordLaws.{length_bytes}
use Rattle.values.proofs.TwosComplement.{signed_bytes_lem, signed_in_range}
use Rattle.values.specs.declared.datatypes.PrimitiveType.{PrimitiveType}
use Rattle.values.specs.declared.datatypes.PrimitiveType.TheVariants.{Int, Date}
use Rattle.values.specs.declared.transform.Transform.{Transform}
use Rattle.values.specs.declared.transform.Transform.TheVariants.{Identity, Truncate, Year, Month, Day, Hour, Void, Unknown}
use Rattle.partition.specs.code.PartitionAnswers.{InType}
use Rattle.partition.specs.Partition.{known}
use Rattle.partition.specs.laws.PartitionLaws.{listed_to}
use Rattle.partition.specs.ResultType.{truncatable, with_days, with_hours, result_type}
use Rattle.expr.specs.Operators.{project_limit, holds_limit}
use Rattle.expr.specs.Holds.{number_tests}
use Rattle.expr.specs.Predicates.{Predicate}
use Rattle.projection.specs.Lifting.{lifted}
use Rattle.projection.proofs.LandingLaws.{numbers_land, number_partition_lands}
use Rattle.projection.specs.laws.LiteralLaws.{Landed}
use Rattle.projection.specs.laws.ProjectionLaws.{course}
use Rattle.projection.specs.Projection.{number_step, project_numbers}
use Rattle.projection.specs.Steps.{some}
use Rattle.projection.specs.declared.question.Question.{Question}
use Rattle.sheet.specs.Values.{read_number}
use Rattle.write.specs.Written.{number_bytes}
use Rattle.meets.specs.Tested.{tested_sheet}
use Rattle.answers.specs.Kinds.{numbers}
use Rattle.answers.specs.Answers.{transformed_row}
use Rattle.demand.proofs.KindLaws.{KindLaws}
use Rattle.demand.proofs.ReadBackLaws.{ValueLaws}

-- ---- the number types
-- a known transform keeps the column's type, or gives a type of four bytes, as those that are lifted do
result_layout : (column to : PrimitiveType) (transform : Transform) → known transform ≡ true → result_type transform column ≡ Ok to
    → ((column ≡ to) × (lifted column transform ≡ false)) ⊎ (layout to ≡ number 4)
unfolding result_type
result_layout column to Identity k e = inl (ok_inj e, refl)
result_layout column to (Truncate width) k e = inl (listed_to truncatable column column e, refl)
result_layout column to Year k e = inr (ap layout (sym (listed_to with_days column Int e)))
result_layout column to Month k e = inr (ap layout (sym (listed_to with_days column Int e)))
result_layout column to Day k e = inr (ap layout (sym (listed_to with_days column Date e)))
result_layout column to Hour k e = inr (ap layout (sym (listed_to with_hours column Int e)))
result_layout column to Void k e = inl (ok_inj e, refl)
result_layout column to Unknown k e = absurd (false≢true k)

-- a leaf has a predicate under a known transform only
pub number_known : (question : Question) (column : PrimitiveType) (transform : Transform) (l p : Predicate ℤ)
    → project_numbers question column transform l ≡ Ok (some p) → known transform ≡ true
unfolding project_numbers
number_known question column transform l p e = (course compare_numbers (number_step column transform question) transform l p e).0

module _ (column to : PrimitiveType) (transform : Transform) (k : known transform ≡ true) (result : result_type transform column ≡ Ok to) where
  pub lifted_four : lifted column transform ≡ true → layout to ≡ number 4
  lifted_four h = ⊎_elim (λ same. clash h same.1) (λ four. four) (result_layout column to transform k result)

  pub number_result_lem : (n : ℕ) → layout column ≡ number n → (m : ℕ) × (layout to ≡ number m)
  number_result_lem n is = ⊎_elim (λ same. (n, ap layout (sym same.0) ∙ is)) (λ four. (4, four)) (result_layout column to transform k result)

-- ---- the values of a number type
pub number_fits : (l : Layout) (z : ℤ) → in_layout l z ≡ true → fits l (length (number_bytes l z)) ≡ true
number_fits (number n) z h = eq-eqb _ n (length_bytes n (unsigned n z))
number_fits (bytes n) z h = absurd (false≢true h)

unfoldable pub number_values : (column : PrimitiveType) (n : ℕ) → layout column ≡ number n
    → ValueLaws column (read_number n) (λ z. number_bytes (layout column) z) number_tests
unfolding in_type tested_sheet
number_values column n is = record {
  Good = InType column;
  reads = λ bs z h e. rw (← ok_inj e, is) (signed_in_range n (le_number bs) (subst Sized is (sized column)));
  fit = λ z h. number_fits (layout column) z h;
  back = λ z h. rw is (ap Ok (signed_bytes_lem n z (rw is at h)));
  tests = λ transform leaf row. rw is;
}

-- ---- the kind
-- at most `project_limit` literals come to at most `holds_limit`
pub number_literals : (question : Question) (column to : PrimitiveType) (transform : Transform) → result_type transform column ≡ Ok to → (l p : Predicate ℤ)
    → Landed (InType column) project_limit l → project_numbers question column transform l ≡ Ok (some p) → Landed (InType to) holds_limit p
number_literals question column to transform result l p h e =
    let x = numbers_land question column to transform l p result h.all e in
    record { all = x.all; count = omega (arith, x.count, h.count) }

unfoldable pub number_kind : (column to : PrimitiveType) (transform : Transform) (n : ℕ) → layout column ≡ number n → known transform ≡ true
    → result_type transform column ≡ Ok to → KindLaws column to transform (numbers column transform n)
unfolding number_values transformed_row
number_kind column to transform n is k result =
    let m = number_result_lem column to transform k result n is in
    record {
      result = result;
      row_write = λ z. number_bytes (layout column) z;
      row_tests = number_tests;
      rows = number_values column n is;
      part_read = read_number m.0;
      part_tests = number_tests;
      parts = number_values to m.0 m.1;
      part_good = λ r p h e. number_partition_lands column to transform r p result e h;
      project_good = λ question l p h e. number_literals question column to transform result l p h e;
      transforms = λ row. rw is;
    }
