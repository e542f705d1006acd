-- What each return of `number::put_projection` asks: the arm that was taken, and what the call in it gave. Assumes nothing.
use Rattle.std.proofs.Common.{ℕ, ◌*◌, true, List, [], ◌∷◌, ◌≡◌, refl, sym, ap, ◌∙◌, ℤ, pos, ◌+ℤ◌, w64, FitsSigned, to_z, of_z, Option, Some, Ok}
use Rattle.std.proofs.Math.IntN.{suc_ℤ, +ℤ_one}
use Rattle.values.specs.laws.SignedLaws.{back}
use Rattle.values.specs.laws.RangeLaws.{in_type_long}
use Rattle.values.specs.Types.{layout, in_type}
use Rattle.values.specs.Words.{over}
use Rattle.values.specs.declared.datatypes.PrimitiveType.{PrimitiveType}
use Rattle.expr.specs.Operators.{by_arity, operator_of}
use Rattle.expr.specs.laws.PredicateLaws.{operator_of_lem}
use Rattle.expr.specs.Predicates.{test, binary, set}
use Rattle.expr.specs.declared.operator.PredicateOperator.{PredicateOperator}
use Rattle.numbers.specs.code.Boundaries.{number_projected}
use Rattle.numbers.specs.declared.steps.NumberTest.{NumberTest}
use Rattle.numbers.specs.declared.steps.NumberTest.TheVariants.{One, Two}
use Rattle.sheet.specs.Records.{record_size}
use Rattle.write.specs.Written.{answer_bytes, number_bytes}
use Rattle.answers.specs.code.Settled.{Settled}
use Rattle.answers.specs.code.Leaves.{one_written, NumbersIn}
use Rattle.answers.specs.laws.NumberLeafLaws.{predicate_written}
use Rattle.answers.specs.laws.OneLiteralLaws.{takes_one_lem, takes_many_lem}

-- v as a local holds it
abbrev pub seen : ℤ → ℤ
seen v = to_z w64 (of_z w64 v)

module _ (to : PrimitiveType) {p : Option NumberTest} (inside : NumbersIn to p) where
  module _ {o : PredicateOperator} {t : ℤ} (is : p ≡ Some (One o t)) where
    one_in : NumbersIn to (Some (One o t))
    one_in = rw is at inside

    same : seen t ≡ t
    same = back (in_type_long to t one_in.0)

    pub one_settled : {before after : List ℕ} → after ≡ over 0 (answer_bytes o to (number_bytes (layout to) (seen t) ∷ [])) before
        → Settled (one_written to (number_projected (Ok p))) before after (Ok (Some (record_size * 2)))
    one_settled {before} written =
        let a = takes_one_lem (by_arity o) one_in.1 in
        let operator : o ≡ operator_of (by_arity o) = sym (operator_of_lem o) in
        rw (is, a.1)
        (predicate_written to (test (binary a.0 t)) (one_in.0, tt)
        (written ∙ rw (same, ← a.1) (ap (λ q. over 0 (answer_bytes q to (number_bytes (layout to) t ∷ [])) before) operator))
        refl)

  module _ {o : PredicateOperator} {t : ℤ} (is : p ≡ Some (Two o t)) where
    two_in : NumbersIn to (Some (Two o t))
    two_in = rw is at inside

    first : seen t ≡ t
    first = back (in_type_long to t two_in.0)

    pub second_fits : FitsSigned w64 (seen t +ℤ pos 1)
    second_fits = rw (first, +ℤ_one t) (in_type_long to (suc_ℤ t) two_in.1)

    second : seen (seen t +ℤ pos 1) ≡ suc_ℤ t
    second = back second_fits ∙ rw (first, +ℤ_one t)

    pub two_inside : (in_type to (seen t) ≡ true) × ((in_type to (seen (seen t +ℤ pos 1)) ≡ true) × Unit {0})
    two_inside = (rw first two_in.0, (rw second two_in.1, tt))

    pub two_settled : {before after : List ℕ}
        → after ≡ over 0 (answer_bytes o to (number_bytes (layout to) (seen t) ∷ number_bytes (layout to) (seen (seen t +ℤ pos 1)) ∷ [])) before
        → Settled (one_written to (number_projected (Ok p))) before after (Ok (Some (record_size * 3)))
    two_settled {before} written =
        let a = takes_many_lem (by_arity o) two_in.2 in
        let operator : o ≡ operator_of (by_arity o) = sym (operator_of_lem o) in
        rw (is, a.1)
        (predicate_written to (test (set a.0 (t ∷ suc_ℤ t ∷ []))) (two_in.0, (two_in.1, tt))
        (written
        ∙ rw (second, first, ← a.1) (ap (λ q. over 0 (answer_bytes q to (number_bytes (layout to) t ∷ number_bytes (layout to) (suc_ℤ t) ∷ [])) before) operator))
        refl)
