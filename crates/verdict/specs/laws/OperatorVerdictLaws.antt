-- The verdict on a file of numbers as the code comes to it: by an operator and its literals, and by whether some value meets it and some does not.
-- Assumes nothing.
use Rattle.std.specs.Prelude.{Bool, true, false, cond, ◌&&◌, ◌||◌, List, ◌≡◌, refl, ℤ}
use Rattle.std.proofs.Math.Bool.{not}
use Rattle.std.proofs.Common.{sym, ◌∙◌}
use Rattle.std.proofs.Math.Path.{ap, ap₂}
use Rattle.values.specs.SomeEvery.{some}
use Rattle.values.specs.Outcomes.{Row, missing, present}
use Rattle.expr.specs.Holds.{number_tests, present_meets, holds, missing_meets}
use Rattle.expr.specs.Operators.{by_arity}
use Rattle.expr.specs.code.OperatorAnswers.{negated, leaf_of}
use Rattle.expr.specs.declared.operator.PredicateOperator.{PredicateOperator}
use Rattle.expr.specs.laws.HoldsLaws.{missing_leaf, negated_leaf}
use Rattle.summary.specs.Summaries.{Ends}
use Rattle.verdict.specs.Verdicts.{values_in, rows_in, verdict_of, number_verdict}
use Rattle.verdict.specs.code.VerdictAnswers.{verdict_by}
use Rattle.verdict.specs.declared.verdict.Verdict.TheVariants.{Skip, Read, Whole}
use Rattle.values.specs.laws.SomeLaws.{every_some, some_same, some_map}

-- ---- the rows of a file: the missing one, and the present ones
rows_some : (test : Row ℤ → Bool) (ends : Ends ℤ) (has_missing : Bool)
    → some test (rows_in ends has_missing) ≡ ((has_missing && test missing) || some (λ v. test (present v)) (values_in ends))
rows_some test ends true = ap (λ b. test missing || b) (some_map test present (values_in ends))
rows_some test ends false = some_map test present (values_in ends)

by_some : {A : Type 0} (meets : A → Bool) (rows : List A) → verdict_of meets rows ≡ verdict_by (some meets rows) (some (λ r. not (meets r)) rows)
by_some meets rows = rw (every_some meets rows) (go (some meets rows) (some (λ r. not (meets r)) rows))
  where
    go : (met unmet : Bool) → cond (not met) Skip (cond (not unmet) Whole Read) ≡ verdict_by met unmet
    go true true = refl
    go true false = refl
    go false unmet = refl

-- met and unmet: by the missing value, where flagged, and by the present ones under the operator and the negated one
module _ (d : ℤ) (o : PredicateOperator) (ls : List ℤ) (ends : Ends ℤ) (has_missing : Bool) where
  abbrev under : PredicateOperator → Bool
  under operator = some (present_meets number_tests (leaf_of d (by_arity operator) ls)) (values_in ends)

  pub by_operator : number_verdict (leaf_of d (by_arity o) ls) ends has_missing
      ≡ verdict_by ((has_missing && missing_meets (by_arity o)) || under o) ((has_missing && not (missing_meets (by_arity o))) || under (negated o))
  unfolding number_verdict
  by_operator =
      let p = leaf_of d (by_arity o) ls in
      let met = rows_some (holds number_tests p) ends has_missing in
      let unmet = rows_some (λ r. not (holds number_tests p r)) ends has_missing in
      let opposite = some_same (present_meets number_tests (leaf_of d (by_arity (negated o)) ls)) (λ v. not (present_meets number_tests p v)) (values_in ends)
      (negated_leaf number_tests d ls o) in
      by_some (holds number_tests p) (rows_in ends has_missing)
      ∙ ap₂ verdict_by met (unmet ∙ ap (λ b. (has_missing && not (holds number_tests p missing)) || b) (sym opposite))
      ∙ ap (λ m. verdict_by ((has_missing && m) || under o) ((has_missing && not m) || under (negated o))) (missing_leaf number_tests d ls (by_arity o))
