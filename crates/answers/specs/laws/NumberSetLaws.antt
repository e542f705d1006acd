-- A leaf with a set of numbers that has a projection: what the steps give of it is the set that the code collects, written. Assumes nothing.
use Rattle.std.specs.Prelude.{ℕ, suc, ◌*◌, false, List, map, ◌≡◌, refl, ℤ, length, take, Ok, Err, Some}
use Rattle.std.proofs.Common.{sym, ap, ◌∙◌}
use Rattle.std.proofs.Math.Bool.{true}
use Rattle.std.proofs.lemmas.Bool.{false≢true}
use Rattle.std.proofs.Math.Path.{subst}
use Rattle.values.specs.code.Places.{AllOf}
use Rattle.values.specs.Ascending.{ascending}
use Rattle.values.specs.Order.{compare_numbers}
use Rattle.values.specs.Outcomes.{Res, ◌>>=◌}
use Rattle.values.specs.Types.{layout}
use Rattle.values.specs.Words.{over}
use Rattle.values.specs.declared.datatypes.PrimitiveType.{PrimitiveType}
use Rattle.values.specs.declared.error.ErrorKind.{ErrorKind}
use Rattle.values.specs.declared.transform.Transform.{Transform}
use Rattle.values.specs.declared.transform.Transform.TheVariants.{Identity, Truncate, Year, Month, Day, Hour, Void, Unknown}
use Rattle.partition.specs.code.PartitionAnswers.{InType}
use Rattle.expr.specs.Operators.{Operator, SetOperator, many, is_in, not_in, by_arity, operator_of}
use Rattle.expr.specs.code.OperatorAnswers.{takes_many}
use Rattle.expr.specs.laws.PredicateLaws.{operator_of_lem}
use Rattle.expr.specs.Predicates.{Predicate, test, set}
use Rattle.projection.specs.Projection.{by_transform, number_step}
use Rattle.projection.specs.Steps.{Projected, some, mapped}
use Rattle.projection.specs.code.OneLiteral.{lifts_for}
use Rattle.projection.specs.declared.question.Question.{Question}
use Rattle.projection.specs.declared.question.Question.TheVariants.{Inclusive, Strict, Older}
use Rattle.sheet.specs.code.SheetAnswers.{numbers_of}
use Rattle.sheet.specs.Records.{record_size}
use Rattle.write.specs.Written.{answer_bytes, number_bytes}
use Rattle.sets.specs.laws.SetLaws.{as_set, number_within, number_outside, number_outside_older, number_set_identity, number_set_lands}
use Rattle.sets.specs.code.Sets.{number_set}
use Rattle.answers.specs.code.Settled.{Settled}
use Rattle.answers.specs.code.Leaves.{numbers_written, number_steps_under, number_steps, number_leaf_of, has_steps, kept_by, keeps, NumberColumn}
use Rattle.answers.specs.laws.NumberLeafLaws.{predicate_written, numbers_inside}
use Rattle.answers.specs.laws.OneLiteralLaws.{takes_many_lem}
use Rattle.answers.specs.declared.leaf.Leaf.{Leaf}

-- ---- the steps of a set that has a projection are the set that is collected
module _ (column : PrimitiveType) (question : Question) (o : SetOperator) (ls : List ℤ) where
  abbrev collect : Transform → Res (List ℤ)
  collect transform = number_set (lifts_for question column transform) column transform ls

  abbrev as_predicate : Res (List ℤ) → Res (Projected (Predicate ℤ))
  as_predicate found = do
    q ← as_set o found
    Ok (mapped test q)

  set_step : (transform : Transform) → kept_by question (many o) ≡ true
      → (number_step column transform question (set o ls) >>= λ q. Ok (mapped test q)) ≡ as_predicate (collect transform)
  set_step transform h = go question o h
    where
      go : (question : Question) (o : SetOperator) → kept_by question (many o) ≡ true
          → (number_step column transform question (set o ls) >>= λ q. Ok (mapped test q))
          ≡ (as_set o (number_set (lifts_for question column transform) column transform ls) >>= λ q. Ok (mapped test q))
      go Inclusive is_in h = rw (number_within column transform ls)
      go Inclusive not_in h = absurd (false≢true h)
      go Strict is_in h = absurd (false≢true h)
      go Strict not_in h = rw (number_outside column transform ls)
      go Older is_in h = absurd (false≢true h)
      go Older not_in h = rw (number_outside_older column transform ls)

  not_lifted : (question : Question) → lifts_for question column Identity ≡ false
  not_lifted Inclusive = refl
  not_lifted Strict = refl
  not_lifted Older = refl

  set_itself : Ok (some (test (set o (ascending compare_numbers ls)))) ≡ as_predicate (collect Identity)
  set_itself = rw (not_lifted question, number_set_identity column ls)

  set_steps : (transform : Transform) → has_steps transform ≡ true → keeps transform question (many o) ≡ true
      → by_transform compare_numbers (number_step column transform question) transform (test (set o ls)) ≡ as_predicate (collect transform)
  set_steps Identity h k = set_itself
  set_steps (Truncate width) h k = set_step (Truncate width) k
  set_steps Year h k = set_step Year k
  set_steps Month h k = set_step Month k
  set_steps Day h k = set_step Day k
  set_steps Hour h k = set_step Hour k
  set_steps Void h k = absurd (false≢true h)
  set_steps Unknown h k = absurd (false≢true h)

-- ---- what is answered
-- the set of the leaf's literals
abbrev pub set_at : Leaf → Res (List ℤ)
set_at x =
    let y = x.sheet in
    number_set (lifts_for x.question y.literals.column y.transform) y.literals.column y.transform (numbers_of y.literals)

module _ (x : Leaf) (column : NumberColumn x.sheet.literals.column) (known : has_steps x.sheet.transform ≡ true)
    (several : takes_many (by_arity x.sheet.operator) ≡ true) (kept : keeps x.sheet.transform x.question (by_arity x.sheet.operator) ≡ true) where
  abbrev o : SetOperator
  o = (takes_many_lem (by_arity x.sheet.operator) several).0

  is_many : by_arity x.sheet.operator ≡ many o
  is_many = (takes_many_lem (by_arity x.sheet.operator) several).1

  leaf_steps : number_steps x (number_leaf_of x) ≡ numbers_written x.to (as_predicate x.sheet.literals.column x.question o (numbers_of x.sheet.literals) (set_at x))
  unfolding number_steps_under
  leaf_steps =
      let y = x.sheet in
      let k : keeps y.transform x.question (many o) ≡ true = subst (λ (a : Operator). keeps y.transform x.question a ≡ true) is_many kept in
      rw (is_many, set_steps y.literals.column x.question o (numbers_of y.literals) y.transform known k)

  pub set_refused : {k : ErrorKind} → set_at x ≡ Err k → number_steps x (number_leaf_of x) ≡ Err k
  set_refused e = leaf_steps ∙ rw e

  module _ (zs : List ℤ) (found : set_at x ≡ Ok zs) where
    -- its members are of the result type
    pub set_inside : AllOf (InType x.to) zs
    set_inside =
        let y = x.sheet in
        let l = y.literals in
        let inside = numbers_inside l.column column l.sheet.now (take (length l.records.now) l.records.now) in
        number_set_lands (lifts_for x.question l.column y.transform) l.column y.transform (numbers_of l) found x.to x.typed inside

    pub set_written_lem : {before after : List ℕ} {m : ℕ}
        → after ≡ over 0 (answer_bytes x.sheet.operator x.to (map (number_bytes (layout x.to)) zs)) before → m ≡ record_size * suc (length zs)
        → Settled (number_steps x (number_leaf_of x)) before after (Ok (Some m))
    set_written_lem {before} written size =
        let operator : x.sheet.operator ≡ operator_of (many o) = sym (operator_of_lem x.sheet.operator) ∙ ap operator_of is_many in
        rw (leaf_steps, found)
        (predicate_written
        x.to
        (test (set o zs))
        set_inside
        (written ∙ ap (λ p. over 0 (answer_bytes p x.to (map (number_bytes (layout x.to)) zs)) before) operator)
        size)
