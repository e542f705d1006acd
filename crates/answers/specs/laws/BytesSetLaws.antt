-- A leaf with a set of byte strings that has a projection: what the steps give of it is the set that the code collects, written. Assumes nothing.
use Rattle.std.specs.Prelude.{ℕ, zero, suc, ◌≤◌, List, [], ◌∷◌, ◌≡◌, length, get_or, drop, Ok, Err}
use Rattle.std.proofs.Common.{arith, length-take, true≢false, map-id, sym, ap, ◌∙◌}
use Rattle.std.proofs.Math.Bool.{true}
use Rattle.std.proofs.Math.Path.{refl}
use Rattle.values.specs.code.Places.{AllOf}
use Rattle.values.specs.Types.{content_size}
use Rattle.values.specs.Ascending.{ascending}
use Rattle.values.specs.Order.{compare_bytes}
use Rattle.values.specs.Outcomes.{Res, ◌>>=◌}
use Rattle.values.specs.declared.datatypes.PrimitiveType.{PrimitiveType}
use Rattle.values.specs.declared.transform.Transform.{Transform}
use Rattle.values.specs.declared.transform.Transform.TheVariants.{Identity, Truncate}
use Rattle.expr.specs.Operators.{SetOperator, is_in, not_in, Operator, none, one, many, by_arity, operator_of}
use Rattle.expr.specs.code.OperatorAnswers.{leaf_of, takes_many}
use Rattle.expr.specs.laws.PredicateLaws.{operator_of_lem}
use Rattle.expr.specs.Predicates.{test}
use Rattle.expr.specs.declared.operator.PredicateOperator.{PredicateOperator}
use Rattle.projection.specs.Projection.{in_order, through, by_transform, bytes_step}
use Rattle.projection.specs.Steps.{Projected, some, mapped}
use Rattle.projection.specs.declared.question.Question.{Question}
use Rattle.projection.specs.declared.question.Question.TheVariants.{Inclusive, Strict, Older}
use Rattle.sheet.specs.Records.{header_size, record_at}
use Rattle.sheet.specs.code.ReadAnswers.{Parts, parts_at}
use Rattle.sheet.specs.code.SheetAnswers.{contents_of}
use Rattle.write.specs.Written.{answer_bytes, answer_sheet}
use Rattle.sets.specs.laws.SetLaws.{as_set, bytes_within, bytes_outside, bytes_set_identity}
use Rattle.sets.specs.code.Sets.{bytes_set}
use Rattle.answers.specs.code.Leaves.{bytes_written, byte_steps_under, byte_steps, bytes_leaf_of, has_steps, kept_by, keeps, BytesColumn}
use Rattle.answers.specs.laws.BytesLeafLaws.{by_transform_lem}
use Rattle.answers.specs.declared.leaf.Leaf.{Leaf}

module _ (to : PrimitiveType) where
  -- the members that were collected, written with an operator
  abbrev pub set_written : PredicateOperator → Res (List (List ℕ)) → Res (Projected (List ℕ))
  set_written o found = do
    ts ← found
    Ok (some (answer_bytes o to ts))

  as_set_lem : (o : SetOperator) (found : Res (List (List ℕ)))
      → bytes_written to (as_set o found >>= λ q. Ok (mapped test q)) ≡ set_written (operator_of (many o)) found
  unfolding answer_sheet
  as_set_lem o (Ok ts) = ap (λ ls. Ok (some (answer_bytes (operator_of (many o)) to ls))) (map-id ts)
  as_set_lem o (Err e) = refl

  module _ (column : PrimitiveType) (ls : List (List ℕ)) where
    set_itself : (a : Operator) → takes_many a ≡ true
        → bytes_written to (Ok (some (in_order compare_bytes (leaf_of [] a ls)))) ≡ set_written (operator_of a) (bytes_set column Identity ls)
    set_itself (none u) h = absurd (true≢false (cc))
    set_itself (one b) h = absurd (true≢false (cc))
    set_itself (many o) h = as_set_lem o (Ok (ascending compare_bytes ls)) ∙ ap (set_written (operator_of (many o))) (sym (bytes_set_identity column ls))

    set_through : (t : Transform) (question : Question) (a : Operator) → kept_by question a ≡ true
        → bytes_written to (through (bytes_step column t question) (leaf_of [] a ls)) ≡ set_written (operator_of a) (bytes_set column t ls)
    set_through t question (none u) h = absurd (true≢false (cc))
    set_through t question (one b) h = absurd (true≢false (cc))
    set_through t Inclusive (many is_in) h =
        ap (λ r. bytes_written to (r >>= λ q. Ok (mapped test q))) (bytes_within column t ls) ∙ as_set_lem is_in (bytes_set column t ls)
    set_through t Inclusive (many not_in) h = absurd (true≢false (cc))
    set_through t Strict (many is_in) h = absurd (true≢false (cc))
    set_through t Strict (many not_in) h =
        ap (λ r. bytes_written to (r >>= λ q. Ok (mapped test q))) (bytes_outside column t ls) ∙ as_set_lem not_in (bytes_set column t ls)
    set_through t Older (many is_in) h = absurd (true≢false (cc))
    set_through t Older (many not_in) h =
        ap (λ r. bytes_written to (r >>= λ q. Ok (mapped test q))) (bytes_outside column t ls) ∙ as_set_lem not_in (bytes_set column t ls)

-- the set that the code collects of a leaf, written, is what the steps give
abbrev pub set_at : Leaf → Res (List (List ℕ))
set_at x = bytes_set x.sheet.literals.column x.sheet.transform (contents_of x.sheet.literals)

pub set_steps : (x : Leaf) → BytesColumn x.sheet.literals.column → has_steps x.sheet.transform ≡ true → takes_many (by_arity x.sheet.operator) ≡ true
    → keeps x.sheet.transform x.question (by_arity x.sheet.operator) ≡ true → byte_steps x (bytes_leaf_of x) ≡ set_written x.to x.sheet.operator (set_at x)
unfolding byte_steps_under
set_steps x bs known several kept =
    let a = by_arity x.sheet.operator in
    let column = x.sheet.literals.column in
    let ls = contents_of x.sheet.literals in
    by_transform_lem
    (λ t. keeps t x.question a ≡ true
    → bytes_written x.to (by_transform compare_bytes (bytes_step column t x.question) t (leaf_of [] a ls))
    ≡ set_written x.to (operator_of a) (bytes_set column t ls))
    column
    x.to
    bs
    (λ k. set_itself x.to column ls a several)
    (λ width k. set_through x.to column ls (Truncate width) x.question a k)
    x.sheet.transform
    x.typed
    known
    kept
    ∙ ap (λ o. set_written x.to o (set_at x)) (operator_of_lem x.sheet.operator)

-- beginnings of records are no longer than a record has room for
pub parts_short : (s sizes ks : List ℕ) (n : ℕ) → Parts s sizes ks n → AllOf (λ l. length l ≤ content_size) (parts_at s sizes ks n)
parts_short s sizes ks zero parts = tt
parts_short s sizes [] (suc n) parts = tt
parts_short s sizes (k ∷ ks) (suc n) parts = (
  omega (arith, (parts.each 0 (omega arith)).short, length-take (get_or sizes k 0) (drop header_size (record_at s k))),
  parts_short s sizes ks n (record { room = omega (arith, parts.room); each = λ i h. parts.each (suc i) (omega arith) }),
)
