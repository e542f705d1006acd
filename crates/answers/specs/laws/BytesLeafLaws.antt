-- Laws of a leaf over a column of byte strings: which transforms have steps, what these come to by the operator's literals, and how much is written.
-- Assumes nothing.
use Rattle.std.specs.Prelude.{ℕ, ◌+◌, ◌*◌, ◌≤◌, false, List, [], ◌∷◌, ◌≡◌, length, get_or, Ok}
use Rattle.std.proofs.Common.{arith, true≢false, ◌∙◌, length-append, le-leb}
use Rattle.std.proofs.Math.Bool.{true}
use Rattle.std.proofs.Math.Path.{refl, ap}
use Rattle.values.specs.code.Places.{AllOf}
use Rattle.values.specs.Order.{compare_bytes}
use Rattle.values.specs.laws.OutcomeLaws.{passed}
use Rattle.values.specs.laws.TestLaws.{clash}
use Rattle.values.specs.Types.{bytes, layout, content_size, type_number}
use Rattle.values.specs.declared.datatypes.PrimitiveType.{PrimitiveType}
use Rattle.values.specs.declared.datatypes.PrimitiveType.TheVariants.{Int, Long, Date, Time, Timestamp, Timestamptz, TimestampNs, TimestamptzNs, String, Binary}
use Rattle.values.specs.declared.transform.Transform.{Transform}
use Rattle.values.specs.declared.transform.Transform.TheVariants.{Identity, Truncate, Year, Month, Day, Hour, Void, Unknown}
use Rattle.values.specs.declared.error.ErrorKind.TheVariants.{NoResultType}
use Rattle.partition.specs.ResultType.{is_one_of, for_types, with_days, with_hours, result_type}
use Rattle.expr.specs.Operators.{operator_number, Operator, none, one, many, by_arity, operator_of}
use Rattle.expr.specs.code.OperatorAnswers.{leaf_of, takes_one}
use Rattle.expr.specs.laws.PredicateLaws.{operator_of_lem}
use Rattle.expr.specs.declared.operator.PredicateOperator.{PredicateOperator}
use Rattle.projection.specs.code.OneLiteral.{one_test}
use Rattle.strings.specs.code.Prefixes.{bytes_leaf}
use Rattle.expr.specs.Predicates.{Predicate}
use Rattle.projection.specs.Projection.{in_order, through, bytes_step, by_transform}
use Rattle.projection.specs.Steps.{some}
use Rattle.projection.specs.declared.question.Question.{Question}
use Rattle.sheet.specs.code.Placed.{content_at}
use Rattle.sheet.specs.Records.{record_size}
use Rattle.sheet.specs.laws.SheetLaws.{Fits}
use Rattle.write.specs.Written.{head_record, next_to, literal_records, answer_bytes, answer_sheet}
use Rattle.write.specs.laws.WrittenLaws.{length_records}
use Rattle.answers.specs.code.Leaves.{bytes_written, byte_steps_under, byte_steps, bytes_leaf_of, one_bytes_written, has_steps, BytesColumn}
use Rattle.answers.specs.laws.OneLiteralLaws.{one_literal}
use Rattle.answers.specs.declared.leaf.Leaf.{Leaf}

-- ---- a column of byte strings has steps under Identity and Truncate only
pub no_time : (column : PrimitiveType) (n : ℕ) → layout column ≡ bytes n → (is_one_of column with_days ≡ false) × (is_one_of column with_hours ≡ false)
no_time Int n e = (cc, cc)
no_time Long n e = (cc, cc)
no_time Date n e = (cc, cc)
no_time Time n e = (cc, cc)
no_time Timestamp n e = (cc, cc)
no_time Timestamptz n e = (cc, cc)
no_time TimestampNs n e = (cc, cc)
no_time TimestamptzNs n e = (cc, cc)
no_time String n e = (refl, refl)
no_time Binary n e = (refl, refl)

pub not_listed : {X : Type 0} (types : List PrimitiveType) (column t : PrimitiveType) {to : PrimitiveType} → is_one_of column types ≡ false
    → for_types types column t ≡ Ok to → X
not_listed types column t e r = clash (passed (is_one_of column types) NoResultType _ r).0 e

-- what Identity and every Truncate have, each transform with steps has
pub by_transform_lem : (P : Transform → Type 0) (column to : PrimitiveType) → BytesColumn column
    → P Identity → ((width : ℕ) → P (Truncate width))
    → (t : Transform) → result_type t column ≡ Ok to → has_steps t ≡ true → P t
unfolding result_type
by_transform_lem P column to bs same cut Identity r h = same
by_transform_lem P column to bs same cut (Truncate width) r h = cut width
by_transform_lem P column to bs same cut Year r h = not_listed with_days column Int (no_time column content_size bs).0 r
by_transform_lem P column to bs same cut Month r h = not_listed with_days column Int (no_time column content_size bs).0 r
by_transform_lem P column to bs same cut Day r h = not_listed with_days column Date (no_time column content_size bs).0 r
by_transform_lem P column to bs same cut Hour r h = not_listed with_hours column Int (no_time column content_size bs).1 r
by_transform_lem P column to bs same cut Void r h = absurd (true≢false (cc))
by_transform_lem P column to bs same cut Unknown r h = absurd (true≢false (cc))

-- ---- how much is written
pub answer_length : (o : PredicateOperator) (to : PrimitiveType) (ls : List (List ℕ)) → AllOf (λ l. length l ≤ content_size) ls
    → length (answer_bytes o to ls) ≡ record_size * (length ls + 1)
answer_length o to ls h =
    let head = head_record (next_to 1 ls) (operator_number o) (type_number to) in
    omega (arith, length-append head (literal_records 1 ls), length_records Binary 1 ls (fit ls h))
  where
    fit : (ls : List (List ℕ)) → AllOf (λ l. length l ≤ content_size) ls → Fits Binary ls
    fit [] h = tt
    fit (l ∷ ls) h = (le-leb (length l) content_size h.0, fit ls h.1)

-- ---- one literal
module _ (to : PrimitiveType) (l : List ℕ) where
  pub one_written : (o : PredicateOperator) → takes_one (by_arity o) ≡ true
      → one_bytes_written to (Ok (one_test (by_arity o) l)) ≡ Ok (some (answer_bytes o to (l ∷ [])))
  unfolding answer_sheet
  one_written o h = go (by_arity o) h ∙ ap (λ p. Ok (some (answer_bytes p to (l ∷ [])))) (operator_of_lem o)
    where
      go : (a : Operator) → takes_one a ≡ true → one_bytes_written to (Ok (one_test a l)) ≡ Ok (some (answer_bytes (operator_of a) to (l ∷ [])))
      go (none u) h = absurd (true≢false (cc))
      go (one b) h = refl
      go (many m) h = absurd (true≢false (cc))

  one_through : (column : PrimitiveType) (t : Transform) (question : Question) (a : Operator) → takes_one a ≡ true
      → bytes_written to (through (bytes_step column t question) (leaf_of [] a (l ∷ []))) ≡ one_bytes_written to (bytes_leaf question column t a l)
  one_through column t question (none u) h = absurd (true≢false (cc))
  one_through column t question (one b) h = refl
  one_through column t question (many m) h = absurd (true≢false (cc))

  one_itself : (a : Operator) → takes_one a ≡ true
      → bytes_written to (Ok (some (in_order compare_bytes (leaf_of [] a (l ∷ []))))) ≡ one_bytes_written to (Ok (one_test a l))
  one_itself (none u) h = absurd (true≢false (cc))
  one_itself (one b) h = refl
  one_itself (many m) h = absurd (true≢false (cc))

module _ (question : Question) (column to : PrimitiveType) (transform : Transform) (leaf : Predicate (List ℕ)) where
  pub cut_steps : (width : ℕ) → transform ≡ Truncate width
      → bytes_written to (by_transform compare_bytes (bytes_step column transform question) transform leaf)
      ≡ bytes_written to (through (bytes_step column (Truncate width) question) leaf)
  cut_steps width t = rw t

  pub identity_steps : transform ≡ Identity
      → bytes_written to (by_transform compare_bytes (bytes_step column transform question) transform leaf)
      ≡ bytes_written to (Ok (some (in_order compare_bytes leaf)))
  identity_steps t = rw t

module _ (x : Leaf) (single : takes_one (by_arity x.sheet.operator) ≡ true) where
  -- the literal is the content of the first record
  abbrev pub literal : List ℕ
  literal = content_at x.sheet.literals.sheet.now (get_or x.sheet.literals.records.now 0 0)

  -- what the code projects it to is what the steps give
  pub one_truncated : (width : ℕ) → x.sheet.transform ≡ Truncate width
      → byte_steps x (bytes_leaf_of x) ≡ one_bytes_written x.to (bytes_leaf x.question x.sheet.literals.column (Truncate width) (by_arity x.sheet.operator) literal)
  unfolding byte_steps_under
  one_truncated width is =
      let y = x.sheet in
      cut_steps x.question y.literals.column x.to y.transform (bytes_leaf_of x) width is
      ∙ rw (one_literal x single (content_at y.literals.sheet.now)) (one_through x.to literal y.literals.column (Truncate width) x.question (by_arity y.operator) single)

  pub one_identity : x.sheet.transform ≡ Identity → byte_steps x (bytes_leaf_of x) ≡ one_bytes_written x.to (Ok (one_test (by_arity x.sheet.operator) literal))
  unfolding byte_steps_under
  one_identity is =
      let y = x.sheet in
      identity_steps x.question y.literals.column x.to y.transform (bytes_leaf_of x) is
      ∙ rw (one_literal x single (content_at y.literals.sheet.now)) (one_itself x.to literal (by_arity y.operator) single)
