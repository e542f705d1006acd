-- A leaf with one number: the number is of the column's type, what it comes to is of the result type, and the bytes that are written are its answer
-- sheet. Assumes nothing.
use Rattle.std.specs.Prelude.{ℕ, suc, ◌*◌, true, false, List, [], ◌∷◌, map, ◌≡◌, ℤ, length, get_or, Ok, Option, Some, None}
use Rattle.std.proofs.lemmas.Bool.{false≢true}
use Rattle.std.proofs.Common.{sym, ap, subst, ◌∙◌, eq-eqb}
use Rattle.std.proofs.Math.IntN.{suc_ℤ}
use Rattle.std.proofs.lemmas.List.{length-map}
use Rattle.values.specs.code.Places.{AllOf}
use Rattle.values.specs.Order.{compare_numbers}
use Rattle.values.specs.laws.OutcomeLaws.{ok_inj}
use Rattle.values.specs.Outcomes.{Res, ◌>>=◌}
use Rattle.values.specs.Types.{Layout, number, bytes, layout, fits, in_layout, in_type}
use Rattle.values.specs.laws.TypesLaws.{Sized, sized}
use Rattle.values.specs.laws.WordLaws.{length_bytes}
use Rattle.values.proofs.TwosComplement.{signed_in_range}
use Rattle.values.specs.Words.{over, signed, unsigned}
use Rattle.values.specs.declared.datatypes.PrimitiveType.{PrimitiveType}
use Rattle.values.specs.declared.transform.Transform.{Transform}
use Rattle.values.specs.declared.transform.Transform.TheVariants.{Identity}
use Rattle.partition.specs.code.PartitionAnswers.{InType}
use Rattle.partition.specs.ResultType.{result_type}
use Rattle.expr.specs.Operators.{Binary as BinaryOperator, Operator, one, by_arity}
use Rattle.expr.specs.code.OperatorAnswers.{takes_one}
use Rattle.expr.specs.Predicates.{Test, Predicate, test, binary, set, operator_in, literals_in}
use Rattle.projection.specs.code.OneLiteral.{one_test}
use Rattle.numbers.specs.code.Boundaries.{number_leaf, OneIn, two_test, number_projected}
use Rattle.projection.proofs.LandingLaws.{numbers_land}
use Rattle.projection.specs.Projection.{by_transform, number_step, project_numbers}
use Rattle.projection.specs.Steps.{some, mapped}
use Rattle.projection.specs.declared.question.Question.{Question}
use Rattle.numbers.specs.declared.steps.NumberTest.{NumberTest}
use Rattle.numbers.specs.declared.steps.NumberTest.TheVariants.{One, Two}
use Rattle.sheet.specs.code.Placed.{number_at}
use Rattle.sheet.specs.Records.{record_size}
use Rattle.sheet.specs.laws.SheetLaws.{Fits}
use Rattle.write.specs.Written.{answer_bytes, answer_sheet, number_bytes}
use Rattle.write.specs.laws.WrittenLaws.{length_answer}
use Rattle.answers.specs.code.Settled.{Settled}
use Rattle.sheet.specs.Values.{map_literals}
use Rattle.answers.specs.code.Leaves.{numbers_written, number_steps_under, number_steps, number_leaf_of, one_written, NumbersIn, has_steps, is_identity, NumberColumn}
use Rattle.answers.specs.laws.OneLiteralLaws.{takes_one_lem, takes_many_lem, one_literal}
use Rattle.sheet.specs.laws.ReadLaws.{map_operator, map_literals_lem}
use Rattle.answers.specs.laws.StepsLaws.{steps_through}
use Rattle.answers.specs.declared.leaf.Leaf.{Leaf}

-- ---- numbers of a type as bytes

number_fits : (l : Layout) (z : ℤ) → in_layout l z ≡ true → fits l (length (number_bytes l z)) ≡ true
number_fits (number n) z h = eq-eqb _ n (length_bytes n (unsigned n z))
number_fits (bytes n) z h = absurd (false≢true h)

numbers_fit : (to : PrimitiveType) (zs : List ℤ) → AllOf (InType to) zs → Fits to (map (λ z. number_bytes (layout to) z) zs)
unfolding in_type
numbers_fit to [] h = tt
numbers_fit to (z ∷ zs) h = (number_fits (layout to) z h.0, numbers_fit to zs h.1)

-- the head and the literals of a predicate whose numbers are of the type are its answer sheet
pub predicate_written : (to : PrimitiveType) (p : Predicate ℤ) {before after : List ℕ} {n : ℕ} → AllOf (InType to) (literals_in p)
    → after ≡ over 0 (answer_bytes (operator_in p) to (map (λ z. number_bytes (layout to) z) (literals_in p))) before
    → n ≡ record_size * suc (length (literals_in p))
    → Settled (numbers_written to (Ok (some p))) before after (Ok (Some n))
unfolding answer_sheet
predicate_written to p {before} inside written size =
    let f : ℤ → List ℕ = λ z. number_bytes (layout to) z in
    let q = map_literals f p in
    let fit : Fits to (literals_in q) = rw (map_literals_lem f p) (numbers_fit to (literals_in p) inside) in
    let long : record_size * suc (length (literals_in q)) ≡ record_size * suc (length (literals_in p)) = rw (map_literals_lem f p, length-map (literals_in p) f) in
    record {
      number = ap (λ (k : ℕ). Ok (Some k)) (size ∙ sym long ∙ sym (length_answer to q fit));
      left = written ∙ rw (map_operator f p, map_literals_lem f p);
    }

-- ---- numbers that are read are of the column's type

module _ (column : PrimitiveType) (records : NumberColumn column) where
  pub signed_inside : (k : ℕ) → InType column (signed records.size k)
  unfolding in_type
  signed_inside k = rw records.is (signed_in_range records.size k (subst Sized records.is (sized column)))

  module _ (s : List ℕ) where
    pub number_inside : (k : ℕ) → InType column (number_at (layout column) s k)
    number_inside k = rw records.is (signed_inside _)

    pub numbers_inside : (ks : List ℕ) → AllOf (InType column) (map (number_at (layout column) s) ks)
    numbers_inside [] = tt
    numbers_inside (k ∷ ks) = (number_inside k, numbers_inside ks)

-- ---- what a number of the column comes to, under every other transform than Identity that has steps
module _ (question : Question) (column to : PrimitiveType) (transform : Transform) (a : Operator) (single : takes_one a ≡ true) (literal : ℤ)
    (result : result_type transform column ≡ Ok to) (known : has_steps transform ≡ true) (other : is_identity transform ≡ false) where
  abbrev leaf : Predicate ℤ
  leaf = test (binary (takes_one_lem a single).0 literal)

  abbrev Comes : Res (Option NumberTest) → Type 0
  Comes p = number_projected p ≡ number_leaf question column transform a literal

  module _ (p : Res (Option NumberTest)) (projected : Comes p) where
    step_is : number_step column transform question (binary (takes_one_lem a single).0 literal) ≡ number_projected p
    step_is = sym (projected ∙ ap (λ b. number_leaf question column transform b literal) (takes_one_lem a single).1)

    pub leaf_stepped : by_transform compare_numbers (number_step column transform question) transform leaf ≡ (number_projected p >>= λ q. Ok (mapped test q))
    leaf_stepped = steps_through compare_numbers (number_step column transform question) transform leaf known other ∙ rw step_is

    landed : InType column literal → (q : Test ℤ) → number_projected p ≡ Ok (some q) → AllOf (InType to) (literals_in (test q))
    unfolding project_numbers
    landed inside q e = (numbers_land question column to transform leaf (test q) result (inside, tt) (leaf_stepped ∙ rw e)).all

  pub leaf_inside : InType column literal → (p : Option NumberTest) → Comes (Ok p) → OneIn (Ok p) → NumbersIn to p
  leaf_inside inside None e h = tt
  leaf_inside inside (Some (One o t)) e h =
      let k = takes_one_lem (by_arity o) h in
      ((landed (Ok (Some (One o t))) e inside (binary k.0 t) (ap (λ b. Ok (one_test b t)) k.1)).0, h)
  leaf_inside inside (Some (Two o t)) e h =
      let k = takes_many_lem (by_arity o) h in
      let all = landed (Ok (Some (Two o t))) e inside (set k.0 (t ∷ suc_ℤ t ∷ [])) (ap (λ b. Ok (two_test b t)) k.1) in
      (all.0, all.1.0, h)

-- ---- a leaf with one literal
identity_steps : (question : Question) (column to : PrimitiveType) (transform : Transform) (o : BinaryOperator) (z : ℤ) → transform ≡ Identity
    → numbers_written to (by_transform compare_numbers (number_step column transform question) transform (test (binary o z)))
    ≡ numbers_written to (Ok (some (test (binary o z))))
identity_steps question column to transform o z t = rw t

pub identity_type : (transform : Transform) (column to : PrimitiveType) → transform ≡ Identity → result_type transform column ≡ Ok to → column ≡ to
unfolding result_type
identity_type transform column to t result = ok_inj (rw t at result)

-- the number in the first record
abbrev pub literal_of : Leaf → ℤ
literal_of x = number_at (layout x.sheet.literals.column) x.sheet.literals.sheet.now (get_or x.sheet.literals.records.now 0 0)

pub literal_inside : (x : Leaf) → NumberColumn x.sheet.literals.column → InType x.sheet.literals.column (literal_of x)
literal_inside x column = number_inside x.sheet.literals.column column x.sheet.literals.sheet.now (get_or x.sheet.literals.records.now 0 0)

module _ (x : Leaf) (column : NumberColumn x.sheet.literals.column) (known : has_steps x.sheet.transform ≡ true)
    (single : takes_one (by_arity x.sheet.operator) ≡ true) where
  abbrev o : BinaryOperator
  o = (takes_one_lem (by_arity x.sheet.operator) single).0

  is_one : by_arity x.sheet.operator ≡ one o
  is_one = (takes_one_lem (by_arity x.sheet.operator) single).1

  one_leaf : number_leaf_of x ≡ test (binary o (literal_of x))
  one_leaf = rw (is_one, one_literal x single (number_at (layout x.sheet.literals.column) x.sheet.literals.sheet.now))

  -- under Identity it is the leaf itself
  pub one_itself : x.sheet.transform ≡ Identity
      → number_steps x (number_leaf_of x) ≡ one_written x.to (number_projected (Ok (Some (One x.sheet.operator (literal_of x)))))
  unfolding number_steps_under
  one_itself t = rw (one_leaf, is_one) (identity_steps x.question x.sheet.literals.column x.to x.sheet.transform o (literal_of x) t)

  pub itself_inside : x.sheet.transform ≡ Identity → NumbersIn x.to (Some (One x.sheet.operator (literal_of x)))
  itself_inside t = (rw (← identity_type x.sheet.transform x.sheet.literals.column x.to t x.typed) (literal_inside x column), single)

  -- else what it comes to
  module _ (other : is_identity x.sheet.transform ≡ false) where
    abbrev pub Comes_to : Res (Option NumberTest) → Type 0
    Comes_to p = number_projected p ≡ number_leaf x.question x.sheet.literals.column x.sheet.transform (by_arity x.sheet.operator) (literal_of x)

    pub one_projected : (p : Res (Option NumberTest)) → Comes_to p → number_steps x (number_leaf_of x) ≡ one_written x.to (number_projected p)
    unfolding number_steps_under
    one_projected p e =
        let y = x.sheet in
        rw (one_leaf, leaf_stepped x.question y.literals.column x.to y.transform (by_arity y.operator) single (literal_of x) x.typed known other p e)

    pub projected_inside : (p : Option NumberTest) → Comes_to (Ok p) → OneIn (Ok p) → NumbersIn x.to p
    projected_inside p e h =
        let y = x.sheet in
        leaf_inside x.question y.literals.column x.to y.transform (by_arity y.operator) single (literal_of x) x.typed known other (literal_inside x column) p e h
