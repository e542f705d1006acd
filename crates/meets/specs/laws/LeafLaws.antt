-- The leaf of a sheet that was read: its literals, the numbers that they are where the column has numbers, and what the definition answers of it. Assumes nothing.
use Rattle.std.specs.Prelude.{ℕ, true, List, [], ◌∷◌, map, ◌≡◌, refl, ℤ, pos, length, take, Ok, Err}
use Rattle.std.proofs.Common.{arith, sym, ap, ap₂, ◌∙◌, eqb-true}
use Rattle.std.proofs.lemmas.List.{length-map}
use Rattle.values.specs.Outcomes.{Res, ◌>>=◌, Row}
use Rattle.values.specs.Types.{number, layout}
use Rattle.expr.specs.Holds.{Tests, number_tests, bytes_tests, present_meets}
use Rattle.expr.specs.Operators.{Operator, none, one, many, by_arity, operator_of}
use Rattle.expr.specs.Predicates.{operator_in, literals_in}
use Rattle.expr.specs.code.OperatorAnswers.{takes, leaf_of}
use Rattle.expr.specs.laws.PredicateLaws.{arity_of, leaf_arity, other_literal}
use Rattle.sheet.specs.Records.{value}
use Rattle.sheet.specs.Values.{map_literals, number_of}
use Rattle.sheet.specs.code.Contents.{number_in}
use Rattle.sheet.specs.code.Placed.{content_at, number_at}
use Rattle.sheet.specs.code.SheetAnswers.{contents_of, numbers_of, sheet_of}
use Rattle.sheet.specs.declared.sheet.Sheet.{Sheet}
use Rattle.sheet.specs.laws.ReadLaws.{map_leaf, placed_numbers, length_placed, literals_taken}
use Rattle.meets.specs.Tested.{tested_sheet, value_tested}
use Rattle.meets.specs.code.HeldAnswers.{present_held, held_of, number_meets, bytes_meets, row_meets, value_meets}
use Rattle.meets.specs.code.Leaves.{content_leaf, number_leaf}
use Rattle.meets.specs.laws.HeldLaws.{tested_held}

-- a present value meets an operator's kind and literals where it meets the leaf of them, if they are as many as the operator takes
leaf_held : {A : Type 0} (by : Tests A) (other : A) (a : Operator) (ls : List A) (v : A) → takes a (length ls) ≡ true
    → present_held by a ls v ≡ present_meets by (leaf_of other a ls) v
leaf_held by other (none o) ls v h = refl
leaf_held by other (one o) [] v h = absurd (omega (arith, eqb-true 0 1 h))
leaf_held by other (one o) (l ∷ ls) v h = refl
leaf_held by other (many o) ls v h = refl

module _ (x : Sheet) where
  pub leaf_contents : literals_in (content_leaf x) ≡ contents_of x.literals
  leaf_contents =
      let y = x.literals in
      literals_taken (layout y.column) y.sheet.now y.records.now (length y.records.now) (by_arity x.operator) y.placed x.taken

  pub leaf_numbers : (n : ℕ) → layout x.literals.column ≡ number n → map_literals (number_of n) (content_leaf x) ≡ number_leaf x
  leaf_numbers n is =
      let y = x.literals in
      let a = by_arity x.operator in
      let contents = contents_of y in
      let counted : takes a (length (map (number_of n) contents)) ≡ true
      = rw (length-map contents (number_of n), length_placed (layout y.column) y.sheet.now y.records.now (length y.records.now) y.placed) x.taken in
      map_leaf (number_of n) [] a contents
      ∙ other_literal (number_of n []) (pos 0) a (map (number_of n) contents) counted
      ∙ ap
      (leaf_of (pos 0) a)
      (sym (placed_numbers (layout y.column) y.sheet.now y.records.now (length y.records.now) y.placed ∙ ap (λ l. map (number_in l) contents) is))

  -- what an operator and literals answer is, of a sheet's, what its leaf and the definition answer
  taken : takes (by_arity x.operator) (length (contents_of x.literals)) ≡ true
  taken = let y = x.literals in rw (length_placed (layout y.column) y.sheet.now y.records.now (length y.records.now) y.placed) x.taken

  pub bytes_answered : (v : List ℕ) → bytes_meets x.operator x.literals v ≡ present_meets bytes_tests (content_leaf x) v
  bytes_answered v = leaf_held bytes_tests [] (by_arity x.operator) (contents_of x.literals) v taken

  pub number_answered : (v : ℤ) → number_meets x.operator x.literals v ≡ present_meets number_tests (number_leaf x) v
  number_answered v =
      let y = x.literals in
      let many : length (numbers_of y) ≡ length (contents_of y)
      = length-map (take (length y.records.now) y.records.now) (number_at (layout y.column) y.sheet.now)
      ∙ sym (length-map (take (length y.records.now) y.records.now) (content_at y.sheet.now)) in
      leaf_held number_tests (pos 0) (by_arity x.operator) (numbers_of y) v (ap (takes (by_arity x.operator)) many ∙ taken)

  pub row_answered : (r : Row (List ℕ)) → row_meets x.operator x.literals r ≡ tested_sheet (sheet_of x) r
  row_answered r =
      let same : by_arity (operator_in (content_leaf x)) ≡ by_arity x.operator
      = ap (λ a. by_arity (operator_of a)) (leaf_arity [] (by_arity x.operator) (contents_of x.literals)) ∙ arity_of (by_arity x.operator) in
      sym (tested_held (sheet_of x) r ∙ ap₂ (λ a ls. held_of x.literals.column a ls r) same leaf_contents)

  pub value_answered : (v : List ℕ) → value_meets x.operator x.literals v ≡ value_tested (sheet_of x) v
  value_answered v = go (value (layout x.literals.column) v)
    where
      go : (w : Res (Row (List ℕ))) → (w >>= row_meets x.operator x.literals) ≡ (w >>= tested_sheet (sheet_of x))
      go (Ok r) = row_answered r
      go (Err e) = refl
