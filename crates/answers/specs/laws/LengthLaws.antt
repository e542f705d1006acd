-- How long a leaf's list of literals, its literals and its sets are. Assumes nothing.
use Rattle.std.specs.Prelude.{ℕ, ◌≤◌, ◌<◌, true, List, ◌≡◌, ℤ, length, get_or, take, drop, Ok}
use Rattle.std.proofs.Common.{arith, length-take}
use Rattle.std.proofs.lemmas.List.{length-map}
use Rattle.values.specs.Types.{layout, content_size}
use Rattle.expr.specs.Operators.{by_arity, holds_limit}
use Rattle.expr.specs.code.OperatorAnswers.{takes_one}
use Rattle.projection.specs.code.OneLiteral.{lifts_for}
use Rattle.sheet.specs.code.Placed.{LiteralAt, number_at}
use Rattle.sheet.specs.code.SheetAnswers.{numbers_of}
use Rattle.sheet.specs.Records.{header_size, record_at, length_in}
use Rattle.sets.specs.laws.SetLaws.{number_set_length}
use Rattle.answers.specs.laws.BytesLeafLaws.{literal}
use Rattle.answers.specs.laws.NumberSetLaws.{set_at}
use Rattle.answers.specs.laws.OneLiteralLaws.{one_count}
use Rattle.answers.specs.declared.leaf.Leaf.{Leaf}

-- of an operator that takes one literal
module _ (x : Leaf) (single : takes_one (by_arity x.sheet.operator) ≡ true) where
  abbrev records : List ℕ
  records = x.sheet.literals.records.now

  pub one_number : 0 < length records
  one_number = omega (arith, one_count x single)

  pub one_there : LiteralAt (layout x.sheet.literals.column) x.sheet.literals.sheet.now (get_or records 0 0)
  one_there = x.sheet.literals.placed.each 0 (omega (arith, one_count x single))

  pub literal_short : length (literal x single) ≤ content_size
  literal_short =
      let r = record_at x.sheet.literals.sheet.now (get_or records 0 0) in
      omega (arith, one_there.short, length-take (length_in r) (drop header_size r))

-- an answer sheet has room for a set of numbers
pub set_few : (x : Leaf) (zs : List ℤ) → set_at x ≡ Ok zs → length zs ≤ holds_limit
set_few x zs found =
    let y = x.sheet.literals in
    let ks = y.records.now in
    let lifts = lifts_for x.question y.column x.sheet.transform in
    let twice = number_set_length lifts y.column x.sheet.transform (numbers_of y) found in
    omega (arith, twice, length-map (take (length ks) ks) (number_at (layout y.column) y.sheet.now), length-take (length ks) ks, x.few)
