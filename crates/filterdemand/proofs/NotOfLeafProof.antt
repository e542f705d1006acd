-- What a row is answered by a leaf and by `not` before it: the leaf fits its column, so that both are answered by the holds-test, the one of its operator and the
-- other of the opposite. Assumes nothing.
use Rattle.std.specs.Prelude.{Ok}
use Prim.Native.Nat.{ℕ}
use mathlib.Core.Bool.{Bool, not}
use mathlib.Core.List.{List}
use mathlib.Core.Path.{◌≡◌, refl, sym, ap, subst, ◌∙◌}
use Rattle.values.specs.Outcomes.{Res, Row, missing, present}
use Rattle.values.specs.laws.OutcomeLaws.{passing, going, gone}
use Rattle.values.specs.Types.{Layout, number, bytes, layout}
use Rattle.values.specs.declared.error.ErrorKind.TheVariants.{NotUtf8}
use Rattle.expr.specs.Holds.{Tests, number_tests, bytes_tests, missing_meets, meets}
use Rattle.expr.specs.Operators.{Binary, one, opposite_binary}
use Rattle.expr.specs.Predicates.{test, binary}
use Rattle.expr.specs.laws.HoldsLaws.{meets_opposite, missing_opposite, missing_unordered}
use Rattle.sheet.specs.Values.{number_of, read_number, read_bytes, read_row, by_layout}
use Rattle.sheet.specs.laws.ReadLaws.{number_row_lem}
use Rattle.meets.specs.Tested.{tested, tested_sheet}
use Rattle.columns.specs.Cells.{rows}
use Rattle.grammar.specs.Filters.{leaf}
use Rattle.leaves.specs.Fitting.{Leaf}
use Rattle.ask.specs.LeafAnswers.{row_at, predicate_in, row_answer}
use Rattle.parse.specs.FilterText.{turn}
use Rattle.filter.specs.FilterRoutines.{filter_row}
use Rattle.filter.specs.NotOfLeaf.{LeafAndNot, PresentMeetsOne, MissingMeetsOne, MissingMeetsNeither, NotOfLeaf}
use Rattle.filterdemand.proofs.FittedLaws.{Fitted}
use Rattle.filterdemand.proofs.FilterDemandProof.{columns_of, all_fitted, leaf_cell}

-- what an operator and its opposite are answered: by a missing value what it meets, by a present one the one and not the other
abbrev Answers : Binary → Row (List ℕ) → Res Bool → Res Bool → Type 0
Answers o missing a b = (a ≡ Ok (missing_meets (one o))) × (b ≡ Ok (missing_meets (one (opposite_binary o))))
Answers o (present v) a b = (y : Bool) × (a ≡ Ok y) × (b ≡ Ok (not y))

module _ {A : Type 0} (by : Tests A) (read : List ℕ → Res A) (o : Binary) (content : List ℕ) (x : A) (read_is : read content ≡ Ok x) where
  abbrev asked : Binary → Row (List ℕ) → Res Bool
  asked o row = tested by read (test (binary o content)) row

  both_tested : (row : Row (List ℕ)) (r : Row A) → read_row read row ≡ Ok r → Answers o row (asked o row) (asked (opposite_binary o) row)
  both_tested missing r e = (going _ (going _ read_is), going _ (going _ read_is))
  both_tested (present v) r e =
      let y = gone (read v) _ e in
      let value_is = going (λ z. Ok (present z)) y.1 in (
        meets by (binary o x) y.0,
        going _ (going _ read_is) ∙ going _ value_is,
        going _ (going _ read_is) ∙ going _ value_is ∙ ap Ok (meets_opposite by (binary o x) y.0),
      )

module _ (c t u v : List ℕ) (h : LeafAndNot c t u v) where
  abbrev l : Leaf
  l = h.found

  abbrev row : Row (List ℕ)
  row = row_at h.cells l.place

  fitted : Fitted (columns_of h.cells) l
  fitted = all_fitted (columns_of h.cells) t (leaf l) h.leaf_text

  both_asked : Answers l.operator row (row_answer h.cells l) (row_answer h.cells (turn l))
  unfolding row_answer tested_sheet
  both_asked = go (layout l.head.column)
    where
      answer : Layout → Leaf → Res Bool
      answer lay y =
          by_layout lay (λ n. tested number_tests (read_number n) (predicate_in y) row) (tested bytes_tests (read_bytes l.head.column) (predicate_in y) row)

      go : (lay : Layout) → Answers l.operator row (answer lay l) (answer lay (turn l))
      go (number n) = both_tested number_tests (read_number n) l.operator l.content (number_of n l.content) refl row _ (number_row_lem n row)
      go (bytes n) =
          let cell = leaf_cell rows c v h.cells h.row_cells_lem l fitted in
          both_tested bytes_tests (read_bytes l.head.column) l.operator l.content l.content (passing NotUtf8 _ fitted.content_fits.held)
          row cell.read cell.read_is

  both_answered : Answers l.operator row (filter_row c t v) (filter_row c u v)
  unfolding filter_row
  both_answered =
      subst (λ b. Answers l.operator row (filter_row c t v) b) (sym (going _ h.row_cells_lem ∙ going _ h.not_text))
      (subst (λ a. Answers l.operator row a (row_answer h.cells (turn l))) (sym (going _ h.row_cells_lem ∙ going _ h.leaf_text)) both_asked)

  answered_by_lem : (r : Row (List ℕ)) → row ≡ r → Answers l.operator r (filter_row c t v) (filter_row c u v)
  answered_by_lem r e = subst (λ r. Answers l.operator r (filter_row c t v) (filter_row c u v)) e both_answered

present_meets_one : PresentMeetsOne
present_meets_one c t u v x h e = answered_by_lem c t u v h (present x) e

missing_meets_one : MissingMeetsOne
missing_meets_one c t u v h e unordered =
    let both = answered_by_lem c t u v h missing e in
    let o = h.found.operator in
    (missing_meets (one o), both.0, both.1 ∙ ap Ok (missing_opposite o unordered))

missing_meets_neither : MissingMeetsNeither
missing_meets_neither c t u v h e order =
    let both = answered_by_lem c t u v h missing e in
    let neither = missing_unordered h.found.operator order in
    (both.0 ∙ ap Ok neither.0, both.1 ∙ ap Ok neither.1)

pub not_of_leaf : NotOfLeaf
not_of_leaf = record { present_meets_one = present_meets_one; missing_meets_one = missing_meets_one; missing_meets_neither = missing_meets_neither }
