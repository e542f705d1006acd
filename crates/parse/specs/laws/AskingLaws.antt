-- A leaf that was read, and the value at its place: what the code asks of them is what the definitions ask. Assumes nothing.
use Rattle.std.specs.Prelude.{ℕ, zero, suc, ◌<◌, Bool, true, false, cond, List, [], ◌∷◌, ◌≡◌, refl, ℤ, FitsSigned, length}
use Rattle.std.proofs.Common.{arith, sym, ap, subst, ◌∙◌}
use Rattle.std.proofs.lemmas.List.{length-map}
use Rattle.values.specs.Outcomes.{Res, Row}
use Rattle.values.specs.declared.datatypes.PrimitiveType.{PrimitiveType}
use Rattle.expr.specs.Operators.{Binary, one, by_arity, opposite_binary}
use Rattle.std.specs.Int.{w64}
use Rattle.values.specs.laws.RangeLaws.{in_type_long}
use Rattle.values.specs.laws.TestLaws.{clash}
use Rattle.expr.specs.code.OperatorAnswers.{negated, takes_one}
use Rattle.expr.specs.declared.operator.PredicateOperator.{PredicateOperator}
use Rattle.expr.specs.declared.operator.PredicateOperator.TheVariants as operator
use Rattle.sheet.specs.laws.RecordLaws.{FitsRow, value_read}
use Rattle.sheet.specs.Records.{record_at}
use Rattle.columns.specs.Cells.{Cell, type_of}
use Rattle.columns.specs.Columns.{Column}
use Rattle.columns.specs.code.ColumnAnswers.{column_at, cell_at, encoded}
use Rattle.columns.specs.laws.CellLaws.{cell_column}
use Rattle.leaves.specs.Fitting.{Leaf, decimal, text, fits, content_of}
use Rattle.leaves.specs.code.SymbolAnswers.{literal_of, IsLeaf}
use Rattle.leaves.specs.declared.leaf.Leaf as declared
use Rattle.ask.specs.LeafAnswers.{row_at}
use Rattle.ask.specs.code.Askings.{type_asked, number_answer, text_answer}
use Rattle.ask.specs.declared.asked.Asked.{Asked}
use Rattle.ask.specs.declared.asked.Asked.TheVariants as asked
use Rattle.ask.specs.laws.AskLaws.{row_number, part_number, row_text, part_text}
use Rattle.parse.specs.FilterText.{turn}
use Rattle.parse.specs.code.Asking.{side_for, ask_in}
use Rattle.parse.specs.code.FilterReads.{columns_of, cells_for, ask}
use Rattle.parse.specs.declared.request.Request.{Request}

pub row_cell : (cells : List Cell) (k : ℕ) → row_at cells k ≡ (cell_at cells k).row
row_cell [] k = refl
row_cell (c ∷ cells) zero = refl
row_cell (c ∷ cells) (suc k) = row_cell cells k

-- the type of a value, as it is asked
type_asked_lem : (a : Asked) (d : Column) → type_of (side_for a) d ≡ type_asked a d.head.column d.head.transform
type_asked_lem asked.Row d = refl
type_asked_lem (asked.Part question) d = refl

-- the operator as it is asked
abbrev pub asked_as : Bool → PredicateOperator → PredicateOperator
asked_as negate o = cond negate (negated o) o

one_inj : {a b : Binary} → one a ≡ one b → a ≡ b
one_inj e = cc

opposed : (o : PredicateOperator) (b : Binary) → by_arity o ≡ one b → by_arity (negated o) ≡ one (opposite_binary b)
opposed operator.IsNull b e = clash refl (ap takes_one (sym e))
opposed operator.NotNull b e = clash refl (ap takes_one (sym e))
opposed operator.IsNan b e = clash refl (ap takes_one (sym e))
opposed operator.NotNan b e = clash refl (ap takes_one (sym e))
opposed operator.LessThan b e = ap (λ z. one (opposite_binary z)) (one_inj e)
opposed operator.LessThanOrEq b e = ap (λ z. one (opposite_binary z)) (one_inj e)
opposed operator.GreaterThan b e = ap (λ z. one (opposite_binary z)) (one_inj e)
opposed operator.GreaterThanOrEq b e = ap (λ z. one (opposite_binary z)) (one_inj e)
opposed operator.Eq b e = ap (λ z. one (opposite_binary z)) (one_inj e)
opposed operator.NotEq b e = ap (λ z. one (opposite_binary z)) (one_inj e)
opposed operator.StartsWith b e = ap (λ z. one (opposite_binary z)) (one_inj e)
opposed operator.NotStartsWith b e = ap (λ z. one (opposite_binary z)) (one_inj e)
opposed operator.In b e = clash refl (ap takes_one (sym e))
opposed operator.NotIn b e = clash refl (ap takes_one (sym e))

pub turned_operator : (negate : Bool) (l : Leaf) (o : PredicateOperator) → by_arity o ≡ one l.operator
    → by_arity (asked_as negate o) ≡ one (cond negate (turn l) l).operator
turned_operator true l o e = opposed o l.operator e
turned_operator false l o e = e

-- what a leaf keeps when it is turned
module _ (negate : Bool) (l : Leaf) where
  same_place : (cond negate (turn l) l).place ≡ l.place
  same_place = go negate
    where
      go : (n : Bool) → (cond n (turn l) l).place ≡ l.place
      go true = refl
      go false = refl

  same_head : (cond negate (turn l) l).head ≡ l.head
  same_head = go negate
    where
      go : (n : Bool) → (cond n (turn l) l).head ≡ l.head
      go true = refl
      go false = refl

  same_content : (cond negate (turn l) l).content ≡ l.content
  same_content = go negate
    where
      go : (n : Bool) → (cond n (turn l) l).content ≡ l.content
      go true = refl
      go false = refl

-- ---- the value at a place
module _ (q : Request) (place : ℕ) where
  abbrev pub cell : Cell
  cell = cell_at (cells_for q) place

  pub has_cell : place < length (columns_of q) → place < length (cells_for q)
  has_cell inside = omega (arith, length-map (cells_for q) (λ y. y.column), ap length q.read.columns)

  abbrev asked_type : PrimitiveType
  asked_type = let h = (column_at (columns_of q) place).head in type_asked q.asked h.column h.transform

  type_is : type_of (side_for q.asked) cell.column ≡ asked_type
  type_is = rw (cell_column q.read place) (type_asked_lem q.asked (column_at (columns_of q) place))

  pub value_fits : place < length (columns_of q) → FitsRow asked_type cell.row
  value_fits inside =
      let read = (q.read.all place (has_cell inside)).is in
      rw (← type_is) (value_read (type_of (side_for q.asked) cell.column) (record_at q.values.now place) cell.row read).fit

  value_encoded : place < length (columns_of q) → encoded asked_type cell.row ≡ true
  value_encoded inside = rw (← type_is) (q.read.all place (has_cell inside)).utf8

-- ---- a leaf, turned or not
module _ (q : Request) (negate : Bool) (x : declared.Leaf) (l : Leaf) (is : IsLeaf (columns_of q) q.text.now x l) where
  abbrev leaf : Leaf
  leaf = cond negate (turn l) l

  abbrev row : Row (List ℕ)
  row = (cell q x.place).row

  at_place : row_at (cells_for q) leaf.place ≡ row
  at_place = rw (same_place negate l, is.place) (row_cell (cells_for q) x.place)

  fitted : fits leaf.head.column (literal_of q.text.now x.literal) ≡ true
  fitted = rw (same_head negate l) is.fitted

  written : leaf.content ≡ content_of leaf.head.column (literal_of q.text.now x.literal)
  written = rw (same_content negate l, same_head negate l) is.content

  -- where a row is asked
  row_column : q.asked ≡ asked.Row → asked_type q x.place ≡ leaf.head.column
  row_column e =
      let h = (column_at (columns_of q) x.place).head in
      ap (λ a. type_asked a h.column h.transform) e ∙ sym (ap (λ g. g.column) (same_head negate l ∙ is.head))

  row_fits : q.asked ≡ asked.Row → FitsRow leaf.head.column row
  row_fits e = subst (λ t. FitsRow t row) (row_column e) (value_fits q x.place is.placed)

  row_encoded : q.asked ≡ asked.Row → encoded leaf.head.column row ≡ true
  row_encoded e = subst (λ t. encoded t row ≡ true) (row_column e) (value_encoded q x.place is.placed)

  module _ (z : ℤ) (number : literal_of q.text.now x.literal ≡ decimal z) where
    abbrev number_asked : Asked → Res Bool
    number_asked a = number_answer a l.head.column l.head.transform (by_arity (asked_as negate x.operator)) z row

    turned_number : (a : Asked) → number_answer a leaf.head.column leaf.head.transform (one leaf.operator) z row ≡ number_asked a
    turned_number a = rw (turned_operator negate l x.operator is.operator, same_head negate l)

    -- it is one of 64 bits
    pub held : FitsSigned w64 z
    held = in_type_long l.head.column z (rw number at is.fitted)

    pub asks_number : ask q leaf ≡ number_asked q.asked
    asks_number = go q.asked refl
      where
        go : (a : Asked) → q.asked ≡ a → ask_in a (cells_for q) leaf ≡ number_asked a
        go asked.Row e =
            row_number (cells_for q) leaf row at_place z (rw number at fitted) (rw number at written) (row_fits e) ∙ turned_number asked.Row
        go (asked.Part question) e =
            part_number (cells_for q) leaf row at_place z (rw number at fitted) (rw number at written) question ∙ turned_number (asked.Part question)

  module _ (s : List ℕ) (is_text : literal_of q.text.now x.literal ≡ text s) where
    abbrev text_asked : Asked → Res Bool
    text_asked a = text_answer a l.head.column l.head.transform (by_arity (asked_as negate x.operator)) s row

    turned_text : (a : Asked) → text_answer a leaf.head.column leaf.head.transform (one leaf.operator) s row ≡ text_asked a
    turned_text a = rw (turned_operator negate l x.operator is.operator, same_head negate l)

    pub asks_text : ask q leaf ≡ text_asked q.asked
    asks_text = go q.asked refl
      where
        go : (a : Asked) → q.asked ≡ a → ask_in a (cells_for q) leaf ≡ text_asked a
        go asked.Row e =
            row_text (cells_for q) leaf row at_place s (rw is_text at fitted) (rw is_text at written) (row_encoded e) ∙ turned_text asked.Row
        go (asked.Part question) e =
            part_text (cells_for q) leaf row at_place s (rw is_text at fitted) (rw is_text at written) question ∙ turned_text (asked.Part question)
