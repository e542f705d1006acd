-- A filter gives a row only the numbers that document 02 names, and no filter gives 2. Assumes nothing.
use Rattle.std.specs.Prelude.{ℕ, suc, ◌*◌, Bool, true, false, not, ◌&&◌, ◌||◌, List, [], ◌∷◌, map, ◌⊎◌, ◌≡◌, refl, leb, eqb, Ok, Err}
use Rattle.std.proofs.Common.{arith, inl, inr, ap}
use Rattle.std.proofs.Math.ListN.{length}
use Rattle.values.specs.Outcomes.{Res, error_number, each}
use Rattle.values.specs.Types.{layout, same_type}
use Rattle.values.specs.laws.ErrorLaws.{error_range}
use Rattle.values.specs.declared.datatypes.PrimitiveType.TheVariants.{String}
use Rattle.values.specs.declared.error.ErrorKind.{ErrorKind}
use Rattle.values.specs.declared.error.ErrorKind.TheVariants.{Malformed, NotUtf8, OutsideGrammar, TooLarge}
use Rattle.projection.specs.declared.question.Question.{Question}
use Rattle.sheet.specs.Records.{record_size, record_at, value}
use Rattle.sheet.specs.code.Contents.{row_utf8}
use Rattle.sheet.specs.laws.ReadLaws.{bytes_row}
use Rattle.sheet.specs.laws.RefusalLaws.{Only, only_ok, only_err, only_bind, only_need, only_wider, only_each, malformed, value_only}
use Rattle.meets.specs.Tested.{held_number}
use Rattle.meets.specs.laws.TestedLaws.{Refusal, tested_only}
use Rattle.columns.specs.Columns.{Column, columns}
use Rattle.columns.specs.Cells.{Side, rows, type_of, Cell, cells_from, read_cell, cells_of}
use Rattle.columns.specs.laws.ColumnLaws.{columns_only}
use Rattle.grammar.specs.Filters.{leaves, depth, Turned, one, any, all, straight, joined, answered}
use Rattle.grammar.specs.Parser.{Found, found, nothing, disjunction}
use Rattle.leaves.specs.Fitting.{Leaf}
use Rattle.leaves.specs.Symbols.{symbols}
use Rattle.ask.specs.LeafAnswers.{row_at, sheet_of, row_answer}
use Rattle.parse.specs.FilterText.{text_limit, leaf_limit, bracket_limit, whole, filter_in, turn}
use Rattle.filter.specs.FilterRoutines.{filter_row, filter_parts}

-- ---- what list, values and text are refused with, and so a row's filter
abbrev pub ReadRefusal : ErrorKind → Type 0
ReadRefusal e = let n = error_number e in (n ≡ 3) ⊎ ((n ≡ 4) ⊎ ((n ≡ 9) ⊎ (n ≡ 10)))

three : ReadRefusal Malformed
three = inl refl

four : ReadRefusal NotUtf8
four = inr (inl refl)

nine : ReadRefusal OutsideGrammar
nine = inr (inr (inl refl))

ten : ReadRefusal TooLarge
ten = inr (inr (inr refl))

-- ---- 3 and 4: the list and the values
list_only : (c : List ℕ) → Only ReadRefusal (columns c)
list_only c = malformed three (columns_only c)

module _ (side : Side) where
  values_only : (v : List ℕ) (k : ℕ) (cs : List Column) → Only ReadRefusal (cells_from side v k cs)
  values_only v k [] = only_ok
  values_only v k (c ∷ cs) =
      let l = layout (type_of side c) in
      only_bind (value l (record_at v k)) _ (malformed three (value_only l (record_at v k))) (λ r.
      only_bind (cells_from side v (suc k) cs) _ (values_only v (suc k) cs) (λ cells. only_ok))

  cell_only : (x : Cell) → Only ReadRefusal (read_cell side x)
  cell_only x =
      let type = type_of side x.column in
      rw (bytes_row type x.row) (only_need (not (same_type type String) || row_utf8 x.row) NotUtf8 _ four only_ok)

  pub cells_only : (c v : List ℕ) → Only ReadRefusal (cells_of side c v)
  unfolding cells_of
  cells_only c v =
      only_bind (columns c) _ (list_only c) (λ cs.
      only_need (eqb (length v) (record_size * length cs)) Malformed _ three (
      only_bind (cells_from side v 0 cs) _ (values_only v 0 cs) (λ cells.
      only_bind (each (read_cell side) cells) _ (only_each (read_cell side) cell_only cells) (λ read. only_ok))))

-- ---- 9 and 10: the text
whole_only : (r : Found Leaf) → Only ReadRefusal (whole r)
whole_only (found f []) = only_ok
whole_only (found f (y ∷ ys)) = only_err nine
whole_only nothing = only_err nine

pub text_only : (cs : List Column) (t : List ℕ) → Only ReadRefusal (filter_in cs t)
unfolding filter_in
text_only cs t =
    let read = disjunction (suc (length (symbols cs t))) (symbols cs t) in
    only_need (leb (length t) text_limit) TooLarge _ ten (
    only_bind (whole read) _ (whole_only read) (λ f.
    only_need (leb (leaves f) leaf_limit) TooLarge _ ten (only_need (leb (depth f) bracket_limit) TooLarge _ ten only_ok)))

-- ---- the leaves: the holds-test gives 3 and 4 only
leaf_only : (cells : List Cell) (l : Leaf) → Only ReadRefusal (row_answer cells l)
unfolding row_answer
leaf_only cells l = only_wider among (tested_only (sheet_of l) (row_at cells l.place))
  where
    among : (e : ErrorKind) → Refusal e → ReadRefusal e
    among e (inl is) = inl (ap error_number is)
    among e (inr is) = inr (inl (ap error_number is))

pub joined_only : {p : ErrorKind → Type 0} (join : Bool → Bool → Bool) (a b : Res Bool) → Only p a → Only p b → Only p (joined join a b)
joined_only join a b h k = only_bind a _ h (λ x. only_bind b _ k (λ y. only_ok))

answer_only : (ask : Leaf → Res Bool) → ((l : Leaf) → Only ReadRefusal (ask l)) → (f : Turned Leaf) → Only ReadRefusal (answered ask f)
answer_only ask h (one l) = h l
answer_only ask h (any f g) = joined_only ◌||◌ (answered ask f) (answered ask g) (answer_only ask h f) (answer_only ask h g)
answer_only ask h (all f g) = joined_only ◌&&◌ (answered ask f) (answered ask g) (answer_only ask h f) (answer_only ask h g)

row_only : (c t v : List ℕ) → Only ReadRefusal (filter_row c t v)
unfolding filter_row
row_only c t v =
    only_bind (cells_of rows c v) _ (cells_only rows c v) (λ cells.
    let cs = map (λ (x : Cell). x.column) cells in
    only_bind (filter_in cs t) _ (text_only cs t) (λ f. answer_only (row_answer cells) (leaf_only cells) (straight turn f)))

-- a row's filter gives 0, 1, 3, 4, 9 and 10 only
pub row_answers : (c t v : List ℕ)
    → let n = held_number (filter_row c t v) in (n ≡ 0) ⊎ ((n ≡ 1) ⊎ ((n ≡ 3) ⊎ ((n ≡ 4) ⊎ ((n ≡ 9) ⊎ (n ≡ 10)))))
row_answers c t v = go (filter_row c t v) (row_only c t v)
  where
    go : (r : Res Bool) → Only ReadRefusal r
        → let n = held_number r in (n ≡ 0) ⊎ ((n ≡ 1) ⊎ ((n ≡ 3) ⊎ ((n ≡ 4) ⊎ ((n ≡ 9) ⊎ (n ≡ 10)))))
    go (Ok true) h = inl refl
    go (Ok false) h = inr (inl refl)
    go (Err e) h = inr (inr (h.only e refl))

-- 2 is the buffer's, and filters have none
pub no_buffer : (question : Question) (c t v : List ℕ) → (held_number (filter_parts question c t v) ≡ 2) → ⊥
no_buffer question c t v = go (filter_parts question c t v)
  where
    go : (r : Res Bool) → held_number r ≡ 2 → ⊥
    go (Ok true) e = omega arith
    go (Ok false) e = omega arith
    go (Err k) e = omega (arith, error_range k)
