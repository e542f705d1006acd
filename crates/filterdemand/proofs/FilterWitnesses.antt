-- What is shown of filters is about something: for each clause a column list, a text, a row and its partition values that meet what the clause asks; for those on
-- losing and letting in, also a row of missing values; and so for what is said of a leaf and `not` before it. Assumes nothing.
use Rattle.std.specs.Prelude.{Ok, Err}
use Prim.Native.Nat.{ℕ, ◌-◌}
use mathlib.Core.Bool.{true, false}
use mathlib.Core.List.Memᴰ.{cases_cons}
use mathlib.Core.List.Memᴰ.{not-nil}
use mathlib.Core.List.{List, [], ◌∷◌, ◌++◌, map, Memᴰ as Isin}
use mathlib.Core.Logic.{⊎_elim}
use mathlib.Core.Path.{◌≡◌, refl, sym, subst, ◌∙◌}
use lib.IntN.{ℤ, pos}
use lib.ListN.{length, replicate}
use Rattle.values.specs.code.Places.{AllOf}
use Rattle.values.specs.Characters.{ascii}
use Rattle.values.specs.Order.{compare_numbers, compare_bytes, starts_with}
use Rattle.values.specs.Outcomes.{◌>>=◌, Row, missing, present}
use Rattle.values.specs.laws.OutcomeLaws.{ok_inj, going}
use Rattle.values.specs.Transforms.{transform_of}
use Rattle.values.specs.Types.{in_type}
use Rattle.values.specs.Utf8.{is_code_point, code_points, utf8}
use Rattle.values.specs.Words.{le_bytes, signed_bytes}
use Rattle.values.specs.declared.datatypes.PrimitiveType.TheVariants.{Int, String}
use Rattle.values.specs.declared.error.ErrorKind.TheVariants.{Overflow}
use Rattle.values.specs.declared.transform.Transform.TheVariants.{Truncate}
use Rattle.transform.specs.Floor.{floor_mod}
use Rattle.transform.specs.Truncate.{truncated, first_code_points}
use Rattle.partition.specs.Partition.{transform_number, transform_bytes, partition, number_partition, bytes_partition}
use Rattle.partition.specs.ResultType.{result_type}
use Rattle.expr.specs.Operators.{less_than, eq, ordered}
use Rattle.projection.specs.Projection.{project_numbers, project_bytes}
use Rattle.projection.specs.declared.question.Question.TheVariants.{Inclusive, Strict}
use Rattle.sheet.specs.Records.{record_size, record_at, content, value}
use Rattle.sheet.specs.Sheets.{head_size, Head, head, fields}
use Rattle.write.specs.Written.{value_record}
use Rattle.meets.specs.Tested.{tested_sheet}
use Rattle.answers.specs.Answers.{transformed_row}
use Rattle.api.specs.Demand3.{RowOf}
use Rattle.api.specs.Requests.{value_of}
use Rattle.api.specs.Routines.{transform_value}
use Rattle.columns.specs.Cells.{rows, parts, Cell, cells_of}
use Rattle.columns.specs.Columns.{Column, name_size, column, columns}
use Rattle.grammar.specs.Filters.{leaf, opposite}
use Rattle.grammar.specs.Parser.{single, conjunction, disjunction}
use Rattle.leaves.specs.Fitting.{Leaf}
use Rattle.leaves.specs.Symbols.{symbols}
use Rattle.ask.specs.LeafAnswers.{row_at, row_answer, part_answer}
use Rattle.filter.specs.FilterDemand.{head_at, places_in, Rows}
use Rattle.parse.specs.FilterText.{filter_in}
use Rattle.filter.specs.FilterRoutines.{filter_row, filter_parts}
use Rattle.filter.specs.NotOfLeaf.{LeafAndNot}

-- ---- an Int column a under Truncate 10 and a String column s under Truncate 2, the row 5 and abc, and its partition values 0 and ab
abbrev pub entry : List ℕ → ℕ → ℕ → ℕ → List ℕ
entry name type transform width =
    name ++ replicate (name_size - length name) 0
    ++ le_bytes 4 0 ++ le_bytes 1 type ++ le_bytes 1 transform ++ le_bytes 2 0 ++ le_bytes 4 width ++ replicate (record_size - head_size) 0

abbrev pub list : List ℕ
list = entry (ascii "a") 1 1 10 ++ entry (ascii "s") 9 1 2

abbrev pub int : ℤ → List ℕ
int z = signed_bytes 4 z

abbrev pub row : List ℕ
row = value_of (int (pos 5)) ++ value_of (ascii "abc")

abbrev pub part : List ℕ
part = value_of (int (pos 0)) ++ value_of (ascii "ab")

abbrev pub head_of_a : Head
head_of_a = record { column = Int; transform = Truncate 10 }

abbrev head_of_s : Head
head_of_s = record { column = String; transform = Truncate 2 }

abbrev cells_with : Row (List ℕ) → Row (List ℕ) → List Cell
cells_with a s = record { column = record { name = ascii "a"; head = head_of_a }; row = a } ∷ record { column = record { name = ascii "s"; head = head_of_s }; row = s } ∷ []

abbrev pub row_cells : List Cell
row_cells = cells_with (present (int (pos 5))) (present (ascii "abc"))

abbrev pub part_cells : List Cell
part_cells = cells_with (present (int (pos 0))) (present (ascii "ab"))

pub row_cells_lem : cells_of rows list row ≡ Ok row_cells
unfolding cells_of columns column fields head transform_of value content compare_bytes utf8 code_points is_code_point
row_cells_lem = refl

pub part_cells_lem : cells_of parts list part ≡ Ok part_cells
unfolding cells_of columns column fields head transform_of value content compare_bytes utf8 code_points is_code_point result_type
part_cells_lem = refl

abbrev IsRow : List ℕ → List ℕ → ℕ → Type 0
IsRow v p k = RowOf (head_at list k) (record_at p k) (record_at v k)

is_row : IsRow row part 0 × IsRow row part 1
unfolding transform_value head transform_of value content transformed_row result_type number_partition bytes_partition partition transform_number transform_bytes in_type
    truncated floor_mod first_code_points code_points utf8 is_code_point
is_row = (refl, refl)

-- a text that names columns 0 and 1, as often as it likes
pub isin_all : (g : ℕ → Type 0) (ks : List ℕ) → AllOf g ks → (k : ℕ) → Isin k ks → g k
isin_all g [] h k m = absurd (not-nil m)
isin_all g (i ∷ ks) h k m = ⊎_elim (λ e. subst g (sym e) h.0) (λ n. isin_all g ks h.1 k n) (cases_cons m)

module _ (v p : List ℕ) (cells others : List Cell) (a : cells_of rows list v ≡ Ok cells) (b : cells_of parts list p ≡ Ok others) where
  rows_of : (t ks : List ℕ) → (filter_in (map (λ x. x.column) cells) t >>= λ f. Ok (places_in f)) ≡ Ok ks → AllOf (IsRow v p) ks → Rows list t v p
  rows_of t ks e h = record {
    cells = cells;
    row_cells_lem = a;
    others = others;
    part_cells_lem = b;
    named = λ f d k m. isin_all (IsRow v p) ks h k (subst (Isin k) (ok_inj (sym (going _ d) ∙ e)) m);
  }

-- ---- and, or, not and brackets: the row meets it, and its partition values meet it strictly
abbrev text : List ℕ
text = ascii "not (a >= 300 or s startswith 'x') and s >= 'aa' or a = 7"

text_rows : Rows list text row part
unfolding filter_in symbols disjunction conjunction single in_type compare_bytes utf8 code_points is_code_point
text_rows = rows_of row part row_cells part_cells row_cells_lem part_cells_lem text (0 ∷ 1 ∷ 1 ∷ 0 ∷ []) refl (is_row.0, (is_row.1, (is_row.1, (is_row.0, tt))))

row_yes : filter_row list text row ≡ Ok true
unfolding filter_row cells_of columns column fields head transform_of value content compare_bytes utf8 code_points is_code_point
    filter_in symbols disjunction conjunction single in_type row_answer tested_sheet compare_numbers starts_with
row_yes = refl

strict_yes : filter_parts Strict list text part ≡ Ok true
unfolding filter_parts cells_of columns column fields head transform_of value content compare_bytes utf8 code_points is_code_point result_type
    filter_in symbols disjunction conjunction single in_type part_answer project_numbers project_bytes transform_number transform_bytes
    truncated floor_mod first_code_points compare_numbers starts_with
strict_yes = refl

pub loses_no_row_asks : (c t v p : List ℕ) × Rows c t v p × (filter_row c t v ≡ Ok true)
loses_no_row_asks = (list, text, row, part, text_rows, row_yes)

pub strict_is_safe_asks : (c t v p : List ℕ) × Rows c t v p × (filter_parts Strict c t p ≡ Ok true)
strict_is_safe_asks = (list, text, row, part, text_rows, strict_yes)

-- ---- a row that meets a filter, which is refused with 8: below the lowest Int but one lies the lowest, whose partition value is no Int
abbrev lowest : List ℕ
lowest = ascii "a < -2147483647 or s startswith 'ab'"

lowest_rows : Rows list lowest row part
unfolding filter_in symbols disjunction conjunction single in_type compare_bytes utf8 code_points is_code_point
lowest_rows = rows_of row part row_cells part_cells row_cells_lem part_cells_lem lowest (0 ∷ 1 ∷ []) refl (is_row.0, (is_row.1, tt))

lowest_yes : filter_row list lowest row ≡ Ok true
unfolding filter_row cells_of columns column fields head transform_of value content compare_bytes utf8 code_points is_code_point
    filter_in symbols disjunction conjunction single in_type row_answer tested_sheet compare_numbers starts_with
lowest_yes = refl

lowest_refused : filter_parts Inclusive list lowest part ≡ Err Overflow
unfolding filter_parts cells_of columns column fields head transform_of value content compare_bytes utf8 code_points is_code_point result_type
    filter_in symbols disjunction conjunction single in_type part_answer project_numbers project_bytes transform_number transform_bytes
    truncated floor_mod first_code_points compare_numbers starts_with
lowest_refused = refl

pub refusal_asks : (c t v p : List ℕ) × Rows c t v p × (filter_row c t v ≡ Ok true) × (filter_parts Inclusive c t p ≡ Err Overflow)
refusal_asks = (list, lowest, row, part, lowest_rows, lowest_yes, lowest_refused)

-- ---- a row of missing values, whose partition values are missing: it meets a filter, and they meet it strictly
abbrev blank : List ℕ
blank = value_record missing ++ value_record missing

abbrev blank_cells : List Cell
blank_cells = cells_with missing missing

blank_cells_lem : (cells_of rows list blank ≡ Ok blank_cells) × (cells_of parts list blank ≡ Ok blank_cells)
unfolding cells_of columns column fields head transform_of value compare_bytes result_type
blank_cells_lem = (refl, refl)

blank_is_row : IsRow blank blank 0 × IsRow blank blank 1
unfolding transform_value head transform_of value transformed_row result_type number_partition bytes_partition partition
blank_is_row = (refl, refl)

abbrev others : List ℕ
others = ascii "s != 'ab' and not a = 7 and not s startswith 'b'"

others_rows : Rows list others blank blank
unfolding filter_in symbols disjunction conjunction single in_type compare_bytes utf8 code_points is_code_point
others_rows =
    rows_of blank blank blank_cells blank_cells blank_cells_lem.0 blank_cells_lem.1 others (1 ∷ 0 ∷ 1 ∷ []) refl
    (blank_is_row.1, (blank_is_row.0, (blank_is_row.1, tt)))

others_row_yes : filter_row list others blank ≡ Ok true
unfolding filter_row cells_of columns column fields head transform_of value compare_bytes utf8 code_points is_code_point
    filter_in symbols disjunction conjunction single in_type row_answer tested_sheet
others_row_yes = refl

others_strict_yes : filter_parts Strict list others blank ≡ Ok true
unfolding filter_parts cells_of columns column fields head transform_of value compare_bytes utf8 code_points is_code_point result_type
    filter_in symbols disjunction conjunction single in_type part_answer project_numbers project_bytes transform_number transform_bytes truncated floor_mod first_code_points
others_strict_yes = refl

pub missing_loses_no_row_asks : (c t v p : List ℕ) × (v ≡ blank) × Rows c t v p × (filter_row c t v ≡ Ok true)
missing_loses_no_row_asks = (list, others, blank, blank, refl, others_rows, others_row_yes)

pub missing_strict_is_safe_asks : (c t v p : List ℕ) × (v ≡ blank) × Rows c t v p × (filter_parts Strict c t p ≡ Ok true)
missing_strict_is_safe_asks = (list, others, blank, blank, refl, others_rows, others_strict_yes)

-- ---- a leaf and `not` before it: `s = 'ab12'` and `a < 5`, of that row and of the one with values
abbrev declared : List Column
declared = map (λ x. x.column) blank_cells

abbrev is_ab12 : Leaf
is_ab12 = record { place = 1; head = head_of_s; operator = eq; content = ascii "ab12" }

abbrev below5 : Leaf
below5 = record { place = 0; head = head_of_a; operator = less_than; content = int (pos 5) }

ab12_texts : (filter_in declared (ascii "s = 'ab12'") ≡ Ok (leaf is_ab12)) × (filter_in declared (ascii "not s = 'ab12'") ≡ Ok (opposite (leaf is_ab12)))
unfolding filter_in symbols disjunction conjunction single in_type compare_bytes utf8 code_points is_code_point
ab12_texts = (refl, refl)

below5_texts : (filter_in declared (ascii "a < 5") ≡ Ok (leaf below5)) × (filter_in declared (ascii "not a < 5") ≡ Ok (opposite (leaf below5)))
unfolding filter_in symbols disjunction conjunction single in_type compare_bytes
below5_texts = (refl, refl)

abbrev asked_of : (t u v : List ℕ) (cells : List Cell) (l : Leaf) → cells_of rows list v ≡ Ok cells
    → (filter_in (map (λ x. x.column) cells) t ≡ Ok (leaf l)) × (filter_in (map (λ x. x.column) cells) u ≡ Ok (opposite (leaf l))) → LeafAndNot list t u v
asked_of t u v cells l a texts = record { cells = cells; row_cells_lem = a; found = l; leaf_text = texts.0; not_text = texts.1 }

pub present_meets_one_asks : (c t u v x : List ℕ) × (h : LeafAndNot c t u v) × (row_at h.cells h.found.place ≡ present x)
present_meets_one_asks =
    let t = ascii "a < 5" in
    let u = ascii "not a < 5" in
    (list, t, u, row, int (pos 5), asked_of t u row row_cells below5 row_cells_lem below5_texts, refl)

pub missing_meets_one_asks : (c t u v : List ℕ) × (h : LeafAndNot c t u v) × (row_at h.cells h.found.place ≡ missing) × (ordered h.found.operator ≡ false)
missing_meets_one_asks =
    let t = ascii "s = 'ab12'" in
    let u = ascii "not s = 'ab12'" in
    (list, t, u, blank, asked_of t u blank blank_cells is_ab12 blank_cells_lem.0 ab12_texts, refl, refl)

pub missing_meets_neither_asks : (c t u v : List ℕ) × (h : LeafAndNot c t u v) × (row_at h.cells h.found.place ≡ missing) × (ordered h.found.operator ≡ true)
missing_meets_neither_asks =
    let t = ascii "a < 5" in
    let u = ascii "not a < 5" in
    (list, t, u, blank, asked_of t u blank blank_cells below5 blank_cells_lem.0 below5_texts, refl, refl)
