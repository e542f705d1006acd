-- The filter in a text t, by the columns that are declared: what it may hold, and the order of 10, 9 and 10. Assumes nothing.
use Rattle.std.specs.Prelude.{ℕ, suc, ◌≤◌, List, [], ◌∷◌, ◌↔◌, ◌≡◌, refl, nat_le, length, Ok, Err}
use Rattle.values.specs.Characters.{ascii}
use Rattle.values.specs.Order.{compare_bytes}
use Rattle.values.specs.Outcomes.{Res, need, ◌>>=◌, ◌>>◌}
use Rattle.values.specs.Types.{in_type}
use Rattle.values.specs.Utf8.{is_code_point, code_points, utf8}
use Rattle.values.specs.Words.{le_bytes}
use Rattle.values.specs.declared.datatypes.PrimitiveType.TheVariants.{Int, String}
use Rattle.values.specs.declared.error.ErrorKind.TheVariants.{OutsideGrammar, TooLarge}
use Rattle.values.specs.declared.transform.Transform.TheVariants.{Truncate}
use Rattle.expr.specs.Operators.{Binary, less_than, eq, starts_with, opposite_binary}
use Rattle.sheet.specs.Sheets.{Head}
use Rattle.columns.specs.Columns.{Column}
use Rattle.grammar.specs.Filters.{Filter, leaf, either, both, opposite, bracket, leaves, depth}
use Rattle.grammar.specs.Grammar.{Symbol, Derives}
use Rattle.grammar.specs.Parser.{Found, found, nothing, single, conjunction, disjunction}
use Rattle.leaves.specs.Fitting.{Leaf}
use Rattle.leaves.specs.Symbols.{symbols}
use Rattle.leaves.specs.TextIs.{TextIs}

-- 02: "10 over 4,096 bytes, 32 leaves or 16 open brackets"
abbrev pub text_limit : ℕ
text_limit = 4096

abbrev pub leaf_limit : ℕ
leaf_limit = 32

abbrev pub bracket_limit : ℕ
bracket_limit = 16

-- 02: "9 a text outside this grammar or an undeclared name"
abbrev pub whole : Found Leaf → Res (Filter Leaf)
whole (found f []) = Ok f
whole (found f (y ∷ ys)) = Err OutsideGrammar
whole nothing = Err OutsideGrammar

-- 02: "10 for bytes comes before 9, 9 before the other two"
unfoldable pub filter_in : List Column → List ℕ → Res (Filter Leaf)
filter_in cs t = do
  need (nat_le (length t) text_limit) TooLarge
  f ← whole (disjunction (suc (length (symbols cs t))) (symbols cs t))
  need (nat_le (leaves f) leaf_limit) TooLarge
  need (nat_le (depth f) bracket_limit) TooLarge
  Ok f

-- what it is: the filter that the grammar derives from the symbols that the text is, within the limits (`FilterMeansLaws.filter_means`)
abbrev pub FilterMeans : Type 0
FilterMeans = (cs : List Column) (t : List ℕ) (f : Filter Leaf) → (filter_in cs t ≡ Ok f)
    ↔ ((length t ≤ text_limit) × ((ys : List (Symbol Leaf)) × TextIs cs t ys × Derives ys f) × (leaves f ≤ leaf_limit) × (depth f ≤ bracket_limit))

-- 02's example, of a String column and an Int column
abbrev lot_head : Head
lot_head = record { column = String; transform = Truncate 4 }

abbrev grams_head : Head
grams_head = record { column = Int; transform = Truncate 10 }

abbrev grams_leaf : Binary → ℕ → Leaf
grams_leaf o n = record { place = 1; head = grams_head; operator = o; content = le_bytes 4 n }

the_example : filter_in (record { name = ascii "lot"; head = lot_head } ∷ record { name = ascii "grams"; head = grams_head } ∷ [])
    (ascii "lot startswith 'ab' and not (grams < 300 or grams = 500)")
    ≡ Ok (both
    (leaf (record { place = 0; head = lot_head; operator = starts_with; content = ascii "ab" }))
    (opposite (bracket (either (leaf (grams_leaf less_than 300)) (leaf (grams_leaf eq 500))))))
unfolding filter_in symbols disjunction conjunction single in_type compare_bytes utf8 code_points is_code_point
the_example = refl

-- 02: "turning each leaf to its opposite operator"
abbrev pub turn : Leaf → Leaf
turn l = record { place = l.place; head = l.head; operator = opposite_binary l.operator; content = l.content }
