-- What the code of the holds-test answers on the way, as the definitions have it. Assumes nothing.
use Rattle.std.specs.Prelude.{ℕ, Bool, false, not, ◌||◌, List, [], ◌∷◌, map, ℤ, Ok}
use Rattle.values.specs.Outcomes.{Res, need, ◌>>=◌, ◌>>◌, Row, missing, present}
use Rattle.values.specs.Types.{Layout, number, layout, same_type}
use Rattle.values.specs.declared.datatypes.PrimitiveType.{PrimitiveType}
use Rattle.values.specs.declared.datatypes.PrimitiveType.TheVariants.{String}
use Rattle.values.specs.declared.error.ErrorKind.TheVariants.{NotUtf8}
use Rattle.expr.specs.Operators.{Operator, none, one, many, by_arity}
use Rattle.expr.specs.Holds.{Tests, number_tests, bytes_tests, missing_meets, unary_meets, binary_meets, set_meets}
use Rattle.expr.specs.declared.operator.PredicateOperator.{PredicateOperator}
use Rattle.sheet.specs.Records.{value}
use Rattle.sheet.specs.code.Contents.{all_utf8, row_utf8, number_in}
use Rattle.sheet.specs.Values.{by_layout, map_row}
use Rattle.sheet.specs.code.SheetAnswers.{contents_of, numbers_of}
use Rattle.sheet.specs.declared.literals.Literals.{Literals}

-- a value against an operator's kind and literals, which for the other kinds are passed over
abbrev pub present_held : {A : Type 0} → Tests A → Operator → List A → A → Bool
present_held by (none o) ls v = unary_meets o
present_held by (one o) [] v = false
present_held by (one o) (l ∷ ls) v = binary_meets by o v l
present_held by (many o) ls v = set_meets by o v ls

abbrev pub held : {A : Type 0} → Tests A → Operator → List A → Row A → Bool
held by a ls missing = missing_meets a
held by a ls (present v) = present_held by a ls v

-- ---- a row's value and the literals, as contents of records

abbrev pub numbers_held : Layout → Operator → List (List ℕ) → Row (List ℕ) → Bool
numbers_held l a ls r = held number_tests a (map (number_in l) ls) (map_row (number_in l) r)

-- of a String the literals are to be UTF-8, and the value
abbrev pub bytes_held : PrimitiveType → Operator → List (List ℕ) → Row (List ℕ) → Res Bool
bytes_held column a ls r = do
  need (not (same_type column String) || all_utf8 ls) NotUtf8
  need (not (same_type column String) || row_utf8 r) NotUtf8
  Ok (held bytes_tests a ls r)

-- the answer of the holds-test for a column, an operator's kind, literals and a value
unfoldable pub held_of : PrimitiveType → Operator → List (List ℕ) → Row (List ℕ) → Res Bool
held_of column a ls r = by_layout (layout column) (λ n. Ok (numbers_held (number n) a ls r)) (bytes_held column a ls r)

-- the same with the value as its record has it
abbrev pub value_held : PrimitiveType → Operator → List (List ℕ) → List ℕ → Res Bool
value_held column a ls v = value (layout column) v >>= held_of column a ls

-- ---- the same by an operator and the literals of a sheet, where they lie
module _ (operator : PredicateOperator) (x : Literals) where
  abbrev a : Operator
  a = by_arity operator

  -- of a present value
  abbrev pub number_meets : ℤ → Bool
  number_meets v = present_held number_tests a (numbers_of x) v

  abbrev pub bytes_meets : List ℕ → Bool
  bytes_meets v = present_held bytes_tests a (contents_of x) v

  -- of a row
  abbrev pub row_meets : Row (List ℕ) → Res Bool
  row_meets r = held_of x.column a (contents_of x) r

  -- of a value's record
  abbrev pub value_meets : List ℕ → Res Bool
  value_meets v = value_held x.column a (contents_of x) v
