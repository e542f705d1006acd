-- A leaf of a filter, looked up in the column list and fitted to its column. Assumes nothing.
use Rattle.std.specs.Prelude.{ℕ, zero, suc, Bool, false, cond, not, ◌&&◌, ◌||◌, List, [], ◌∷◌, nat_le, ℤ, length}
use Rattle.std.proofs.Math.Option.{Option, some, none}
use Rattle.values.specs.Order.{compare_bytes, is_equal}
use Rattle.values.specs.Types.{Layout, number, bytes, layout, in_type, same_type}
use Rattle.values.specs.Utf8.{utf8}
use Rattle.values.specs.declared.datatypes.PrimitiveType.{PrimitiveType}
use Rattle.values.specs.declared.datatypes.PrimitiveType.TheVariants.{String}
use Rattle.expr.specs.Operators.{Binary}
use Rattle.sheet.specs.Sheets.{Head}
use Rattle.write.specs.Written.{number_bytes}
use Rattle.columns.specs.Columns.{Column}

-- 02: "a literal: a decimal .. or text"
pub data Literal : Type 0 where
  decimal : ℤ → Literal
  text : List ℕ → Literal

-- a column's place in the list and its head, an operator, and a literal as the content of a record, which is how a sheet has it
pub record Leaf : Type 0 where
  pub place : ℕ
  pub head : Head
  pub operator : Binary
  pub content : List ℕ

-- a byte string is at most so long
abbrev pub fits_length : Layout → ℕ → Bool
fits_length (number n) k = false
fits_length (bytes n) k = nat_le k n

-- 02: "A number goes with types 1 to 8, text with 9 and 10; a literal that doesn't fit its column, as text that isn't UTF-8 in a String, is 9"
abbrev pub fits : PrimitiveType → Literal → Bool
fits column (decimal z) = in_type column z
fits column (text s) = fits_length (layout column) (length s) && (not (same_type column String) || utf8 s)

abbrev pub content_of : PrimitiveType → Literal → List ℕ
content_of column (decimal z) = number_bytes (layout column) z
content_of column (text s) = s

-- the leaf of a name, an operator and a literal, where the columns from place k on have the name; 9: "an undeclared name"
abbrev pub leaf_from : ℕ → List Column → List ℕ → Binary → Literal → Option Leaf
leaf_from k [] name o l = none
leaf_from k (c ∷ cs) name o l =
    let column = c.head.column in
    let leaf : Leaf = record { place = k; head = c.head; operator = o; content = content_of column l } in
    cond (is_equal (compare_bytes name c.name)) (cond (fits column l) (some leaf) none) (leaf_from (suc k) cs name o l)

abbrev pub leaf_of : List Column → List ℕ → Binary → Literal → Option Leaf
leaf_of cs name o l = leaf_from zero cs name o l
