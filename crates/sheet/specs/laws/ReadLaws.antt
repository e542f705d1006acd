-- What reading a leaf's literals and a row's value comes to: numbers are always read, and of a String all must be UTF-8. Assumes nothing.
use Rattle.std.specs.Prelude.{ℕ, zero, suc, Bool, true, false, not, ◌&&◌, ◌||◌, List, [], ◌∷◌, map, ◌≡◌, refl, length, take, Ok}
use Rattle.std.proofs.Common.{arith, sym, ap, ap₂, ◌∙◌, length-take-le, eqb-true}
use Rattle.std.proofs.Math.Bool.{or-true, and-true}
use Rattle.std.proofs.lemmas.List.{length-map}
use Rattle.values.specs.Outcomes.{Res, need, each, ◌>>=◌, ◌>>◌, Row, missing, present}
use Rattle.values.specs.Types.{Layout, number, bytes, layout, same_type}
use Rattle.values.specs.Utf8.{utf8}
use Rattle.values.specs.Words.{le_number, signed}
use Rattle.values.specs.declared.datatypes.PrimitiveType.{PrimitiveType}
use Rattle.values.specs.declared.datatypes.PrimitiveType.TheVariants.{String}
use Rattle.values.specs.declared.error.ErrorKind.{ErrorKind}
use Rattle.values.specs.declared.error.ErrorKind.TheVariants.{NotUtf8}
use Rattle.expr.specs.Operators.{Operator, none, one, many, by_arity}
use Rattle.expr.specs.code.OperatorAnswers.{takes, leaf_of}
use Rattle.expr.specs.laws.PredicateLaws.{leaf_literals}
use Rattle.expr.specs.Predicates.{Predicate, unary, test, binary, set, operator_in, literals_in}
use Rattle.sheet.specs.Values.{read_number, read_bytes, each_literal, read_row, map_row, map_literals}
use Rattle.sheet.specs.code.Contents.{all_utf8, row_utf8, number_in}
use Rattle.sheet.specs.laws.PartLaws.{number_of_content}
use Rattle.sheet.specs.code.Placed.{content_at, number_at, LiteralAt, Placed, contents_at, numbers_at}
use Rattle.sheet.specs.code.ReadAnswers.{LiteralsRead}
use Rattle.sheet.specs.code.SheetAnswers.{sheet_of}
use Rattle.sheet.specs.Records.{length_in, record_at}
use Rattle.sheet.specs.declared.sheet.Sheet.{Sheet}

-- ---- reading that never refuses: numbers
module _ {A B : Type 0} (f : A → B) where
  each_read : (xs : List A) → each (λ x. Ok (f x)) xs ≡ Ok (map f xs)
  each_read [] = refl
  each_read (x ∷ xs) = rw (each_read xs)

  literals_read : (leaf : Predicate A) → each_literal (λ x. Ok (f x)) leaf ≡ Ok (map_literals f leaf)
  literals_read (unary o) = refl
  literals_read (test (binary o l)) = refl
  literals_read (test (set o ls)) = rw (each_read ls)

  row_read : (r : Row A) → read_row (λ x. Ok (f x)) r ≡ Ok (map_row f r)
  row_read missing = refl
  row_read (present v) = refl

  pub map_operator : (leaf : Predicate A) → operator_in (map_literals f leaf) ≡ operator_in leaf
  map_operator (unary o) = refl
  map_operator (test (binary o l)) = refl
  map_operator (test (set o ls)) = refl

  pub map_literals_lem : (leaf : Predicate A) → literals_in (map_literals f leaf) ≡ map f (literals_in leaf)
  map_literals_lem (unary o) = refl
  map_literals_lem (test (binary o l)) = refl
  map_literals_lem (test (set o ls)) = refl

pub map_leaf : {A B : Type 0} (f : A → B) (other : A) (o : Operator) (ls : List A) → map_literals f (leaf_of other o ls) ≡ leaf_of (f other) o (map f ls)
map_leaf f other (none o) ls = refl
map_leaf f other (one o) [] = refl
map_leaf f other (one o) (l ∷ ls) = refl
map_leaf f other (many o) ls = refl

pub number_literals : (n : ℕ) (leaf : Predicate (List ℕ)) → each_literal (read_number n) leaf ≡ Ok (map_literals (λ bs. signed n (le_number bs)) leaf)
number_literals n leaf = literals_read (λ bs. signed n (le_number bs)) leaf

pub number_row_lem : (n : ℕ) (r : Row (List ℕ)) → read_row (read_number n) r ≡ Ok (map_row (λ bs. signed n (le_number bs)) r)
number_row_lem n r = row_read (λ bs. signed n (le_number bs)) r

-- ---- reading that refuses what fails a test: byte strings
module _ {A : Type 0} (e : ErrorKind) where
  then_ok : {B : Type 0} (a : Bool) (x : A) (f : A → B) → ((need a e >> Ok x) >>= λ y. Ok (f y)) ≡ (need a e >> Ok (f x))
  then_ok true x f = refl
  then_ok false x f = refl

  pub then_need : {B C : Type 0} (a b : Bool) (x : A) (y : B) (f : A → B → C)
      → ((need a e >> Ok x) >>= λ u. (need b e >> Ok y) >>= λ v. Ok (f u v)) ≡ (need a e >> (need b e >> Ok (f x y)))
  then_need true true x y f = refl
  then_need true false x y f = refl
  then_need false b x y f = refl

-- s says whether UTF-8 is asked for
both_asked : (s a b : Bool) {X : Type 0} (r : Res X)
    → (need (not s || a) NotUtf8 >> (need (not s || b) NotUtf8 >> r)) ≡ (need (not s || (a && b)) NotUtf8 >> r)
both_asked true true b r = refl
both_asked true false b r = refl
both_asked false a b r = refl

module _ (s : Bool) where
  abbrev asked : List ℕ → Res (List ℕ)
  asked bs = do
    need (not s || utf8 bs) NotUtf8
    Ok bs

  each_asked : (ls : List (List ℕ)) → each asked ls ≡ (need (not s || all_utf8 ls) NotUtf8 >> Ok ls)
  each_asked [] = rw (or-true (not s))
  each_asked (l ∷ ls) =
      rw (each_asked ls) (then_need NotUtf8 (not s || utf8 l) (not s || all_utf8 ls) l ls ◌∷◌) ∙ both_asked s (utf8 l) (all_utf8 ls) (Ok (l ∷ ls))

  literals_asked : (leaf : Predicate (List ℕ)) → each_literal asked leaf ≡ (need (not s || all_utf8 (literals_in leaf)) NotUtf8 >> Ok leaf)
  literals_asked (unary o) = rw (or-true (not s))
  literals_asked (test (binary o l)) = rw (and-true (utf8 l)) (then_ok NotUtf8 (not s || utf8 l) l (λ x. test (binary o x)))
  literals_asked (test (set o ls)) = rw (each_asked ls) (then_ok NotUtf8 (not s || all_utf8 ls) ls (λ xs. test (set o xs)))

  row_asked : (r : Row (List ℕ)) → read_row asked r ≡ (need (not s || row_utf8 r) NotUtf8 >> Ok r)
  row_asked missing = rw (or-true (not s))
  row_asked (present v) = then_ok NotUtf8 (not s || utf8 v) v present

module _ (column : PrimitiveType) where
  pub bytes_literals : (leaf : Predicate (List ℕ))
      → each_literal (read_bytes column) leaf ≡ (need (not (same_type column String) || all_utf8 (literals_in leaf)) NotUtf8 >> Ok leaf)
  bytes_literals leaf = literals_asked (same_type column String) leaf

  pub bytes_row : (r : Row (List ℕ)) → read_row (read_bytes column) r ≡ (need (not (same_type column String) || row_utf8 r) NotUtf8 >> Ok r)
  bytes_row r = row_asked (same_type column String) r

-- ---- a literal's number is that of its content
content_number : (l : Layout) (s : List ℕ) (k : ℕ) → LiteralAt l s k → number_at l s k ≡ number_in l (content_at s k)
content_number (number n) s k at = number_of_content n s k (eqb-true (length_in (record_at s k)) n at.fitting)
content_number (bytes n) s k at = refl

pub placed_numbers : (l : Layout) (s ns : List ℕ) (count : ℕ) → Placed l s ns count
    → numbers_at l s ns count ≡ map (number_in l) (contents_at s ns count)
placed_numbers l s ns zero placed = refl
placed_numbers l s [] (suc count) placed = refl
placed_numbers l s (k ∷ ns) (suc count) placed =
    ap₂ ◌∷◌
    (content_number l s k (placed.each 0 (omega arith)))
    (placed_numbers l s ns count (record { room = omega (arith, placed.room); each = λ i h. placed.each (suc i) (omega arith) }))

-- ---- a leaf has the literals that its records hold, as many as its operator takes
pub length_placed : (l : Layout) (s ns : List ℕ) (count : ℕ) → Placed l s ns count → length (contents_at s ns count) ≡ count
length_placed l s ns count placed = length-map (take count ns) (content_at s) ∙ length-take-le count ns placed.room

pub literals_taken : (l : Layout) (s ns : List ℕ) (count : ℕ) (o : Operator) → Placed l s ns count → takes o count ≡ true
    → literals_in (leaf_of [] o (contents_at s ns count)) ≡ contents_at s ns count
literals_taken l s ns count o placed h = leaf_literals [] o (contents_at s ns count) (rw (length_placed l s ns count placed) h)

-- the records whose numbers a sheet that was read has hold its literals, in their order
pub literals_named : (x : Sheet) → LiteralsRead x.literals.sheet.now x.literals.records.now (sheet_of x)
literals_named x =
    let y = x.literals in
    let n = length y.records.now in
    let are = literals_taken (layout y.column) y.sheet.now y.records.now n (by_arity x.operator) y.placed x.taken in
    let many = ap length are ∙ length_placed (layout y.column) y.sheet.now y.records.now n y.placed in
    record {
      literals = are ∙ ap (λ k. map (content_at y.sheet.now) (take k y.records.now)) (sym many);
      each = λ i h. y.placed.each i (omega (arith, h, many));
    }
