-- What the code's enums and structs say, as the definitions have it. Assumes nothing.
use Rattle.std.specs.Prelude.{ℕ, ◌≤◌, ◌<◌, true, cond, List, [], ◌∷◌, ◌≡◌, Option, Some, None, option_and_then, length, drop}
use Rattle.std.proofs.Math.Option as maybe
use Rattle.values.specs.Characters.{following}
use Rattle.values.specs.declared.datatypes.PrimitiveType.{PrimitiveType}
use Rattle.expr.specs.Operators.{Binary, one, by_arity}
use Rattle.expr.specs.declared.operator.PredicateOperator.{PredicateOperator}
use Rattle.columns.specs.Columns.{Column}
use Rattle.columns.specs.code.ColumnAnswers.{column_at, place_of}
use Rattle.tokens.specs.Tokens.{Taken, taken, token, is_space}
use Rattle.tokens.specs.code.TokenAnswers.{part, IsPart}
use Rattle.tokens.specs.declared.token.Span.{Span}
use Rattle.grammar.specs.Grammar.{Symbol, leaf_of, and_word, or_word, not_word, opening, closing, unreadable}
use Rattle.leaves.specs.Fitting.{Literal, decimal, text, Leaf, fits, content_of}
use Rattle.leaves.specs.Symbols.{Read, read, as_operator, as_literal, of_word, symbols}
use Rattle.leaves.specs.declared.leaf.Leaf as declared-leaf
use Rattle.leaves.specs.declared.leaf.Literal as declared-literal
use Rattle.leaves.specs.declared.leaf.Literal.TheVariants.{Number, Text}
use Rattle.leaves.specs.declared.symbol.Symbol as declared
use Rattle.leaves.specs.declared.symbol.Symbol.TheVariants as kind

-- ---- what the definitions find, with the text after it

abbrev pub token_in : List ℕ → Taken
token_in s = token (following is_space s)

abbrev pub with_rest : {A : Type 0} → List ℕ → maybe.Option A → Option (A × List ℕ)
with_rest rest maybe.none = None
with_rest rest (maybe.some x) = Some (x, rest)

abbrev pub operator_in : Taken → Option (Binary × List ℕ)
operator_in (taken t rest) = with_rest rest (as_operator t)

abbrev pub fitting : PrimitiveType → Literal × List ℕ → Option (Literal × List ℕ)
fitting column x = cond (fits column x.0) (Some x) None

abbrev pub literal_in : PrimitiveType → Taken → Option (Literal × List ℕ)
literal_in column (taken t rest) = option_and_then (fitting column) (with_rest rest (as_literal t))

-- a leaf of the column d at place k, with what is left after its literal
abbrev pub leaf_with : ℕ → Column → Binary → Literal × List ℕ → Leaf × List ℕ
leaf_with k d o l = (record { place = k; head = d.head; operator = o; content = content_of d.head.column l.0 }, l.1)

-- from its operator on
abbrev pub leaf_on : ℕ → Column → Taken → Option (Leaf × List ℕ)
leaf_on k d t =
    option_and_then (λ o. option_and_then (λ l. Some (leaf_with k d o.0 l)) (literal_in d.head.column (token_in o.1))) (operator_in t)

abbrev pub leaf_in : List Column → List ℕ → List ℕ → Option (Leaf × List ℕ)
leaf_in cs name s = option_and_then (λ k. leaf_on k (column_at cs k) (token_in s)) (place_of name cs)

-- ---- what the code finds from `at` on, with where the text after it begins

abbrev pub Finds : {X Y : Type 0} → (X → Y → Type 0) → List ℕ → ℕ → Option (X × ℕ) → Option (Y × List ℕ) → Type 0
Finds is s at None found = found ≡ None
Finds {Y = Y} is s at (Some x) found = (y : Y) × is x.0 y × (found ≡ Some (y, drop x.1 s)) × (at < x.1) × (x.1 ≤ length s)

abbrev pub OperatorAt : List ℕ → ℕ → Option (PredicateOperator × ℕ) → Type 0
OperatorAt s at r = Finds (λ x o. by_arity x ≡ one o) s at r (operator_in (token_in (drop at s)))

-- a literal in the text s, and that it lies there
abbrev pub literal_of : List ℕ → declared-literal.Literal → Literal
literal_of s (Number z) = decimal z
literal_of s (Text p) = text (part s p)

abbrev pub Lies : List ℕ → declared-literal.Literal → Type 0
Lies s (Number z) = Unit {0}
Lies s (Text p) = IsPart s p

abbrev pub LiteralAt : PrimitiveType → List ℕ → ℕ → Option (declared-literal.Literal × ℕ) → Type 0
LiteralAt column s at r =
    Finds (λ x l. Lies s x × (l ≡ literal_of s x) × (fits column l ≡ true)) s at r (literal_in column (token_in (drop at s)))

-- x is the leaf l of the text s
pub record IsLeaf (cs : List Column) (s : List ℕ) (x : declared-leaf.Leaf) (l : Leaf) : Type 0 where
  pub place : l.place ≡ x.place
  pub placed : x.place < length cs
  pub head : l.head ≡ (column_at cs x.place).head
  pub operator : by_arity x.operator ≡ one l.operator
  pub lies : Lies s x.literal
  pub fitted : fits l.head.column (literal_of s x.literal) ≡ true
  pub content : l.content ≡ content_of l.head.column (literal_of s x.literal)

abbrev pub LeafAt : List Column → List ℕ → List ℕ → ℕ → Option (declared-leaf.Leaf × ℕ) → Type 0
LeafAt cs name s at r = Finds (IsLeaf cs s) s at r (leaf_in cs name (drop at s))

-- ---- symbols

-- a symbol takes a byte at least, but the end of the text
abbrev pub Onward : declared.Symbol → ℕ → ℕ → Type 0
Onward kind.End at next = at ≤ next
Onward k at next = at < next

-- k and the text from `next` on are what was read; after what is unreadable, nothing is said
abbrev pub IsRead : List Column → List ℕ → declared.Symbol → ℕ → Read → Type 0
IsRead cs s kind.End next x = ⊥
IsRead cs s (kind.Leaf leaf) next x = (l : Leaf) × IsLeaf cs s leaf l × (x ≡ read (leaf_of l) (drop next s))
IsRead cs s kind.And next x = x ≡ read and_word (drop next s)
IsRead cs s kind.Or next x = x ≡ read or_word (drop next s)
IsRead cs s kind.Not next x = x ≡ read not_word (drop next s)
IsRead cs s kind.Opening next x = x ≡ read opening (drop next s)
IsRead cs s kind.Closing next x = x ≡ read closing (drop next s)
IsRead cs s kind.Unreadable next x = (rest : List ℕ) × (x ≡ read unreadable rest)

-- what begins with a word that ends before `next`
pub record WordAt (cs : List Column) (s : List ℕ) (word : Span) (next : ℕ) (r : declared.Symbol × ℕ) : Type 0 where
  pub is : IsRead cs s r.0 r.1 (of_word cs (part s word) (drop next s))
  pub forward : next ≤ r.1
  pub within : r.1 ≤ length s

-- the symbols ts are k, and those of the text from `next` on
abbrev pub Opens : List Column → List ℕ → declared.Symbol → ℕ → List (Symbol Leaf) → Type 0
Opens cs s kind.End next ts = ts ≡ []
Opens cs s (kind.Leaf leaf) next ts = (l : Leaf) × IsLeaf cs s leaf l × (ts ≡ leaf_of l ∷ symbols cs (drop next s))
Opens cs s kind.And next ts = ts ≡ and_word ∷ symbols cs (drop next s)
Opens cs s kind.Or next ts = ts ≡ or_word ∷ symbols cs (drop next s)
Opens cs s kind.Not next ts = ts ≡ not_word ∷ symbols cs (drop next s)
Opens cs s kind.Opening next ts = ts ≡ opening ∷ symbols cs (drop next s)
Opens cs s kind.Closing next ts = ts ≡ closing ∷ symbols cs (drop next s)
Opens cs s kind.Unreadable next ts = (others : List (Symbol Leaf)) × (ts ≡ unreadable ∷ others)

-- k is the first symbol of the text from `at` on
pub record Symbolises (cs : List Column) (s : List ℕ) (at : ℕ) (k : declared.Symbol) (next : ℕ) : Type 0 where
  pub is : Opens cs s k next (symbols cs (drop at s))
  pub forward : Onward k at next
  pub within : next ≤ length s
