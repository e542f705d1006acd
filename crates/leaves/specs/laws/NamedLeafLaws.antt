-- The leaf of a name: it is one of the column that has the name first, and a text that names no column is unread. Assumes nothing.
use Rattle.std.specs.Prelude.{ℕ, cond, List, ◌≡◌, refl, Some, None}
use Rattle.std.proofs.Common.{ap, ◌∙◌}
use Rattle.std.proofs.Math.Option.{Option, some, none}
use Rattle.std.proofs.Math.Path.{fun_ext}
use Rattle.values.specs.Characters.{following}
use Rattle.expr.specs.Operators.{Binary}
use Rattle.columns.specs.Columns.{Column}
use Rattle.columns.specs.code.ColumnAnswers.{column_at, place_of}
use Rattle.tokens.specs.Tokens.{Token, Taken, taken, token, is_space}
use Rattle.grammar.specs.Grammar as grammar
use Rattle.leaves.specs.Fitting.{Literal, Leaf, fits, content_of, leaf_of}
use Rattle.leaves.specs.Symbols.{Read, read, unread, or_else, on_taken, after_spaces, as_operator, as_literal, leaf_after}
use Rattle.leaves.specs.laws.SymbolLaws.{leaf_none, leaf_some}

-- the leaf of the column d at place k
abbrev pub leaf_on : ℕ → Column → Binary → Literal → Option Leaf
leaf_on k d o l =
    let leaf : Leaf = record { place = k; head = d.head; operator = o; content = content_of d.head.column l } in
    cond (fits d.head.column l) (some leaf) none

-- a leaf from its literal on, from its operator on
abbrev pub with_literal : (Literal → Option Leaf) → Token → List ℕ → Read
with_literal leafWith u after = or_else (as_literal u) (λ l. or_else (leafWith l) (λ leaf. read (grammar.leaf_of leaf) after))

abbrev pub with_operator : (Binary → Literal → Option Leaf) → Token → List ℕ → Read
with_operator leafWith t rest = or_else (as_operator t) (λ o. after_spaces rest (with_literal (leafWith o)))

module _ (cs : List Column) (name : List ℕ) where
  module _ (k : ℕ) (has : place_of name cs ≡ Some k) where
    pub leaf_named : (o : Binary) (l : Literal) → leaf_of cs name o l ≡ leaf_on k (column_at cs k) o l
    leaf_named o l = leaf_some name o l cs k has

    pub leaf_after_named : (s : List ℕ) → leaf_after cs name s ≡ after_spaces s (with_operator (leaf_on k (column_at cs k)))
    leaf_after_named s = ap (λ (f : Binary → Literal → Option Leaf). after_spaces s (with_operator f)) (fun_ext (λ o. fun_ext (λ l. leaf_named o l)))

  pub no_leaf_after : place_of name cs ≡ None → (s : List ℕ) → leaf_after cs name s ≡ unread
  no_leaf_after lacks s =
      ap (λ (f : Binary → Literal → Option Leaf). after_spaces s (with_operator f)) (fun_ext (λ o. fun_ext (λ l. leaf_none name o l cs lacks)))
      ∙ on_taken_lem (token (following is_space s)) _ (λ t rest. on_option (as_operator t) _ (λ o.
      on_taken_lem (token (following is_space rest)) _ (λ u after. on_option (as_literal u) _ (λ l. refl))))
    where
      on_option : {A : Type 0} (x : Option A) (f : A → Read) → ((a : A) → f a ≡ unread) → or_else x f ≡ unread
      on_option none f go = refl
      on_option (some a) f go = go a

      on_taken_lem : (x : Taken) (f : Token → List ℕ → Read) → ((t : Token) (rest : List ℕ) → f t rest ≡ unread) → on_taken f x ≡ unread
      on_taken_lem (taken t rest) f go = go t rest
