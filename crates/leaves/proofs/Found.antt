-- What the code's symbol is, by what was found. Assumes nothing.
use Rattle.std.proofs.Common.{ℕ, ◌≤◌, ◌<◌, Bool, List, [], ℤ, false, ◌≡◌, ◌≢◌, refl, ap, ◌∙◌, arith, length, drop, Some, None}
use Prim.Native.String.{String}
use Rattle.values.specs.Characters.{ascii, following}
use Rattle.values.specs.Order.{compare_bytes, is_equal}
use Rattle.values.specs.Types.{in_type}
use Rattle.values.specs.laws.RangeLaws.{in_type_long, in_long}
use Rattle.values.specs.laws.TestLaws.{clash, refuted}
use Rattle.values.specs.declared.datatypes.PrimitiveType.{PrimitiveType}
use Rattle.values.specs.declared.datatypes.PrimitiveType.TheVariants.{Long}
use Rattle.expr.specs.declared.operator.PredicateOperator.{PredicateOperator}
use Rattle.columns.specs.Columns.{Column}
use Rattle.columns.specs.code.ColumnAnswers.{column_at, place_of}
use Rattle.tokens.specs.Tokens as tokens
use Rattle.tokens.specs.Tokens.{taken, is_space}
use Rattle.tokens.specs.code.TokenAnswers.{part, Reads}
use Rattle.tokens.specs.declared.token.Span.{Span}
use Rattle.tokens.specs.declared.token.Token.{Token}
use Rattle.tokens.specs.declared.token.Token.TheVariants as token
use Rattle.leaves.specs.Fitting.{Leaf, content_of}
use Rattle.leaves.specs.Symbols.{Read, unread, on_taken, of_word, of_token, first_then, symbols}
use Rattle.leaves.specs.code.SymbolAnswers.{token_in, leaf_in, OperatorAt, LiteralAt, LeafAt, Onward, IsRead, WordAt, Opens, Symbolises}
use Rattle.leaves.specs.declared.leaf.Leaf as declared-leaf
use Rattle.leaves.specs.declared.symbol.Symbol as declared
use Rattle.leaves.specs.declared.symbol.Symbol.TheVariants as kind
use Rattle.leaves.specs.declared.leaf.Literal as declared-literal
use Rattle.leaves.specs.laws.SymbolLaws.{place_within, symbols_none, symbols_begun, leaf_read, leaf_after_lem}

-- a number that 64 bits do not hold is in no column
pub too_large : (column : PrimitiveType) (z : ℤ) → in_type Long z ≡ false → in_type column z ≡ false
too_large column z e = refuted _ (λ t. clash ((in_long z).1 (in_type_long column z t)) e)

module _ (cs : List Column) (s : List ℕ) where
  pub leaf_found : (name : List ℕ) (at k after next : ℕ) (operator : PredicateOperator) (literal : declared-literal.Literal) (column : PrimitiveType)
      → place_of name cs ≡ Some k → column ≡ (column_at cs k).head.column
      → OperatorAt s at (Some (operator, after)) → LiteralAt column s after (Some (literal, next))
      → LeafAt cs name s at (Some (record { place = k; operator = operator; literal = literal }, next))
  leaf_found name at k after next operator literal column e is o l =
      let f = rw is at l in
      let found : Leaf = record { place = k; head = (column_at cs k).head; operator = o.0; content = content_of (column_at cs k).head.column f.0 } in (
        found,
        record {
          place = refl;
          placed = place_within cs name k e;
          head = refl;
          operator = o.1;
          lies = f.1.0;
          fitted = rw (← f.1.1) f.1.2;
          content = ap (content_of (column_at cs k).head.column) f.1.1;
        },
        rw (e, o.2, f.2) refl,
        omega (arith, o.3, f.3),
        f.4,
      )

  -- a word that joins no filters
  module _ (word : Span) (next : ℕ) (within : next ≤ length s) where
    abbrev same : String → Bool
    same w = is_equal (compare_bytes (part s word) (ascii w))

    module _ (a : same "and" ≡ false) (o : same "or" ≡ false) (n : same "not" ≡ false) where
      of_other : of_word cs (part s word) (drop next s) ≡ leaf_read (leaf_in cs (part s word) (drop next s))
      of_other = rw (a, o, n) (leaf_after_lem cs (part s word) (drop next s))

      pub leaf_word : (leaf : declared-leaf.Leaf) (after : ℕ) → LeafAt cs (part s word) s next (Some (leaf, after)) → WordAt cs s word next (kind.Leaf leaf, after)
      leaf_word leaf after f = record { is = (f.0, f.1, of_other ∙ ap leaf_read f.2); forward = omega (arith, f.3); within = f.4 }

      pub no_leaf_word : LeafAt cs (part s word) s next None → WordAt cs s word next (kind.Unreadable, next)
      no_leaf_word f = record { is = ([], of_other ∙ ap leaf_read f); forward = omega arith; within = within }

  -- the first symbol of a text
  onward : (k : declared.Symbol) (at next : ℕ) → at < next → Onward k at next
  onward kind.End at next h = omega arith
  onward (kind.Leaf leaf) at next h = h
  onward kind.And at next h = h
  onward kind.Or at next h = h
  onward kind.Not at next h = h
  onward kind.Opening at next h = h
  onward kind.Closing at next h = h
  onward kind.Unreadable at next h = h

  module _ (at : ℕ) where
    pub end_symbol : (next : ℕ) → following is_space (drop at s) ≡ [] → at ≤ length s → next ≡ length s → Symbolises cs s at kind.End next
    end_symbol next e inside is = record { is = symbols_none cs (drop at s) e; forward = omega arith; within = omega arith }

    module _ (begun : following is_space (drop at s) ≢ []) (next : ℕ) (after : at < next) (within : next ≤ length s) where
      first_of : {x : Read} → on_taken (of_token cs) (token_in (drop at s)) ≡ x → symbols cs (drop at s) ≡ first_then cs (symbols cs) x
      first_of e = symbols_begun cs (drop at s) begun ∙ ap (first_then cs (symbols cs)) e

      read_opens : (k : declared.Symbol) → IsRead cs s k next (on_taken (of_token cs) (token_in (drop at s))) → Opens cs s k next (symbols cs (drop at s))
      read_opens kind.End is = absurd is
      read_opens (kind.Leaf leaf) is = (is.0, is.1, first_of is.2)
      read_opens kind.And is = first_of is
      read_opens kind.Or is = first_of is
      read_opens kind.Not is = first_of is
      read_opens kind.Opening is = first_of is
      read_opens kind.Closing is = first_of is
      read_opens kind.Unreadable is = (symbols cs is.0, first_of is.1)

      pub read_symbol : (k : declared.Symbol) → IsRead cs s k next (on_taken (of_token cs) (token_in (drop at s))) → Symbolises cs s at k next
      read_symbol k is = record { is = read_opens k is; forward = onward k at next after; within = within }

      pub opening_symbol : token_in (drop at s) ≡ taken tokens.opening (drop next s) → Symbolises cs s at kind.Opening next
      opening_symbol e = read_symbol kind.Opening (rw e refl)

      pub closing_symbol : token_in (drop at s) ≡ taken tokens.closing (drop next s) → Symbolises cs s at kind.Closing next
      closing_symbol e = read_symbol kind.Closing (rw e refl)

      pub no_symbol : on_taken (of_token cs) (token_in (drop at s)) ≡ unread → Symbolises cs s at kind.Unreadable next
      no_symbol e = read_symbol kind.Unreadable ([], e)

    -- a token that begins no symbol
    pub other_symbol : (k : Token) (next : ℕ) → Reads s at k next → k ≢ token.End → ((p : Span) → k ≢ token.Word p) → k ≢ token.Opening → k ≢ token.Closing
        → Symbolises cs s at kind.Unreadable next
    other_symbol token.End next r a b c d = absurd (a refl)
    other_symbol (token.Word p) next r a b c d = absurd (b p refl)
    other_symbol (token.Sign o) next r a b c d = no_symbol r.0 next r.1.forward r.1.within (rw r.1.is.2 refl)
    other_symbol (token.Decimal z) next r a b c d = no_symbol r.0 next r.1.forward r.1.within (rw r.1.is.1 refl)
    other_symbol token.TooLarge next r a b c d = no_symbol r.0 next r.1.forward r.1.within (rw r.1.is.2 refl)
    other_symbol (token.Quoted p) next r a b c d = no_symbol r.0 next r.1.forward r.1.within (rw r.1.is.1 refl)
    other_symbol token.Opening next r a b c d = absurd (c refl)
    other_symbol token.Closing next r a b c d = absurd (d refl)
    other_symbol token.Unreadable next r a b c d = no_symbol r.0 next r.1.forward r.1.within (rw r.1.is.1 refl)

pub ruleset first_symbols = (end_symbol, opening_symbol, closing_symbol, read_symbol)
