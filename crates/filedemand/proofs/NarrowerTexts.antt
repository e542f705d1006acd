-- Document 02's table for strings and binaries: narrower ends rule out what wider ones do. Assumes nothing.
use Prim.Native.Nat.{ℕ}
use mathlib.Core.Bool.{true, not, ◌&&◌}
use mathlib.Core.List.{List}
use mathlib.Core.Logic.{⊎_elim}
use mathlib.Core.Path.{◌≡◌, refl, ap, ap₂, ◌∙◌}
use borrow.Author.Tests.{not-true}
use Rattle.values.specs.Order.{compare_bytes, is_less}
use Rattle.values.specs.laws.OrderLaws.{is_less_lem, not_below, irreflexive, at_most_less, less_at_most, bytes_order}
use Rattle.values.specs.laws.SomeLaws.{some_iff, every_iff}
use Rattle.values.specs.laws.TestLaws.{clash, refuted, or_cases, or_left, or_right, and_both, both_and}
use Rattle.expr.specs.Operators.{Binary, less_than, less_than_or_eq, greater_than, greater_than_or_eq, eq, not_eq, starts_with, not_starts_with, SetOperator, is_in, not_in, one}
use Rattle.expr.specs.Predicates.{Predicate, unary, test, binary, set}
use Rattle.summary.specs.EndValues.{ordered, lies_in}
use Rattle.summary.specs.Summaries.{Ends, none_present, ◌to◌}
use Rattle.ends.specs.RuledOut.{outside, both_are, binary_ruled_out, set_ruled_out, ruled_out}
use Rattle.ends.specs.laws.RuledOutLaws.{not_lower, not_higher, ruled_out_none, asks_the_ends, by_neither_end}

-- what lies between the narrow ends lies between the wide ones
abbrev Within : Ends (List ℕ) → Ends (List ℕ) → Type 0
Within narrow wide = (v : List ℕ) → lies_in compare_bytes narrow v ≡ true → lies_in compare_bytes wide v ≡ true

-- ends in order lie between themselves
module _ (l h : List ℕ) (in_order : ordered compare_bytes (l to h) ≡ true) where
  low_lies : lies_in compare_bytes (l to h) l ≡ true
  low_lies = both_and ((not_below _).1 (irreflexive bytes_order l)) in_order

  high_lies : lies_in compare_bytes (l to h) h ≡ true
  high_lies = both_and in_order ((not_below _).1 (irreflexive bytes_order h))

-- the table's lines, of ends from l to h within those from m to k
module _ (l h m k : List ℕ) (in_order : ordered compare_bytes (l to h) ≡ true) (within : Within (l to h) (m to k)) where
  low_in : lies_in compare_bytes (m to k) l ≡ true
  low_in = within l (low_lies l h in_order)

  high_in : lies_in compare_bytes (m to k) h ≡ true
  high_in = within h (high_lies l h in_order)

  -- where the table asks the ends: neither meets what the wider ends rule out
  by_ends : (o : Binary) (x : List ℕ) → asks_the_ends (one o) ≡ true → binary_ruled_out m k o x ≡ true → binary_ruled_out l h o x ≡ true
  by_ends o x asks e =
      let p = test (binary o x) in
      by_neither_end l h x (not-true _ in_order) (one o) asks
      ∙ ap₂ (λ a b. not a && not b) (ruled_out_none p (m to k) l e low_in) (ruled_out_none p (m to k) h e high_in)

  still_outside : (x : List ℕ) → outside m k x ≡ true → outside l h x ≡ true
  still_outside x e = ap not (refuted _ (λ i. clash (within x i) (not-true _ e)))

  of_binary : (o : Binary) (x : List ℕ) → binary_ruled_out m k o x ≡ true → binary_ruled_out l h o x ≡ true
  of_binary less_than x e = by_ends less_than x refl e
  of_binary less_than_or_eq x e = by_ends less_than_or_eq x refl e
  of_binary greater_than x e = by_ends greater_than x refl e
  of_binary greater_than_or_eq x e = by_ends greater_than_or_eq x refl e
  of_binary eq x e = still_outside x e
  of_binary not_eq x e = by_ends not_eq x refl e
  of_binary starts_with x e =
      let other = ruled_out_none (test (binary starts_with x)) (m to k) l e low_in in
      ⊎_elim
      (λ below. or_left _ (ap is_less (at_most_less bytes_order h k x (not_higher m k h high_in) ((is_less_lem _).0 below))))
      (λ above. let higher = less_at_most bytes_order x m l ((is_less_lem _).0 (and_both _ _ above).0) (not_lower m k l low_in) in
      or_right (is_less (compare_bytes h x)) (both_and (ap is_less higher) (ap not other)))
      (or_cases _ _ e)
  of_binary not_starts_with x e = by_ends not_starts_with x refl e

  of_set : (o : SetOperator) (xs : List (List ℕ)) → set_ruled_out m k o xs ≡ true → set_ruled_out l h o xs ≡ true
  of_set is_in xs e = (every_iff (outside l h) xs).1 (λ x at. still_outside x ((every_iff (outside m k) xs).0 e x at))
  of_set not_in xs e = let x = (some_iff (both_are m k) xs).0 e in (some_iff (both_are l h) xs).1 (x.0, x.1, of_binary not_eq x.0 x.2)

pub ruled_out_within : (p : Predicate (List ℕ)) (narrow wide : Ends (List ℕ)) → ordered compare_bytes narrow ≡ true → Within narrow wide
    → ruled_out p wide ≡ true → ruled_out p narrow ≡ true
ruled_out_within p none_present wide in_order within e = refl
ruled_out_within p (l to h) none_present in_order within e = clash (within l (low_lies l h in_order)) refl
ruled_out_within (unary o) (l to h) (m to k) in_order within e = e
ruled_out_within (test (binary o x)) (l to h) (m to k) in_order within e = of_binary l h m k in_order within o x e
ruled_out_within (test (set o xs)) (l to h) (m to k) in_order within e = of_set l h m k in_order within o xs e
