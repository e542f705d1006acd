-- Document 02's table for strings and binaries: what the ends rule out, nothing between them meets; and which lines ask only what the ends themselves meet.
-- Assumes nothing.
use Rattle.std.specs.Prelude.{◌≡◌, ℕ, Bool, true, false, not, ◌&&◌, ◌||◌, List, [], ◌∷◌, refl}
use Rattle.std.proofs.Math.Bool.{and_comm, and_self}
use Rattle.std.proofs.Common.{⊎_elim, sym, ap, ap₂, ◌∙◌}
use Rattle.std.proofs.lemmas.Bool.{not-true}
use Rattle.values.specs.SomeEvery.{some}
use Rattle.values.specs.Ascending.{elem}
use Rattle.values.specs.Order.{compare_bytes, is_less, is_equal}
use Rattle.std.specs.declared.cmp.Ordering.TheVariants.{Less, Equal}
use Rattle.values.specs.laws.OrderLaws.{is_less_lem, not_below, at_most_less, less_at_most, at_most_both, asymmetric, connected, bytes_order}
use Rattle.values.specs.laws.TestLaws.{refuted, clash, not_not, or_cases, and_both}
use Rattle.expr.specs.Holds.{bytes_tests, binary_meets, set_meets, present_meets}
use Rattle.expr.specs.Operators.{is_null, not_null, is_nan, not_nan, Binary, less_than, less_than_or_eq, greater_than, greater_than_or_eq, eq, not_eq, starts_with, not_starts_with, SetOperator, is_in, not_in, Operator, none, one, many}
use Rattle.expr.specs.Predicates.{Predicate, unary, test, binary, set}
use Rattle.expr.specs.code.OperatorAnswers.{meets_one}
use Rattle.expr.specs.laws.EqualityLaws.{bytes_tells, is_same, is_member}
use Rattle.summary.specs.EndValues.{lies_in}
use Rattle.summary.specs.Summaries.{Ends, none_present, ◌to◌}
use Rattle.ends.specs.RuledOut.{outside, both_are, binary_ruled_out, set_ruled_out, ruled_out}
use Rattle.ends.specs.code.EndAnswers.{ruled_out_one}
use Rattle.values.specs.laws.ConvexLaws.{not_below_beginning, convex}
use Rattle.values.specs.laws.SomeLaws.{some_iff, every_iff}

-- ---- byte strings between the ends
module _ (low high v : List ℕ) (inside : lies_in compare_bytes (low to high) v ≡ true) where
  sides : (not (is_less (compare_bytes v low)) ≡ true) × (not (is_less (compare_bytes high v)) ≡ true)
  sides = and_both _ _ inside

  pub not_lower : compare_bytes v low ≡ Less → ⊥
  not_lower = (not_below _).0 sides.0

  pub not_higher : compare_bytes high v ≡ Less → ⊥
  not_higher = (not_below _).0 sides.1

  -- between two that are one there is no other
  is_one : (l : List ℕ) → both_are low high l ≡ true → v ≡ l
  is_one l h =
      let both = and_both _ _ h in
      let a = (is_same bytes_tests bytes_tells low l).0 both.0 in
      let b = (is_same bytes_tests bytes_tells high l).0 both.1 in
      connected bytes_order v l (rw a at not_lower) (rw b at not_higher)

  none_binary : (o : Binary) (l : List ℕ) → binary_ruled_out low high o l ≡ true → binary_meets bytes_tests o v l ≡ false
  none_binary less_than l h =
      refuted _ (λ k. (not_below _).0 h (at_most_less bytes_order low v l not_lower ((is_less_lem _).0 k)))
  none_binary less_than_or_eq l h = ap (λ r. not (is_less r)) (less_at_most bytes_order l low v ((is_less_lem _).0 h) not_lower)
  none_binary greater_than l h =
      refuted _ (λ k. (not_below _).0 h (less_at_most bytes_order l v high ((is_less_lem _).0 k) not_higher))
  none_binary greater_than_or_eq l h = ap (λ r. not (is_less r)) (at_most_less bytes_order v high l not_higher ((is_less_lem _).0 h))
  none_binary eq l h = refuted _ (λ k. clash (rw ((is_same bytes_tests bytes_tells v l).0 k) at inside) (not-true _ h))
  none_binary not_eq l h = ap not ((is_same bytes_tests bytes_tells v l).1 (is_one l h))
  none_binary starts_with l h =
      refuted
      _
      (λ k. ⊎_elim
      (λ above. not_below_beginning v l k (at_most_less bytes_order v high l not_higher ((is_less_lem _).0 above)))
      (λ e. let both = and_both _ _ e in
      clash
      (convex l low v (asymmetric bytes_order l low ((is_less_lem _).0 both.0)) not_lower k)
      (not-true _ both.1))
      (or_cases _ _ h))
  none_binary not_starts_with l h =
      let both = and_both _ _ h in
      ap not (convex l v high (at_most_both bytes_order l low v (not_below_beginning low l both.0) not_lower) not_higher both.1)

  none_set : (o : SetOperator) (ls : List (List ℕ)) → set_ruled_out low high o ls ≡ true → set_meets bytes_tests o v ls ≡ false
  none_set is_in ls h =
      refuted _ (λ k. clash inside (not-true _ ((every_iff (outside low high) ls).0 h v ((is_member bytes_tests bytes_tells v ls).0 k))))
  none_set not_in ls h =
      let m = (some_iff (both_are low high) ls).0 h in
      ap not ((is_member bytes_tests bytes_tells v ls).1 (rw (is_one m.0 m.2) m.1))

-- what the ends rule out, no byte string between them meets
pub ruled_out_none : (p : Predicate (List ℕ)) (ends : Ends (List ℕ)) (v : List ℕ) → ruled_out p ends ≡ true → lies_in compare_bytes ends v ≡ true
    → present_meets bytes_tests p v ≡ false
ruled_out_none p none_present v h k = clash k refl
ruled_out_none (unary is_null) (low to high) v h k = refl
ruled_out_none (unary not_null) (low to high) v h k = clash h refl
ruled_out_none (unary is_nan) (low to high) v h k = refl
ruled_out_none (unary not_nan) (low to high) v h k = clash h refl
ruled_out_none (test (binary o l)) (low to high) v h k = none_binary low high v k o l h
ruled_out_none (test (set o ls)) (low to high) v h k = none_set low high v k o ls h

-- ---- by the ends alone

-- the table's line asks no more than what the ends themselves meet: every operator but Eq and StartsWith
abbrev pub asks_the_ends : Operator → Bool
asks_the_ends (none o) = true
asks_the_ends (one less_than) = true
asks_the_ends (one less_than_or_eq) = true
asks_the_ends (one greater_than) = true
asks_the_ends (one greater_than_or_eq) = true
asks_the_ends (one eq) = false
asks_the_ends (one not_eq) = true
asks_the_ends (one starts_with) = false
asks_the_ends (one not_starts_with) = true
asks_the_ends (many o) = true

-- where one test follows from the other, the other answers for both
first_answers : (a b : Bool) → (a ≡ true → b ≡ true) → a ≡ (a && b)
first_answers true b f = sym (f refl)
first_answers false b f = refl

second_answers : (a b : Bool) → (b ≡ true → a ≡ true) → b ≡ (a && b)
second_answers a b f = first_answers b a f ∙ and_comm b a

-- such an operator is ruled out where neither end meets it, as long as the highest is not below the lowest
module _ (low high l : List ℕ) (ordered : is_less (compare_bytes high low) ≡ false) where
  in_order : compare_bytes high low ≡ Less → ⊥
  in_order = (not_below _).0 (ap not ordered)

  pub by_neither_end : (o : Operator) → asks_the_ends o ≡ true
      → ruled_out_one o low high l ≡ (not (meets_one bytes_tests o low l) && not (meets_one bytes_tests o high l))
  by_neither_end (none o) h = refl
  by_neither_end (one less_than) h =
      first_answers _ _ (λ k. (not_below _).1 (at_most_both bytes_order l low high ((not_below _).0 k) in_order))
  by_neither_end (one less_than_or_eq) h =
      simp not_not (first_answers _ _ (λ k. ap is_less (less_at_most bytes_order l low high ((is_less_lem _).0 k) in_order)))
  by_neither_end (one greater_than) h =
      second_answers _ _ (λ k. (not_below _).1 (at_most_both bytes_order low high l in_order ((not_below _).0 k)))
  by_neither_end (one greater_than_or_eq) h =
      simp not_not (second_answers _ _ (λ k. ap is_less (at_most_less bytes_order low high l in_order ((is_less_lem _).0 k))))
  by_neither_end (one eq) h = clash h refl
  by_neither_end (one not_eq) h = simp not_not
  by_neither_end (one starts_with) h = clash h refl
  by_neither_end (one not_starts_with) h = simp not_not
  by_neither_end (many o) h = refl

-- ---- both ends are one literal: they are equal, and the lowest is a member
pub ends_equal : (low high : List ℕ) (ls : List (List ℕ)) → compare_bytes low high ≡ Equal → some (both_are low high) ls ≡ elem compare_bytes low ls
ends_equal low high ls e = rw (← bytes_order.equal low high e) (go ls)
  where
    go : (ls : List (List ℕ)) → some (both_are low low) ls ≡ elem compare_bytes low ls
    go [] = refl
    go (l ∷ ls) = ap₂ ◌||◌ (and_self (is_equal (compare_bytes low l))) (go ls)

pub ends_differ : (low high : List ℕ) (ls : List (List ℕ)) → is_equal (compare_bytes low high) ≡ false → some (both_are low high) ls ≡ false
ends_differ low high ls d = refuted _ (λ h. let m = (some_iff (both_are low high) ls).0 h in clash (same m.0 (and_both _ _ m.2)) d)
  where
    same : (l : List ℕ) → (is_equal (compare_bytes low l) ≡ true) × (is_equal (compare_bytes high l) ≡ true) → is_equal (compare_bytes low high) ≡ true
    same l both = rw ((is_same bytes_tests bytes_tells high l).0 both.1) both.0
