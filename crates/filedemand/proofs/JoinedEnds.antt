-- The joined ends of two files: each file is narrower, and they are in order where both files' are. Assumes nothing.
use Prim.Native.Nat.{ℕ}
use mathlib.Core.Bool.{Bool, true, false, not, ◌||◌}
use mathlib.Core.List.{List}
use mathlib.Core.Path.{◌≡◌, refl, ap}
use Rattle.values.specs.Order.{compare_numbers, compare_bytes, is_less}
use Rattle.values.specs.Outcomes.{Row, missing, present}
use Rattle.values.specs.laws.OrderLaws.{TotalOrder, is_less_lem, not_below, irreflexive, asymmetric, at_most_both, number_order, bytes_order}
use Rattle.values.specs.laws.TestLaws.{clash, or_left, or_right, and_both, both_and}
use Rattle.values.specs.Types.{Layout, number, bytes, layout}
use Rattle.values.specs.declared.datatypes.PrimitiveType.{PrimitiveType}
use Rattle.std.specs.declared.cmp.Ordering.{Ordering}
use Rattle.sheet.specs.Values.{number_of, by_layout}
use Rattle.summary.specs.EndValues.{compare_in, ordered, lies_in, may_hold}
use Rattle.summary.specs.Summaries.{Ends, none_present, ◌to◌}
use Rattle.pool.specs.Pooling.{of, second_where}
use Rattle.pool.specs.laws.PoolLaws.{joined_ends}

-- ---- a narrower file: what it may hold, the wider one may hold too
module _ {A : Type 0} (compare : A → A → Ordering) where
  abbrev pub Narrower : Ends A → Bool → Ends A → Bool → Type 0
  Narrower narrow n wide w = (row : Row A) → may_hold compare narrow n row ≡ true → may_hold compare wide w row ≡ true

-- ---- comparisons that sort, and need not tell different contents from equal ones
module _ {A : Type 0} (compare : A → A → Ordering) where
  -- a is at most b
  abbrev AtMost : A → A → Type 0
  AtMost a b = not (is_less (compare b a)) ≡ true

  pub record Sorts : Type 0 where
    itself : (a : A) → AtMost a a
    pub below : (a b : A) → is_less (compare a b) ≡ true → AtMost a b
    through : (a b c : A) → AtMost a b → AtMost b c → AtMost a c

-- values in a total order sort what stands for them
by_values : {A B : Type 0} {compare : B → B → Ordering} → TotalOrder compare → (f : A → B) → Sorts (λ a b. compare (f a) (f b))
by_values order f = record {
  itself = λ a. (not_below _).1 (irreflexive order (f a));
  below = λ a b h. (not_below _).1 (asymmetric order (f a) (f b) ((is_less_lem _).0 h));
  through = λ a b c h k. (not_below _).1 (at_most_both order (f a) (f b) (f c) ((not_below _).0 h) ((not_below _).0 k));
}

pub column_sorts : (column : PrimitiveType) → Sorts (compare_in column)
column_sorts column = go (layout column)
  where
    go : (l : Layout) → Sorts (λ (a : List ℕ) (b : List ℕ). by_layout l (λ n. compare_numbers (number_of n a) (number_of n b)) (compare_bytes a b))
    go (number n) = by_values number_order (number_of n)
    go (bytes n) = by_values bytes_order (λ v. v)

-- ---- the joined ends
chosen : {A : Type 0} (P : A → Type 0) (b : Bool) {x y : A} → (b ≡ false → P x) → (b ≡ true → P y) → P (of (second_where b) x y)
chosen P true first second = second refl
chosen P false first second = first refl

module _ {A : Type 0} {compare : A → A → Ordering} (sorts : Sorts compare) where
  abbrev lower : A → A → A
  lower l m = of (second_where (is_less (compare m l))) l m

  abbrev higher : A → A → A
  higher h k = of (second_where (is_less (compare h k))) h k

  lower_first : (l m : A) → AtMost compare (lower l m) l
  lower_first l m = chosen (λ e. AtMost compare e l) (is_less (compare m l)) (λ _. sorts.itself l) (sorts.below m l)

  lower_second : (l m : A) → AtMost compare (lower l m) m
  lower_second l m = chosen (λ e. AtMost compare e m) (is_less (compare m l)) (ap not) (λ _. sorts.itself m)

  higher_first : (h k : A) → AtMost compare h (higher h k)
  higher_first h k = chosen (λ e. AtMost compare h e) (is_less (compare h k)) (λ _. sorts.itself h) (sorts.below h k)

  higher_second : (h k : A) → AtMost compare k (higher h k)
  higher_second h k = chosen (λ e. AtMost compare k e) (is_less (compare h k)) (ap not) (λ _. sorts.itself k)

  -- what lies between two ends lies between wider ones
  wider : (l h m k v : A) → AtMost compare m l → AtMost compare h k → lies_in compare (l to h) v ≡ true → lies_in compare (m to k) v ≡ true
  wider l h m k v low high e = let b = and_both _ _ e in both_and (sorts.through m l v low b.0) (sorts.through v h k b.1 high)

  in_first : (x y : Ends A) (v : A) → lies_in compare x v ≡ true → lies_in compare (joined_ends compare x y) v ≡ true
  in_first x none_present v e = e
  in_first none_present (m to k) v e = clash e refl
  in_first (l to h) (m to k) v e = wider l h (lower l m) (higher h k) v (lower_first l m) (higher_first h k) e

  in_second : (x y : Ends A) (v : A) → lies_in compare y v ≡ true → lies_in compare (joined_ends compare x y) v ≡ true
  in_second x none_present v e = clash e refl
  in_second none_present (m to k) v e = e
  in_second (l to h) (m to k) v e = wider m k (lower l m) (higher h k) v (lower_second l m) (higher_second h k) e

  -- each file is narrower than the pooled one
  module _ (x y : Ends A) (m n : Bool) where
    pub first_narrower : Narrower compare x m (joined_ends compare x y) (m || n)
    first_narrower missing e = or_left n e
    first_narrower (present v) e = in_first x y v e

    pub second_narrower : Narrower compare y n (joined_ends compare x y) (m || n)
    second_narrower missing e = or_right m e
    second_narrower (present v) e = in_second x y v e

  pub joined_ordered : (x y : Ends A) → ordered compare x ≡ true → ordered compare y ≡ true → ordered compare (joined_ends compare x y) ≡ true
  joined_ordered x none_present a b = a
  joined_ordered none_present (m to k) a b = b
  joined_ordered (l to h) (m to k) a b =
      sorts.through (lower l m) l (higher h k) (lower_first l m) (sorts.through l h (higher h k) a (higher_first h k))
