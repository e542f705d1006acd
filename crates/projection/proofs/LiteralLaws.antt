-- The literals that the steps put into a predicate: where they lie, and how many they are. Assumes nothing.
use Rattle.std.specs.Prelude.{ℕ, ◌*◌, ◌≤◌, List, [], ◌∷◌, ◌≡◌, leb, ℤ, pos, negsuc, length, ◌<ℤ◌, Ok}
use Rattle.std.proofs.Common.{arith, ap}
use Rattle.std.proofs.Math.IntN.{suc_ℤ, pred_ℤ}
use Rattle.values.specs.code.Places.{AllOf}
use Rattle.values.specs.laws.AscendingLaws.{all_ascending, length_ascending}
use Rattle.values.specs.laws.IntLaws.{ints}
use Rattle.values.specs.Order.{compare_numbers, compare_bytes}
use Rattle.values.specs.Outcomes.{Res, need, ◌>>◌}
use Rattle.values.specs.laws.OutcomeLaws.{each_length, each_all, passed}
use Rattle.values.specs.Types.{in_type, same_type}
use Rattle.values.specs.declared.datatypes.PrimitiveType.{PrimitiveType}
use Rattle.values.specs.declared.datatypes.PrimitiveType.TheVariants.{String}
use Rattle.values.specs.declared.error.ErrorKind.TheVariants.{Overflow}
use Rattle.std.specs.declared.cmp.Ordering.{Ordering}
use Rattle.values.specs.declared.transform.Transform.{Transform}
use Rattle.values.specs.declared.transform.Transform.TheVariants.{Identity}
use Rattle.partition.specs.code.PartitionAnswers.{InType}
use Rattle.expr.specs.Operators.{Binary, SetOperator, less_than, less_than_or_eq, greater_than, greater_than_or_eq, eq, not_eq, starts_with, not_starts_with, is_in, not_in}
use Rattle.expr.specs.Predicates.{Test, binary, set, Predicate, unary, test, literals_in}
use Rattle.expr.specs.laws.HoldsLaws.{opposite, opposite_literals}
use Rattle.projection.proofs.OppositeLaws.{older_is}
use Rattle.projection.specs.ByteSteps.{Step, by_length, string_starts, string_not_starts, binary_starts, binary_not_starts, inclusive_bytes, strict_bytes}
use Rattle.projection.specs.Lifting.{with_nexts, lift, older}
use Rattle.projection.specs.NumberSteps.{inclusive_number, strict_number}
use Rattle.projection.specs.Projection.{in_order, through, by_transform}
use Rattle.projection.specs.laws.ProjectionLaws.{Course, leaf_itself, stepped, course}
use Rattle.projection.specs.laws.StepLaws.{Returned, returned, returned_map, returned_literal, returned_each, returned_cond, returned_length}
use Rattle.projection.specs.Steps.{Projected, some, none, with_literal, with_each}
use Rattle.projection.specs.laws.LiteralLaws.{Landed}

-- ---- any kind of value

all_map : {A : Type 0} (g h : A → Type 0) → ((v : A) → g v → h v) → (xs : List A) → AllOf g xs → AllOf h xs
all_map g h k [] x = tt
all_map g h k (v ∷ xs) x = (k v x.0, all_map g h k xs x.1)

module _ {A : Type 0} (compare : A → A → Ordering) (h : A → Type 0) where
  one_lands : (o : Binary) (r : Res A) → ((t : A) → r ≡ Ok t → h t) → Returned (with_literal o r) (λ q. Landed h 1 (test q))
  one_lands o r k = returned_literal o r (λ q. Landed h 1 (test q)) (λ t e. record { all = (k t e, tt); count = omega arith })

  each_lands : (o : SetOperator) (T : A → Res A) (g : A → Type 0) → ((l t : A) → T l ≡ Ok t → g l → h t) → (ls : List A) → AllOf g ls
      → Returned (with_each compare o T ls) (λ q. Landed h (length ls) (test q))
  each_lands o T g k ls x =
      returned_each compare o T ls (λ q. Landed h (length ls) (test q)) (λ ts e. record {
        all = all_ascending compare h ts (each_all T g h k ls e x);
        count = omega (arith, length_ascending compare ts, each_length T ls e);
      })

  in_order_lands : (leaf : Predicate A) → AllOf h (literals_in leaf) → Landed h (length (literals_in leaf)) (in_order compare leaf)
  in_order_lands (unary o) x = record { all = tt; count = omega arith }
  in_order_lands (test (binary o l)) x = record { all = x; count = omega arith }
  in_order_lands (test (set o ls)) x = record { all = all_ascending compare h ls x; count = length_ascending compare ls }

  -- a projection lands where its steps do, at most so many literals for n of the leaf
  module _ (step : Test A → Res (Projected (Test A))) (transform : Transform) (g : A → Type 0) (most : ℕ → ℕ) (enough : (n : ℕ) → n ≤ most n)
      (itself : transform ≡ Identity → (v : A) → g v → h v)
      (steps : (y : Test A) → AllOf g (literals_in (test y)) → Returned (step y) (λ q. Landed h (most (length (literals_in (test y)))) (test q))) where
    through_lands : (leaf : Predicate A) → AllOf g (literals_in leaf) → Returned (through step leaf) (Landed h (most (length (literals_in leaf))))
    through_lands (unary o) all = record { all = tt; count = omega arith }
    through_lands (test y) all =
        returned_map
        test
        (step y)
        (λ q. Landed h (most (length (literals_in (test y)))) (test q))
        (Landed h (most (length (literals_in (test y)))))
        (λ q k. k)
        (steps y all)

    course_lands : (leaf x : Predicate A) → AllOf g (literals_in leaf) → Course compare step transform leaf x
        → Landed h (most (length (literals_in leaf))) x
    course_lands leaf x all (leaf_itself t e) =
        let k = in_order_lands leaf (all_map g h (itself t) (literals_in leaf) all) in
        rw e (record { all = k.all; count = omega (arith, k.count, enough (length (literals_in leaf))) })
    course_lands leaf x all (stepped t e) = returned (through step leaf) (Landed h (most (length (literals_in leaf)))) (through_lands leaf all) e

    pub lands : (leaf x : Predicate A) → AllOf g (literals_in leaf) → by_transform compare step transform leaf ≡ Ok (some x)
        → Landed h (most (length (literals_in leaf))) x
    lands leaf x all e = course_lands leaf x all (course compare step transform leaf x e).1

-- ---- numbers

-- lifting adds to negative literals the next number
module _ (h : ℤ → Type 0) (next : (z : ℤ) → z <ℤ pos 0 → h z → h (suc_ℤ z)) where
  nexts_all : (ts : List ℤ) → AllOf h ts → AllOf h (with_nexts ts)
  nexts_all [] x = tt
  nexts_all (pos n ∷ ts) x = (x.0, nexts_all ts x.1)
  nexts_all (negsuc n ∷ ts) x = (x.0, (next (negsuc n) (omega ints) x.0, nexts_all ts x.1))

  nexts_count : (ts : List ℤ) → length (with_nexts ts) ≤ 2 * length ts
  nexts_count [] = omega arith
  nexts_count (pos n ∷ ts) = omega (arith, nexts_count ts)
  nexts_count (negsuc n ∷ ts) = omega (arith, nexts_count ts)

  pub lift_lands : (n : ℕ) (q : Test ℤ) → Landed h n (test q) → Landed h (2 * n) (test (lift q))
  lift_lands n (binary less_than t) k = record { all = k.all; count = omega (arith, k.count) }
  lift_lands n (binary less_than_or_eq (pos m)) k = record { all = k.all; count = omega (arith, k.count) }
  lift_lands n (binary less_than_or_eq (negsuc m)) k = record { all = (next (negsuc m) (omega ints) k.all.0, tt); count = omega (arith, k.count) }
  lift_lands n (binary greater_than t) k = record { all = k.all; count = omega (arith, k.count) }
  lift_lands n (binary greater_than_or_eq t) k = record { all = k.all; count = omega (arith, k.count) }
  lift_lands n (binary eq (pos m)) k = record { all = k.all; count = omega (arith, k.count) }
  lift_lands n (binary eq (negsuc m)) k = record { all = nexts_all (negsuc m ∷ []) k.all; count = omega (arith, k.count) }
  lift_lands n (binary not_eq t) k = record { all = k.all; count = omega (arith, k.count) }
  lift_lands n (binary starts_with t) k = record { all = k.all; count = omega (arith, k.count) }
  lift_lands n (binary not_starts_with t) k = record { all = k.all; count = omega (arith, k.count) }
  lift_lands n (set is_in ts) k = record {
    all = all_ascending compare_numbers h (with_nexts ts) (nexts_all ts k.all);
    count = omega (arith, length_ascending compare_numbers (with_nexts ts), nexts_count ts, k.count);
  }
  lift_lands n (set not_in ts) k = record { all = k.all; count = omega (arith, k.count) }

  same_literals : (n : ℕ) (x y : Test ℤ) → literals_in (test y) ≡ literals_in (test x) → Landed h n (test x) → Landed h n (test y)
  same_literals n x y e k = record { all = rw e k.all; count = omega (arith, ap length e, k.count) }

  pub older_lands : (n : ℕ) (q : Test ℤ) → Landed h n (test q) → Landed h (2 * n) (test (older q))
  older_lands n q k =
      let a = lift_lands n (opposite q) (same_literals n q (opposite q) (opposite_literals q) k) in
      rw (older_is q) (same_literals (2 * n) (lift (opposite q)) (opposite (lift (opposite q))) (opposite_literals (lift (opposite q))) a)

module _ (column : PrimitiveType) (T : ℤ → Res ℤ) (h : ℤ → Type 0) (gives : (l t : ℤ) → T l ≡ Ok t → InType column l → h t) where
  number : (o : Binary) (l : ℤ) → InType column l → Returned (with_literal o (T l)) (λ q. Landed h 1 (test q))
  number o l x = one_lands compare_numbers h o (T l) (λ t e. gives l t e x)

  -- L−1 or L+1
  gated : (o : Binary) (l : ℤ) → Returned (with_literal o (need (in_type column l) Overflow >> T l)) (λ q. Landed h 1 (test q))
  gated o l = one_lands compare_numbers h o _ (λ t e. let a = passed (in_type column l) Overflow _ e in gives l t a.1 a.0)

  numbers : (o : SetOperator) (ls : List ℤ) → AllOf (InType column) ls → Returned (with_each compare_numbers o T ls) (λ q. Landed h (length ls) (test q))
  numbers o ls x = each_lands compare_numbers h o T (InType column) gives ls x

  pub inclusive_numbers : (y : Test ℤ) → AllOf (InType column) (literals_in (test y))
      → Returned (inclusive_number column T y) (λ q. Landed h (length (literals_in (test y))) (test q))
  inclusive_numbers (binary less_than l) x = gated less_than_or_eq (pred_ℤ l)
  inclusive_numbers (binary less_than_or_eq l) x = number less_than_or_eq l x.0
  inclusive_numbers (binary greater_than l) x = gated greater_than_or_eq (suc_ℤ l)
  inclusive_numbers (binary greater_than_or_eq l) x = number greater_than_or_eq l x.0
  inclusive_numbers (binary eq l) x = number eq l x.0
  inclusive_numbers (binary not_eq l) x = tt
  inclusive_numbers (binary starts_with l) x = number starts_with l x.0
  inclusive_numbers (binary not_starts_with l) x = number not_starts_with l x.0
  inclusive_numbers (set is_in ls) x = numbers is_in ls x
  inclusive_numbers (set not_in ls) x = tt

  pub strict_numbers : (y : Test ℤ) → AllOf (InType column) (literals_in (test y))
      → Returned (strict_number column T y) (λ q. Landed h (length (literals_in (test y))) (test q))
  strict_numbers (binary less_than l) x = number less_than l x.0
  strict_numbers (binary less_than_or_eq l) x = gated less_than (suc_ℤ l)
  strict_numbers (binary greater_than l) x = number greater_than l x.0
  strict_numbers (binary greater_than_or_eq l) x = gated greater_than (pred_ℤ l)
  strict_numbers (binary eq l) x = tt
  strict_numbers (binary not_eq l) x = number not_eq l x.0
  strict_numbers (binary starts_with l) x = tt
  strict_numbers (binary not_starts_with l) x = tt
  strict_numbers (set is_in ls) x = tt
  strict_numbers (set not_in ls) x = numbers not_in ls x

-- ---- strings and binaries: a literal stays, or T(L) is put for it
module _ (T : List ℕ → Res (List ℕ)) (count : List ℕ → ℕ) (w : ℕ) (g h : List ℕ → Type 0)
    (gives : (l t : List ℕ) → T l ≡ Ok t → g l → h t) (keeps : (l : List ℕ) → g l → h l) where
  changed : (o : Binary) (l : List ℕ) → g l → Returned (with_literal o (T l)) (λ q. Landed h 1 (test q))
  changed o l x = one_lands compare_bytes h o (T l) (λ t e. gives l t e x)

  kept : (o : Binary) (l : List ℕ) → g l → Landed h 1 (test (binary o l))
  kept o l x = record { all = (keeps l x, tt); count = omega arith }

  byte_sets : (o : SetOperator) (ls : List (List ℕ)) → AllOf g ls → Returned (with_each compare_bytes o T ls) (λ q. Landed h (length ls) (test q))
  byte_sets o ls x = each_lands compare_bytes h o T g gives ls x

  starts : (o p : Binary) (l : List ℕ) (long : Step) → g l → Returned long (λ q. Landed h 1 (test q))
      → Returned (by_length (count l) w (some (binary o l)) (some (binary p l)) long) (λ q. Landed h 1 (test q))
  starts o p l long x c =
      returned_length (count l) w (some (binary o l)) (some (binary p l)) long (λ q. Landed h 1 (test q)) (λ d. kept o l x) (λ d. kept p l x) (λ d. c)

  pub inclusive_bytes_lem : (column : PrimitiveType) (y : Test (List ℕ)) → AllOf g (literals_in (test y))
      → Returned (inclusive_bytes column T count w y) (λ q. Landed h (length (literals_in (test y))) (test q))
  inclusive_bytes_lem column (binary less_than l) x = changed less_than_or_eq l x.0
  inclusive_bytes_lem column (binary less_than_or_eq l) x = changed less_than_or_eq l x.0
  inclusive_bytes_lem column (binary greater_than l) x = changed greater_than_or_eq l x.0
  inclusive_bytes_lem column (binary greater_than_or_eq l) x = changed greater_than_or_eq l x.0
  inclusive_bytes_lem column (binary eq l) x = changed eq l x.0
  inclusive_bytes_lem column (binary not_eq l) x = tt
  inclusive_bytes_lem column (binary starts_with l) x =
      returned_cond (same_type column String) (string_starts T count w l) (binary_starts T l) (λ q. Landed h 1 (test q))
      (starts eq starts_with l (with_literal starts_with (T l)) x.0 (changed starts_with l x.0))
      (changed starts_with l x.0)
  inclusive_bytes_lem column (binary not_starts_with l) x =
      returned_cond (same_type column String) (string_not_starts T count w l) (binary_not_starts T count w l) (λ q. Landed h 1 (test q))
      (starts not_eq not_starts_with l (Ok none) x.0 tt)
      (returned_cond (leb (count l) w) (with_literal not_starts_with (T l)) (Ok none) (λ q. Landed h 1 (test q)) (changed not_starts_with l x.0) tt)
  inclusive_bytes_lem column (set is_in ls) x = byte_sets is_in ls x
  inclusive_bytes_lem column (set not_in ls) x = tt

  pub strict_bytes_lem : (y : Test (List ℕ)) → AllOf g (literals_in (test y))
      → Returned (strict_bytes T count w y) (λ q. Landed h (length (literals_in (test y))) (test q))
  strict_bytes_lem (binary less_than l) x = changed less_than l x.0
  strict_bytes_lem (binary less_than_or_eq l) x = changed less_than l x.0
  strict_bytes_lem (binary greater_than l) x = changed greater_than l x.0
  strict_bytes_lem (binary greater_than_or_eq l) x = changed greater_than l x.0
  strict_bytes_lem (binary eq l) x = tt
  strict_bytes_lem (binary not_eq l) x = changed not_eq l x.0
  strict_bytes_lem (binary starts_with l) x = starts eq starts_with l (Ok none) x.0 tt
  strict_bytes_lem (binary not_starts_with l) x = starts not_eq not_starts_with l (with_literal not_starts_with (T l)) x.0 (changed not_starts_with l x.0)
  strict_bytes_lem (set is_in ls) x = tt
  strict_bytes_lem (set not_in ls) x = byte_sets not_in ls x
