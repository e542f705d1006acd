-- Names that stand apart, and the place of a name among others. Assumes nothing.
use Rattle.std.specs.Prelude.{ℕ, ◌+◌, Bool, true, false, not, cond, ◌&&◌, ◌||◌, List, [], ◌∷◌, ◌++◌, map, ◌≡◌, refl, nat_eq, is_some, Some}
use Rattle.std.specs.Cmp.Lexicographic.{pointwise}
use Rattle.std.specs.List.{position_from, position}
use Rattle.std.proofs.lemmas.Iterator.Adapters.{position_from-zero}
use Rattle.std.proofs.Common.{sym, ap, ◌∙◌}
use Rattle.std.proofs.lemmas.Slice.Eq.{bytes_eq-Decides}
use Rattle.values.specs.Ascending.{elem}
use Rattle.values.specs.Order.{compare_bytes, is_equal}
use Rattle.values.specs.code.Places.{flip}
use Rattle.values.specs.laws.AscendingLaws.{elem_append}
use Rattle.values.specs.laws.OrderLaws.{is_equal_lem, same_equal, bytes_order}
use Rattle.values.specs.laws.TestLaws.{same_test}
use Rattle.std.specs.declared.cmp.Ordering.{Ordering}
use Rattle.std.specs.declared.cmp.Ordering.TheVariants.{Less, Equal, Greater}
use Rattle.columns.specs.Columns.{names_apart}
use Rattle.columns.specs.code.ColumnAnswers.{place_among}

same_either_way : (a b : List ℕ) → is_equal (compare_bytes a b) ≡ is_equal (compare_bytes b a)
same_either_way a b = sym (ap is_equal (bytes_order.flips a b) ∙ turned (compare_bytes a b))
  where
    turned : (o : Ordering) → is_equal (flip o) ≡ is_equal o
    turned Less = refl
    turned Equal = refl
    turned Greater = refl

pub apart_last : (ns : List (List ℕ)) (n : List ℕ) → names_apart (ns ++ (n ∷ [])) ≡ (names_apart ns && not (elem compare_bytes n ns))
apart_last [] n = refl
apart_last (m ∷ ns) n =
    rw (elem_append compare_bytes m ns (n ∷ []), apart_last ns n, same_either_way m n)
    (tests (is_equal (compare_bytes n m)) (elem compare_bytes m ns) (elem compare_bytes n ns) (names_apart ns))
  where
    tests : (a b d e : Bool) → (not (b || (a || false)) && (e && not d)) ≡ (not b && e && not (a || d))
    tests true true d e = refl
    tests false true d e = refl
    tests false false d e = refl
    tests true false d true = refl
    tests true false d false = refl

-- a name stands among others where it has a place
pub place_elem : (name : List ℕ) (ns : List (List ℕ)) → is_some (place_among name ns) ≡ elem compare_bytes name ns
place_elem name ns = from 0 ns
  where
    from : (k : ℕ) (ns : List (List ℕ)) → is_some (position_from (λ n. is_equal (compare_bytes name n)) k ns) ≡ elem compare_bytes name ns
    from k [] = refl
    from k (n ∷ ns) = go (is_equal (compare_bytes name n)) (from (k + 1) ns)
      where
        go : (t : Bool) → is_some (position_from (λ n. is_equal (compare_bytes name n)) (k + 1) ns) ≡ elem compare_bytes name ns
            → is_some (cond t (Some k) (position_from (λ n. is_equal (compare_bytes name n)) (k + 1) ns)) ≡ (t || elem compare_bytes name ns)
        go true e = refl
        go false e = e

-- two byte strings with the same bytes
pub same_bytes : (a b : List ℕ) → pointwise nat_eq a b ≡ is_equal (compare_bytes a b)
same_bytes a b = same_test _ _ (λ e. (is_equal_lem _).1 (same_equal bytes_order a b ((bytes_eq-Decides a b).0 e)))
    (λ e. (bytes_eq-Decides a b).1 (bytes_order.equal a b ((is_equal_lem _).0 e)))

pub same_word : (a b : List ℕ) → pointwise nat_eq b a ≡ is_equal (compare_bytes a b)
same_word a b = same_bytes b a ∙ same_either_way b a

-- the place of a name among those of some values
pub place_mapped : {A : Type 0} (name : List ℕ) (name_of : A → List ℕ) (xs : List A)
    → position (λ x. is_equal (compare_bytes name (name_of x))) xs ≡ place_among name (map name_of xs)
place_mapped {A} name name_of xs = position_from-zero (λ x. is_equal (compare_bytes name (name_of x))) xs ∙ from 0 xs
  where
    from : (k : ℕ) (xs : List A) → position_from (λ x. is_equal (compare_bytes name (name_of x))) k xs
        ≡ position_from (λ n. is_equal (compare_bytes name n)) k (map name_of xs)
    from k [] = refl
    from k (x ∷ xs) = rw (from (k + 1) xs)
