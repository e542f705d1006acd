-- The steps for strings and binaries lose no row, whatever cuts them: what is left is a beginning and keeps the order. Assumes nothing.
use Rattle.std.specs.Prelude.{ℕ, Bool, true, false, not, cond, List, ◌≡◌, refl, ltb, leb, Ok}
use Rattle.std.proofs.Common.{arith, sym, ap, ◌∙◌, ltb-true, ltb-false, leb-true}
use Rattle.std.proofs.lemmas.Bool.{not-true}
use Rattle.values.specs.code.Places.{AllOf}
use Rattle.values.specs.Order as order
use Rattle.values.specs.Order.{compare_bytes}
use Rattle.values.specs.laws.OrderLaws.{is_less_lem, not_below, asymmetric, bytes_order}
use Rattle.values.specs.laws.PrefixLaws.{starts_self, starts_through}
use Rattle.values.specs.Outcomes.{Res, ◌>>=◌}
use Rattle.values.specs.laws.OutcomeLaws.{ok_inj}
use Rattle.values.specs.laws.TestLaws.{stable, refuted, clash}
use Rattle.values.specs.Types.{same_type}
use Rattle.values.specs.declared.datatypes.PrimitiveType.{PrimitiveType}
use Rattle.values.specs.declared.datatypes.PrimitiveType.TheVariants.{String}
use Rattle.std.specs.declared.cmp.Ordering.TheVariants.{Less}
use Rattle.transform.specs.laws.Cutting.{Cutting}
use Rattle.expr.specs.Holds.{bytes_tests, meets}
use Rattle.expr.specs.laws.EqualityLaws.{bytes_tells, is_same}
use Rattle.expr.specs.laws.HoldsLaws.{opposite, meets_false, opposite_true}
use Rattle.expr.specs.Operators.{less_than, less_than_or_eq, greater_than, greater_than_or_eq, eq, not_eq, starts_with, not_starts_with, is_in, not_in}
use Rattle.expr.specs.Predicates.{Test, binary, set, test, literals_in}
use Rattle.projection.specs.ByteSteps.{Step, string_starts, string_not_starts, binary_starts, binary_not_starts, inclusive_bytes, strict_bytes}
use Rattle.projection.specs.laws.EqualLaws.{Equals, eq_equals, in_equals}
use Rattle.projection.specs.laws.StepLaws.{Returned, returned_map, returned_weaken, returned_literal, returned_cond, returned_length, opposite_literal, opposite_each, opposite_length}
use Rattle.projection.specs.Steps.{Projected, some, none, mapped, with_literal, with_each}

-- ---- T cuts
module _ {Fine : List ℕ → Type 0} {count : List ℕ → ℕ} {w : ℕ} {cut : List ℕ → List ℕ} (cutting : Cutting Fine count w cut) (T : List ℕ → Res (List ℕ))
    (gives : (s : List ℕ) → T s ≡ Ok (cut s)) where
  -- what is to be shown of a partition value: of an inclusive test q, and of a strict one
  abbrev pub Follows : Test (List ℕ) → Test (List ℕ) → Type 0
  Follows x q = (v : List ℕ) → Fine v → meets bytes_tests x v ≡ true → meets bytes_tests q (cut v) ≡ true

  abbrev pub Leads : Test (List ℕ) → Test (List ℕ) → Type 0
  Leads x q = (v : List ℕ) → Fine v → meets bytes_tests q (cut v) ≡ true → meets bytes_tests x v ≡ true

  cut_is : (l t : List ℕ) → T l ≡ Ok t → t ≡ cut l
  cut_is l t e = ok_inj (sym e ∙ gives l)

  -- a fine literal, under an operator
  module _ (l : List ℕ) (fine : Fine l) where
    at_most : (x : Test (List ℕ)) → ((v : List ℕ) → meets bytes_tests x v ≡ true → compare_bytes l v ≡ Less → ⊥)
        → Returned (with_literal less_than_or_eq (T l)) (Follows x)
    at_most x is =
        returned_literal less_than_or_eq (T l) (Follows x) (λ t e v u m. rw (cut_is l t e) ((not_below _).1 (cutting.monotone v l u fine (is v m))))

    at_least : (x : Test (List ℕ)) → ((v : List ℕ) → meets bytes_tests x v ≡ true → compare_bytes v l ≡ Less → ⊥)
        → Returned (with_literal greater_than_or_eq (T l)) (Follows x)
    at_least x is =
        returned_literal greater_than_or_eq (T l) (Follows x) (λ t e v u m. rw (cut_is l t e) ((not_below _).1 (cutting.monotone l v fine u (is v m))))

    -- what v begins with, it begins with once both are cut
    starts_cut : (v : List ℕ) → Fine v → order.starts_with v l ≡ true → order.starts_with (cut v) (cut l) ≡ true
    starts_cut v u m = go (ltb (count l) w) refl
      where
        go : (b : Bool) → ltb (count l) w ≡ b → order.starts_with (cut v) (cut l) ≡ true
        go true e = let n = ltb-true (count l) w e in rw (cutting.whole l (omega arith)) (cutting.short l v fine u (omega arith) m)
        go false e = let n = ltb-false (count l) w e in rw (cutting.long l v fine u n m) (starts_self (cut l))

    -- what v does not begin with, its beginning does not either
    starts_not : (v : List ℕ) → not (order.starts_with v l) ≡ true → not (order.starts_with (cut v) l) ≡ true
    starts_not v m = ap not (refuted _ (λ z. clash (starts_through v (cut v) l (cutting.prefix v) z) (not-true _ m)))

    binary_starts_follows : Returned (binary_starts T l) (Follows (binary starts_with l))
    binary_starts_follows = returned_literal starts_with (T l) (Follows (binary starts_with l)) (λ t e v u m. rw (cut_is l t e) (starts_cut v u m))

    string_starts_follows : Returned (string_starts T count w l) (Follows (binary starts_with l))
    string_starts_follows =
        returned_length
        (count l)
        w
        (some (binary eq l))
        (some (binary starts_with l))
        (with_literal starts_with (T l))
        (Follows (binary starts_with l))
        (λ d v u m. (is_same bytes_tests bytes_tells (cut v) l).1 (cutting.long l v fine u (omega (arith, d)) m ∙ cutting.whole l (omega (arith, d))))
        (λ d v u m. cutting.short l v fine u (omega arith) m)
        (λ d. binary_starts_follows)

    string_not_starts_follows : Returned (string_not_starts T count w l) (Follows (binary not_starts_with l))
    string_not_starts_follows =
        returned_length
        (count l)
        w
        (some (binary not_eq l))
        (some (binary not_starts_with l))
        (Ok none)
        (Follows (binary not_starts_with l))
        (λ d v u m. ap not (refuted _ (λ z. clash (rw ((is_same bytes_tests bytes_tells (cut v) l).0 z) at (cutting.prefix v)) (not-true _ m))))
        (λ d v u m. starts_not v m)
        (λ d. tt)

    binary_not_starts_follows : Returned (binary_not_starts T count w l) (Follows (binary not_starts_with l))
    binary_not_starts_follows = go (leb (count l) w) refl
      where
        go : (b : Bool) → leb (count l) w ≡ b → Returned (cond b (with_literal not_starts_with (T l)) (Ok none)) (Follows (binary not_starts_with l))
        go true d =
            returned_literal
            not_starts_with
            (T l)
            (Follows (binary not_starts_with l))
            (λ t e v u m. rw (cut_is l t e, cutting.whole l (leb-true (count l) w d)) (starts_not v m))
        go false d = tt

  -- Eq and In ask nothing of the cutting
  equals_follow : (x : Test (List ℕ)) (r : Res (Projected (Test (List ℕ)))) → Returned r (Equals bytes_tests bytes_tests bytes_tells bytes_tells T x) → Returned r (Follows x)
  equals_follow x r s = returned_weaken r _ (Follows x) (λ q k v u m. k.kept v (cut v) (gives v) m) s

  -- ---- inclusive
  pub follows : (column : PrimitiveType) (x : Test (List ℕ)) → AllOf Fine (literals_in (test x)) → Returned (inclusive_bytes column T count w x) (Follows x)
  follows column (binary less_than l) fine = at_most l fine.0 (binary less_than l) (λ v m. asymmetric bytes_order v l ((is_less_lem _).0 m))
  follows column (binary less_than_or_eq l) fine = at_most l fine.0 (binary less_than_or_eq l) (λ v m. (not_below _).0 m)
  follows column (binary greater_than l) fine = at_least l fine.0 (binary greater_than l) (λ v m. asymmetric bytes_order l v ((is_less_lem _).0 m))
  follows column (binary greater_than_or_eq l) fine = at_least l fine.0 (binary greater_than_or_eq l) (λ v m. (not_below _).0 m)
  follows column (binary eq l) fine = equals_follow (binary eq l) (with_literal eq (T l)) (eq_equals bytes_tests bytes_tests bytes_tells bytes_tells T l)
  follows column (binary not_eq l) fine = tt
  follows column (binary starts_with l) fine =
      returned_cond (same_type column String) (string_starts T count w l) (binary_starts T l) (Follows (binary starts_with l))
      (string_starts_follows l fine.0)
      (binary_starts_follows l fine.0)
  follows column (binary not_starts_with l) fine =
      returned_cond (same_type column String) (string_not_starts T count w l) (binary_not_starts T count w l) (Follows (binary not_starts_with l))
      (string_not_starts_follows l fine.0)
      (binary_not_starts_follows l fine.0)
  follows column (set is_in ls) fine = equals_follow (set is_in ls) (with_each compare_bytes is_in T ls) (in_equals bytes_tests bytes_tests bytes_tells bytes_tells T ls)
  follows column (set not_in ls) fine = tt

  -- ---- strict: the opposite of the inclusive answer that a String has to the opposite question. A Binary's own has another operator at n = w
  abbrev as_string : Test (List ℕ) → Step
  as_string x = inclusive_bytes String T count w x

  leads_opposite : (x q : Test (List ℕ)) → Follows (opposite x) q → Leads x (opposite q)
  leads_opposite x q k v u m =
      stable _ (λ z. clash (k v u (opposite_true bytes_tests x v z)) (meets_false bytes_tests q (cut v) m))

  by_opposite : (x : Test (List ℕ)) → AllOf Fine (literals_in (test (opposite x)))
      → Returned (as_string (opposite x) >>= λ q. Ok (mapped opposite q)) (Leads x)
  by_opposite x fine =
      returned_map opposite (as_string (opposite x)) (Follows (opposite x)) (Leads x) (leads_opposite x) (follows String (opposite x) fine)

  pub leads : (x : Test (List ℕ)) → AllOf Fine (literals_in (test x)) → Returned (strict_bytes T count w x) (Leads x)
  leads (binary less_than l) fine = rw (opposite_literal greater_than_or_eq (T l)) at (by_opposite (binary less_than l) fine)
  leads (binary less_than_or_eq l) fine = rw (opposite_literal greater_than_or_eq (T l)) at (by_opposite (binary less_than_or_eq l) fine)
  leads (binary greater_than l) fine = rw (opposite_literal less_than_or_eq (T l)) at (by_opposite (binary greater_than l) fine)
  leads (binary greater_than_or_eq l) fine = rw (opposite_literal less_than_or_eq (T l)) at (by_opposite (binary greater_than_or_eq l) fine)
  leads (binary eq l) fine = tt
  leads (binary not_eq l) fine = rw (opposite_literal eq (T l)) at (by_opposite (binary not_eq l) fine)
  leads (binary starts_with l) fine =
      rw (opposite_length (count l) w (some (binary not_eq l)) (some (binary not_starts_with l)) (Ok none)) at (by_opposite (binary starts_with l) fine)
  leads (binary not_starts_with l) fine =
      rw (opposite_length (count l) w (some (binary eq l)) (some (binary starts_with l)) (with_literal starts_with (T l)), opposite_literal starts_with (T l))
      at (by_opposite (binary not_starts_with l) fine)
  leads (set is_in ls) fine = tt
  leads (set not_in ls) fine = rw (opposite_each compare_bytes is_in T ls) at (by_opposite (set not_in ls) fine)
