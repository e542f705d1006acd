-- Eq and In of values of any kind whose comparison tells equal values from others. No order is asked. Assumes nothing.
use Rattle.std.specs.Prelude.{true, ◌↔◌, ◌≡◌}
use mathlib.Core.List.{List, Memᴰ as Isin}
use Rattle.std.proofs.Common.{sym, ap, ◌∙◌}
use Rattle.values.specs.Ascending.{ascending}
use Rattle.values.specs.laws.AscendingLaws.{elem_iff, elem_ascending}
use Rattle.values.specs.laws.OrderLaws.{is_equal_lem, number_order, bytes_order}
use Rattle.std.specs.declared.cmp.Ordering.TheVariants.{Equal}
use Rattle.expr.specs.Holds.{Tests, number_tests, bytes_tests, meets}
use Rattle.expr.specs.Operators.{eq, is_in}
use Rattle.expr.specs.Predicates.{binary, set}

pub record Tells {A : Type 0} (by : Tests A) : Type 0 where
  pub equal : (a b : A) → by.compare a b ≡ Equal → a ≡ b
  pub self : (a : A) → by.compare a a ≡ Equal

pub number_tells : Tells number_tests
number_tells = record { equal = number_order.equal; self = number_order.self }

pub bytes_tells : Tells bytes_tests
bytes_tells = record { equal = bytes_order.equal; self = bytes_order.self }

module _ {A : Type 0} (by : Tests A) (tells : Tells by) where
  pub is_same : (v l : A) → (meets by (binary eq l) v ≡ true) ↔ (v ≡ l)
  is_same v l = (
    λ h. tells.equal v l ((is_equal_lem (by.compare v l)).0 h),
    λ e. (is_equal_lem (by.compare v l)).1 (ap (by.compare v) (sym e) ∙ tells.self v),
  )

  pub is_member : (v : A) (ls : List A) → (meets by (set is_in ls) v ≡ true) ↔ Isin v ls
  is_member v ls = elem_iff by.compare tells.equal tells.self v ls

  -- the order of the literals, and repeats, change nothing
  pub is_ascending_member : (v : A) (ls : List A) → (meets by (set is_in (ascending by.compare ls)) v ≡ true) ↔ Isin v ls
  is_ascending_member v ls = rw (elem_ascending by.compare tells.equal v ls) (is_member v ls)
