-- Byte strings that the library finds equal are those that the order finds equal. Assumes nothing.
use Rattle.std.specs.Prelude.{◌≡◌, ℕ, List, nat_eq, refl}
use Rattle.std.proofs.Common.{sym, ap, ◌∙◌}
use Rattle.std.proofs.lemmas.Map.Text.{is_eq-slice_cmp}
use Rattle.std.specs.Ordering.{is_eq}
use Rattle.std.specs.declared.cmp.Ordering.{Ordering}
use Rattle.std.specs.declared.cmp.Ordering.TheVariants.{Less, Equal, Greater}
use lib.Pointwise.{pointwise}
use Rattle.values.specs.Order.{compare_bytes, is_equal}
use Rattle.values.specs.laws.ByteOrderLaws.{slices_compare}

same : (o : Ordering) → is_eq o ≡ is_equal o
same Less = refl
same Equal = refl
same Greater = refl

pub slices_equal : (a b : List ℕ) → pointwise nat_eq a b ≡ is_equal (compare_bytes a b)
slices_equal a b = sym (is_eq-slice_cmp a b) ∙ ap is_eq (slices_compare a b) ∙ same (compare_bytes a b)
