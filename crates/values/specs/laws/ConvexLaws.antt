-- What lies between two byte strings begins as they do. Assumes nothing.
use Rattle.std.specs.Prelude.{◌≡◌, ℕ, true, List, [], length, take, drop, ◌≢◌}
use Rattle.std.proofs.Common.{append-nil, sym, ap₂, ◌∙◌, take-append-drop}
use Rattle.std.proofs.Math.Seq.{take-length, take-append_seam}
use Rattle.values.specs.Order.{compare_bytes, starts_with}
use Rattle.std.specs.declared.cmp.Ordering.TheVariants.{Less}
use Rattle.values.specs.laws.OrderLaws.{connected, bytes_order, common_beginning, none_below_empty, take_mono}
use Rattle.values.specs.laws.PrefixLaws.{starts_append, rest_of}

-- nothing is below what it begins with
pub not_below_beginning : (v l : List ℕ) → starts_with v l ≡ true → compare_bytes v l ≢ Less
not_below_beginning v l s k =
    let r = rest_of v l s in
    let e = common_beginning l r.0 [] in
    none_below_empty r.0 (sym e ∙ ap₂ compare_bytes (sym r.1) (append-nil l) ∙ k)

-- what is not below l, and not above b, which begins with l, begins with l: cut to the length of l, it lies between l and l
pub convex : (l a b : List ℕ) → (compare_bytes a l ≢ Less) → (compare_bytes b a ≢ Less) → starts_with b l ≡ true → starts_with a l ≡ true
convex l a b h k s =
    let n = length l in
    let r = rest_of b l s in
    let cut : take n b ≡ l = rw r.1 (take-append_seam l r.0) in
    let e : take n a ≡ l = connected bytes_order (take n a) l (rw (take-length l) at (take_mono n l a h)) (rw cut at (take_mono n a b k)) in
    rw (← take-append-drop n a, e) (starts_append l (drop n a))
