-- Filters: leaves with and, or, not and brackets between them; what `not` makes of one, and what one is answered. Assumes nothing.
use Rattle.std.specs.Prelude.{ℕ, suc, ◌+◌, max, Bool, ◌&&◌, ◌||◌, ◌≡◌, refl, Ok}
use Rattle.values.specs.Outcomes.{Res, ◌>>=◌}

-- a filter as it is written: brackets are kept, so that open ones can be counted
pub data Filter (L : Type 0) : Type 0 where
  leaf : L → Filter L
  either both : Filter L → Filter L → Filter L
  opposite bracket : Filter L → Filter L

-- ---- 02: "10 over .. 32 leaves or 16 open brackets"

abbrev pub leaves : {L : Type 0} → Filter L → ℕ
leaves (leaf l) = 1
leaves (either f g) = leaves f + leaves g
leaves (both f g) = leaves f + leaves g
leaves (opposite f) = leaves f
leaves (bracket f) = leaves f

-- the most brackets that are open at one place
abbrev pub depth : {L : Type 0} → Filter L → ℕ
depth (leaf l) = 0
depth (either f g) = max (depth f) (depth g)
depth (both f g) = max (depth f) (depth g)
depth (opposite f) = depth f
depth (bracket f) = suc (depth f)

-- (1) and (2) has one bracket open at a time, ((1)) has two
side_by_side : depth {L = ℕ} (both (bracket (leaf 1)) (bracket (leaf 2))) ≡ 1
side_by_side = refl

nested : depth {L = ℕ} (bracket (bracket (leaf 1))) ≡ 2
nested = refl

-- ---- 02: "`not` is read by turning each leaf to its opposite operator and swapping and with or"

-- a filter in which every `not` is read
pub data Turned (L : Type 0) : Type 0 where
  one : L → Turned L
  any all : Turned L → Turned L → Turned L

module _ {L : Type 0} (turn : L → L) where
  abbrev mutual
    pub straight : Filter L → Turned L
    straight (leaf l) = one l
    straight (either f g) = any (straight f) (straight g)
    straight (both f g) = all (straight f) (straight g)
    straight (opposite f) = turned f
    straight (bracket f) = straight f

    pub turned : Filter L → Turned L
    turned (leaf l) = one (turn l)
    turned (either f g) = all (turned f) (turned g)
    turned (both f g) = any (turned f) (turned g)
    turned (opposite f) = straight f
    turned (bracket f) = turned f

-- ---- what a filter is answered, where each leaf has an answer: every leaf is asked, and the leftmost refusal is the whole's

-- 02: "a leaf refused with 5 to 8 refuses the whole, leftmost first"
abbrev pub joined : {A : Type 0} → (A → A → A) → Res A → Res A → Res A
joined join a b = do
  x ← a
  y ← b
  Ok (join x y)

abbrev pub answered : {L : Type 0} → (L → Res Bool) → Turned L → Res Bool
answered ask (one l) = ask l
answered ask (any f g) = joined ◌||◌ (answered ask f) (answered ask g)
answered ask (all f g) = joined ◌&&◌ (answered ask f) (answered ask g)
