-- Leaves that a filter's text is read as are fitted to their columns, and turned they are too. Assumes nothing.
use Prim.Native.Nat.{ℕ, zero, suc, ◌+◌}
use native.Mathlib.Nat.{zero-add}
use native.Mathlib.Omega.{arith}
use mathlib.Core.Bool.{Bool, true, false, cond, true≢false, false≢true}
use mathlib.Core.List.{List, [], ◌∷◌}
use mathlib.Core.Option.{some, none}
use mathlib.Core.Path.{◌≡◌, refl, sym, subst, ◌∙◌}
use lib.IntN.{ℤ}
use lib.ListN.{length}
use Rattle.values.specs.Order.{compare_bytes, is_equal}
use Rattle.values.specs.laws.TestLaws.{and_both}
use Rattle.values.specs.Types as types
use Rattle.values.specs.Types.{Layout, number, bytes, layout, in_layout, in_type}
use Rattle.values.specs.declared.datatypes.PrimitiveType.{PrimitiveType}
use Rattle.values.specs.declared.datatypes.PrimitiveType.TheVariants.{Int, Long, Date, Time, String, Binary}
use Rattle.values.specs.declared.datatypes.PrimitiveType.TheVariants.{Timestamp, Timestamptz, TimestampNs, TimestamptzNs}
use Rattle.expr.specs.Operators as operators
use Rattle.projection.specs.laws.LeafDemand.{HeldIn}
use Rattle.columns.specs.Columns.{Column}
use Rattle.leaves.specs.Fitting.{Literal, decimal, text, Leaf, fits_length, fits, content_of, leaf_from, leaf_of}
use Rattle.parse.specs.FilterText.{turn}
use Rattle.demand.proofs.NumberKindLaws.{number_fits}

-- ---- contents: of a length that the type allows, and UTF-8 in a String
pub record FitsIn (column : PrimitiveType) (content : List ℕ) : Type 0 where
  pub fit : types.fits (layout column) (length content) ≡ true
  pub held : HeldIn column content

-- a column with a number is no String
number_held : (column : PrimitiveType) (z : ℤ) (s : List ℕ) → in_layout (layout column) z ≡ true → HeldIn column s
number_held Int z s h = refl
number_held Long z s h = refl
number_held Date z s h = refl
number_held Time z s h = refl
number_held Timestamp z s h = refl
number_held Timestamptz z s h = refl
number_held TimestampNs z s h = refl
number_held TimestamptzNs z s h = refl
number_held String z s h = absurd (false≢true h)
number_held Binary z s h = absurd (false≢true h)

length_fits : (l : Layout) (n : ℕ) → fits_length l n ≡ true → types.fits l n ≡ true
length_fits (number k) n h = absurd (false≢true h)
length_fits (bytes k) n h = h

content_fits : (column : PrimitiveType) (l : Literal) → fits column l ≡ true → FitsIn column (content_of column l)
unfolding in_type
content_fits column (decimal z) h = record { fit = number_fits (layout column) z h; held = number_held column z _ h }
content_fits column (text s) h =
    let both = and_both (fits_length (layout column) (length s)) _ h in
    record { fit = length_fits (layout column) (length s) both.0; held = both.1 }

-- ---- leaves
-- x is the member of a list at place k
abbrev pub Has : {A : Type 0} → List A → ℕ → A → Type 0
Has [] k x = ⊥
Has (y ∷ ys) zero x = y ≡ x
Has (y ∷ ys) (suc k) x = Has ys k x

-- the leaf's head is that of the column at place k, and its content fits that column's type
pub record FittedAt (cs : List Column) (k : ℕ) (l : Leaf) : Type 0 where
  pub column : Column
  pub there : Has cs k column
  pub head_is : column.head ≡ l.head
  pub content_fits : FitsIn l.head.column l.content

abbrev pub Fitted : List Column → Leaf → Type 0
Fitted cs l = FittedAt cs l.place l

module _ (name : List ℕ) (o : operators.Binary) (l : Literal) (x : Leaf) where
  leaf_from_lem : (k : ℕ) (cs : List Column) → leaf_from k cs name o l ≡ some x → (j : ℕ) × (x.place ≡ k + j) × FittedAt cs j x
  leaf_from_lem k [] e = absurd (true≢false (cc))
  leaf_from_lem k (c ∷ cs) e = go (is_equal (compare_bytes name c.name)) (fits c.head.column l) refl e (leaf_from_lem (suc k) cs)
    where
      first : Leaf
      first = record { place = k; head = c.head; operator = o; content = content_of c.head.column l }

      here : fits c.head.column l ≡ true → first ≡ x → (j : ℕ) × (x.place ≡ k + j) × FittedAt (c ∷ cs) j x
      here h e = subst (λ y. (j : ℕ) × (y.place ≡ k + j) × FittedAt (c ∷ cs) j y) e
          (0, omega arith, record { column = c; there = refl; head_is = refl; content_fits = content_fits c.head.column l h })

      go : (a b : Bool) → fits c.head.column l ≡ b → cond a (cond b (some first) none) (leaf_from (suc k) cs name o l) ≡ some x
          → (leaf_from (suc k) cs name o l ≡ some x → (j : ℕ) × (x.place ≡ suc k + j) × FittedAt cs j x)
          → (j : ℕ) × (x.place ≡ k + j) × FittedAt (c ∷ cs) j x
      go true true h e next = here h (cc)
      go true false h e next = absurd (true≢false (cc))
      go false b h e next =
          let r = next e in
          let f = r.2 in
          (suc r.0, omega (arith, r.1), record { column = f.column; there = f.there; head_is = f.head_is; content_fits = f.content_fits })

  pub leaf_fitted : (cs : List Column) → leaf_of cs name o l ≡ some x → Fitted cs x
  leaf_fitted cs e = let r = leaf_from_lem 0 cs e in subst (λ k. FittedAt cs k x) (sym (r.1 ∙ zero-add r.0)) r.2

pub turn_fitted : (cs : List Column) (l : Leaf) → Fitted cs l → Fitted cs (turn l)
turn_fitted cs l f = record { column = f.column; there = f.there; head_is = f.head_is; content_fits = f.content_fits }
