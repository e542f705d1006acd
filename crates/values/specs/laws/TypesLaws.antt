-- The numbers of types and of transforms: each is found by its own number, and only by that; and the layouts of types. Assumes nothing.
use Rattle.std.specs.Prelude.{◌≡◌, ℕ, ◌<◌, Bool, true, false, cond, ◌⊎◌, List, [], ◌∷◌, ◌==◌, Ok, Err}
use Rattle.std.proofs.Common.{arith, true≢false, inl, inr, ap, ◌∙◌, eqb-true, eq-eqb, ne_eqb}
use Rattle.std.proofs.lemmas.Bool.{false≢true}
use Rattle.std.proofs.Math.Path.{refl, sym}
use Rattle.values.specs.Numbered.{Numbered, ◌is◌, find}
use Rattle.values.specs.Outcomes.{Res, need, ◌>>=◌, ◌>>◌}
use Rattle.values.specs.Transforms.{transforms, width_of, transform_of}
use Rattle.values.specs.Types.{types, type_number, content_size, Layout, number, bytes, layout, same_type}
use Rattle.values.specs.code.ByteTypes.{is_bytes}
use Rattle.values.specs.laws.OutcomeLaws.{ok_inj}
use Rattle.values.specs.declared.datatypes.PrimitiveType.{PrimitiveType}
use Rattle.values.specs.declared.datatypes.PrimitiveType.TheVariants.{Int, Long, Date, Time, Timestamp, Timestamptz, TimestampNs, TimestamptzNs, String, Binary}
use Rattle.values.specs.declared.error.ErrorKind.TheVariants.{Malformed}
use Rattle.values.specs.declared.transform.Transform.{Transform}
use Rattle.values.specs.declared.transform.Transform.TheVariants.{Identity, Truncate, Year, Month, Day, Hour, Void, Unknown}

-- ---- any numbered list
module _ {X : Type 0} (number_of : X → ℕ) where
  -- what stands under a number has that number
  abbrev pub Own : List (Numbered X) → Type 0
  Own [] = Unit {0}
  Own (k is x ∷ xs) = (number_of x ≡ k) × Own xs

  pub found_number : (xs : List (Numbered X)) (n : ℕ) (t : X) → Own xs → find xs n ≡ Ok t → number_of t ≡ n
  found_number [] n t own e = cc
  found_number (k is x ∷ xs) n t own e = go (n == k) refl e (found_number xs n t own.1)
    where
      go : (b : Bool) → (n == k) ≡ b → cond b (Ok x) (find xs n) ≡ Ok t → (find xs n ≡ Ok t → number_of t ≡ n) → number_of t ≡ n
      go true d e next = cc (eqb-true n k d)
      go false d e next = next e

-- ---- types
pub type_found : (t : PrimitiveType) → find types (type_number t) ≡ Ok t
type_found Int = refl
type_found Long = refl
type_found Date = refl
type_found Time = refl
type_found Timestamp = refl
type_found Timestamptz = refl
type_found TimestampNs = refl
type_found TimestamptzNs = refl
type_found String = refl
type_found Binary = refl

pub same_type_lem : (a b : PrimitiveType) → same_type a b ≡ true → a ≡ b
same_type_lem a b e = ok_inj (sym (type_found a) ∙ ap (find types) (eqb-true (type_number a) (type_number b) e) ∙ type_found b)

pub type_number_lem : (n : ℕ) (t : PrimitiveType) → find types n ≡ Ok t → type_number t ≡ n
type_number_lem n t e = found_number type_number types n t (refl, (refl, (refl, (refl, (refl, (refl, (refl, (refl, (refl, (refl, tt)))))))))) e

-- ---- transforms
abbrev pub transform_code : Transform → ℕ
transform_code Identity = 0
transform_code (Truncate width) = 1
transform_code Year = 2
transform_code Month = 3
transform_code Day = 4
transform_code Hour = 5
transform_code Void = 6
transform_code Unknown = 7

pub transform_found : (t : Transform) → transform_of (transform_code t) (width_of t) ≡ Ok t
unfolding transform_of
transform_found Identity = refl
transform_found (Truncate width) = rw (eq-eqb width width refl)
transform_found Year = refl
transform_found Month = refl
transform_found Day = refl
transform_found Hour = refl
transform_found Void = refl
transform_found Unknown = refl

-- what a number and a width name has that number and that width
pub transform_numbers : (n w : ℕ) (t : Transform) → transform_of n w ≡ Ok t → (transform_code t ≡ n) × (width_of t ≡ w)
unfolding transform_of
transform_numbers n w t e = go (find (transforms w) n) refl e
  where
    tested : (u : Transform) (b : Bool) → (w == width_of u) ≡ b → (need b Malformed >> Ok u) ≡ Ok t → (u ≡ t) × (w ≡ width_of u)
    tested u true d e = (cc, eqb-true w (width_of u) d)
    tested u false d e = (cc, cc)

    go : (r : Res Transform) → find (transforms w) n ≡ r → (r >>= λ u. need (w == width_of u) Malformed >> Ok u) ≡ Ok t
        → (transform_code t ≡ n) × (width_of t ≡ w)
    go (Ok u) d e =
        let h = tested u (w == width_of u) refl e in
        let own = found_number transform_code (transforms w) n u (refl, (refl, (refl, (refl, (refl, (refl, (refl, (refl, tt)))))))) d in
        (rw (← h.0) own, rw (← h.0) (sym h.1))
    go (Err k) d e = (cc, cc)

-- a number that the list has not
pub transform_missed : (n w : ℕ) → Err Malformed ≡ find (transforms w) n → Err Malformed ≡ transform_of n w
unfolding transform_of
transform_missed n w e = rw (← e)

-- a width beside another number than Truncate's
module _ (n w : ℕ) (other : n ≡ 1 → ⊥) (some : w ≡ 0 → ⊥) where
  abbrev Plain : List (Numbered Transform) → Type 0
  Plain [] = Unit {0}
  Plain (k is t ∷ xs) = ((k ≡ 1) ⊎ (width_of t ≡ 0)) × Plain xs

  abbrev checked : Transform → Res Transform
  checked t = need (w == width_of t) Malformed >> Ok t

  none_plain : (xs : List (Numbered Transform)) → Plain xs → (find xs n >>= checked) ≡ Err Malformed
  none_plain [] h = refl
  none_plain (k is t ∷ xs) h = go (n == k) refl h.0 (none_plain xs h.1)
    where
      go : (b : Bool) → (n == k) ≡ b → (k ≡ 1) ⊎ (width_of t ≡ 0) → (find xs n >>= checked) ≡ Err Malformed
          → (cond b (Ok t) (find xs n) >>= checked) ≡ Err Malformed
      go true e (inl one) r = absurd (other (eqb-true n k e ∙ one))
      go true e (inr none) r = rw (none, ne_eqb w 0 some)
      go false e p r = r

  pub width_refused : Err Malformed ≡ transform_of n w
  unfolding transform_of
  width_refused =
      sym
      (none_plain
      (transforms w)
      (inr refl, (inl refl, (inr refl, (inr refl, (inr refl, (inr refl, (inr refl, (inr refl, tt)))))))))

-- ---- a number has bytes
abbrev pub Sized : Layout → Type 0
Sized (number n) = 0 < n
Sized (bytes n) = Unit {0}

pub sized : (column : PrimitiveType) → Sized (layout column)
sized Int = omega arith
sized Long = omega arith
sized Date = omega arith
sized Time = omega arith
sized Timestamp = omega arith
sized Timestamptz = omega arith
sized TimestampNs = omega arith
sized TimestamptzNs = omega arith
sized String = tt
sized Binary = tt

-- ---- layouts
pub bytes_layout : (t : PrimitiveType) → is_bytes (layout t) ≡ true → layout t ≡ bytes content_size
bytes_layout String h = refl
bytes_layout Binary h = refl
bytes_layout Int h = absurd (false≢true h)
bytes_layout Long h = absurd (false≢true h)
bytes_layout Date h = absurd (false≢true h)
bytes_layout Time h = absurd (false≢true h)
bytes_layout Timestamp h = absurd (false≢true h)
bytes_layout Timestamptz h = absurd (false≢true h)
bytes_layout TimestampNs h = absurd (false≢true h)
bytes_layout TimestamptzNs h = absurd (false≢true h)

pub number_layout : (l : Layout) → is_bytes l ≡ false → (n : ℕ) × (l ≡ number n)
number_layout (number n) h = (n, refl)
number_layout (bytes n) h = absurd (true≢false h)
