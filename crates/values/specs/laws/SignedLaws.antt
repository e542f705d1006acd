-- What code leaves of a signed number: a local holds bits, and is read back from them as `to_z w (of_z w z)`. Assumes nothing.
use Rattle.std.specs.Prelude.{◌≡◌, ◌^◌, ◌<◌, true, false, T, ℤ, ◌≤ℤ◌, ◌<ℤ◌, FitsSigned, ◌≢◌, int_le, int_lt, nat_lt}
use Rattle.std.proofs.Common.{sym, ap, ◌∙◌, ltb→lt, to_z-of_z}
use Rattle.std.specs.Int.Signed.{mag}
use Rattle.std.specs.Int.{Width}
use mir.Val.{to_z, of_z, hbits}
use Rattle.values.specs.laws.IntLaws.{up, dn, lt_true, lt_false, le_true, le_false}

-- an equation for `rw` and `simp`, inner places first: `rw (back f, back g) t`, `rw (back f) at h`
pub back : {w : Width} {z : ℤ} → FitsSigned w z → to_z w (of_z w z) ≡ z
back {w} f = to_z-of_z {w = w} f

-- the same for `omega`'s list, `omega (ints, bits f)`
pub bits : {w : Width} {z : ℤ} → FitsSigned w z → (up (to_z w (of_z w z)) ≡ up z) × (dn (to_z w (of_z w z)) ≡ dn z)
bits f = (ap up (back f), ap dn (back f))

-- the range of a literal, `lit (pos 0) tt`, and of a call's result, `ok c.f.result c.f.ok`
pub lit : {w : Width} (z : ℤ) → T (nat_lt (mag z) (2 ^ hbits w)) → FitsSigned w z
lit {w} z t = record { sfits = ltb→lt (mag z) (2 ^ hbits w) t }

pub ok : {w : Width} (z : ℤ) → mag z < 2 ^ hbits w → FitsSigned w z
ok z h = record { sfits = h }

-- a test on two signed locals or literals, as an order
module _ {w : Width} {a b : ℤ} (f : FitsSigned w a) (g : FitsSigned w b) where
  pub lt_taken : int_lt (to_z w (of_z w a)) (to_z w (of_z w b)) ≡ true → a <ℤ b
  lt_taken e = rw (back f, back g) at (lt_true (to_z w (of_z w a)) (to_z w (of_z w b)) e)

  pub lt_left : int_lt (to_z w (of_z w a)) (to_z w (of_z w b)) ≡ false → b ≤ℤ a
  lt_left e = rw (back f, back g) at (lt_false (to_z w (of_z w a)) (to_z w (of_z w b)) e)

  pub le_taken : int_le (to_z w (of_z w a)) (to_z w (of_z w b)) ≡ true → a ≤ℤ b
  le_taken e = rw (back f, back g) at (le_true (to_z w (of_z w a)) (to_z w (of_z w b)) e)

  pub le_left : int_le (to_z w (of_z w a)) (to_z w (of_z w b)) ≡ false → b <ℤ a
  le_left e = rw (back f, back g) at (le_false (to_z w (of_z w a)) (to_z w (of_z w b)) e)

  -- `==` compares the bits
  pub eq_taken : of_z w a ≡ of_z w b → a ≡ b
  eq_taken e = sym (back f) ∙ ap (to_z w) e ∙ back g

  pub eq_left : (of_z w a ≢ of_z w b) → a ≢ b
  eq_left n e = n (ap (of_z w) e)
