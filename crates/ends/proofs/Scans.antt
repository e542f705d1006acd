-- A loop from the lowest number to the highest that tests each: the numbers from v on answer for all of them. Assumes nothing.
use Rattle.std.proofs.Common.{◌≡◌, ◌≤◌, ℕ, zero, suc, length, take, length-take-le, Bool, true, false, ◌&&◌, ℤ, pos, ◌+ℤ◌, ◌-ℤ◌, ◌≤ℤ◌, ◌<ℤ◌, refl, sym, ap, ◌∙◌, w64, SFits, to_z, of_z, unsigned_abs}
use Rattle.std.proofs.lemmas.List.{length-map}
use lib.IntN.{suc_ℤ, +ℤ_one}
use lib.Signed.{lt_z, le_z}
use Rattle.values.specs.SomeEvery.{every}
use Rattle.values.specs.Ascending.{elem}
use Rattle.values.specs.Order.{compare_numbers}
use Rattle.values.specs.laws.IntLaws.{ints, orders, range, fits, plus, lt_true, lt_false, le_false, ≤ℤ_antisym}
use Rattle.values.specs.laws.SignedLaws.{back}
use Rattle.sheet.specs.code.SheetAnswers.{numbers_of}
use Rattle.sheet.specs.declared.literals.Literals.{Literals}
use Rattle.ends.specs.Between.{from, between}
use Rattle.ends.specs.laws.BetweenLaws.{between_self, between_less}
use Rattle.ends.specs.laws.PigeonholeLaws.{too_few}

-- the ends are locals, which are read back from their bits; the literals are fewer than the numbers
pub far_apart : {low high : ℤ} → SFits w64 low → SFits w64 high → (x : Literals) → low ≤ℤ high
    → length x.records.now ≤ unsigned_abs (to_z w64 (of_z w64 high) -ℤ to_z w64 (of_z w64 low))
    → false ≡ every (λ v. elem compare_numbers v (numbers_of x)) (between low high)
far_apart {low} {high} f g x h far =
    let ks = x.records.now in
    let many : length (numbers_of x) ≡ length ks = length-map (take (length ks) ks) _ ∙ length-take-le (length ks) ks x.placed.room in
    sym (too_few (numbers_of x) low high h (rw many (rw (back f, back g) at far)))

-- v lies between the ends, and the tests from v on say what all of them say
pub record Scanned (test : ℤ → Bool) (low high v : ℤ) : Type 0 where
  pub from : low ≤ℤ v
  pub up_to : v ≤ℤ high
  pub same : every test (between v high) ≡ every test (between low high)

first_fails : (test : ℤ → Bool) (v : ℤ) (n : ℕ) → test v ≡ false → every test (from v n) ≡ false
first_fails test v zero h = rw h
first_fails test v (suc n) h = rw h

module _ {test : ℤ → Bool} where
  module _ {low high : ℤ} (f : SFits w64 low) (g : SFits w64 high) where
    pub scan_begins : low ≤ℤ high → Scanned test (to_z w64 (of_z w64 low)) (to_z w64 (of_z w64 high)) (to_z w64 (of_z w64 low))
    scan_begins h = rw (back f, back g) (record { from = omega ints; up_to = h; same = refl })

    module _ {v : ℤ} (scanned : Scanned test (to_z w64 (of_z w64 low)) (to_z w64 (of_z w64 high)) v) where
      seen : Scanned test low high v
      seen = rw (back f, back g) at scanned

      pub never_past : le_z v (to_z w64 (of_z w64 high)) ≡ false → true ≡ every test (between low high)
      never_past left = let past = rw (back g) at (le_false v (to_z w64 (of_z w64 high)) left) in absurd (omega (ints, seen.up_to))

      module _ {r : Bool} (told : r ≡ test v) where
        pub fails_here : r ≡ false → false ≡ every test (between low high)
        unfolding between
        fails_here h = sym (first_fails test v (unsigned_abs (high -ℤ v)) (sym told ∙ h)) ∙ seen.same

        module _ (h : r ≡ true) where
          -- v is the highest
          pub at_last : lt_z v (to_z w64 (of_z w64 high)) ≡ false → true ≡ every test (between low high)
          at_last left =
              let last = ≤ℤ_antisym seen.up_to (rw (back g) at (lt_false v (to_z w64 (of_z w64 high)) left)) in
              let passed : test high ≡ true = ap test (sym last) ∙ sym told ∙ h in
              sym (ap (every test) (between_self high) ∙ rw passed) ∙ ap (λ z. every test (between z high)) (sym last) ∙ seen.same

          module _ (taken : lt_z v (to_z w64 (of_z w64 high)) ≡ true) where
            less : v <ℤ high
            less = rw (back g) at (lt_true v (to_z w64 (of_z w64 high)) taken)

            next_fits : SFits w64 (v +ℤ pos 1)
            next_fits = fits (omega (orders, range f, range g, less, seen.from, plus v (pos 1)))

            pub passes_here : Scanned test (to_z w64 (of_z w64 low)) (to_z w64 (of_z w64 high)) (to_z w64 (of_z w64 (v +ℤ pos 1)))
            passes_here =
                let passed : test v ≡ true = sym told ∙ h in
                let rest : every test (between (suc_ℤ v) high) ≡ every test (between low high)
                = ap (λ t. t && every test (between (suc_ℤ v) high)) (sym passed) ∙ ap (every test) (sym (between_less v high less)) ∙ seen.same in
                rw (back f, back g, back next_fits)
                (record { from = omega (ints, seen.from, plus v (pos 1)); up_to = omega (ints, less, plus v (pos 1)); same = rw (+ℤ_one v) rest })

pub ruleset scans = (scan_begins, never_past, fails_here, at_last, passes_here)
