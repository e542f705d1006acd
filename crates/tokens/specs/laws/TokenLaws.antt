-- Tokens by the byte at a place of the text, which is 0 past the end. Assumes nothing.
use Rattle.std.specs.Prelude.{ℕ, zero, suc, true, false, List, [], ◌∷◌, ◌≡◌, refl, pos, neg_ℤ, drop, get_or}
use Rattle.std.proofs.Common.{drop-cons}
use Rattle.std.proofs.Math.Seq.{drop-nil}
use Rattle.values.specs.Characters.{is_digit}
use Rattle.values.specs.laws.CharacterLaws.{passing_inside}
use Rattle.tokens.specs.Tokens.{unreadable, taken, decimal_at, minus_at}

pub minus_digit : (s : List ℕ) (i : ℕ) → is_digit (get_or s i 0) ≡ true → minus_at (drop i s) ≡ decimal_at (λ n. neg_ℤ (pos n)) (drop i s)
minus_digit s i e = rw (drop-cons s i 0 (passing_inside is_digit refl s i e), e)

pub minus_other : (s : List ℕ) (i : ℕ) → is_digit (get_or s i 0) ≡ false → minus_at (drop i s) ≡ taken unreadable (drop i s)
minus_other [] i e = rw drop-nil
minus_other (b ∷ s) zero e = rw e
minus_other (b ∷ s) (suc i) e = minus_other s i e
