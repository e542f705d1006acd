-- Bytes that are copied part by part: to write what is left of them is to write them all. Assumes nothing.
use Prim.Native.Nat.{ℕ, ◌+◌, ◌≤◌, ◌<◌}
use native.Mathlib.Omega.{arith}
use mathlib.Core.List.{List, [], ◌∷◌, ◌++◌}
use mathlib.Core.Path.{◌≡◌, refl, sym, ap, ◌∙◌}
use lib.ListN.{length, get_or, take, drop, set, length-drop, take-append-drop, drop_of_length-le}
use lib.Seq.{drop-cons, drop-drop, length-take-le}
use Rattle.values.specs.laws.FieldLaws.{word_bytes}
use Rattle.values.specs.Words.{AllBytes, le_bytes, field, word, over}
use Rattle.values.specs.laws.WordLaws.{over_nil, over_set, length_over}
use Rattle.write.specs.laws.WriteLaws.{two_writes}

-- with the bytes before index i copied to `at` and on, d is one write away from what is wanted
pub record Copied (at : ℕ) (bs before wanted : List ℕ) (i : ℕ) (d : List ℕ) : Type 0 where
  pub within : i ≤ length bs
  pub size : length d ≡ length before
  pub same : wanted ≡ over (at + i) (drop i bs) d

module _ {at : ℕ} {bs before wanted : List ℕ} {i : ℕ} {d : List ℕ} (room : at + length bs ≤ length before) (c : Copied at bs before wanted i d) where
  -- the next n bytes
  module _ (n : ℕ) (some : i + n ≤ length bs) where
    part_size : length (field i n bs) ≡ n
    part_size = length-take-le n (drop i bs) (omega (arith, length-drop i bs))

    part_copied : {t : List ℕ} → t ≡ over (at + i) (field i n bs) d → Copied at bs before wanted (i + n) t
    part_copied {t} w =
        let whole : field i n bs ++ drop (i + n) bs ≡ drop i bs = rw (← drop-drop n i bs) (take-append-drop n (drop i bs)) in
        let next : at + i + length (field i n bs) ≡ at + (i + n) = omega (arith, part_size) in
        let inside : at + (i + n) ≤ length d = omega (arith, c.size) in
        record {
          within = some;
          size = ap length w ∙ length_over (at + i) (field i n bs) d (omega arith) ∙ c.size;
          same = c.same ∙ ap (λ (l : List ℕ). over (at + i) l d) (sym whole)
              ∙ sym (two_writes (at + i) (field i n bs) (drop (i + n) bs) d next inside w refl);
        }

    -- as the word that they are
    pub word_copied : {v : ℕ} {t : List ℕ} → AllBytes bs → v ≡ word i n bs → t ≡ over (at + i) (le_bytes n v) d → Copied at bs before wanted (i + n) t
    word_copied bytes e w = part_copied (w ∙ ap (λ (l : List ℕ). over (at + i) l d) (ap (le_bytes n) e ∙ word_bytes i n bs bytes some))

  pub byte_copied : i < length bs → Copied at bs before wanted (i + 1) (set d (at + i) (get_or bs i 0))
  byte_copied more =
      let one : field i 1 bs ≡ get_or bs i 0 ∷ [] = ap (take 1) (drop-cons bs i 0 more) in
      part_copied 1 (omega arith) (sym (ap (λ (l : List ℕ). over (at + i) l d) one ∙ over_set (at + i) (get_or bs i 0) d (omega (arith, c.size))))

  pub all_copied : length bs ≤ i → d ≡ wanted
  all_copied h = sym (c.same ∙ rw (drop_of_length-le bs h) (over_nil (at + i) d))
