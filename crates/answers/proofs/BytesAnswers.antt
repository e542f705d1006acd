-- A set of byte strings that was collected: its members, by their records. Assumes nothing.
use Rattle.std.proofs.Common.{arith, ◌≡◌, ◌∙◌, ℕ, ◌<◌, List, sym, ap, length, take, Ok, length-take-le, get_or-take}
use Rattle.values.specs.Outcomes.{Res}
use Rattle.sheet.specs.code.ReadAnswers.{Parts, parts_at}
use Rattle.sets.specs.code.Sets.{FilledParts}
use Rattle.answers.specs.laws.CollectedLaws.{counted, found_count}

-- the set, as the first n of the array have it
pub record Collected (s : List ℕ) (found : Res (List (List ℕ))) (sizes set : List ℕ) (n : ℕ) : Type 0 where
  pub is : found ≡ Ok (parts_at s sizes set n)
  pub parts : Parts s sizes set n

pub collected : (found : Res (List (List ℕ))) {s sizes set : List ℕ} {n : ℕ} → Ok n ≡ counted found → FilledParts s found sizes set → Collected s found sizes set n
collected found says filled =
    let k = found_count found (sym says) in
    let m = filled.members k.0 k.1 in
    rw k.2 (record { is = k.1 ∙ ap Ok (sym m.0); parts = m.1 })

pub parts_taken : (s sizes set : List ℕ) (n : ℕ) → Parts s sizes set n → Parts s sizes (take n set) (length (take n set))
parts_taken s sizes set n p =
    let size = length-take-le n set p.room in
    record { room = omega arith; each = λ i h. let less : i < n = omega arith in rw (get_or-take n set i 0 less) (p.each i less) }
