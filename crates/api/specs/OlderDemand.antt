-- 02, #107, sheets from older writers, over the bytes of the routines: sheets s, value records v, p and f, answer sheets q. Assumes nothing.
use Rattle.std.specs.Prelude.{ℕ, List, ◌⊎◌, ◌≡◌, ℤ, pos, ◌<ℤ◌}
use Rattle.std.proofs.Math.IntN.{suc_ℤ}
use Rattle.values.specs.Outcomes.{present}
use Rattle.values.specs.Words.{signed_bytes}
use Rattle.projection.specs.declared.question.Question.TheVariants.{Inclusive, Strict, Older}
use Rattle.write.specs.Written.{value_record}
use Rattle.api.specs.Demand3.{Returns, Accepts, RowOf, HoldsNumber, Lifts}
use Rattle.api.specs.Routines.{project_sheet}

module _ (s : List ℕ) where
  -- v is a row of a negative p, and f is the value record of p+1, as it is written
  abbrev pub FiledAbove : List ℕ → List ℕ → Type 0
  FiledAbove f v = (p : List ℕ) × (z : ℤ) × RowOf s p v × HoldsNumber p z × (z <ℤ pos 0) × (f ≡ value_record (present (signed_bytes 4 (suc_ℤ z))))

  -- where "the transforms that document 01 lifts .. were rounded toward zero .. a row with a negative partition value p may be filed under p or p+1": v may be
  -- filed under f. Every other row is filed under its partition value
  abbrev pub Filed : List ℕ → List ℕ → Type 0
  Filed f v = RowOf s f v ⊎ (Lifts s × FiledAbove f v)

-- "every inclusive predicate the port returns today still loses no such row"
abbrev pub NoOlderRowLost : Type 0
NoOlderRowLost = (s q v f : List ℕ) → Filed s f v → Accepts s v → Returns Inclusive s q → Accepts q f

-- "For it", the third question, "a predicate accepting either filing implies the leaf"
abbrev pub OlderIsSafe : Type 0
OlderIsSafe = (s q v f : List ℕ) → Filed s f v → Returns Older s q → Accepts q f → Accepts s v

-- "For other transforms it equals strict", whatever the bytes
abbrev pub OlderIsStrict : Type 0
OlderIsStrict = (s : List ℕ) → (Lifts s → ⊥) → project_sheet Older s ≡ project_sheet Strict s

pub record OlderDemand : Type 0 where
  pub no_older_row_lost : NoOlderRowLost
  pub older_is_safe : OlderIsSafe
  pub older_is_strict : OlderIsStrict
