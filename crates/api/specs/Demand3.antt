-- Demand 3, "The number of weighings lost is nought", over the bytes of the routines: sheets s, value records v and p, answer sheets q. Assumes nothing.
use Rattle.std.specs.Prelude.{ℕ, ◌≤◌, true, List, ◌⊎◌, ◌↔◌, ◌≡◌, ℤ, pos, ◌<ℤ◌, Ok}
use Rattle.std.proofs.Math.IntN.{suc_ℤ}
use Rattle.values.specs.Words.{AllBytes, signed, word}
use Rattle.projection.specs.Lifting.{lifted}
use Rattle.projection.specs.Steps.{some}
use Rattle.projection.specs.declared.question.Question.{Question}
use Rattle.projection.specs.declared.question.Question.TheVariants.{Inclusive, Strict}
use Rattle.sheet.specs.Records.{header_size, length_in}
use Rattle.sheet.specs.Sheets.{Head, head}
use Rattle.api.specs.HoldsTest.{holds_test}
use Rattle.api.specs.Routines.{project_sheet, transform_value}

-- the type, the transform and the width in the head of a sheet
abbrev pub type_in : List ℕ → ℕ
type_in s = word 4 1 s

abbrev pub transform_in : List ℕ → ℕ
transform_in s = word 5 1 s

abbrev pub width_in : List ℕ → ℕ
width_in s = word 8 4 s

-- 01: "A predicate is returned where a projection's answer is 0: it is the answer sheet"
abbrev pub Returns : Question → List ℕ → List ℕ → Type 0
Returns question s q = project_sheet question s ≡ Ok (some q)

-- 01: "A row meets a leaf, and a partition value meets a predicate (the predicate accepts it), as the holds-test's rules say"
abbrev pub Accepts : List ℕ → List ℕ → Type 0
Accepts s v = holds_test s v ≡ Ok true

module _ (s : List ℕ) where
  -- 01: "It has a partition value if none of the answers 3 to 8 applies when it is transformed under the head's type, transform and width. The partition value
  -- is then what the section on transforms gives .. and the record is a row of it": v is a row of p
  abbrev pub RowOf : List ℕ → List ℕ → Type 0
  RowOf p v = transform_value (type_in s) (transform_in s) (width_in s) v ≡ Ok p

  -- rows that are there, or that are asked for, are bytes; what is said below of every row is said of every list of numbers
  abbrev pub SomeRow : List ℕ → Type 0
  SomeRow p = (v : List ℕ) × AllBytes v × RowOf p v × Accepts s v

  abbrev pub AllRows : List ℕ → Type 0
  AllRows p = (v : List ℕ) → AllBytes v → RowOf p v → Accepts s v

-- ---- "whatever the leaf, the column's type, the transform and its width, and whatever value a row holds"

-- "If that row has a partition value and meets the leaf, its partition value meets any inclusive predicate returned"
abbrev pub NoRowLost : Type 0
NoRowLost = (s q v p : List ℕ) → RowOf s p v → Accepts s v → Returns Inclusive s q → Accepts q p

-- "if its partition value meets a returned strict predicate, the row meets the leaf"
abbrev pub StrictIsSafe : Type 0
StrictIsSafe = (s q v p : List ℕ) → RowOf s p v → Returns Strict s q → Accepts q p → Accepts s v

-- ---- "For whole-number and time columns under the comparisons and sets 201 to 206, 301 and 302, take any partition value that some row has": here under
-- every operator

-- 01: "Whole-number and time columns are types 1 to 8"
abbrev pub Numeric : List ℕ → Type 0
Numeric s = type_in s ≤ 8

-- "A strict predicate returned accepts it exactly when all its rows meet the leaf"
abbrev pub StrictIsExact : Type 0
StrictIsExact = (s q v p : List ℕ) → Numeric s → RowOf s p v → Returns Strict s q → Accepts q p ↔ AllRows s p

-- the value record p holds the number z in four bytes, as the result types of what is lifted do
abbrev pub HoldsNumber : List ℕ → ℤ → Type 0
HoldsNumber p z = (length_in p ≡ 4) × (signed 4 (word header_size 4 p) ≡ z)

-- "for transforms that document 01 lifts"
abbrev pub Lifts : List ℕ → Type 0
Lifts s = (h : Head) × (head (type_in s) (transform_in s) (width_in s) ≡ Ok h) × (lifted h.column h.transform ≡ true)

-- "when it is one above a negative partition value of which some row meets the leaf"; 01: "one above is the number plus 1"
abbrev pub OneAbove : List ℕ → List ℕ → Type 0
OneAbove s p = (below : List ℕ) × AllBytes below × (z : ℤ) × HoldsNumber below z × (z <ℤ pos 0) × HoldsNumber p (suc_ℤ z) × SomeRow s below

-- "An inclusive one accepts it exactly when some row of it meets the leaf, or, for transforms that document 01 lifts, when it is one above .."
abbrev pub InclusiveIsExact : Type 0
InclusiveIsExact = (s q v p : List ℕ) → Numeric s → RowOf s p v → Returns Inclusive s q
    → Accepts q p ↔ (SomeRow s p ⊎ (Lifts s × OneAbove s p))

pub record Demand3 : Type 0 where
  pub no_row_lost : NoRowLost
  pub strict_is_safe : StrictIsSafe
  pub strict_is_exact : StrictIsExact
  pub inclusive_is_exact : InclusiveIsExact
