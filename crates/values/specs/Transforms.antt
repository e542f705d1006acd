-- The transforms: their numbers, and the width that stands beside them. Assumes nothing.
use Rattle.std.specs.Prelude.{ℕ, List, [], ◌∷◌, ◌==◌, Ok}
use Rattle.values.specs.Outcomes.{Res, need, ◌>>=◌, ◌>>◌}
use Rattle.values.specs.Numbered.{Numbered, ◌is◌, find}
use Rattle.values.specs.declared.error.ErrorKind.TheVariants.{Malformed}
use Rattle.values.specs.declared.transform.Transform.{Transform}
use Rattle.values.specs.declared.transform.Transform.TheVariants.{Identity, Truncate, Year, Month, Day, Hour, Void, Unknown}

-- 01: "Transforms: 0 Identity, 1 Truncate, 2 Year, 3 Month, 4 Day, 5 Hour, 6 Void, 7 Unknown"
abbrev pub transforms : ℕ → List (Numbered Transform)
transforms width =
    0 is Identity ∷ 1 is Truncate width ∷ 2 is Year ∷ 3 is Month ∷ 4 is Day ∷ 5 is Hour ∷ 6 is Void ∷ 7 is Unknown ∷ []

-- 01: "Width is 0 unless the transform is Truncate"
abbrev pub width_of : Transform → ℕ
width_of Identity = 0
width_of (Truncate width) = width
width_of Year = 0
width_of Month = 0
width_of Day = 0
width_of Hour = 0
width_of Void = 0
width_of Unknown = 0

-- the transform that a number and a width name
unfoldable pub transform_of : ℕ → ℕ → Res Transform
transform_of number width = do
  transform ← find (transforms width) number
  need (width == width_of transform) Malformed
  Ok transform
