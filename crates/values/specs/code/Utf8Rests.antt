-- What a reader of UTF-8 awaits within a code point. Assumes nothing.
use Rattle.std.specs.Prelude.{ℕ, ◌==◌, Bool, false, cond, ◌&&◌, Option, None, Some, List, [], ◌∷◌}
use Rattle.values.specs.Utf8.{Range, within, utf8}

-- a byte in each of the ranges, and then UTF-8
abbrev pub follows : List Range → List ℕ → Bool
follows [] s = utf8 s
follows (r ∷ rs) [] = false
follows (r ∷ rs) (b ∷ bs) = within b r && follows rs bs

-- the same of what is left after a byte that was awaited; nothing is left where it did not come
abbrev pub follows_on : List Range → Option (List ℕ) → Bool
follows_on rs None = false
follows_on rs (Some s) = follows rs s

-- the bytes between which the second of a code point stands, by its first
abbrev pub lowest_second : ℕ → ℕ
lowest_second b = cond (b == 0xE0) 0xA0 (cond (b == 0xF0) 0x90 0x80)

abbrev pub highest_second : ℕ → ℕ
highest_second b = cond (b == 0xED) 0x9F (cond (b == 0xF4) 0x8F 0xBF)
