-- Some member of a list passes a test, and every one does. Assumes nothing.
use Rattle.std.specs.Prelude.{Bool, true, false, ◌&&◌, ◌||◌, List, [], ◌∷◌}

module _ {A : Type 0} (test : A → Bool) where
  abbrev pub some : List A → Bool
  some [] = false
  some (x ∷ xs) = test x || some xs

  abbrev pub every : List A → Bool
  every [] = true
  every (x ∷ xs) = test x && every xs
