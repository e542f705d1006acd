-- What a text needs of the output that it is written to. Assumes nothing.
use Rattle.std.specs.Prelude.{ℕ, ◌+◌, ◌≤◌, List, length}
use Rattle.arrayvec.specs.ArrayVec.{ArrayVec, array_vec_len}

-- an output of n bytes has room for the text behind what is there
abbrev pub HasRoom : ℕ → ArrayVec ℕ → List ℕ → Type 0
HasRoom n out text = array_vec_len out + length text ≤ n
