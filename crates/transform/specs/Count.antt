-- Counting off. Days are laid out in parts, one after the other: part k is `len k` days long. Assumes nothing.
use Rattle.std.specs.Prelude.{ℕ, zero, suc, ◌+◌, ◌-◌, cond, nat_lt}

-- the first day of part k: the days of all the parts before it
unfoldable pub before : (ℕ → ℕ) → ℕ → ℕ
before len zero = 0
before len (suc k) = before len k + len k

-- the part of day d, where d is counted from the first day of part k, and at most n parts are counted off
unfoldable pub count_off : (ℕ → ℕ) → ℕ → ℕ → ℕ → ℕ
count_off len zero k d = k
count_off len (suc n) k d =
    let on = count_off len n (suc k) (d - len k) in
    cond (nat_lt d (len k)) k on
