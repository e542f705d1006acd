-- The ends that are handed back, and what a caller in C is told of a pooled summary. Assumes nothing.
use Rattle.std.specs.Prelude.{ℕ, zero, suc, ◌+◌, ◌*◌, List, [], Ok, Err}
use Rattle.values.specs.Outcomes.{Res, error_number}
use Rattle.sheet.specs.Records.{record_size, record_at}
use Rattle.pool.specs.Pooling.{of, pool}
use Rattle.pool.specs.declared.pool.Pooled.{Pooled}
use Rattle.pool.specs.declared.pool.Whose.{Whose}
use Rattle.pool.specs.declared.pool.Whose.TheVariants.{First, Second}

-- ---- the end itself

-- where a slice lies: which memory, and how far from its start; and the place n bytes further on
abbrev pub Place : Type 0
Place = ℕ × ℕ

abbrev pub further : ℕ → Place → Place
further n p = (p.0, n + p.1)

-- whose record k of the pooled summary is: record 0 is its lowest end, record 1 its highest
abbrev pub whose_record : ℕ → Pooled → Whose
whose_record zero p = p.lowest
whose_record (suc k) p = p.highest

-- 02: "The end handed back is the bytes of one of the two, not a copy": record k of the file whose it is, and where that lies, by where the two summaries lie.
-- After a refusal it is an empty part of the first
module _ (k : ℕ) where
  abbrev pub end_bytes : Res Pooled → List ℕ → List ℕ → List ℕ
  end_bytes (Ok p) first second = record_at (of (whose_record k p) first second) k
  end_bytes (Err e) first second = []

  abbrev pub end_place : Res Pooled → Place → Place → Place
  end_place (Ok p) first second = further (record_size * k) (of (whose_record k p) first second)
  end_place (Err e) first second = first

-- the contracts: what is handed back, and where it lies, for all bytes
module _ (first second : List ℕ) where
  abbrev pub lowest_end : List ℕ
  lowest_end = end_bytes 0 (pool first second) first second

  abbrev pub highest_end : List ℕ
  highest_end = end_bytes 1 (pool first second) first second

  abbrev pub lowest_place : Place → Place → Place
  lowest_place = end_place 0 (pool first second)

  abbrev pub highest_place : Place → Place → Place
  highest_place = end_place 1 (pool first second)

-- ---- what a caller in C is told

-- 0, or the number of the refusal
abbrev pub pool_number : Res Pooled → ℕ
pool_number (Ok p) = 0
pool_number (Err e) = error_number e

-- whose end it is: 0 the first file's, 1 the second's
abbrev pub whose_number : Whose → ℕ
whose_number First = 0
whose_number Second = 1

-- a number of the pooled summary; after a refusal the one that stood there before
abbrev pub told : (Pooled → ℕ) → Res Pooled → ℕ → ℕ
told number (Ok p) before = number p
told number (Err e) before = before

abbrev pub told_lowest : Res Pooled → ℕ → ℕ
told_lowest = told (λ p. whose_number p.lowest)

abbrev pub told_highest : Res Pooled → ℕ → ℕ
told_highest = told (λ p. whose_number p.highest)

abbrev pub told_flag : Res Pooled → ℕ → ℕ
told_flag = told (λ p. p.flag)
