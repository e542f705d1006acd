-- The counts of groups of years: how large they are, that they make the year, and that no others do. Assumes nothing.
use Rattle.std.specs.Prelude.{ℕ, ◌+◌, ◌*◌, ◌/◌, ◌%◌, ◌<◌, ◌≡◌, ℤ, ◌+ℤ◌, ◌*ℤ◌}
use Rattle.std.proofs.Common.{arith}
use Rattle.std.proofs.Math.IntN.{pos}
use Rattle.values.specs.laws.IntLaws.{up, dn, ints, plus, minus, times}
use Rattle.transform.specs.Floor.{floor_mod}
use Rattle.transform.specs.laws.FloorLaws.{rem_lt, floor_lin, floor_unique}
use Rattle.transform.specs.Calendar.{civil_year}
use Rattle.transform.specs.YearGroups.{years_before, count400, count100, count4, count1, year_from, InRange, CountsInRange, CountsMakeYear}

-- the year from counts, as `omega` reads it
pub year_lin : (a : ℤ) (b c e : ℕ)
    → up (year_from a b c e) + dn a * 400 ≡ dn (year_from a b c e) + (1 + up a * 400 + (b * 100 + c * 4 + e))
year_lin a b c e =
    let years = a *ℤ pos 400 in
    omega (ints, times a 400, plus (pos 1) years, plus (pos 1 +ℤ years) (pos (b * 100 + c * 4 + e)))

-- the rest of a 100 and that of a 4 are those of the rest of a 400
module _ (z : ℤ) where
  abbrev rest : ℕ
  rest = floor_mod z 400

  rest_small : rest < 400
  rest_small = rem_lt 400 (omega arith) z

  rest_100 : floor_mod z 100 ≡ rest % 100
  rest_100 =
      omega (arith, floor_lin 400 (omega arith) z, floor_lin 100 (omega arith) z, rest_small, rem_lt 100 (omega arith) z)

  rest_4 : floor_mod z 4 ≡ rest % 4
  rest_4 = omega (arith, floor_lin 400 (omega arith) z, floor_lin 4 (omega arith) z, rest_small, rem_lt 4 (omega arith) z)

  rest_is : rest / 100 * 100 + floor_mod z 100 / 4 * 4 + floor_mod z 4 ≡ rest
  rest_is = rw (rest_100, rest_4) (omega arith)

pub counts_in_range : CountsInRange
unfolding count100 count4 count1
counts_in_range d h =
    let z = years_before d in
    (omega (arith, rest_small z), omega (arith, rem_lt 100 (omega arith) z), omega (arith, rem_lt 4 (omega arith) z))

pub counts_make_year : CountsMakeYear
unfolding count400 count100 count4 count1 years_before
counts_make_year d h =
    let z = years_before d in
    omega (
      ints,
      minus (civil_year d) (pos 1),
      floor_lin 400 (omega arith) z,
      rest_is z,
      year_lin (count400 d) (count100 d) (count4 d) (count1 d),
    )

-- no other counts in these ranges make the year
module _ (d a : ℤ) (b c e : ℕ) (range : InRange b c e) (year : year_from a b c e ≡ civil_year d) where
  abbrev z : ℤ
  z = years_before d

  digits : z ≡ (a *ℤ pos 400) +ℤ pos (b * 100 + c * 4 + e)
  unfolding years_before
  digits =
      omega (
        ints,
        year,
        minus (civil_year d) (pos 1),
        year_lin a b c e,
        times a 400,
        plus (a *ℤ pos 400) (pos (b * 100 + c * 4 + e)),
      )

  only_400 : a ≡ count400 d
  unfolding count400
  only_400 = floor_unique 400 (omega arith) z a (b * 100 + c * 4 + e) (omega arith) digits

  only_rest : floor_mod z 400 ≡ b * 100 + c * 4 + e
  unfolding count400
  only_rest =
      omega (ints, digits, only_400, floor_lin 400 (omega arith) z, times a 400, plus (a *ℤ pos 400) (pos (b * 100 + c * 4 + e)))

  only_100 : b ≡ count100 d
  unfolding count100
  only_100 = omega (arith, only_rest)

  only_4 : c ≡ count4 d
  unfolding count4
  only_4 = omega (arith, only_rest, rest_100 z)

  only_1 : e ≡ count1 d
  unfolding count1
  only_1 = omega (arith, only_rest, rest_4 z)

  pub counts_only : (a ≡ count400 d) × (b ≡ count100 d) × (c ≡ count4 d) × (e ≡ count1 d)
  counts_only = (only_400, only_100, only_4, only_1)
