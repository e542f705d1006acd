-- What the code that reads sheets answers, as the definitions have it: a walk's count, the records that it names, and beginnings of contents. Assumes nothing.
use Rattle.std.specs.Prelude.{ℕ, suc, ◌+◌, ◌*◌, ◌≤◌, ◌<◌, Bool, true, false, cond, ◌&&◌, List, [], ◌∷◌, map, ◌≡◌, ◌==◌, nat_lt, length, get_or, take, Ok, Err, Option, Some, None, ◌++◌}
use Rattle.values.specs.Numbered.{find}
use Rattle.values.specs.Outcomes.{Res, need, ◌>>=◌, ◌>>◌}
use Rattle.values.specs.Types.{Layout, layout, content_size}
use Rattle.values.specs.Words.{field, word}
use Rattle.values.specs.declared.error.ErrorKind.TheVariants.{Malformed}
use Rattle.expr.specs.Operators.{operators, holds_limit}
use Rattle.expr.specs.Predicates.{literals_in}
use Rattle.sheet.specs.Records.{header_size, record_size, record_count, record_at, next_in, content}
use Rattle.sheet.specs.Sheets as sheets
use Rattle.sheet.specs.code.Placed.{content_at, LiteralAt}
use Rattle.sheet.specs.declared.head.Fields.{Fields}
use Rattle.sheet.specs.declared.head.Head.{Head}

abbrev pub is_ok : {A : Type 0} → Res A → Bool
is_ok (Ok x) = true
is_ok (Err e) = false

-- ---- beginnings of contents

-- the first bytes of record k's content, as many as `sizes` has at k
abbrev pub part_at : List ℕ → List ℕ → ℕ → List ℕ
part_at s sizes k = field header_size (get_or sizes k 0) (record_at s k)

pub record PartAt (s sizes : List ℕ) (k : ℕ) : Type 0 where
  pub there : record_size * (k + 1) ≤ length s
  pub sized : k < length sizes
  pub short : get_or sizes k 0 ≤ content_size

-- the first count of `records` are numbers of records of which `sizes` gives a beginning
pub record Parts (s sizes records : List ℕ) (count : ℕ) : Type 0 where
  pub room : count ≤ length records
  pub each : (i : ℕ) → i < count → PartAt s sizes (get_or records i 0)

abbrev pub parts_at : List ℕ → List ℕ → List ℕ → ℕ → List (List ℕ)
parts_at s sizes records count = map (part_at s sizes) (take count records)

-- ---- the walk along the chain

-- the number of the literal's record after record `at` on its chain: none where the chain ends, and 3 where it is broken
unfoldable pub literal_after : Layout → List ℕ → ℕ → Res (Option ℕ)
literal_after l s at =
    let n = next_in (record_at s at) in
    let sound = nat_lt at n && nat_lt n (record_count s) && is_ok (content l (record_at s n)) in
    cond (n == 0) (Ok None) (cond sound (Ok (Some n)) (Err Malformed))

-- whether the records with these numbers all hold literals
abbrev pub all_literals : Layout → List ℕ → List ℕ → Bool
all_literals l s [] = true
all_literals l s (n ∷ ns) = is_ok (content l (record_at s n)) && all_literals l s ns

-- numbers of records, which all have to hold literals
abbrev pub hold_literals : Layout → List ℕ → List ℕ → Res (List ℕ)
hold_literals l s ns = do
  need (all_literals l s ns) Malformed
  Ok ns

-- the numbers of the literals after record `at` on its chain
unfoldable pub records_from : Layout → List ℕ → ℕ → Res (List ℕ)
records_from l s at = do
  ns ← sheets.chain (record_count s) s at
  hold_literals l s ns

-- so many numbers as were there before, and those found
abbrev pub walked_as : ℕ → Res (List ℕ) → Res ℕ
walked_as filled (Ok ns) = Ok (filled + length ns)
walked_as filled (Err e) = Err e

-- what stands for a broken chain: more literals than any sheet has
abbrev pub broken_chain : ℕ
broken_chain = suc holds_limit

-- such a count as a plain number
abbrev pub counted : Res ℕ → ℕ
counted (Ok n) = n
counted (Err e) = broken_chain

-- the numbers found stand behind those that were there before
pub record Stored (filled : ℕ) (found : Res (List ℕ)) (before after : List ℕ) : Type 0 where
  pub stored : (ns : List ℕ) → found ≡ Ok ns → take (filled + length ns) after ≡ take filled before ++ ns
  pub kept : length after ≡ length before

-- the literals of a sheet that was read are the contents of the first records
pub record LiteralsRead (s records : List ℕ) (x : sheets.Sheet) : Type 0 where
  pub literals : literals_in x.leaf ≡ map (content_at s) (take (length (literals_in x.leaf)) records)
  pub each : (i : ℕ) → i < length (literals_in x.leaf) → LiteralAt (layout x.head.column) s (get_or records i 0)

-- ---- the head

-- what a sheet's first record says beside its next
unfoldable pub head_in : List ℕ → Res Head
head_in s = do
  operator ← find operators (word 2 2 s)
  h ← sheets.fields s
  Ok (record { operator = operator; column = h.column; transform = h.transform })

abbrev pub fields_read : Res sheets.Head → Res Fields
fields_read (Ok h) = Ok (record { column = h.column; transform = h.transform })
fields_read (Err e) = Err e
