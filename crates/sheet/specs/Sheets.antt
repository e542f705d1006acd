-- Sheets: a leaf over one column, with the transform that splits the table, as bytes. One rule of document 01 a line; what fails one is 3. Assumes nothing.
use Rattle.std.specs.Prelude.{ℕ, zero, suc, ◌-◌, ◌*◌, ◌%◌, cond, List, [], ◌∷◌, ◌++◌, ◌≡◌, refl, nat_lt, nat_le, ◌==◌, length, replicate, Ok, Err}
use Rattle.values.specs.Outcomes.{Res, need, each, ◌>>=◌, ◌>>◌}
use Rattle.values.specs.Numbered.{find}
use Rattle.values.specs.Types.{types, layout}
use Rattle.values.specs.Transforms.{transform_of}
use Rattle.values.specs.Words.{le_bytes, word, zero_at}
use Rattle.values.specs.declared.error.ErrorKind.TheVariants.{Malformed}
use Rattle.values.specs.declared.datatypes.PrimitiveType.{PrimitiveType}
use Rattle.values.specs.declared.transform.Transform.{Transform}
use Rattle.expr.specs.Operators.{operators}
use Rattle.expr.specs.Predicates.{Predicate, predicate}
use Rattle.sheet.specs.Records.{record_size, record_count, record_at, next_in, content}

-- ---- the chain

-- 01: "chained by a next index; zero ends the chain. A next is 0, or above its own record's number and below the record count. Records off the chain are
-- ignored." The numbers of the records after record k on its chain, found in so many steps. Since the numbers rise, as many steps as there are records are
-- enough: more give the same (`SheetLaws.chain_enough`), and the first line is never met
abbrev pub chain : ℕ → List ℕ → ℕ → Res (List ℕ)
chain zero s k = Ok []
chain (suc steps) s k =
    let next = next_in (record_at s k) in
    cond (next == 0) (Ok []) do
      need (nat_lt k next) Malformed
      need (nat_lt next (record_count s)) Malformed
      ns ← chain steps s next
      Ok (next ∷ ns)

-- records that hold a next and nothing else
abbrev nexts_only : List ℕ → List ℕ
nexts_only [] = []
nexts_only (n ∷ ns) = le_bytes 2 n ++ replicate (record_size - 2) 0 ++ nexts_only ns

-- record 0's next is 2, and record 2's is 0: record 1 is off the chain, and what it says is ignored
passed_over : chain 3 (nexts_only (2 ∷ 9 ∷ 0 ∷ [])) 0 ≡ Ok (2 ∷ [])
passed_over = refl

-- record 2's next is not above 2, and record 1's not below 3
points_back : chain 3 (nexts_only (2 ∷ 0 ∷ 1 ∷ [])) 0 ≡ Err Malformed
points_back = refl

past_the_last : chain 3 (nexts_only (1 ∷ 3 ∷ 0 ∷ [])) 0 ≡ Err Malformed
past_the_last = refl

-- ---- the head

-- the bytes up to the last of the fields; 01: "8–11 width; the rest zero"
abbrev pub head_size : ℕ
head_size = 12

pub record Head : Type 0 where
  pub column : PrimitiveType
  pub transform : Transform

-- the rules for type, transform and width, which a value to be transformed comes with too
unfoldable pub head : ℕ → ℕ → ℕ → Res Head
head type transform width = do
  t ← find types type
  f ← transform_of transform width
  Ok (record { column = t; transform = f })

-- 01: "4 column type; 5 transform; 8–11 width; the rest zero": what a head says beside its next and its operator
unfoldable pub fields : List ℕ → Res Head
fields r = do
  h ← head (word 4 1 r) (word 5 1 r) (word 8 4 r)
  need (zero_at 6 2 r) Malformed
  need (zero_at head_size (record_size - head_size) r) Malformed
  Ok h

-- ---- a sheet

pub record Sheet : Type 0 where
  pub head : Head
  pub leaf : Predicate (List ℕ)

-- 01: "A sheet is 1 to 65 records"; "0–1 next; 2–3 operator". `most` is the most literals, one fewer
-- than the records; since the numbers on a chain rise, no chain has more
unfoldable pub sheet : ℕ → List ℕ → Res Sheet
sheet most s = do
  need (nat_lt 0 (length s)) Malformed
  need (length s % record_size == 0) Malformed
  need (nat_le (length s) (record_size * suc most)) Malformed
  operator ← find operators (word 2 2 s)
  h ← fields s
  ns ← chain (record_count s) s 0
  literals ← each (λ n. content (layout h.column) (record_at s n)) ns
  leaf ← predicate operator literals
  Ok (record { head = h; leaf = leaf })
