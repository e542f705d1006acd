-- A pooled summary stands for both files: document 02, #105, over bytes. Summaries are a, b, e and f, sheets s, answer sheets q, and value records v and p.
-- Assumes nothing.
use Rattle.std.specs.Prelude.{ℕ, Bool, true, false, List, ◌⊎◌, ◌≡◌, take, Ok}
use Rattle.values.specs.Words.{word, AllBytes}
use Rattle.values.specs.declared.datatypes.PrimitiveType.{PrimitiveType}
use Rattle.projection.specs.declared.question.Question.TheVariants.{Inclusive}
use Rattle.api.specs.Demand3.{Returns, Accepts, RowOf}
use Rattle.summary.specs.Summaries.{none_present, Summary, flag_at, says_missing, says_none, summary}
use Rattle.pool.specs.Pooling.{pooled}
use Rattle.files.specs.FileDemand.{Covers, Skips}

-- pooling a and b gives f: `pooled` is no routine, but what a caller puts together from what `pool` answers, the record of the lowest end, that of the highest, the
-- type of both and the flag
abbrev pub Pools : List ℕ → List ℕ → List ℕ → Type 0
Pools a b f = pooled a b ≡ Ok f

abbrev pub PooledIsSummary : Type 0
PooledIsSummary = (a b f : List ℕ) → Pools a b f → (y : Summary) × (summary f ≡ Ok y)

-- it can be pooled again: its ends are UTF-8 and in order as well, and with itself it gives itself
abbrev pub PooledAgain : Type 0
PooledAgain = (a b f : List ℕ) → Pools a b f → Pools f f f

-- the pooled file may hold what either of the two may hold
abbrev pub PooledCoversEach : Type 0
PooledCoversEach = (a b f v : List ℕ) → Pools a b f → Covers a v ⊎ Covers b v → Covers f v

-- "A predicate that skips the pooled file skips each of the two"
abbrev pub PooledSkipsEach : Type 0
PooledSkipsEach = (s a b f : List ℕ) → Pools a b f → Skips s f → Skips s a × Skips s b

-- joined to demand 3: no row that meets the leaf has its partition value in one of two files whose pooled summary the inclusive predicate skips
abbrev pub NoRowInSkippedPool : Type 0
NoRowInSkippedPool = (s q a b f v p : List ℕ) → RowOf s p v → Pools a b f → Covers a p ⊎ Covers b p → Returns Inclusive s q → Skips q f → Accepts s v → ⊥

-- ---- files without present values, on either side: `AllBytes`, since a list with entries above 255 may say the same as another

-- the summary of a file without present values, with a missing one or not
abbrev pub NoneIn : Bool → List ℕ → Type 0
NoneIn has_missing e = (column : PrimitiveType) × (summary e ≡ Ok (record { column = column; ends = none_present; has_missing = has_missing }))

abbrev pub PooledWith : List ℕ → List ℕ → List ℕ → Type 0
PooledWith e f g = Pools e f g ⊎ Pools f e g

-- "A file with no present value adds only its missing mark": the other's ends, type and 2 in the flag stay
abbrev pub AddsItsMark : Type 0
AddsItsMark =
    (e f g : List ℕ) → AllBytes e → AllBytes f → NoneIn true e → PooledWith e f g
    → (take flag_at g ≡ take flag_at f) × (says_missing (word flag_at 1 g) ≡ true) × (says_none (word flag_at 1 g) ≡ says_none (word flag_at 1 f))

-- "an empty one nothing"
abbrev pub EmptyAddsNothing : Type 0
EmptyAddsNothing = (e f g : List ℕ) → AllBytes e → AllBytes f → NoneIn false e → PooledWith e f g → g ≡ f

-- pooling in either order gives the same bytes, or the same refusal
abbrev pub EitherOrder : Type 0
EitherOrder = (a b : List ℕ) → AllBytes a → AllBytes b → pooled a b ≡ pooled b a

pub record PoolDemand : Type 0 where
  pub pooled_is_summary : PooledIsSummary
  pub pooled_again : PooledAgain
  pub pooled_covers_each : PooledCoversEach
  pub pooled_skips_each : PooledSkipsEach
  pub no_row_in_skipped_pool : NoRowInSkippedPool
  pub adds_its_mark : AddsItsMark
  pub empty_adds_nothing : EmptyAddsNothing
  pub either_order : EitherOrder
