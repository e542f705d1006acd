-- Where the ends of a file stand in the bytes of its summary, and the number that a literal's record holds. Assumes nothing.
use Rattle.std.specs.Prelude.{ℕ, ◌+◌, ◌*◌, ◌≤◌, Bool, true, false, List, ◌≡◌, refl, length, Ok}
use Rattle.std.proofs.Common.{arith, sym, ap, ap₂, ◌∙◌, eqb-true}
use Rattle.std.proofs.lemmas.Bool.{false≢true}
use Rattle.values.specs.Numbered.{find}
use Rattle.values.specs.Outcomes.{Res, present}
use Rattle.values.specs.laws.TypesLaws.{type_found}
use Rattle.values.specs.Types.{Layout, number, types, layout}
use Rattle.values.specs.Words.{word}
use Rattle.values.specs.declared.datatypes.PrimitiveType.{PrimitiveType}
use Rattle.sheet.specs.Records.{record_size, record_at, value}
use Rattle.sheet.specs.Values.{number_of}
use Rattle.sheet.specs.code.Placed.{content_at, number_at, LiteralAt}
use Rattle.sheet.specs.laws.PartLaws.{number_of_content}
use Rattle.sheet.specs.laws.RecordLaws.{fits_room, content_read, value_read}
use Rattle.summary.specs.Summaries.{Ends, none_present, ◌to◌, some_present, Summary, type_at, summary_size, summary}
use Rattle.summary.specs.code.SummaryAnswers.{ends_in, summary_of, summary_told}
use Rattle.summary.specs.declared.summary.Summary as code
use Rattle.summary.specs.laws.SummaryBytesLaws.{low_of, high_of, summary_parts, word_of_one}

-- the ends are the contents of the first two records
abbrev pub ends_at : Bool → List ℕ → Ends (List ℕ)
ends_at true f = content_at f 0 to content_at f 1
ends_at false f = none_present

-- those records are there and hold literals of the layout
pub record EndsThere (l : Layout) (f : List ℕ) : Type 0 where
  pub lowest : LiteralAt l f 0
  pub highest : LiteralAt l f 1

-- ---- an end
module _ (column : PrimitiveType) (f : List ℕ) (k : ℕ) (bs : List ℕ) (there : record_size * (k + 1) ≤ length f)
    (is : value (layout column) (record_at f k) ≡ Ok (present bs)) where
  end_there : LiteralAt (layout column) f k
  end_there =
      let c = content_read (layout column) (record_at f k) bs (value_read column (record_at f k) (present bs) is).is_content in
      record { there = there; short = fits_room column _ c.fit; fitting = c.fit }

  end_content : bs ≡ content_at f k
  end_content = (content_read (layout column) (record_at f k) bs (value_read column (record_at f k) (present bs) is).is_content).is_field

-- ---- a summary
pub record SummaryRead (f : List ℕ) (y : Summary) : Type 0 where
  pub sized : length f ≡ summary_size
  pub typed : find types (word type_at 1 f) ≡ Ok y.column
  pub ends_are : y.ends ≡ ends_at (some_present y.ends) f
  pub there : some_present y.ends ≡ true → EndsThere (layout y.column) f

record Found (column : PrimitiveType) (f : List ℕ) (ends : Ends (List ℕ)) : Type 0 where
  found_are : ends ≡ ends_at (some_present ends) f
  found_there : some_present ends ≡ true → EndsThere (layout column) f

found : (column : PrimitiveType) (f : List ℕ) → length f ≡ summary_size → (ends : Ends (List ℕ))
    → value (layout column) (record_at f 0) ≡ Ok (low_of ends) → value (layout column) (record_at f 1) ≡ Ok (high_of ends) → Found column f ends
found column f sized none_present l h = record { found_are = refl; found_there = λ t. absurd (false≢true t) }
found column f sized (a to b) l h =
    record {
      found_are = ap₂ ◌to◌ (end_content column f 0 a (omega (arith, sized)) l) (end_content column f 1 b (omega (arith, sized)) h);
      found_there = λ t. record { lowest = end_there column f 0 a (omega (arith, sized)) l; highest = end_there column f 1 b (omega (arith, sized)) h };
    }

pub summary_read : (f : List ℕ) (y : Summary) → summary f ≡ Ok y → SummaryRead f y
summary_read f y e =
    let p = summary_parts f y e in
    let here = found y.column f p.sized y.ends p.lowest p.highest in
    let typed = ap (find types) (word_of_one p.type_is) ∙ type_found y.column in
    record { sized = p.sized; typed = typed; ends_are = here.found_are; there = here.found_there }

-- ---- the code's summary
pub record SummaryTold (f : List ℕ) (x : code.Summary) : Type 0 where
  pub is : summary f ≡ Ok (summary_of x)
  pub ends_are : ends_in x.ends ≡ ends_at (some_present (ends_in x.ends)) f
  pub there : some_present (ends_in x.ends) ≡ true → EndsThere (layout x.column) f

-- what was read is the definition's summary, and its two ends lie in the first two records
pub ends_lie : (f : List ℕ) {r : Res code.Summary} {x : code.Summary} → summary_told r ≡ summary f → r ≡ Ok x → SummaryTold f x
ends_lie f {x = x} told is =
    let read : summary f ≡ Ok (summary_of x) = sym told ∙ ap summary_told is in
    let s = summary_read f (summary_of x) read in
    record { is = read; ends_are = s.ends_are; there = s.there }

-- ---- the number that an end is
module _ (column : PrimitiveType) (n : ℕ) (is : layout column ≡ number n) where
  pub number_end : (s : List ℕ) (k : ℕ) → LiteralAt (layout column) s k → number_at (layout column) s k ≡ number_of n (content_at s k)
  number_end s k at = let e = rw is at at.fitting in rw is (number_of_content n s k (eqb-true _ n e))
