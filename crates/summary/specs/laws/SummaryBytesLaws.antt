-- Summaries as bytes: the flag byte, the parts that say what a summary says, and a summary that is put together. Assumes nothing.
use Rattle.std.specs.Prelude.{ℕ, zero, suc, ◌≤◌, ◌<◌, Bool, true, false, not, List, [], ◌∷◌, ◌++◌, ◌≡◌, refl, eqb, leb, length, take, drop, Ok}
use Rattle.std.proofs.Common.{arith, append_assoc, sym, ap, ◌∙◌, length-append, drop-cons, take_at, drop_at, take_all, take-add, drop-drop, leb-true, eqb-true, eq-eqb}
use Rattle.values.specs.Numbered.{find}
use Rattle.values.specs.Outcomes.{Row, missing, present}
use Rattle.values.specs.laws.OutcomeLaws.{ok_inj, ok_not_err, passing, going, passed, gone}
use Rattle.values.specs.laws.TestLaws.{not_not}
use Rattle.values.specs.laws.TypesLaws.{type_found, type_number_lem}
use Rattle.values.specs.laws.WordLaws.{word_one}
use Rattle.values.specs.Types.{types, type_number, layout}
use Rattle.values.specs.Words.{le_number, field, word}
use Rattle.values.specs.declared.error.ErrorKind.TheVariants.{Malformed}
use Rattle.sheet.specs.Records.{record_size, record_at, value}
use Rattle.sheet.specs.laws.RecordLaws.{value_read}
use Rattle.summary.specs.Summaries.{Ends, none_present, ◌to◌, some_present, Summary, type_at, flag_at, summary_size}
use Rattle.summary.specs.Summaries.{says_missing, says_none, highest_flag, flag_of, ends_of, summary}

-- ---- the flag
pub record FlagSays (has_missing some : Bool) (flag : ℕ) : Type 0 where
  pub missing_said : says_missing flag ≡ has_missing
  pub none_said : says_none flag ≡ not some
  most : leb flag highest_flag ≡ true

pub flag_says : (has_missing some : Bool) → FlagSays has_missing some (flag_of has_missing some)
flag_says true true = record { missing_said = refl; none_said = refl; most = refl }
flag_says true false = record { missing_said = refl; none_said = refl; most = refl }
flag_says false true = record { missing_said = refl; none_said = refl; most = refl }
flag_says false false = record { missing_said = refl; none_said = refl; most = refl }

flag_back : (flag : ℕ) → flag ≤ highest_flag → flag_of (says_missing flag) (not (says_none flag)) ≡ flag
flag_back zero h = refl
flag_back (suc zero) h = refl
flag_back (suc (suc zero)) h = refl
flag_back (suc (suc (suc zero))) h = refl
flag_back (suc (suc (suc (suc n)))) h = absurd (omega arith)

-- ---- the ends as rows: missing where no value is present
module _ {A : Type 0} where
  abbrev pub low_of : Ends A → Row A
  low_of none_present = missing
  low_of (l to h) = present l

  abbrev pub high_of : Ends A → Row A
  high_of none_present = missing
  high_of (l to h) = present h

  ends_made : (ends : Ends A) → ends_of (not (some_present ends)) (low_of ends) (high_of ends) ≡ Ok ends
  ends_made none_present = refl
  ends_made (l to h) = refl

  pub record EndsFound (none : Bool) (low high : Row A) (ends : Ends A) : Type 0 where
    none_is : none ≡ not (some_present ends)
    pub low_is : low ≡ low_of ends
    pub high_is : high ≡ high_of ends

  pub ends_found : (none : Bool) (low high : Row A) (ends : Ends A) → ends_of none low high ≡ Ok ends → EndsFound none low high ends
  ends_found true missing missing ends e = rw (← ok_inj e) (record { none_is = refl; low_is = refl; high_is = refl })
  ends_found true missing (present h) ends e = ok_not_err e
  ends_found true (present l) high ends e = ok_not_err e
  ends_found false missing high ends e = ok_not_err e
  ends_found false (present l) missing ends e = ok_not_err e
  ends_found false (present l) (present h) ends e = rw (← ok_inj e) (record { none_is = refl; low_is = refl; high_is = refl })

-- ---- the parts of the bytes that say what y says
pub record SummaryParts (f : List ℕ) (y : Summary) : Type 0 where
  pub sized : length f ≡ summary_size
  pub type_is : field type_at 1 f ≡ type_number y.column ∷ []
  pub flag_is : field flag_at 1 f ≡ flag_of y.has_missing (some_present y.ends) ∷ []
  pub lowest : value (layout y.column) (record_at f 0) ≡ Ok (low_of y.ends)
  pub highest : value (layout y.column) (record_at f 1) ≡ Ok (high_of y.ends)

-- the list of one byte, and its number
field_one : (at : ℕ) (f : List ℕ) → at < length f → field at 1 f ≡ word at 1 f ∷ []
field_one at f h = ap (take 1) (drop-cons f at 0 h) ∙ ap (λ b. b ∷ []) (sym (word_one at f))

pub word_of_one : {b : ℕ} {bs : List ℕ} → bs ≡ b ∷ [] → le_number bs ≡ b
word_of_one e = ap le_number e ∙ omega arith

-- a summary that was read has them
pub summary_parts : (f : List ℕ) (y : Summary) → summary f ≡ Ok y → SummaryParts f y
unfolding summary
summary_parts f y e =
    let flag = word flag_at 1 f in
    let size = passed (eqb (length f) summary_size) Malformed _ e in
    let column = gone (find types (word type_at 1 f)) _ size.1 in
    let most = passed (leb flag highest_flag) Malformed _ column.2 in
    let low = gone (value (layout column.0) (record_at f 0)) _ most.1 in
    let high = gone (value (layout column.0) (record_at f 1)) _ low.2 in
    let ends = gone (ends_of (says_none flag) low.0 high.0) _ high.2 in
    let found = ends_found (says_none flag) low.0 high.0 ends.0 ends.1 in
    let sized = eqb-true (length f) summary_size size.0 in
    let type : word type_at 1 f ≡ type_number column.0 = sym (type_number_lem (word type_at 1 f) column.0 column.1) in
    let some : not (says_none flag) ≡ some_present ends.0 = ap not found.none_is ∙ not_not (some_present ends.0) in
    let flagged : flag ≡ flag_of (says_missing flag) (some_present ends.0)
    = sym (flag_back flag (leb-true flag highest_flag most.0)) ∙ ap (flag_of (says_missing flag)) some in
    rw (← ok_inj ends.2) (record {
      sized = sized;
      type_is = field_one type_at f (omega arith) ∙ ap (λ b. b ∷ []) type;
      flag_is = field_one flag_at f (omega arith) ∙ ap (λ b. b ∷ []) flagged;
      lowest = low.1 ∙ ap Ok found.low_is;
      highest = high.1 ∙ ap Ok found.high_is;
    })

-- and what has them is read so
pub summary_back : (f : List ℕ) (y : Summary) → SummaryParts f y → summary f ≡ Ok y
unfolding summary
summary_back f y p =
    let says = flag_says y.has_missing (some_present y.ends) in
    let type = word_of_one p.type_is in
    let flag = word_of_one p.flag_is in
    let none = ap says_none flag ∙ says.none_said in
    passing Malformed _ (eq-eqb (length f) summary_size p.sized)
    ∙ going _ (ap (find types) type ∙ type_found y.column)
    ∙ passing Malformed _ (ap (λ w. leb w highest_flag) flag ∙ says.most)
    ∙ going _ p.lowest
    ∙ going _ p.highest
    ∙ going _ (ap (λ b. ends_of b (low_of y.ends) (high_of y.ends)) none ∙ ends_made y.ends)
    ∙ ap (λ b. Ok (record { column = y.column; ends = y.ends; has_missing = b })) (ap says_missing flag ∙ says.missing_said)

-- ---- the parts in their order

-- what stands before the flag, and the whole
pub before_flag : (f : List ℕ) → take flag_at f ≡ record_at f 0 ++ record_at f 1 ++ field type_at 1 f
before_flag f = take-add type_at 1 f ∙ ap (λ r. r ++ field type_at 1 f) (take-add record_size record_size f)

pub summary_whole : (f : List ℕ) (y : Summary) → SummaryParts f y → f ≡ take flag_at f ++ (flag_of y.has_missing (some_present y.ends) ∷ [])
summary_whole f y p = sym (take_all summary_size f (omega (arith, p.sized))) ∙ take-add flag_at 1 f ∙ ap (λ r. take flag_at f ++ r) p.flag_is

module _ (low high : List ℕ) (y : Summary) (low_is : value (layout y.column) low ≡ Ok (low_of y.ends))
    (high_is : value (layout y.column) high ≡ Ok (high_of y.ends)) where
  abbrev type : ℕ
  type = type_number y.column

  abbrev flag : ℕ
  flag = flag_of y.has_missing (some_present y.ends)

  abbrev made : List ℕ
  made = low ++ high ++ (type ∷ []) ++ (flag ∷ [])

  low_size : length low ≡ record_size
  low_size = (value_read y.column low (low_of y.ends) low_is).whole

  high_size : length high ≡ record_size
  high_size = (value_read y.column high (high_of y.ends) high_is).whole

  as_one : made ≡ low ++ (high ++ (type ∷ flag ∷ []))
  as_one = append_assoc (low ++ high) (type ∷ []) (flag ∷ []) ∙ append_assoc low high (type ∷ flag ∷ [])

  after_low : drop record_size made ≡ high ++ (type ∷ flag ∷ [])
  after_low = ap (drop record_size) as_one ∙ drop_at low (high ++ (type ∷ flag ∷ [])) record_size low_size

  after_high : drop type_at made ≡ type ∷ flag ∷ []
  after_high = sym (drop-drop record_size record_size made) ∙ ap (drop record_size) after_low ∙ drop_at high (type ∷ flag ∷ []) record_size high_size

  -- two value records, and the type byte and the flag byte behind them
  pub summary_made : summary (low ++ high ++ (type ∷ []) ++ (flag ∷ [])) ≡ Ok y
  summary_made = summary_back made y (record {
    sized = ap length as_one ∙ omega (arith, length-append low (high ++ (type ∷ flag ∷ [])), length-append high (type ∷ flag ∷ []), low_size, high_size);
    type_is = ap (take 1) after_high;
    flag_is = ap (take 1) (sym (drop-drop 1 type_at made) ∙ ap (drop 1) after_high);
    lowest = ap (value (layout y.column)) (ap (take record_size) as_one ∙ take_at low _ record_size low_size) ∙ low_is;
    highest = ap (value (layout y.column)) (ap (take record_size) after_low ∙ take_at high _ record_size high_size) ∙ high_is;
  })
