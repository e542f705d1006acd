-- What a summary is by its ends, where the rest of it was read, and that the ends have lengths of the type. Assumes nothing.
use Rattle.std.specs.Prelude.{ℕ, ◌≤◌, List, ◌≡◌, length, slice_index, Ok, Err, Option, Some, option_copied}
use Rattle.std.proofs.Common.{sym, ap, ◌∙◌, le-leb, eq-eqb}
use denote.Ref.{Bor}
use Rattle.values.specs.Numbered.{find}
use Rattle.values.specs.Outcomes.{Res, ◌>>=◌, Row, present}
use Rattle.values.specs.Types.{types, layout}
use Rattle.values.specs.code.Lent.{lent_value}
use Rattle.values.specs.declared.datatypes.PrimitiveType.{PrimitiveType}
use Rattle.values.specs.declared.error.ErrorKind.{ErrorKind}
use Rattle.values.specs.laws.WordLaws.{word_one}
use Rattle.sheet.specs.Records.{record_at, value}
use Rattle.sheet.specs.laws.RecordLaws.{value_read}
use Rattle.summary.specs.Summaries as summaries
use Rattle.summary.specs.Summaries.{◌to◌, type_at, flag_at, summary_size, says_missing, says_none, highest_flag, ends_of, summary}
use Rattle.summary.specs.code.Fitting.{EndsFit}
use Rattle.summary.specs.code.SummaryAnswers.{ends_in, ends_told}
use Rattle.summary.specs.laws.SummaryBytesLaws.{ends_found}
use Rattle.summary.specs.declared.summary.Ends.{Ends}

-- a value that was read from a part of the summary
pub value_found : (column : PrimitiveType) {part bs : List ℕ} {r : Res (Option (Bor (List ℕ)))} {row : Option (Bor (List ℕ))}
    → lent_value r ≡ value (layout column) part → part ≡ bs → r ≡ Ok row → value (layout column) bs ≡ Ok (option_copied row)
value_found column told is was = rw (← is) (sym told ∙ ap lent_value was)

-- all but the ends was read
pub record Read (f : List ℕ) (column : PrimitiveType) (low high : Row (List ℕ)) : Type 0 where
  pub sized : length f ≡ summary_size
  pub typed : find types (slice_index f type_at) ≡ Ok column
  pub flagged : slice_index f flag_at ≤ highest_flag
  pub lowest : value (layout column) (record_at f 0) ≡ Ok low
  pub highest : value (layout column) (record_at f 1) ≡ Ok high

module _ {f : List ℕ} {column : PrimitiveType} {low high : Row (List ℕ)} (read : Read f column low high) where
  abbrev flag : ℕ
  flag = slice_index f flag_at

  abbrev with_ends : summaries.Ends (List ℕ) → Res summaries.Summary
  with_ends ends = Ok (record { column = column; ends = ends; has_missing = says_missing flag })

  by_ends : summary f ≡ (ends_of (says_none flag) low high >>= with_ends)
  unfolding summary
  by_ends =
      rw (
        eq-eqb (length f) summary_size read.sized,
        word_one type_at f,
        word_one flag_at f,
        read.typed,
        le-leb flag highest_flag read.flagged,
        read.lowest,
        read.highest,
      )

  module _ {r : Res (Option Ends)} (told : ends_told r ≡ ends_of (says_none flag) low high) where
    pub no_ends : {e : ErrorKind} → r ≡ Err e → summary f ≡ Err e
    no_ends was = by_ends ∙ ap (λ x. x >>= with_ends) (sym told ∙ ap ends_told was)

    pub summary_made : {ends : Option Ends} → r ≡ Ok ends → Ok (record { column = column; ends = ends_in ends; has_missing = says_missing flag }) ≡ summary f
    summary_made was = sym (by_ends ∙ ap (λ x. x >>= with_ends) (sym told ∙ ap ends_told was))

    -- two ends are the contents of the two records
    pub ends_fit : {ends : Option Ends} → r ≡ Ok ends → (x : Ends) → ends ≡ Some x → EndsFit (layout column) x.lowest.now x.highest.now
    ends_fit was x is =
        let found = ends_found (says_none flag) low high (x.lowest.now to x.highest.now) (sym told ∙ ap ends_told was ∙ ap (λ e. Ok (ends_in e)) is) in
        record {
          low = (value_read column (record_at f 0) (present x.lowest.now) (read.lowest ∙ ap Ok found.low_is)).fit;
          high = (value_read column (record_at f 1) (present x.highest.now) (read.highest ∙ ap Ok found.high_is)).fit;
        }
