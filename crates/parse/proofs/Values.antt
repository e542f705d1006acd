-- The value at a place, which was read before: it is missing where its length is the mark, and else it is the record's content. Assumes nothing.
use Rattle.std.proofs.Common.{ℕ, ◌+◌, ◌*◌, ◌≤◌, ◌<◌, cond, List, ◌≡◌, ◌≢◌, sym, ap, ◌∙◌, arith, length, Ok, eqb}
use Rattle.std.proofs.lemmas.List.{length-map}
use borrow.Author.Tests.{eq-eqb, ne_eqb}
use Rattle.values.specs.Outcomes.{Row, missing, present}
use Rattle.values.specs.Types.{layout, content_size}
use Rattle.values.specs.Words.{field, word, zero_at}
use Rattle.values.specs.declared.datatypes.PrimitiveType.{PrimitiveType}
use Rattle.values.specs.declared.error.ErrorKind.TheVariants.{Malformed}
use Rattle.values.specs.laws.OutcomeLaws.{ok_inj, passed, gone}
use Rattle.sheet.specs.Records.{header_size, record_size, next_in, length_in, record_at, missing_mark, missing_value, present_value, content, value}
use Rattle.sheet.specs.code.Placed.{content_at}
use Rattle.sheet.specs.laws.PartLaws.{length_here}
use Rattle.sheet.specs.laws.RecordLaws.{content_read, fits_room}
use Rattle.columns.specs.code.ColumnAnswers.{cell_at}
use Rattle.parse.specs.code.FilterReads.{columns_of, cells_for}
use Rattle.parse.specs.declared.request.Request.{Request}

module _ (ty : PrimitiveType) (r : List ℕ) {x : Row (List ℕ)} (e : value (layout ty) r ≡ Ok x) where
  chosen : cond (eqb (length_in r) missing_mark) (missing_value r) (present_value (layout ty) r) ≡ Ok x
  unfolding value
  chosen = (passed (eqb (next_in r) 0) Malformed _ e).1

  marked : length_in r ≡ missing_mark → x ≡ missing
  marked m =
      let size = passed (eqb (length r) record_size) Malformed _ (rw (eq-eqb (length_in r) missing_mark m) at chosen) in
      sym (ok_inj (passed (zero_at header_size content_size r) Malformed _ size.1).1)

  unmarked : length_in r ≢ missing_mark → (x ≡ present (field header_size (length_in r) r)) × (length_in r ≤ content_size)
  unmarked n =
      let bytes = gone (content (layout ty) r) (λ (bs : List ℕ). Ok (present bs)) (rw (ne_eqb (length_in r) missing_mark n) at chosen) in
      let read = content_read (layout ty) r bytes.0 bytes.1 in
      (sym (ok_inj bytes.2) ∙ ap present read.is_field, fits_room ty (length_in r) read.fit)

module _ (q : Request) (place : ℕ) (inside : place < length (columns_of q)) where
  has_cell : place < length (cells_for q)
  has_cell = omega (arith, length-map (cells_for q) (λ y. y.column), ap length q.read.columns)

  abbrev says : ℕ → Type 0
  says n = n ≡ word (record_size * place + 2) 2 q.values.now

  pub value_missing : (n : ℕ) → says n → n ≡ missing_mark → (cell_at (cells_for q) place).row ≡ missing
  value_missing n is m = marked _ _ (q.read.all place has_cell).is (sym (length_here q.values.now place) ∙ sym is ∙ m)

  pub value_short : (n : ℕ) → says n → n ≢ missing_mark → length_in (record_at q.values.now place) ≤ content_size
  value_short n is m = (unmarked _ _ (q.read.all place has_cell).is (λ e. m (is ∙ length_here q.values.now place ∙ e))).1

  pub value_present : (n : ℕ) → says n → n ≢ missing_mark → (cell_at (cells_for q) place).row ≡ present (content_at q.values.now place)
  value_present n is m = (unmarked _ _ (q.read.all place has_cell).is (λ e. m (is ∙ length_here q.values.now place ∙ e))).0
