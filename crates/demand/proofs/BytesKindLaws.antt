-- Byte strings are a lawful kind: what is read is no longer than its type allows and UTF-8 in a String, and so are partition values and predicates.
-- Assumes nothing.
use Rattle.std.specs.Prelude.{Ok}
use Prim.Native.Nat.{ℕ, ◌≤◌, ◌<◌}
use native.Mathlib.Omega.{arith}
use mathlib.Core.Bool.{true≢false}
use mathlib.Core.List.{List, [], ◌∷◌}
use mathlib.Core.Path.{◌≡◌, sym, ap, subst, ◌∙◌}
use lib.ListN.{length}
use borrow.Author.Tests.{leb-true, le-leb}
use Rattle.values.specs.code.Places.{AllOf}
use Rattle.values.specs.Outcomes.{Row, missing, present}
use Rattle.values.specs.laws.OutcomeLaws.{ok_inj, passing, passed}
use Rattle.values.specs.Types.{number, bytes, layout, type_number}
use Rattle.values.specs.code.ByteTypes.{is_bytes}
use Rattle.values.specs.laws.TypesLaws.{bytes_layout}
use Rattle.values.specs.declared.datatypes.PrimitiveType.{PrimitiveType}
use Rattle.values.specs.declared.datatypes.PrimitiveType.TheVariants.{Int, Long, Date, Time, Timestamp, Timestamptz, TimestampNs, TimestamptzNs, String, Binary}
use Rattle.values.specs.declared.error.ErrorKind.TheVariants.{NotUtf8}
use Rattle.values.specs.declared.transform.Transform.{Transform}
use Rattle.values.specs.declared.transform.Transform.TheVariants.{Identity, Truncate, Year, Month, Day, Hour, Void, Unknown}
use Rattle.partition.specs.Partition.{bytes_partition}
use Rattle.partition.specs.code.PartitionAnswers.{OfPresent}
use Rattle.partition.specs.laws.PartitionLaws.{listed_to}
use Rattle.partition.specs.ResultType.{truncatable, with_days, with_hours, result_type}
use Rattle.expr.specs.Operators.{project_limit, holds_limit}
use Rattle.expr.specs.Holds.{bytes_tests}
use Rattle.expr.specs.Predicates.{Predicate, literals_in}
use Rattle.projection.specs.laws.LeafDemand as over-values
use Rattle.projection.specs.laws.LeafDemand.{HeldIn}
use Rattle.projection.proofs.LandingLaws.{bytes_land, bytes_short, bytes_partition_lands, bytes_partition_short}
use Rattle.projection.specs.laws.LiteralLaws.{Landed}
use Rattle.projection.specs.Projection.{project_bytes}
use Rattle.projection.specs.Steps.{some}
use Rattle.projection.specs.declared.question.Question.{Question}
use Rattle.sheet.specs.Values.{read_bytes}
use Rattle.meets.specs.Tested.{tested_sheet}
use Rattle.answers.specs.Kinds.{byte_strings}
use Rattle.answers.specs.Answers.{transformed_row}
use Rattle.answers.specs.laws.BytesLeafLaws.{no_time, not_listed}
use Rattle.demand.proofs.KindLaws.{KindLaws}
use Rattle.demand.proofs.ReadBackLaws.{ValueLaws}

-- ---- the types of byte strings: 9 and 10
pub numbers_at_most : (column : PrimitiveType) (n : ℕ) → layout column ≡ number n → type_number column ≤ 8
numbers_at_most Int n e = omega arith
numbers_at_most Long n e = omega arith
numbers_at_most Date n e = omega arith
numbers_at_most Time n e = omega arith
numbers_at_most Timestamp n e = omega arith
numbers_at_most Timestamptz n e = omega arith
numbers_at_most TimestampNs n e = omega arith
numbers_at_most TimestamptzNs n e = omega arith
numbers_at_most String n e = absurd (true≢false (cc))
numbers_at_most Binary n e = absurd (true≢false (cc))

pub bytes_above : (column : PrimitiveType) (n : ℕ) → layout column ≡ bytes n → 8 < type_number column
bytes_above Int n e = absurd (true≢false (cc))
bytes_above Long n e = absurd (true≢false (cc))
bytes_above Date n e = absurd (true≢false (cc))
bytes_above Time n e = absurd (true≢false (cc))
bytes_above Timestamp n e = absurd (true≢false (cc))
bytes_above Timestamptz n e = absurd (true≢false (cc))
bytes_above TimestampNs n e = absurd (true≢false (cc))
bytes_above TimestamptzNs n e = absurd (true≢false (cc))
bytes_above String n e = omega arith
bytes_above Binary n e = omega arith

-- the result type is one of byte strings
pub bytes_result_lem : (column to : PrimitiveType) (transform : Transform) (n : ℕ) → layout column ≡ bytes n → result_type transform column ≡ Ok to
    → layout to ≡ bytes n
unfolding result_type
bytes_result_lem column to Identity n is e = ap layout (sym (ok_inj e)) ∙ is
bytes_result_lem column to (Truncate width) n is e = ap layout (sym (listed_to truncatable column column e)) ∙ is
bytes_result_lem column to Year n is e = not_listed with_days column Int (no_time column n is).0 e
bytes_result_lem column to Month n is e = not_listed with_days column Int (no_time column n is).0 e
bytes_result_lem column to Day n is e = not_listed with_days column Date (no_time column n is).0 e
bytes_result_lem column to Hour n is e = not_listed with_hours column Int (no_time column n is).1 e
bytes_result_lem column to Void n is e = ap layout (sym (ok_inj e)) ∙ is
bytes_result_lem column to Unknown n is e = ap layout (sym (ok_inj e)) ∙ sym (bytes_layout column (ap is_bytes is)) ∙ is

-- ---- the values of a byte string type: at most n bytes, and UTF-8 in a String
abbrev pub Short : ℕ → List ℕ → Type 0
Short n s = length s ≤ n

abbrev pub ShortIn : PrimitiveType → ℕ → List ℕ → Type 0
ShortIn column n s = HeldIn column s × Short n s

unfoldable pub bytes_values : (column : PrimitiveType) (n : ℕ) → layout column ≡ bytes n → ValueLaws column (read_bytes column) (λ s. s) bytes_tests
unfolding tested_sheet
bytes_values column n is = record {
  Good = ShortIn column n;
  reads = λ bs s h e.
      let a = passed _ NotUtf8 _ e in
      subst (ShortIn column n) (ok_inj a.1) (a.0, leb-true (length bs) n (rw is at h));
  fit = λ s h. rw is (le-leb (length s) n h.1);
  back = λ s h. passing NotUtf8 _ h.0;
  tests = λ transform leaf row. rw is;
}

-- both properties of rows and of literals, and each
module _ (column : PrimitiveType) (n : ℕ) where
  pub row_parts : (r : Row (List ℕ)) → OfPresent (ShortIn column n) r → OfPresent (HeldIn column) r × OfPresent (Short n) r
  row_parts missing h = (tt, tt)
  row_parts (present s) h = h

  pub row_both : (r : Row (List ℕ)) → OfPresent (HeldIn column) r → OfPresent (Short n) r → OfPresent (ShortIn column n) r
  row_both missing h k = tt
  row_both (present s) h k = (h, k)

  pub all_parts : (ls : List (List ℕ)) → AllOf (ShortIn column n) ls → AllOf (HeldIn column) ls × AllOf (Short n) ls
  all_parts [] h = (tt, tt)
  all_parts (l ∷ ls) h = let rest = all_parts ls h.1 in ((h.0.0, rest.0), (h.0.1, rest.1))

  pub all_both : (ls : List (List ℕ)) → AllOf (HeldIn column) ls → AllOf (Short n) ls → AllOf (ShortIn column n) ls
  all_both [] h k = tt
  all_both (l ∷ ls) h k = ((h.0, k.0), all_both ls h.1 k.1)

-- a row of values of the type is one of values that are UTF-8 where they must be
pub row_held : (column : PrimitiveType) (n : ℕ) (transform : Transform) (r p : Row (List ℕ))
    → over-values.RowOf (ShortIn column n) (bytes_partition column transform) r p → over-values.RowOf (HeldIn column) (bytes_partition column transform) r p
row_held column n transform r p h = ((row_parts column n r h.0).0, h.1)

-- ---- the kind
module _ (column to : PrimitiveType) (transform : Transform) (n : ℕ) (result : result_type transform column ≡ Ok to) where
  pub bytes_part : (r p : Row (List ℕ)) → OfPresent (ShortIn column n) r → bytes_partition column transform r ≡ Ok p → OfPresent (ShortIn to n) p
  bytes_part r p h e =
      let both = row_parts column n r h in
      row_both to n p (bytes_partition_lands column to transform r p result e both.0) (bytes_partition_short n column transform r p e both.1)

  pub bytes_literals : (question : Question) (l p : Predicate (List ℕ)) → Landed (ShortIn column n) project_limit l
      → project_bytes question column transform l ≡ Ok (some p) → Landed (ShortIn to n) holds_limit p
  bytes_literals question l p h e =
      let both = all_parts column n (literals_in l) h.all in
      let x = bytes_land question column to transform l p result both.0 e in
      record { all = all_both to n (literals_in p) x.all (bytes_short n question column transform l p both.1 e); count = omega (arith, x.count, h.count) }

unfoldable pub bytes_kind : (column to : PrimitiveType) (transform : Transform) (n : ℕ) → layout column ≡ bytes n → result_type transform column ≡ Ok to
    → KindLaws column to transform (byte_strings column transform)
unfolding bytes_values transformed_row
bytes_kind column to transform n is result = record {
  result = result;
  row_write = λ s. s;
  row_tests = bytes_tests;
  rows = bytes_values column n is;
  part_read = read_bytes to;
  part_tests = bytes_tests;
  parts = bytes_values to n (bytes_result_lem column to transform n is result);
  part_good = λ r p h e. bytes_part column to transform n result r p h e;
  project_good = λ question l p h e. bytes_literals column to transform n result question l p h e;
  transforms = λ row. rw is;
}
