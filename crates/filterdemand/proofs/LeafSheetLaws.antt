-- The sheet of one leaf with one literal, as `Requests` writes it, is read back. Assumes nothing.
use Rattle.std.specs.Prelude.{Ok}
use Prim.Native.Nat.{ℕ, suc, ◌*◌, ◌%◌, ◌≤◌, ◌<◌}
use native.Mathlib.Omega.{arith}
use mathlib.Core.Bool.{true}
use mathlib.Core.List.{List, [], ◌∷◌}
use mathlib.Core.Path.{◌≡◌, refl, sym, ap, ap₂, ◌∙◌}
use lib.ListN.{length, length-append}
use lib.Seq.{take_at}
use borrow.Author.Tests.{lt-ltb, le-leb, eq-eqb}
use Rattle.values.specs.Numbered.{find}
use Rattle.values.specs.laws.OutcomeLaws.{ok_inj, passing, going, gone}
use Rattle.values.specs.laws.TypesLaws.{type_found, type_number_lem, transform_code, transform_found, transform_numbers}
use Rattle.values.specs.laws.WordLaws.{number_bytes_lem}
use Rattle.values.specs.Transforms.{width_of, transform_of}
use Rattle.values.specs.Types.{types, type_number, layout, fits}
use Rattle.values.specs.Words.{le_bytes, le_number}
use Rattle.values.specs.declared.datatypes.PrimitiveType.{PrimitiveType}
use Rattle.values.specs.declared.datatypes.PrimitiveType.TheVariants.{Int, Long, Date, Time, String, Binary}
use Rattle.values.specs.declared.datatypes.PrimitiveType.TheVariants.{Timestamp, Timestamptz, TimestampNs, TimestamptzNs}
use Rattle.values.specs.declared.error.ErrorKind.TheVariants.{Malformed}
use Rattle.values.specs.declared.transform.Transform.{Transform}
use Rattle.values.specs.declared.transform.Transform.TheVariants.{Identity, Truncate, Year, Month, Day, Hour, Void, Unknown}
use Rattle.expr.specs.Operators as operators
use Rattle.expr.specs.Operators.{operator_number, operator_of, one}
use Rattle.expr.specs.laws.PredicateLaws.{operator_found, predicate_back}
use Rattle.expr.specs.Predicates.{test, binary}
use Rattle.sheet.specs.Records.{record_size, record_count, record_at, next_in, content}
use Rattle.sheet.specs.laws.RecordLaws.{fits_room}
use Rattle.sheet.specs.Sheets.{chain, Head, head, fields, sheet}
use Rattle.write.specs.Written.{literal_record}
use Rattle.write.specs.laws.RoundTripLaws.{length_literal, content_back}
use Rattle.api.specs.Requests.{sheet_of}
use Rattle.demand.proofs.ReadBackLaws.{sheet_of as read_sheet}

-- ---- the numbers of types, transforms and operators are small
type_small : (t : PrimitiveType) → type_number t < 256
type_small Int = omega arith
type_small Long = omega arith
type_small Date = omega arith
type_small Time = omega arith
type_small Timestamp = omega arith
type_small Timestamptz = omega arith
type_small TimestampNs = omega arith
type_small TimestamptzNs = omega arith
type_small String = omega arith
type_small Binary = omega arith

operator_small : (o : operators.Binary) → operator_number (operator_of (one o)) < 65536
operator_small operators.less_than = omega arith
operator_small operators.less_than_or_eq = omega arith
operator_small operators.greater_than = omega arith
operator_small operators.greater_than_or_eq = omega arith
operator_small operators.eq = omega arith
operator_small operators.not_eq = omega arith
operator_small operators.starts_with = omega arith
operator_small operators.not_starts_with = omega arith

-- ---- the head

-- what four bytes hold of a width
abbrev pub held_width : ℕ → ℕ
held_width width = le_number (le_bytes 4 width)

-- a transform with that width
abbrev pub held_transform : Transform → Transform
held_transform Identity = Identity
held_transform (Truncate width) = Truncate (held_width width)
held_transform Year = Year
held_transform Month = Month
held_transform Day = Day
held_transform Hour = Hour
held_transform Void = Void
held_transform Unknown = Unknown

-- a transform that four bytes hold whole
pub held_whole : (t : Transform) → width_of t < 4294967296 → held_transform t ≡ t
held_whole Identity h = refl
held_whole (Truncate width) h = ap Truncate (number_bytes_lem 4 width h)
held_whole Year h = refl
held_whole Month h = refl
held_whole Day h = refl
held_whole Hour h = refl
held_whole Void h = refl
held_whole Unknown h = refl

held_numbers : (t : Transform)
    → (le_number (le_bytes 1 (transform_code t)) ≡ transform_code (held_transform t)) × (held_width (width_of t) ≡ width_of (held_transform t))
held_numbers Identity = (refl, refl)
held_numbers (Truncate width) = (refl, refl)
held_numbers Year = (refl, refl)
held_numbers Month = (refl, refl)
held_numbers Day = (refl, refl)
held_numbers Hour = (refl, refl)
held_numbers Void = (refl, refl)
held_numbers Unknown = (refl, refl)

-- ---- a sheet of two records, the second on the chain of the first
two_records : (s : List ℕ) → record_count s ≡ 2 → next_in (record_at s 0) ≡ 1 → next_in (record_at s 1) ≡ 0 → chain (record_count s) s 0 ≡ Ok (1 ∷ [])
two_records s count first last = ap (λ n. chain n s 0) count ∙ rw (first, lt-ltb 1 (record_count s) (omega (arith, count)), last)

module _ (type transform width : ℕ) (h : Head) (e : head type transform width ≡ Ok h) where
  pub record Numbers : Type 0 where
    pub type_is : type_number h.column ≡ type
    pub transform_is : transform_code h.transform ≡ transform
    pub width_is : width_of h.transform ≡ width

  pub numbers : Numbers
  unfolding head
  numbers =
      let t = gone (find types type) _ e in
      let f = gone (transform_of transform width) _ t.2 in
      let is = ok_inj {x = record { column = t.0; transform = f.0 }} f.2 in
      let own = transform_numbers transform width f.0 f.1 in
      record {
        type_is = ap (λ x. type_number x.column) (sym is) ∙ type_number_lem type t.0 t.1;
        transform_is = ap (λ x. transform_code x.transform) (sym is) ∙ own.0;
        width_is = ap (λ x. width_of x.transform) (sym is) ∙ own.1;
      }

  head_back : head (le_number (le_bytes 1 type)) (le_number (le_bytes 1 transform)) (held_width width)
      ≡ Ok (record { column = h.column; transform = held_transform h.transform })
  unfolding head
  head_back =
      let held = held_numbers h.transform in
      let type_held : le_number (le_bytes 1 type) ≡ type_number h.column
      = rw (← numbers.type_is) (number_bytes_lem 1 (type_number h.column) (type_small h.column)) in
      let transform_held : le_number (le_bytes 1 transform) ≡ transform_code (held_transform h.transform) = rw (← numbers.transform_is) held.0 in
      let width_held : held_width width ≡ width_of (held_transform h.transform) = rw (← numbers.width_is) held.1 in
      going _ (ap (find types) type_held ∙ type_found h.column)
      ∙ going _ (ap₂ transform_of transform_held width_held ∙ transform_found (held_transform h.transform))

  -- ---- the sheet
  module _ (o : operators.Binary) (bs : List ℕ) (fit : fits (layout h.column) (length bs) ≡ true) where
    abbrev s : List ℕ
    s = sheet_of (operator_number (operator_of (one o))) type transform width (bs ∷ [])

    literal_size_lem : length (literal_record 0 bs) ≡ record_size
    literal_size_lem = length_literal 0 bs (fits_room h.column (length bs) fit)

    size : length s ≡ record_size * 2
    size = omega (arith, length-append (literal_record 0 bs) [], literal_size_lem)

    second : record_at s 1 ≡ literal_record 0 bs
    second = take_at (literal_record 0 bs) [] record_size literal_size_lem

    on_chain : chain (record_count s) s 0 ≡ Ok (1 ∷ [])
    on_chain = two_records s (omega (arith, size)) refl (ap next_in second)

    pub sheet_back : (most : ℕ) → 1 ≤ most
        → sheet most s ≡ Ok (read_sheet h.column (held_transform h.transform) (test (binary o bs)))
    unfolding sheet fields
    sheet_back most room =
        let operator = operator_number (operator_of (one o)) in
        passing Malformed _ (lt-ltb 0 (length s) (omega (arith, size)))
        ∙ passing Malformed _ (eq-eqb (length s % record_size) 0 (omega (arith, size)))
        ∙ passing Malformed _ (le-leb (length s) (record_size * suc most) (omega (arith, size)))
        ∙ going _ (ap (find operators.operators) (number_bytes_lem 2 operator (operator_small o)) ∙ operator_found (operator_of (one o)))
        ∙ going _ (going _ head_back ∙ passing Malformed _ refl ∙ passing Malformed _ refl)
        ∙ going _ on_chain
        ∙ going _ (going _ (ap (content (layout h.column)) second ∙ content_back h.column 0 bs fit))
        ∙ going _ (predicate_back (test (binary o bs)))
