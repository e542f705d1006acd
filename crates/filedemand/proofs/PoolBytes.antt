-- The bytes of a pooled summary: nothing refuses it, it is the same in either order, and what a file without present values adds. Assumes nothing.
use Rattle.std.specs.Prelude.{Ok, Err}
use Prim.Native.Nat.{ℕ, ◌*◌}
use native.Mathlib.Omega.{arith}
use mathlib.Core.Bool.{Bool, true, false, not, ◌||◌, and_comm, or_comm, or_self, or-true, or-false}
use mathlib.Core.List.{List, [], ◌∷◌, ◌++◌}
use mathlib.Core.Logic.{⊎_elim}
use mathlib.Core.Path.{◌≡◌, refl, sym, ap, ap₂, ◌∙◌}
use lib.Dec.{eqb}
use lib.ListN.{length, take}
use lib.Seq.{take_at, drop_at, length-take-le}
use borrow.Author.Tests.{eqb-true, eq-eqb, not-true}
use Rattle.values.specs.Order.{compare_numbers, compare_bytes, is_less}
use Rattle.values.specs.Outcomes.{Res, Row, present}
use Rattle.values.specs.laws.OrderLaws.{connected, number_order, bytes_order}
use Rattle.values.specs.laws.OutcomeLaws.{ok_inj, passing}
use Rattle.values.specs.laws.TestLaws.{clash, same_test, and_both, both_and}
use Rattle.values.specs.laws.TypesLaws.{same_type_lem}
use Rattle.values.proofs.TwosComplement.{bytes_signed}
use Rattle.values.specs.Types.{Layout, number, bytes, layout, fits, type_number, same_type}
use Rattle.values.specs.Utf8.{utf8}
use Rattle.values.specs.Words.{AllBytes, field, word, signed_bytes}
use Rattle.values.specs.declared.datatypes.PrimitiveType.{PrimitiveType}
use Rattle.values.specs.declared.datatypes.PrimitiveType.TheVariants.{String}
use Rattle.values.specs.declared.error.ErrorKind.TheVariants.{NotUtf8, WrongSummary, DifferentTypes}
use Rattle.std.specs.declared.cmp.Ordering.{Ordering}
use Rattle.std.specs.declared.cmp.Ordering.TheVariants.{Less}
use Rattle.sheet.specs.Records.{record_size, record_at, value}
use Rattle.sheet.specs.Values.{number_of, by_layout}
use Rattle.sheet.specs.laws.RecordLaws.{FitsRow, RowBytes, field_bytes, value_read}
use Rattle.summary.specs.EndValues.{compare_in, ordered}
use Rattle.summary.specs.Summaries.{Ends, none_present, ◌to◌, some_present, Summary, type_at, flag_at, says_missing, says_none, flag_of, summary}
use Rattle.summary.specs.code.SummaryAnswers.{ends_utf8, ends_encoded}
use Rattle.summary.specs.laws.SummaryBytesLaws.{low_of, high_of, flag_says, SummaryParts, word_of_one, before_flag, summary_whole}
use Rattle.summary.specs.laws.SummaryLaws.{summary_only}
use Rattle.pool.specs.Pooling.{of, second_where, whose_lowest, whose_highest, joined, pool, pooled_bytes, pooled}
use Rattle.pool.specs.laws.PoolLaws.{both_encoded, both_ordered, joined_ends}
use Rattle.pool.specs.declared.pool.Whose.{Whose}
use Rattle.pool.specs.declared.pool.Whose.TheVariants.{First, Second}
use Rattle.files.specs.PoolDemand.{Pools, NoneIn, PooledWith, PooledIsSummary, PooledAgain, AddsItsMark, EmptyAddsNothing, EitherOrder}
use Rattle.filedemand.proofs.JoinedEnds.{column_sorts, joined_ordered}
use Rattle.filedemand.proofs.PoolParts.{Sound, file_of, parts, checked, bytes_of, pooled_checks, sound_of, pool_parts}
use Rattle.filedemand.proofs.PoolParts.{lowest_from, highest_from, ends_from, lowest_is, highest_is, pooled_sound}
use Rattle.filedemand.proofs.UniqueRecords.{unique_record}

-- ---- the pooled summary is one that nothing refuses
-- both ends are of the two files, so that they are UTF-8 where those are
one_of : {A : Type 0} (P : A → Type 0) (w : Whose) {a b : A} → P a → P b → P (of w a b)
one_of P First h k = h
one_of P Second h k = k

encoded_of : (any : Bool) (w v : Whose) (l h m k : List ℕ) → (any || ends_utf8 (l to h)) ≡ true → (any || ends_utf8 (m to k)) ≡ true
    → (any || ends_utf8 (of w l m to of v h k)) ≡ true
encoded_of true w v l h m k x y = refl
encoded_of false w v l h m k x y =
    let a = and_both (utf8 l) (utf8 h) x in
    let b = and_both (utf8 m) (utf8 k) y in
    both_and (one_of (λ s. utf8 s ≡ true) w a.0 b.0) (one_of (λ s. utf8 s ≡ true) v a.1 b.1)

joined_encoded : (column : PrimitiveType) (x y : Ends (List ℕ)) → ends_encoded column x ≡ true → ends_encoded column y ≡ true
    → ends_encoded column (joined_ends (compare_in column) x y) ≡ true
joined_encoded column x none_present a b = a
joined_encoded column none_present (m to k) a b = b
joined_encoded column (l to h) (m to k) a b =
    let compare = compare_in column in
    encoded_of (not (same_type column String)) (whose_lowest compare (l to h) (m to k)) (whose_highest compare (l to h) (m to k)) l h m k a b

-- two that are not refused
pools : {column : PrimitiveType} {a b : List ℕ} (s : Sound column a) (t : Sound column b)
    → Pools a b (bytes_of a b (file_of s) (file_of t))
pools {column} {a} {b} s t =
    pooled_checks a b _ _ s.is t.is
    ∙ passing NotUtf8 _ (both_and s.encoded t.encoded)
    ∙ passing WrongSummary _ (both_and s.in_order_lem t.in_order_lem)
    ∙ passing DifferentTypes _ (eq-eqb (type_number column) (type_number column) refl)

-- all that is kept of a file whose both ends are taken
kept : (f : List ℕ) (flag : ℕ) → record_at f 0 ++ record_at f 1 ++ field type_at 1 f ++ (flag ∷ []) ≡ take flag_at f ++ (flag ∷ [])
kept f flag = ap (λ r. r ++ (flag ∷ [])) (sym (before_flag f))

of_same : {A : Type 0} (w : Whose) (a : A) → of w a a ≡ a
of_same First a = refl
of_same Second a = refl

with_itself : {column : PrimitiveType} {f : List ℕ} (s : Sound column f) → bytes_of f f (file_of s) (file_of s) ≡ f
with_itself {column} {f} s =
    rw (of_same (lowest_from s s) f, of_same (highest_from s s) f, or_self s.has_missing, or_self (some_present s.ends))
    (kept f _ ∙ sym (summary_whole f (file_of s) (parts s)))

pub pooled_is_summary : PooledIsSummary
pooled_is_summary a b f e = (_, pooled_sound (pool_parts a b f e))

pub pooled_again : PooledAgain
pooled_again a b f e =
    let p = pool_parts a b f e in
    let s : Sound p.column f = record {
      ends = ends_from p.first p.second;
      has_missing = p.first.has_missing || p.second.has_missing;
      is = pooled_sound p;
      encoded = joined_encoded p.column p.first.ends p.second.ends p.first.encoded p.second.encoded;
      in_order_lem = joined_ordered (column_sorts p.column) p.first.ends p.second.ends p.first.in_order_lem p.second.in_order_lem;
    } in
    pools s s ∙ ap Ok (with_itself s)

-- ---- the same ends in either order

-- the better of two is the same one in either order, where only equal ones are neither
better : {A : Type 0} (p q : Bool) (a b : A) → (p ≡ true → q ≡ true → ⊥) → (p ≡ false → q ≡ false → a ≡ b) → of (second_where p) a b ≡ of (second_where q) b a
better true true a b h k = absurd (h refl refl)
better true false a b h k = refl
better false true a b h k = refl
better false false a b h k = k refl refl

-- contents compared by their layout
abbrev compare_by : Layout → List ℕ → List ℕ → Ordering
compare_by l a b = by_layout l (λ n. compare_numbers (number_of n a) (number_of n b)) (compare_bytes a b)

neither : (l : Layout) (a b : List ℕ) → fits l (length a) ≡ true → AllBytes a → fits l (length b) ≡ true → AllBytes b
    → (compare_by l a b ≡ Less → ⊥) → (compare_by l b a ≡ Less → ⊥) → a ≡ b
neither (number n) a b i x j y h k =
    sym (bytes_signed n a (eqb-true (length a) n i) x)
    ∙ ap (signed_bytes n) (connected number_order (number_of n a) (number_of n b) h k)
    ∙ bytes_signed n b (eqb-true (length b) n j) y
neither (bytes n) a b i x j y h k = connected bytes_order a b h k

module _ (column : PrimitiveType) where
  -- what a summary of bytes has as its ends: bytes, as many as the type allows
  abbrev Read : Row (List ℕ) → Type 0
  Read row = FitsRow column row × RowBytes row

  abbrev ReadEnds : Ends (List ℕ) → Type 0
  ReadEnds ends = Read (low_of ends) × Read (high_of ends)

  read_at : (a : List ℕ) → AllBytes a → (k : ℕ) (row : Row (List ℕ)) → value (layout column) (record_at a k) ≡ Ok row → Read row
  read_at a h k row e = let v = value_read column (record_at a k) row e in (v.fit, v.are_bytes (field_bytes (record_size * k) record_size a h))

  read_ends_lem : (a : List ℕ) → AllBytes a → (s : Sound column a) → ReadEnds s.ends
  read_ends_lem a h s = (read_at a h 0 (low_of s.ends) (parts s).lowest, read_at a h 1 (high_of s.ends) (parts s).highest)

  abbrev below : List ℕ → List ℕ → Bool
  below a b = is_less (compare_in column a b)

  one_below : (a b : List ℕ) → below a b ≡ true → below b a ≡ true → ⊥
  one_below a b h k = clash k (not-true _ ((column_sorts column).below a b h))

  none_below : (a b : List ℕ) → Read (present a) → Read (present b) → below a b ≡ false → below b a ≡ false → a ≡ b
  none_below a b x y h k = neither (layout column) a b x.0 x.1 y.0 y.1 (λ e. clash (ap is_less e) h) (λ e. clash (ap is_less e) k)

  joined_either : (x y : Ends (List ℕ)) → ReadEnds x → ReadEnds y → joined_ends (compare_in column) x y ≡ joined_ends (compare_in column) y x
  joined_either none_present none_present r q = refl
  joined_either none_present (m to k) r q = refl
  joined_either (l to h) none_present r q = refl
  joined_either (l to h) (m to k) r q =
      ap₂ ◌to◌
      (better (below m l) (below l m) l m (one_below m l) (λ i j. sym (none_below m l q.0 r.0 i j)))
      (better (below h k) (below k h) h k (one_below h k) (none_below h k r.1 q.1))

-- ---- the same bytes in either order
module _ {column : PrimitiveType} {a b : List ℕ} (s : Sound column a) (t : Sound column b) (ha : AllBytes a) (hb : AllBytes b) where
  same_ends : ends_from s t ≡ ends_from t s
  same_ends = joined_either column s.ends t.ends (read_ends_lem column a ha s) (read_ends_lem column b hb t)

  -- a record of one file is that of the other with the same value
  same_end : (k : ℕ) (w v : Whose) (row : Row (List ℕ)) → value (layout column) (record_at (of w a b) k) ≡ Ok row
      → value (layout column) (record_at (of v b a) k) ≡ Ok row → record_at (of w a b) k ≡ record_at (of v b a) k
  same_end k w v row =
      unique_record column (record_at (of w a b) k) (record_at (of v b a) k) row
      (field_bytes (record_size * k) record_size _ (one_of AllBytes w ha hb)) (field_bytes (record_size * k) record_size _ (one_of AllBytes v hb ha))

  same_bytes : bytes_of a b (file_of s) (file_of t) ≡ bytes_of b a (file_of t) (file_of s)
  same_bytes =
      let low = same_end 0 (lowest_from s t) (lowest_from t s) _ (lowest_is s t) (lowest_is t s ∙ ap (λ e. Ok (low_of e)) (sym same_ends)) in
      let high = same_end 1 (highest_from s t) (highest_from t s) _ (highest_is s t) (highest_is t s ∙ ap (λ e. Ok (high_of e)) (sym same_ends)) in
      let type = (parts s).type_is ∙ sym (parts t).type_is in
      rw (low, high, type, or_comm s.has_missing t.has_missing, or_comm (some_present s.ends) (some_present t.ends))

-- ---- the same answer in either order
same_answer : {A : Type 0} {x y : A} (encoded in_order same : Bool) → (encoded ≡ true → in_order ≡ true → same ≡ true → x ≡ y)
    → checked encoded in_order same x ≡ checked encoded in_order same y
same_answer true true true h = ap Ok (h refl refl refl)
same_answer true true false h = refl
same_answer true false same h = refl
same_answer false in_order same h = refl

eqb_swap : (m n : ℕ) → eqb m n ≡ eqb n m
eqb_swap m n = same_test _ _ (λ h. eq-eqb n m (sym (eqb-true m n h))) (λ h. eq-eqb m n (sym (eqb-true n m h)))

module _ (a b : List ℕ) (x y : Summary) (ha : AllBytes a) (hb : AllBytes b) (d : summary a ≡ Ok x) (e : summary b ≡ Ok y) where
  bytes_same : both_encoded x y ≡ true → both_ordered x y ≡ true → same_type x.column y.column ≡ true → bytes_of a b x y ≡ bytes_of b a y x
  bytes_same encoded in_order_lem same =
      let one = same_type_lem x.column y.column same in
      let es = and_both _ _ encoded in
      let os = and_both _ _ in_order_lem in
      same_bytes (sound_of a x refl d es.0 os.0) (sound_of b y (sym one) e es.1 os.1) ha hb
      ∙ ap (λ c. pooled_bytes b a (joined c y.ends y.has_missing x.ends x.has_missing)) one

  both_read : pooled a b ≡ pooled b a
  both_read =
      pooled_checks a b x y d e
      ∙ same_answer (both_encoded x y) (both_ordered x y) (same_type x.column y.column) bytes_same
      ∙ rw (
        and_comm (ends_encoded x.column x.ends) (ends_encoded y.column y.ends),
        and_comm (ordered (compare_in x.column) x.ends) (ordered (compare_in y.column) y.ends),
        eqb_swap (type_number x.column) (type_number y.column),
      )
      (sym (pooled_checks b a y x e d))

pub either_order : EitherOrder
unfolding pooled pool
either_order a b ha hb = go (summary a) refl (summary b) refl
  where
    go : (p : Res Summary) → summary a ≡ p → (q : Res Summary) → summary b ≡ q → pooled a b ≡ pooled b a
    go (Ok x) d (Ok y) e = both_read a b x y ha hb d e
    go (Ok x) d (Err k) e = rw (d, e)
    go (Err k) d (Ok y) e = rw (d, e)
    go (Err k) d (Err j) e = rw (d, e) (ap Err ((summary_only a).only k d ∙ sym ((summary_only b).only j e)))

-- ---- files without present values

-- what f is once such a file was added
record Added (has_missing : Bool) (f g : List ℕ) : Type 0 where
  file : Summary
  is : SummaryParts f file
  bytes_are : g ≡ take flag_at f ++ (flag_of (file.has_missing || has_missing) (some_present file.ends) ∷ [])

added : (has_missing : Bool) (e f g : List ℕ) → AllBytes e → AllBytes f → NoneIn has_missing e → PooledWith e f g → Added has_missing f g
added has_missing e f g he hf none pools =
    let p = pool_parts f e g (⊎_elim (λ h. either_order f e hf he ∙ h) (λ h. h) pools) in
    let s = p.first in
    let t = p.second in
    let same = ok_inj (sym t.is ∙ none.1) in
    let put : Ends (List ℕ) → Bool → List ℕ = λ ends m. pooled_bytes f e (joined p.column s.ends s.has_missing ends m) in
    record {
      file = file_of s;
      is = parts s;
      bytes_are = p.bytes_are ∙ ap₂ put (ap (λ y. y.ends) same) (ap (λ y. y.has_missing) same) ∙ kept f _
          ∙ ap (λ some. take flag_at f ++ (flag_of (s.has_missing || has_missing) some ∷ [])) (or-false (some_present s.ends));
    }

pub adds_its_mark : AddsItsMark
adds_its_mark e f g he hf none pools =
    let x = added true e f g he hf none pools in
    let missing = x.file.has_missing in
    let some = some_present x.file.ends in
    let size = length-take-le flag_at f (omega (arith, x.is.sized)) in
    let flag : word flag_at 1 g ≡ flag_of (missing || true) some
    = word_of_one (ap (field flag_at 1) x.bytes_are ∙ ap (take 1) (drop_at (take flag_at f) _ flag_at size)) in (
      ap (take flag_at) x.bytes_are ∙ take_at (take flag_at f) _ flag_at size,
      ap says_missing flag ∙ (flag_says (missing || true) some).missing_said ∙ or-true missing,
      ap says_none flag ∙ (flag_says (missing || true) some).none_said ∙ sym (ap says_none (word_of_one x.is.flag_is) ∙ (flag_says missing some).none_said),
    )

pub empty_adds_nothing : EmptyAddsNothing
empty_adds_nothing e f g he hf none pools =
    let x = added false e f g he hf none pools in
    x.bytes_are ∙ rw (or-false x.file.has_missing) (sym (summary_whole f x.file x.is))
