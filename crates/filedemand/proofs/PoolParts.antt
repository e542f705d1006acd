-- Two summaries that are pooled, as they were read, and what is read of the pooled one. Assumes nothing.
use Rattle.std.specs.Prelude.{Ok}
use Prim.Native.Nat.{ℕ}
use mathlib.Core.Bool.{Bool, true, false, ◌||◌, or-false}
use mathlib.Core.List.{List, [], ◌∷◌, ◌++◌}
use mathlib.Core.Path.{◌≡◌, refl, sym, ap, ap₂, ◌∙◌}
use Rattle.values.specs.Outcomes.{Res, need, ◌>>=◌, ◌>>◌, Row, present}
use Rattle.values.specs.laws.OutcomeLaws.{ok_inj, passed, gone}
use Rattle.values.specs.laws.TestLaws.{and_both}
use Rattle.values.specs.laws.TypesLaws.{same_type_lem}
use Rattle.values.specs.Types.{layout, same_type}
use Rattle.values.specs.declared.datatypes.PrimitiveType.{PrimitiveType}
use Rattle.values.specs.declared.error.ErrorKind.TheVariants.{NotUtf8, WrongSummary, DifferentTypes}
use Rattle.std.specs.declared.cmp.Ordering.{Ordering}
use Rattle.sheet.specs.Records.{record_at, value}
use Rattle.summary.specs.EndValues.{compare_in, ordered}
use Rattle.summary.specs.Summaries.{Ends, none_present, ◌to◌, some_present, Summary, flag_of, summary}
use Rattle.summary.specs.code.SummaryAnswers.{ends_encoded}
use Rattle.summary.specs.laws.SummaryBytesLaws.{low_of, high_of, SummaryParts, summary_parts, summary_made}
use Rattle.pool.specs.Pooling.{of, whose_lowest, whose_highest, joined, pool, pooled_bytes, pooled}
use Rattle.pool.specs.laws.PoolLaws.{both_encoded, both_ordered, pool_checks, joined_ends}
use Rattle.pool.specs.declared.pool.Whose.{Whose}
use Rattle.pool.specs.declared.pool.Whose.TheVariants.{First, Second}
use Rattle.files.specs.PoolDemand.{Pools}

-- a file's summary as it was read, which pooling does not refuse
pub record Sound (column : PrimitiveType) (a : List ℕ) : Type 0 where
  pub ends : Ends (List ℕ)
  pub has_missing : Bool
  pub is : summary a ≡ Ok (record { column = column; ends = ends; has_missing = has_missing })
  pub encoded : ends_encoded column ends ≡ true
  pub in_order_lem : ordered (compare_in column) ends ≡ true

pub record PoolParts (a b f : List ℕ) : Type 0 where
  pub column : PrimitiveType
  pub first : Sound column a
  pub second : Sound column b
  pub bytes_are : f ≡ pooled_bytes a b (joined column first.ends first.has_missing second.ends second.has_missing)

abbrev pub file_of : {column : PrimitiveType} {a : List ℕ} → Sound column a → Summary
file_of {column} s = record { column = column; ends = s.ends; has_missing = s.has_missing }

pub parts : {column : PrimitiveType} {a : List ℕ} (s : Sound column a) → SummaryParts a (file_of s)
parts {column} {a} s = summary_parts a (file_of s) s.is

-- ---- the checks

-- UTF-8, the order of the ends, and the types, in this order
abbrev pub checked : {A : Type 0} → Bool → Bool → Bool → A → Res A
checked encoded in_order same x = do
  need encoded NotUtf8
  need in_order WrongSummary
  need same DifferentTypes
  Ok x

checked_then : {A B : Type 0} (encoded in_order same : Bool) (x : A) (f : A → B)
    → (checked encoded in_order same x >>= λ y. Ok (f y)) ≡ checked encoded in_order same (f x)
checked_then true true true x f = refl
checked_then true true false x f = refl
checked_then true false same x f = refl
checked_then false in_order same x f = refl

-- what two files that pass them give
abbrev pub bytes_of : List ℕ → List ℕ → Summary → Summary → List ℕ
bytes_of a b x y = pooled_bytes a b (joined x.column x.ends x.has_missing y.ends y.has_missing)

pub pooled_checks : (a b : List ℕ) (x y : Summary) → summary a ≡ Ok x → summary b ≡ Ok y
    → pooled a b ≡ checked (both_encoded x y) (both_ordered x y) (same_type x.column y.column) (bytes_of a b x y)
unfolding pooled pool
pooled_checks a b x y d e =
    rw (d, e, pool_checks x y) (checked_then (both_encoded x y) (both_ordered x y) (same_type x.column y.column) _ (pooled_bytes a b))

-- a file that was read and passes them
abbrev pub sound_of : {column : PrimitiveType} (a : List ℕ) (x : Summary) → x.column ≡ column → summary a ≡ Ok x → ends_encoded x.column x.ends ≡ true
    → ordered (compare_in x.column) x.ends ≡ true → Sound column a
sound_of a x same e encoded in_order_lem = record {
  ends = x.ends;
  has_missing = x.has_missing;
  is = e ∙ ap (λ c. Ok (record { column = c; ends = x.ends; has_missing = x.has_missing })) same;
  encoded = rw (← same) encoded;
  in_order_lem = rw (← same) in_order_lem;
}

pub pool_parts : (a b f : List ℕ) → Pools a b f → PoolParts a b f
unfolding pooled pool
pool_parts a b f e =
    let p = gone (pool a b) _ e in
    let x = gone (summary a) _ p.1 in
    let y = gone (summary b) _ x.2 in
    let encoded = passed (both_encoded x.0 y.0) NotUtf8 _ (sym (pooled_checks a b x.0 y.0 x.1 y.1) ∙ e) in
    let in_order_lem = passed (both_ordered x.0 y.0) WrongSummary _ encoded.1 in
    let same = passed (same_type x.0.column y.0.column) DifferentTypes _ in_order_lem.1 in
    let es = and_both _ _ encoded.0 in
    let os = and_both _ _ in_order_lem.0 in
    record {
      column = x.0.column;
      first = sound_of a x.0 refl x.1 es.0 os.0;
      second = sound_of b y.0 (sym (same_type_lem x.0.column y.0.column same.0)) y.1 es.1 os.1;
      bytes_are = sym (ok_inj same.1);
    }

-- ---- the ends
of_present : {A : Type 0} (w : Whose) (a b : A) → of w (present a) (present b) ≡ present (of w a b)
of_present First a b = refl
of_present Second a b = refl

module _ {A : Type 0} (compare : A → A → Ordering) where
  joined_some : (x y : Ends A) → (some_present x || some_present y) ≡ some_present (joined_ends compare x y)
  joined_some x none_present = or-false (some_present x)
  joined_some none_present (m to k) = refl
  joined_some (l to h) (m to k) = refl

  joined_low : (x y : Ends A) → of (whose_lowest compare x y) (low_of x) (low_of y) ≡ low_of (joined_ends compare x y)
  joined_low x none_present = refl
  joined_low none_present (m to k) = refl
  joined_low (l to h) (m to k) = of_present (whose_lowest compare (l to h) (m to k)) l m

  joined_high : (x y : Ends A) → of (whose_highest compare x y) (high_of x) (high_of y) ≡ high_of (joined_ends compare x y)
  joined_high x none_present = refl
  joined_high none_present (m to k) = refl
  joined_high (l to h) (m to k) = of_present (whose_highest compare (l to h) (m to k)) h k

module _ {column : PrimitiveType} {a b : List ℕ} (s : Sound column a) (t : Sound column b) where
  -- whose the ends are, and the ends
  abbrev pub lowest_from : Whose
  lowest_from = whose_lowest (compare_in column) s.ends t.ends

  abbrev pub highest_from : Whose
  highest_from = whose_highest (compare_in column) s.ends t.ends

  abbrev pub ends_from : Ends (List ℕ)
  ends_from = joined_ends (compare_in column) s.ends t.ends

  -- the ends are where they are said to be
  end_value : (k : ℕ) (w : Whose) (x y : Row (List ℕ)) → value (layout column) (record_at a k) ≡ Ok x → value (layout column) (record_at b k) ≡ Ok y
      → value (layout column) (record_at (of w a b) k) ≡ Ok (of w x y)
  end_value k First x y h i = h
  end_value k Second x y h i = i

  pub lowest_is : value (layout column) (record_at (of lowest_from a b) 0) ≡ Ok (low_of ends_from)
  lowest_is = end_value 0 lowest_from _ _ (parts s).lowest (parts t).lowest ∙ ap Ok (joined_low (compare_in column) s.ends t.ends)

  pub highest_is : value (layout column) (record_at (of highest_from a b) 1) ≡ Ok (high_of ends_from)
  highest_is = end_value 1 highest_from _ _ (parts s).highest (parts t).highest ∙ ap Ok (joined_high (compare_in column) s.ends t.ends)

-- what the pooled summary says
pub pooled_sound : {a b f : List ℕ} (p : PoolParts a b f)
    → summary f ≡ Ok (record {
      column = p.column;
      ends = joined_ends (compare_in p.column) p.first.ends p.second.ends;
      has_missing = p.first.has_missing || p.second.has_missing;
    })
pooled_sound {a} {b} {f} p =
    let s = p.first in
    let t = p.second in
    let low = record_at (of (lowest_from s t) a b) 0 in
    let high = record_at (of (highest_from s t) a b) 1 in
    let shape : List ℕ → Bool → List ℕ = λ type some. low ++ high ++ type ++ (flag_of (s.has_missing || t.has_missing) some ∷ []) in
    ap summary (p.bytes_are ∙ ap₂ shape (parts s).type_is (joined_some (compare_in p.column) s.ends t.ends))
    ∙ summary_made low high _ (lowest_is s t) (highest_is s t)
