-- Laws of column lists: when a list is good, and what stands at each place of a good one. Assumes nothing.
use Rattle.std.specs.Prelude.{ℕ, zero, suc, ◌+◌, ◌-◌, ◌*◌, ◌/◌, ◌%◌, ◌≤◌, ◌<◌, Bool, true, false, not, ◌&&◌, ◌≡◌, ltb, leb, eqb, is_ok, Ok, Err}
use Rattle.std.specs.List.{position}
use Rattle.std.specs.Simd.{first_chunks}
use Rattle.std.specs.Result.{result_unwrap_or}
use native.Mathlib.Omega.{arith}
use Rattle.std.proofs.Math.Bool.{and-false}
use mathlib.Core.List.{List, [], ◌∷◌, ◌++◌, map, map-append}
use Rattle.std.proofs.Math.Path.{refl, ap}
use Rattle.std.proofs.Common.{sym, ◌∙◌}
use Rattle.std.proofs.Math.ListN.{length, get_or, take, drop}
use Rattle.std.proofs.Math.Seq.{take-suc, take-length}
use Rattle.std.proofs.lemmas.List.{length-map, drop-drop}
use borrow.Author.Tests.{ltb-true, ltb-false, eqb-true}
use Rattle.values.specs.Ascending.{elem}
use Rattle.values.specs.Characters.{is_letter, leading}
use Rattle.values.specs.Order.{compare_bytes, is_equal}
use Rattle.values.specs.Outcomes.{Res, need, each, ◌>>=◌, ◌>>◌}
use Rattle.values.specs.Words.{field, word, zero_at}
use Rattle.values.specs.laws.OutcomeLaws.{ok_inj, passed, gone, each_length}
use Rattle.values.specs.laws.TestLaws.{clash}
use Rattle.values.specs.declared.error.ErrorKind.TheVariants.{Malformed}
use Rattle.sheet.specs.Records.{record_size, next_in}
use Rattle.sheet.specs.Sheets.{Head, fields}
use Rattle.sheet.specs.laws.RefusalLaws.{OnlyMalformed, only_ok, only_bind, only_each, must, fields_only}
use Rattle.columns.specs.Columns.{column_limit, name_size, entry_size, Column, reserved, name_in, plain_head, column, entry_at, first_numbers, names_apart, columns}
use Rattle.columns.specs.code.ColumnAnswers.{entries_in, name_of, good, columns_in, no_column, column_at, place_among, place_of}
use Rattle.columns.specs.laws.EachLaws.{then_ok, each_at, each_map, each_last, first_length, first_at}
use Rattle.columns.specs.laws.NameLaws.{apart_last, place_mapped}

-- ---- one entry

abbrev named : List ℕ → Head → Column
named n h = record { name = n; head = h }

both_ok : {A B C : Type 0} (r : Res A) (s : Res B) (f : A → B → C) → is_ok (r >>= λ x. s >>= λ y. Ok (f x y)) ≡ (is_ok r && is_ok s)
both_ok (Ok x) s f = then_ok s (f x)
both_ok (Err e) s f = refl

name_is : (bytes n : List ℕ) → name_in bytes ≡ Ok n → n ≡ leading is_letter bytes
name_is bytes n e =
    let name = leading is_letter bytes in
    let some = passed (ltb 0 (length name)) Malformed _ e in
    let filled = passed (zero_at (length name) (name_size - length name) bytes) Malformed _ some.1 in
    let free = passed (not (elem compare_bytes name reserved)) Malformed _ filled.1 in
    sym (ok_inj free.1)

abbrev pub head_of : List ℕ → List ℕ
head_of entry = field name_size record_size entry

module _ (entry : List ℕ) where
  pub entry_ok : is_ok (column entry) ≡ (is_ok (name_in (field 0 name_size entry)) && is_ok (plain_head (head_of entry)))
  unfolding column
  entry_ok = both_ok (name_in (field 0 name_size entry)) (plain_head (head_of entry)) named

  pub entry_read : (d : Column) → column entry ≡ Ok d → (d.name ≡ name_of entry) × (fields (head_of entry) ≡ Ok d.head)
  unfolding column name_of
  entry_read d e =
      let n = gone (name_in (field 0 name_size entry)) _ e in
      let h = gone (plain_head (head_of entry)) _ n.2 in
      let next = passed (eqb (next_in (head_of entry)) 0) Malformed _ h.1 in
      let operator = passed (eqb (word 2 2 (head_of entry)) 0) Malformed _ next.1 in
      let is : named n.0 h.0 ≡ d = ok_inj h.2 in
      rw (← is) (name_is (field 0 name_size entry) n.0 n.1, operator.1)

  pub entry_only : OnlyMalformed (column entry)
  unfolding column
  entry_only =
      only_bind (name_in (field 0 name_size entry)) _ (name_only (field 0 name_size entry))
      (λ n. only_bind (plain_head (head_of entry)) _ head_only (λ h. only_ok))
    where
      name_only : (bytes : List ℕ) → OnlyMalformed (name_in bytes)
      name_only bytes = let name = leading is_letter bytes in
          must (ltb 0 (length name)) _ (must (zero_at (length name) (name_size - length name) bytes) _
          (must (not (elem compare_bytes name reserved)) _ only_ok))

      head_only : OnlyMalformed (plain_head (head_of entry))
      head_only = must (eqb (next_in (head_of entry)) 0) _ (must (eqb (word 2 2 (head_of entry)) 0) _ (fields_only (head_of entry)))

pub entry_names : (es : List (List ℕ)) {cs : List Column} → each column es ≡ Ok cs → map (λ d. d.name) cs ≡ map name_of es
entry_names es e = each_map column name_of (λ d. d.name) (λ entry d h. (entry_read entry d h).0) es e

-- ---- when entries are good

-- an entry is a column, with a name that none of the others has
abbrev pub good_after : List (List ℕ) → List ℕ → Bool
good_after es e = is_ok (column e) && not (elem compare_bytes (name_of e) (map name_of es))

good_last : (es : List (List ℕ)) (e : List ℕ) → good (es ++ (e ∷ [])) ≡ (good es && good_after es e)
good_last es e =
    rw (each_last column es e, map-append name_of es (e ∷ []), apart_last (map name_of es) (name_of e))
    (tests (is_ok (each column es)) (names_apart (map name_of es)) (is_ok (column e)) _)
  where
    tests : (a b d e : Bool) → (a && d && (b && e)) ≡ (a && b && (d && e))
    tests true true d e = refl
    tests true false true e = refl
    tests true false false e = refl
    tests false b d e = refl

module _ (es : List (List ℕ)) where
  pub good_next : (k : ℕ) → k < length es → good (take (suc k) es) ≡ (good (take k es) && good_after (take k es) (get_or es k []))
  good_next k h = rw (take-suc es k [] h) (good_last (take k es) (get_or es k []))

  good_to : (n k : ℕ) → n ≤ length es → k < n → good_after (take k es) (get_or es k []) ≡ false → good (take n es) ≡ false
  good_to zero k l h e = absurd (omega arith)
  good_to (suc n) k l h e = good_next n l ∙ go (ltb k n) refl (good_to n k (omega arith))
    where
      go : (t : Bool) → ltb k n ≡ t → (k < n → good_after (take k es) (get_or es k []) ≡ false → good (take n es) ≡ false)
          → (good (take n es) && good_after (take n es) (get_or es n [])) ≡ false
      go true l rest = rw (rest (ltb-true k n l) e)
      go false l rest =
          let same : k ≡ n = omega (arith, ltb-false k n l) in
          rw (← same, e) (and-false (good (take k es)))

  pub good_all : (k : ℕ) → k < length es → good_after (take k es) (get_or es k []) ≡ false → good es ≡ false
  good_all k h e = ap good (sym (take-length es)) ∙ good_to (length es) k (omega arith) h e

-- ---- a list by its entries

entries_last : (n : ℕ) (c : List ℕ) → first_chunks entry_size (suc n) c ≡ first_chunks entry_size n c ++ (entry_at c n ∷ [])
entries_last zero c = refl
entries_last (suc n) c =
    let next : entry_size + entry_size * n ≡ entry_size * suc n = omega arith in
    ap (λ (l : List (List ℕ)). take entry_size c ∷ l) (entries_last n (drop entry_size c) ∙ rw (drop-drop, next))

pub entries_numbered : (n : ℕ) (c : List ℕ) → first_chunks entry_size n c ≡ map (entry_at c) (first_numbers n)
entries_numbered zero c = refl
entries_numbered (suc n) c = entries_last n c ∙ rw (entries_numbered n c, map-append (entry_at c) (first_numbers n) (n ∷ []))

pub each_mapped : {A B C : Type 0} (f : B → Res C) (g : A → B) (xs : List A) → each f (map g xs) ≡ each (λ x. f (g x)) xs
each_mapped f g [] = refl
each_mapped f g (x ∷ xs) = rw (each_mapped f g xs)

module _ (c : List ℕ) where
  columns_by : columns c ≡ (need (ltb 0 (length c)) Malformed >> (need (eqb (length c % entry_size) 0) Malformed >>
      (need (leb (length c) (entry_size * column_limit)) Malformed >>
      (each column (entries_in c) >>= λ cs. need (names_apart (map (λ d. d.name) cs)) Malformed >> Ok cs))))
  unfolding columns
  columns_by = rw (entries_numbered (length c / entry_size) c, each_mapped column (entry_at c) (first_numbers (length c / entry_size)))

  tested : (a b d : Bool) (r : Res (List Column)) (e : Bool) → ((cs : List Column) → r ≡ Ok cs → names_apart (map (λ x. x.name) cs) ≡ e)
      → is_ok (need a Malformed >> (need b Malformed >> (need d Malformed >> (r >>= λ cs. need (names_apart (map (λ x. x.name) cs)) Malformed >> Ok cs))))
      ≡ (a && b && d && (is_ok r && e))
  tested true true true (Ok cs) true f = rw (f cs refl)
  tested true true true (Ok cs) false f = rw (f cs refl)
  tested true true true (Err k) e f = refl
  tested true true false r e f = refl
  tested true false d r e f = refl
  tested false b d r e f = refl

  pub columns_ok : is_ok (columns c)
      ≡ (ltb 0 (length c) && eqb (length c % entry_size) 0 && leb (length c) (entry_size * column_limit) && good (entries_in c))
  columns_ok =
      ap is_ok columns_by
      ∙ tested
      (ltb 0 (length c))
      (eqb (length c % entry_size) 0)
      (leb (length c) (entry_size * column_limit))
      (each column (entries_in c))
      (names_apart (map name_of (entries_in c)))
      (λ cs e. ap names_apart (entry_names (entries_in c) e))

  -- ---- the two kinds of list
  pub columns_only : OnlyMalformed (columns c)
  columns_only =
      let entries = only_each column entry_only (entries_in c) in
      rw columns_by (must (ltb 0 (length c)) _ (must (eqb (length c % entry_size) 0) _ (must (leb (length c) (entry_size * column_limit)) _
      (only_bind (each column (entries_in c)) _ entries (λ cs. must (names_apart (map (λ d. d.name) cs)) _ only_ok)))))

  pub columns_broken : is_ok (columns c) ≡ false → columns c ≡ Err Malformed
  columns_broken t = go (columns c) columns_only t
    where
      go : (r : Res (List Column)) → OnlyMalformed r → is_ok r ≡ false → r ≡ Err Malformed
      go (Ok cs) only t = clash refl t
      go (Err k) only t = ap Err (only.only k refl)

  pub columns_good : 0 < length (columns_in c) → columns c ≡ Ok (columns_in c)
  unfolding columns_in
  columns_good h = go (columns c) h
    where
      go : (r : Res (List Column)) → 0 < length (result_unwrap_or r []) → r ≡ Ok (result_unwrap_or r [])
      go (Ok cs) h = refl
      go (Err k) h = absurd (omega arith)

  pub entries_length : length (entries_in c) ≡ length c / entry_size
  entries_length =
      let n = length c / entry_size in
      ap length (entries_numbered n c) ∙ length-map (first_numbers n) (entry_at c) ∙ first_length n

  pub record EntriesRead (cs : List Column) : Type 0 where
    pub some : 0 < length cs
    pub each_read : each column (entries_in c) ≡ Ok cs

  columns_read : (cs : List Column) → columns c ≡ Ok cs → EntriesRead cs
  columns_read cs e =
      let some = passed (ltb 0 (length c)) Malformed _ (sym columns_by ∙ e) in
      let even = passed (eqb (length c % entry_size) 0) Malformed _ some.1 in
      let short = passed (leb (length c) (entry_size * column_limit)) Malformed _ even.1 in
      let all = gone (each column (entries_in c)) _ short.1 in
      let apart = passed (names_apart (map (λ d. d.name) all.0)) Malformed _ all.2 in
      let is : all.0 ≡ cs = ok_inj apart.1 in
      let count : length cs ≡ length c / entry_size = ap length (sym is) ∙ each_length column (entries_in c) all.1 ∙ entries_length in
      let whole : length c % entry_size ≡ 0 = eqb-true (length c % entry_size) 0 even.0 in
      record { some = omega (arith, ltb-true 0 (length c) some.0); each_read = rw (← is) all.1 }

  pub columns_there : is_ok (columns c) ≡ true → 0 < length (columns_in c)
  unfolding columns_in
  columns_there t = go (columns c) refl t
    where
      go : (r : Res (List Column)) → columns c ≡ r → is_ok r ≡ true → 0 < length (result_unwrap_or r [])
      go (Ok cs) e t = (columns_read cs e).some
      go (Err k) e t = clash t refl

  -- ---- what stands at the places of a list of columns
  module _ (some : 0 < length (columns_in c)) where
    pub entries_read : each column (entries_in c) ≡ Ok (columns_in c)
    entries_read = (columns_read (columns_in c) (columns_good some)).each_read

    pub entries_count : length (columns_in c) ≡ length (entries_in c)
    entries_count = each_length column (entries_in c) entries_read

    pub names_in : map (λ d. d.name) (columns_in c) ≡ map name_of (entries_in c)
    names_in = entry_names (entries_in c) entries_read

  -- as many columns as entries: either all are good, or there is none
  module _ (whole : length (columns_in c) ≡ length (entries_in c)) where
    names_whole : map (λ d. d.name) (columns_in c) ≡ map name_of (entries_in c)
    names_whole = go (columns_in c) (entries_in c) whole names_in
      where
        go : (cs : List Column) (es : List (List ℕ)) → length cs ≡ length es → (0 < length cs → map (λ d. d.name) cs ≡ map name_of es)
            → map (λ d. d.name) cs ≡ map name_of es
        go [] [] n read = refl
        go [] (e ∷ es) n read = absurd (omega (arith, n))
        go (d ∷ cs) es n read = read (omega arith)

    pub place_in : (name : List ℕ) → position (λ e. is_equal (compare_bytes name (name_of e))) (entries_in c) ≡ place_of name (columns_in c)
    place_in name = place_mapped name name_of (entries_in c) ∙ ap (place_among name) (sym names_whole)

  entry_here : (k : ℕ) → k < length (columns_in c) → column (get_or (entries_in c) k []) ≡ Ok (column_at (columns_in c) k)
  entry_here k h =
      let some : 0 < length (columns_in c) = omega arith in
      each_at column (entries_in c) (entries_read some) [] no_column k (omega (arith, entries_count some))

  pub head_at : (k : ℕ) → k < length (columns_in c) → fields (head_of (get_or (entries_in c) k [])) ≡ Ok (column_at (columns_in c) k).head
  head_at k h = (entry_read (get_or (entries_in c) k []) (column_at (columns_in c) k) (entry_here k h)).1

  pub entry_at_lem : (k : ℕ) → k < length (columns_in c) → column (entry_at c k) ≡ Ok (column_at (columns_in c) k)
  entry_at_lem k h =
      let n = length c / entry_size in
      let some : 0 < length (columns_in c) = omega arith in
      let all = sym (each_mapped column (entry_at c) (first_numbers n)) ∙ ap (each column) (sym (entries_numbered n c)) ∙ entries_read some in
      let within : k < n = omega (arith, entries_count some, entries_length) in
      rw (first_at n k within) at (each_at (λ j. column (entry_at c j)) (first_numbers n) all 0 no_column k (rw (first_length n) within))

-- for a return's search
pub ruleset lists = (columns_ok, columns_there, columns_broken)
