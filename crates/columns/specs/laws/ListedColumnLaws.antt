-- What stands where in the bytes of a list of columns, by the numbers of its entries: names and heads, when the first entries are good, how many columns a list
-- has, and that no list is long. Assumes nothing.
use Rattle.std.specs.Prelude.{ℕ, zero, suc, ◌+◌, ◌*◌, ◌/◌, ◌%◌, ◌≤◌, ◌<◌, Bool, true, false, cond, not}
use Rattle.std.specs.Prelude.{◌&&◌, List, [], ◌∷◌, map, ◌≡◌, refl, ltb, leb, eqb, is_ok, length, Ok, Err}
use Rattle.std.specs.Simd.{first_chunks}
use Rattle.std.specs.Result.{result_unwrap_or}
use Rattle.std.proofs.Common.{arith, sym, ap, ◌∙◌, lit≤, ltb-true, ltb-false, leb-true}
use Rattle.std.proofs.Math.Bool.{and-false}
use mathlib.Core.List.{map-append}
use Rattle.values.specs.Ascending.{elem}
use Rattle.values.specs.Characters.{is_letter, leading}
use Rattle.values.specs.Order.{compare_bytes}
use Rattle.values.specs.Outcomes.{Res, each}
use Rattle.values.specs.Words.{field}
use Rattle.values.specs.laws.TestLaws.{and_both}
use Rattle.values.specs.declared.error.ErrorKind.TheVariants.{Malformed}
use Rattle.sheet.specs.Records.{record_size}
use Rattle.sheet.specs.Sheets.{fields}
use Rattle.sheet.specs.laws.PartLaws.{field_in_field}
use Rattle.sheet.specs.laws.RefusalLaws.{OnlyMalformed}
use Rattle.columns.specs.Columns.{column_limit, name_size, entry_size, Column, name_in, plain_head, column, entry_at, first_numbers, names_apart, columns}
use Rattle.columns.specs.code.ColumnAnswers.{name_of, good, columns_in, column_at}
use Rattle.columns.specs.laws.ColumnLaws as column-laws
use Rattle.columns.specs.laws.ColumnLaws.{head_of, entry_at_lem, entries_numbered, each_mapped, entries_length}
use Rattle.columns.specs.laws.ColumnLaws.{entries_count, entries_read, columns_ok, columns_good, columns_there}
use Rattle.columns.specs.laws.EachLaws.{each_map, each_last}
use Rattle.columns.specs.laws.NameLaws.{apart_last}

-- ---- entry k

-- the bytes of its name and of its head, its name, and what is read of it
abbrev pub name_bytes : List ℕ → ℕ → List ℕ
name_bytes c k = field (entry_size * k) name_size c

abbrev pub head_bytes : List ℕ → ℕ → List ℕ
head_bytes c k = field (entry_size * k + name_size) record_size c

abbrev pub name_at : List ℕ → ℕ → List ℕ
name_at c k = name_of (entry_at c k)

abbrev pub read_entry : List ℕ → ℕ → Res Column
read_entry c k = column (entry_at c k)

module _ (c : List ℕ) (k : ℕ) where
  name_place : field 0 name_size (entry_at c k) ≡ name_bytes c k
  name_place =
      let start : entry_size * k + 0 ≡ entry_size * k = omega arith in
      field_in_field (entry_size * k) entry_size 0 name_size c (lit≤ tt) ∙ ap (λ at. field at name_size c) start

  head_place : head_of (entry_at c k) ≡ head_bytes c k
  head_place = field_in_field (entry_size * k) entry_size name_size record_size c (lit≤ tt)

  pub name_letters : name_at c k ≡ leading is_letter (name_bytes c k)
  unfolding name_of
  name_letters = ap (leading is_letter) name_place

  pub entry_ok : is_ok (read_entry c k) ≡ (is_ok (name_in (name_bytes c k)) && is_ok (plain_head (head_bytes c k)))
  entry_ok = rw (← name_place, ← head_place) (column-laws.entry_ok (entry_at c k))

  pub entry_read : (d : Column) → read_entry c k ≡ Ok d → (d.name ≡ name_at c k) × (fields (head_bytes c k) ≡ Ok d.head)
  entry_read d e = rw (← head_place) (column-laws.entry_read (entry_at c k) d e)

  pub entry_only : OnlyMalformed (read_entry c k)
  entry_only = column-laws.entry_only (entry_at c k)

pub entry_names : (c : List ℕ) (ks : List ℕ) {cs : List Column} → each (read_entry c) ks ≡ Ok cs → map (λ d. d.name) cs ≡ map (name_at c) ks
entry_names c ks e = each_map (read_entry c) (name_at c) (λ d. d.name) (λ k d h. (entry_read c k d h).0) ks e

-- ---- the first entries
abbrev pub first_names : List ℕ → ℕ → List (List ℕ)
first_names c n = map (name_at c) (first_numbers n)

-- the first n entries are columns, with names apart
abbrev pub good_to : List ℕ → ℕ → Bool
good_to c n = is_ok (each (read_entry c) (first_numbers n)) && names_apart (first_names c n)

module _ (c : List ℕ) where
  -- entry k is a column, with a name that none before it has
  abbrev pub good_at : ℕ → Bool
  good_at k = is_ok (read_entry c k) && not (elem compare_bytes (name_at c k) (first_names c k))

  pub good_next : (n : ℕ) → good_to c (suc n) ≡ (good_to c n && good_at n)
  good_next n =
      rw (each_last (read_entry c) (first_numbers n) n, map-append (name_at c) (first_numbers n) (n ∷ []), apart_last (first_names c n) (name_at c n))
      (tests (is_ok (each (read_entry c) (first_numbers n))) (names_apart (first_names c n)) (is_ok (read_entry c n)) _)
    where
      tests : (a b d e : Bool) → (a && d && (b && e)) ≡ (a && b && (d && e))
      tests true true d e = refl
      tests true false true e = refl
      tests true false false e = refl
      tests false b d e = refl

  pub good_all : (n k : ℕ) → k < n → good_at k ≡ false → good_to c n ≡ false
  good_all zero k h e = absurd (omega arith)
  good_all (suc n) k h e = good_next n ∙ go (ltb k n) refl (good_all n k)
    where
      go : (t : Bool) → ltb k n ≡ t → (k < n → good_at k ≡ false → good_to c n ≡ false) → (good_to c n && good_at n) ≡ false
      go true l rest = rw (rest (ltb-true k n l) e)
      go false l rest =
          let same : k ≡ n = omega (arith, ltb-false k n l) in
          rw (← same, e) (and-false (good_to c k))

  -- by the entries themselves
  read_by : (n : ℕ) → each (read_entry c) (first_numbers n) ≡ each column (first_chunks entry_size n c)
  read_by n = sym (each_mapped column (entry_at c) (first_numbers n)) ∙ ap (each column) (sym (entries_numbered n c))

  names_by : (n : ℕ) → first_names c n ≡ map name_of (first_chunks entry_size n c)
  names_by n = sym (mapped (first_numbers n)) ∙ ap (map name_of) (sym (entries_numbered n c))
    where
      mapped : (ks : List ℕ) → map name_of (map (entry_at c) ks) ≡ map (name_at c) ks
      mapped [] = refl
      mapped (k ∷ ks) = ap (λ (l : List (List ℕ)). name_at c k ∷ l) (mapped ks)

  good_by : (n : ℕ) → good_to c n ≡ good (first_chunks entry_size n c)
  good_by n = rw (read_by n, names_by n)

-- ---- a whole list

-- the entries of the columns, which are few
pub record ListRead (c : List ℕ) (cs : List Column) : Type 0 where
  pub room : entry_size * length cs ≤ length c
  pub few : length cs ≤ column_limit
  pub all : each (read_entry c) (first_numbers (length cs)) ≡ Ok cs

-- entry k is the column at place k
pub record Listed (c : List ℕ) (k : ℕ) : Type 0 where
  pub there : entry_size * (k + 1) ≤ length c
  pub name : (column_at (columns_in c) k).name ≡ name_at c k
  pub head : fields (head_bytes c k) ≡ Ok (column_at (columns_in c) k).head

module _ (c : List ℕ) where
  abbrev size : ℕ
  size = length c / entry_size

  -- a good list is one that passes the tests
  abbrev passes : Bool
  passes = ltb 0 (length c) && eqb (length c % entry_size) 0 && leb (length c) (entry_size * column_limit) && good_to c size

  tested : is_ok (columns c) ≡ passes
  tested = columns_ok c ∙ rw (good_by c size)

  of_good : passes ≡ true → 0 < length (columns_in c)
  of_good e = columns_there c (tested ∙ e)

  of_broken : passes ≡ false → columns_in c ≡ []
  unfolding columns_in
  of_broken e = ap (λ r. result_unwrap_or r []) (column-laws.columns_broken c (tested ∙ e))

  counted_good : 0 < length (columns_in c) → length (columns_in c) ≡ size
  counted_good some = entries_count c some ∙ entries_length c

  pub list_read : ListRead c (columns_in c)
  list_read = go passes refl
    where
      go : (t : Bool) → passes ≡ t → ListRead c (columns_in c)
      go true e =
          let tests = and_both _ (good_to c size) e in
          let short = and_both _ (leb (length c) (entry_size * column_limit)) tests.0 in
          let some = of_good e in
          let count = counted_good some in
          record {
            room = omega arith;
            few = omega (arith, leb-true (length c) (entry_size * column_limit) short.1);
            all = ap (λ n. each (read_entry c) (first_numbers n)) count ∙ read_by c size ∙ entries_read c some;
          }
      go false e = rw (of_broken e) (record { room = omega arith; few = omega arith; all = refl })

  pub listed : (k : ℕ) → k < length (columns_in c) → Listed c k
  listed k h =
      let entry = entry_read c k (column_at (columns_in c) k) (entry_at_lem c k h) in
      record { there = omega (arith, list_read.room); name = entry.0; head = entry.1 }

  pub names_in : map (λ d. d.name) (columns_in c) ≡ first_names c (length (columns_in c))
  names_in = entry_names c (first_numbers (length (columns_in c))) list_read.all

  counted : (a b d e : Bool) (m n : ℕ) → (a ≡ false → m ≡ 0) → ((a && b && d && e) ≡ true → n ≡ m) → ((a && b && d && e) ≡ false → n ≡ 0)
      → n ≡ cond b (cond d (cond e m 0) 0) 0
  counted true true true true m n z good bad = good refl
  counted true true true false m n z good bad = bad refl
  counted true true false e m n z good bad = bad refl
  counted true false d e m n z good bad = bad refl
  counted false true true true m n z good bad = bad refl ∙ sym (z refl)
  counted false true true false m n z good bad = bad refl
  counted false true false e m n z good bad = bad refl
  counted false false d e m n z good bad = bad refl

  pub columns_count : length (columns_in c)
      ≡ cond (eqb (length c % entry_size) 0) (cond (leb (length c) (entry_size * column_limit)) (cond (good_to c size) size 0) 0) 0
  columns_count =
      counted
      (ltb 0 (length c))
      (eqb (length c % entry_size) 0)
      (leb (length c) (entry_size * column_limit))
      (good_to c size)
      size
      (length (columns_in c))
      (λ z. omega (arith, ltb-false 0 (length c) z))
      (λ e. counted_good (of_good e))
      (λ e. ap length (of_broken e))

  pub columns_broken : length (columns_in c) ≡ 0 → columns c ≡ Err Malformed
  columns_broken none = go (is_ok (columns c)) refl
    where
      go : (t : Bool) → is_ok (columns c) ≡ t → columns c ≡ Err Malformed
      go true e = absurd (omega (arith, columns_there c e))
      go false e = column-laws.columns_broken c e
