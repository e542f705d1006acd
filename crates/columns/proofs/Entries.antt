-- The entries of a list one after another: the first bytes of their names, places of names, and columns. Assumes nothing.
use Rattle.std.specs.Prelude.{◌≡◌, ◌≢◌, ℕ, ◌+◌, ◌<◌, Bool, true, false, cond, List, [], ◌∷◌, map, get_or, length, take, is_ok, is_some, Option, refl}
use Rattle.std.specs.List.{position}
use Rattle.std.proofs.Common.{arith, sym, ap, ◌∙◌, add-one}
use Rattle.std.proofs.Math.Bool.{and-false}
use Rattle.std.proofs.Math.Seq.{get_or-take}
use Rattle.values.specs.Characters.{is_letter, leading}
use Rattle.values.specs.Ascending.{elem}
use Rattle.values.specs.Order.{compare_bytes, is_equal}
use Rattle.values.specs.laws.OrderLaws.{is_equal_lem, bytes_order}
use Rattle.values.specs.laws.TestLaws.{refuted}
use Rattle.columns.specs.Columns.{name_size, column}
use Rattle.columns.specs.code.ColumnAnswers.{name_of, good}
use Rattle.columns.specs.laws.ColumnLaws.{good_next, good_all}
use Rattle.columns.specs.laws.NameLaws.{place_elem, place_mapped}

leading_first : (passes : ℕ → Bool) (s : List ℕ) → 0 < length (leading passes s) → get_or (leading passes s) 0 0 ≡ get_or s 0 0
leading_first passes [] h = refl
leading_first passes (b ∷ s) h = go (passes b) h
  where
    go : (t : Bool) → 0 < length (cond t (b ∷ leading passes s) []) → get_or (cond t (b ∷ leading passes s) []) 0 0 ≡ b
    go true h = refl
    go false h = absurd (omega arith)

-- names with other first bytes
pub other_first : (entry name : List ℕ) → length name ≢ 0 → get_or name 0 0 ≢ get_or entry 0 0 → is_equal (compare_bytes name (name_of entry)) ≡ false
unfolding name_of
other_first entry name some other = refuted _ (λ t.
    let same : name ≡ leading is_letter (take name_size entry) = bytes_order.equal name _ ((is_equal_lem _).0 t) in
    other (ap (λ l. get_or l 0 0) same ∙ leading_first is_letter (take name_size entry) (omega (arith, ap length same)) ∙ get_or-take name_size entry 0 0 (omega arith)))

-- ---- columns

module _ (es : List (List ℕ)) (k : ℕ) (less : k < length es) where
  abbrev here : List ℕ
  here = get_or es k []

  pub no_column_here : is_ok (column here) ≡ false → good es ≡ false
  no_column_here e = good_all es k less (rw e)

  module _ {name : List ℕ} (own : name ≡ name_of here) {r : Option ℕ} (told : r ≡ position (λ e. is_equal (compare_bytes name (name_of e))) (take k es)) where
    among : (t : Bool) → is_some r ≡ t → elem compare_bytes (name_of here) (map name_of (take k es)) ≡ t
    among t e =
        sym (place_elem (name_of here) (map name_of (take k es)))
        ∙ ap is_some (sym (rw own at (told ∙ place_mapped name name_of (take k es))))
        ∙ e

    pub name_before : is_some r ≡ true → good es ≡ false
    name_before e = good_all es k less (rw (among true e) (and-false (is_ok (column here))))

    pub good_more : good (take k es) ≡ true → is_ok (column here) ≡ true → is_some r ≡ false → good (take (k + 1) es) ≡ true
    good_more known e f = rw (add-one, good_next es k less, known, e, among false f)
