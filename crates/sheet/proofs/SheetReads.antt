-- What each return of the code that reads a sheet comes to, by the steps before it. Assumes nothing.
use Rattle.std.specs.Prelude.{◌≡◌, ℕ, suc, ◌+◌, ◌*◌, ◌%◌, ◌≤◌, ◌<◌, true, false, List, [], map, length, refl, Ok, Err}
use Rattle.std.proofs.Common.{arith, sym, ap, ap₂, ◌∙◌, lt-ltb, le-leb, le-ltb, eq-eqb, ne_eqb}
use Rattle.std.proofs.lemmas.Bool.{lt-leb}
use Rattle.std.proofs.lemmas.List.{length-map}
use lib.Seq.{take_all}
use Rattle.values.specs.laws.OutcomeLaws.{ok_inj, ok_not_err}
use Rattle.values.specs.Outcomes.{Res, ◌>>=◌}
use Rattle.values.specs.Types.{layout}
use Rattle.values.specs.declared.error.ErrorKind.{ErrorKind}
use Rattle.values.specs.declared.error.ErrorKind.TheVariants.{Malformed}
use Rattle.expr.specs.Operators.{by_arity}
use Rattle.expr.specs.code.OperatorAnswers.{takes, leaf_of}
use Rattle.expr.specs.laws.PredicateLaws.{leaf_of_lem}
use Rattle.sheet.specs.code.Placed.{content_at, Placed, contents_at}
use Rattle.sheet.specs.code.ReadAnswers.{walked_as, fields_read, head_in, records_from}
use Rattle.sheet.specs.Records.{record_size}
use Rattle.sheet.specs.laws.SheetStepLaws.{with_chain, sheet_steps, Made, predicate_made, predicate_refused}
use Rattle.sheet.specs.Sheets as sheets
use Rattle.sheet.specs.Sheets.{sheet}
use Rattle.sheet.specs.laws.WalkLaws.{walk_literals}
use Rattle.sheet.specs.declared.head.Fields.{Fields}
use Rattle.sheet.specs.declared.head.Head.{Head}

-- ---- the fields of a head
pub fields_refused : (x : Res sheets.Head) {e : ErrorKind} → fields_read x ≡ Err e → x ≡ Err e
fields_refused (Ok h) d = ok_not_err (sym d)
fields_refused (Err k) {e} d = let same : k ≡ e = cc in rw same

pub fields_found : (x : Res sheets.Head) {f : Fields} → fields_read x ≡ Ok f → x ≡ Ok (record { column = f.column; transform = f.transform })
fields_found (Ok h) d = ap (λ (f : Fields). Ok (record { column = f.column; transform = f.transform })) (ok_inj d)
fields_found (Err k) d = ok_not_err d

-- ---- what a walk counted
pub walk_refused : (x : Res (List ℕ)) {e : ErrorKind} → walked_as 0 x ≡ Err e → x ≡ Err e
walk_refused (Ok ns) d = ok_not_err (sym d)
walk_refused (Err k) {e} d = let same : k ≡ e = cc in rw same

pub walk_found : (x : Res (List ℕ)) {n : ℕ} → walked_as 0 x ≡ Ok n → (ns : List ℕ) × (x ≡ Ok ns) × (length ns ≡ n)
walk_found (Ok ns) d = (ns, refl, let e = ok_inj d in omega (arith, e))
walk_found (Err k) d = ok_not_err d

-- ---- the returns
module _ (most : ℕ) (s : List ℕ) where
  pub no_record : length s ≡ 0 → sheet most s ≡ Err Malformed
  no_record h = rw (sheet_steps s most, le-ltb 0 (length s) (omega arith))

  module _ (some : length s ≡ 0 → ⊥) where
    pub part_record : (length s % record_size ≡ 0 → ⊥) → sheet most s ≡ Err Malformed
    part_record h = rw (sheet_steps s most, lt-ltb 0 (length s) (omega arith), ne_eqb (length s % record_size) 0 h)

    module _ (whole : length s % record_size ≡ 0) where
      pub too_long : record_size * (most + 1) < length s → sheet most s ≡ Err Malformed
      too_long h =
          rw (
            sheet_steps s most,
            lt-ltb 0 (length s) (omega arith),
            eq-eqb (length s % record_size) 0 whole,
            lt-leb (length s) (record_size * suc most) (omega arith),
          )

      module _ (short : length s ≤ record_size * (most + 1)) where
        steps : sheet most s ≡ (head_in s >>= with_chain s)
        steps =
            rw (
              sheet_steps s most,
              lt-ltb 0 (length s) (omega arith),
              eq-eqb (length s % record_size) 0 whole,
              le-leb (length s) (record_size * suc most) (omega arith),
            )

        pub no_head : {e : ErrorKind} → head_in s ≡ Err e → sheet most s ≡ Err e
        no_head d = rw (steps, d)

        module _ (h : Head) (is_head : head_in s ≡ Ok h) where
          pub no_chain : {e : ErrorKind} → records_from (layout h.column) s 0 ≡ Err e → sheet most s ≡ Err e
          no_chain d = rw (steps, is_head, d)

          module _ {ns : List ℕ} (is_chain : records_from (layout h.column) s 0 ≡ Ok ns) where
            pub wrong_count : takes (by_arity h.operator) (length ns) ≡ false → sheet most s ≡ Err Malformed
            wrong_count t = rw (steps, is_head, is_chain, predicate_refused h.operator (map (content_at s) ns) (rw length-map t))

            by_made : Made h.operator (map (content_at s) ns) → sheet most s
                ≡ Ok (record { head = record { column = h.column; transform = h.transform }; leaf = leaf_of [] (by_arity h.operator) (map (content_at s) ns) })
            by_made made =
                let leaf : leaf_of [] (by_arity h.operator) (map (content_at s) ns) ≡ made.leaf =
                ap₂ (λ o ls. leaf_of [] (by_arity o) ls) (sym made.operator) (sym made.literals) ∙ leaf_of_lem [] made.leaf in
                rw (steps, is_head, is_chain, made.made, leaf)

            pub sheet_made : takes (by_arity h.operator) (length ns) ≡ true → sheet most s
                ≡ Ok (record { head = record { column = h.column; transform = h.transform }; leaf = leaf_of [] (by_arity h.operator) (map (content_at s) ns) })
            sheet_made t = by_made (predicate_made h.operator (map (content_at s) ns) (rw length-map t))

-- ---- the records that were filled
pub front_placed : (h : Head) (s : List ℕ) {ns : List ℕ} → records_from (layout h.column) s 0 ≡ Ok ns → Placed (layout h.column) s ns (length ns)
front_placed h s e = record { room = omega arith; each = walk_literals h.column s 0 e }

pub front_contents : (s ns : List ℕ) → contents_at s ns (length ns) ≡ map (content_at s) ns
front_contents s ns = rw (take_all (length ns) ns (omega arith))
