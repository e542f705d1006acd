-- Files known only by their ends lose no weighing: the clauses of `FileDemand`, for numbers and for texts, and joined to demand 3. Assumes nothing.
use Rattle.std.specs.Prelude.{Ok}
use Prim.Native.Nat.{ℕ}
use native.Mathlib.Omega.{arith}
use mathlib.Core.List.{List}
use mathlib.Core.Logic.{◌⊎◌, inl, inr, ⊎_elim, ◌↔◌}
use mathlib.Core.Path.{◌≡◌, refl, sym, ap, ◌∙◌}
use Rattle.values.specs.laws.OutcomeLaws.{ok_inj}
use Rattle.values.specs.laws.TestLaws.{clash, refuted}
use Rattle.values.specs.Types.{Layout, number, bytes, layout, type_number}
use Rattle.expr.specs.Operators.{holds_limit}
use Rattle.sheet.specs.laws.SheetLaws.{sheet_read_lem}
use Rattle.api.specs.Demand3.{type_in, transform_in, width_in, Accepts, Numeric}
use Rattle.demand.proofs.BytesKindLaws.{numbers_at_most, bytes_above}
use Rattle.demand.proofs.Demand3Proof.{head_type, demand3}
use Rattle.demand.proofs.ReadBackLaws.{sheet_of}
use Rattle.verdict.specs.declared.verdict.Verdict.{Verdict}
use Rattle.verdict.specs.declared.verdict.Verdict.TheVariants.{Skip, Whole}
use Rattle.files.specs.FileDemand.{Covers, SomeCovered, NoneAccepted, AllAccepted, SkipLosesNone, WholeTakesAll, SkipIsExact, WholeIsExact, TextsNeverWhole, NoRowInSkippedFile, OnlyRowsInWholeFile, FileDemand}
use Rattle.filedemand.proofs.NumberFiles as numbers
use Rattle.filedemand.proofs.TextFiles as texts
use Rattle.filedemand.proofs.VerdictParts.{VerdictParts, verdict_parts}

-- ---- the type of a sheet
module _ {s f : List ℕ} {x : Verdict} (p : VerdictParts s f x) where
  type_is : type_number p.column ≡ type_in s
  type_is = head_type (type_in s) (transform_in s) (width_in s) _ (sheet_read_lem holds_limit s (sheet_of p.column p.transform p.leaf) p.sheet_is).head_is

  -- a column of numbers, or of byte strings
  kind : ((n : ℕ) × (layout p.column ≡ number n)) ⊎ ((n : ℕ) × (layout p.column ≡ bytes n))
  kind = go (layout p.column) refl
    where
      go : (l : Layout) → layout p.column ≡ l → ((n : ℕ) × (layout p.column ≡ number n)) ⊎ ((n : ℕ) × (layout p.column ≡ bytes n))
      go (number n) is = inl (n, is)
      go (bytes n) is = inr (n, is)

  numeric_kind : Numeric s → (n : ℕ) × (layout p.column ≡ number n)
  numeric_kind h = ⊎_elim (λ k. k) (λ k. absurd (omega (arith, type_is, bytes_above p.column k.0 k.1))) kind

-- ---- numbers
module _ {s f : List ℕ} {x : Verdict} (p : VerdictParts s f x) (n : ℕ) (is : layout p.column ≡ number n) where
  skipped : x ≡ Skip → (v : List ℕ) → Covers f v → Accepts s v → ⊥
  skipped e v c met = let r = numbers.covered_row p n is v c in clash (ok_inj (sym r.2 ∙ met)) ((numbers.skip_rows p n is).0 e r.0 r.1)

  taken : x ≡ Whole → (v : List ℕ) → Covers f v → Accepts s v
  taken e v c = let r = numbers.covered_row p n is v c in r.2 ∙ ap Ok (((numbers.whole_rows p n is).0 e).1 r.0 r.1)

  skip_exact : (x ≡ Skip) ↔ NoneAccepted s f
  skip_exact = (
    λ e v b c met. skipped e v c met,
    λ none. (numbers.skip_rows p n is).1 (λ r m.
        let v = numbers.row_covered p n is r m in
        refuted _ (λ t. none v.0 v.1 v.2 (v.3 ∙ ap Ok t))),
  )

  whole_exact : (x ≡ Whole) ↔ (SomeCovered f × AllAccepted s f)
  whole_exact = (
    λ e. let one = ((numbers.whole_rows p n is).0 e).0 in
        let v = numbers.row_covered p n is one.0 one.1 in
        ((v.0, v.1, v.2), λ v b c. taken e v c),
    λ h. let one = numbers.covered_row p n is h.0.0 h.0.2 in
        (numbers.whole_rows p n is).1 (
          (one.0, one.1),
          λ r m.
              let v = numbers.row_covered p n is r m in
              ok_inj (sym v.3 ∙ h.1 v.0 v.1 v.2),
        ),
  )

-- ---- the clauses
skip_loses_none : SkipLosesNone
skip_loses_none s f v e =
    let p = verdict_parts s f Skip e in
    ⊎_elim (λ k. skipped p k.0 k.1 refl v) (λ k. texts.skip_loses_none p k.0 k.1 refl v) (kind p)

whole_takes_all : WholeTakesAll
whole_takes_all s f v e =
    let p = verdict_parts s f Whole e in
    ⊎_elim (λ k. taken p k.0 k.1 refl v) (λ k. absurd (texts.never_whole p k.0 k.1 refl)) (kind p)

skip_is_exact : SkipIsExact
skip_is_exact s f x numeric e = let p = verdict_parts s f x e in let k = numeric_kind p numeric in skip_exact p k.0 k.1

whole_is_exact : WholeIsExact
whole_is_exact s f x numeric e = let p = verdict_parts s f x e in let k = numeric_kind p numeric in whole_exact p k.0 k.1

texts_never_whole : TextsNeverWhole
texts_never_whole s f h e =
    let p = verdict_parts s f Whole e in
    ⊎_elim (λ k. omega (arith, type_is p, numbers_at_most p.column k.0 k.1)) (λ k. texts.never_whole p k.0 k.1 refl) (kind p)

no_row_in_skipped_file : NoRowInSkippedFile
no_row_in_skipped_file s q f v p row covers returns skips met = skip_loses_none q f p skips covers (demand3.no_row_lost s q v p row met returns)

only_rows_in_whole_file : OnlyRowsInWholeFile
only_rows_in_whole_file s q f v p row covers returns whole = demand3.strict_is_safe s q v p row returns (whole_takes_all q f p whole covers)

pub file_demand : FileDemand
file_demand = record {
  skip_loses_none = skip_loses_none;
  whole_takes_all = whole_takes_all;
  skip_is_exact = skip_is_exact;
  whole_is_exact = whole_is_exact;
  texts_never_whole = texts_never_whole;
  no_row_in_skipped_file = no_row_in_skipped_file;
  only_rows_in_whole_file = only_rows_in_whole_file;
}
