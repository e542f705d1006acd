-- A sheet and a summary that have a verdict, as they were read, and the values that the file may hold. Assumes nothing.
use Rattle.std.specs.Prelude.{Ok}
use Prim.Native.Nat.{ℕ}
use mathlib.Core.Bool.{Bool, true}
use mathlib.Core.List.{List}
use mathlib.Core.Path.{◌≡◌, sym, ap, ◌∙◌}
use Rattle.values.specs.Outcomes.{Row}
use Rattle.values.specs.laws.OutcomeLaws.{ok_inj, going, gone}
use Rattle.values.specs.Types.{layout}
use Rattle.values.specs.declared.datatypes.PrimitiveType.{PrimitiveType}
use Rattle.values.specs.declared.transform.Transform.{Transform}
use Rattle.expr.specs.Operators.{holds_limit}
use Rattle.expr.specs.Predicates.{Predicate}
use Rattle.sheet.specs.Records.{value}
use Rattle.sheet.specs.Sheets.{sheet}
use Rattle.demand.proofs.ReadBackLaws.{sheet_of}
use Rattle.summary.specs.EndValues.{compare_in, ordered, may_hold}
use Rattle.summary.specs.Summaries.{Ends, Summary, summary}
use Rattle.verdict.specs.Judged.{verdict_in}
use Rattle.verdict.specs.declared.verdict.Verdict.{Verdict}
use Rattle.verdict.proofs.JudgedLaws.{judged_as}
use Rattle.files.specs.FileDemand.{covers, Covers}
use Rattle.files.specs.TestSummary.{test_summary}

pub record VerdictParts (s f : List ℕ) (x : Verdict) : Type 0 where
  pub column : PrimitiveType
  pub transform : Transform
  pub leaf : Predicate (List ℕ)
  pub ends : Ends (List ℕ)
  pub has_missing : Bool
  pub sheet_is : sheet holds_limit s ≡ Ok (sheet_of column transform leaf)
  pub summary_is : summary f ≡ Ok (record { column = column; ends = ends; has_missing = has_missing })
  pub in_order : ordered (compare_in column) ends ≡ true
  pub verdict_is : verdict_in column leaf ends has_missing ≡ x

pub verdict_parts : (s f : List ℕ) (x : Verdict) → test_summary s f ≡ Ok x → VerdictParts s f x
unfolding test_summary
verdict_parts s f x e =
    let a = gone (sheet holds_limit s) _ e in
    let b = gone (summary f) _ a.2 in
    let y = b.0 in
    let j = judged_as a.0.head.column a.0.leaf y x b.2 in
    record {
      column = a.0.head.column;
      transform = a.0.head.transform;
      leaf = a.0.leaf;
      ends = y.ends;
      has_missing = y.has_missing;
      sheet_is = a.1;
      summary_is = b.1 ∙ ap (λ c. Ok (record { column = c; ends = y.ends; has_missing = y.has_missing })) (sym j.same);
      in_order = j.in_order;
      verdict_is = j.is;
    }

-- ---- a value that a file may hold, by what its summary says
abbrev Held : Summary → Row (List ℕ) → Type 0
Held y row = may_hold (compare_in y.column) y.ends y.has_missing row ≡ true

module _ (f : List ℕ) {y : Summary} (is : summary f ≡ Ok y) (v : List ℕ) where
  pub covered : Covers f v → (row : Row (List ℕ)) × (value (layout y.column) v ≡ Ok row) × Held y row
  unfolding covers
  covered e =
      let r = gone (value (layout y.column) v) _ (sym (going _ is) ∙ e) in
      (r.0, r.1, ok_inj r.2)

  pub covers_row : (row : Row (List ℕ)) → value (layout y.column) v ≡ Ok row → Held y row → Covers f v
  unfolding covers
  covers_row row read held = going _ is ∙ going _ read ∙ ap Ok held
