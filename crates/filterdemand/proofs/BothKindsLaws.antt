-- Numbers and byte strings owe what one leaf asks of a kind. Assumes nothing.
use Rattle.std.specs.Prelude.{Ok}
use Prim.Native.Nat.{ℕ}
use mathlib.Core.Bool.{true, not, ◌||◌, false≢true}
use mathlib.Core.List.{List}
use mathlib.Core.Logic.{inl, inr}
use mathlib.Core.Path.{◌≡◌, refl, sym, ap, ◌∙◌}
use lib.IntN.{ℤ}
use lib.ListN.{length}
use borrow.Author.Tests.{eqb-true}
use Rattle.values.specs.laws.OutcomeLaws.{ok_inj, passed}
use Rattle.values.specs.Types.{number, bytes, layout, same_type}
use Rattle.values.specs.Utf8.{utf8}
use Rattle.values.specs.Words.{le_number, signed}
use Rattle.values.specs.declared.datatypes.PrimitiveType.{PrimitiveType}
use Rattle.values.specs.declared.datatypes.PrimitiveType.TheVariants.{String}
use Rattle.values.specs.declared.error.ErrorKind.TheVariants.{NotUtf8, FeatureUnsupported}
use Rattle.values.specs.declared.transform.Transform.{Transform}
use Rattle.values.specs.declared.transform.Transform.TheVariants.{Unknown}
use Rattle.partition.specs.Partition.{known}
use Rattle.partition.specs.ResultType.{result_type}
use Rattle.expr.specs.Predicates.{Predicate, literals_in}
use Rattle.projection.specs.Projection.{project_numbers, project_bytes}
use Rattle.projection.specs.declared.question.Question.TheVariants.{Inclusive}
use Rattle.projection.proofs.LeafDemandLaws.{numbers_strict_exact, bytes_strict_is_safe}
use Rattle.sheet.specs.laws.RefusalLaws.{Only}
use Rattle.demand.proofs.BytesKindLaws.{row_held, all_parts, bytes_values, bytes_kind}
use Rattle.demand.proofs.FilingLaws.{number_filing, bytes_filing_lem}
use Rattle.demand.proofs.NumberKindLaws.{number_result_lem, number_values, number_kind}
use Rattle.demand.proofs.StepRefusalLaws.{numbers_refused, bytes_refused}
use Rattle.filterdemand.proofs.JoinedLaws.{Refusal}
use Rattle.filterdemand.proofs.LeafKindLaws.{LeafLaws}

module _ (column to : PrimitiveType) (transform : Transform) (n : ℕ) (result : result_type transform column ≡ Ok to) where
  pub number_leaf_lem : (is : layout column ≡ number n) (k : known transform ≡ true) → LeafLaws (number_kind column to transform n is k result)
  unfolding number_kind number_values
  number_leaf_lem is k =
      let m = number_result_lem column to transform k result n is in
      record {
        same_tests = refl;
        part_read_lem = λ bs z h e. ap (λ i. signed i (le_number bs)) (eqb-true (length bs) m.0 (rw m.1 at h)) ∙ ok_inj e;
        part_reads = λ bs s e. (signed m.0 (le_number bs), refl);
        filing = number_filing column to transform n is k result;
        strict_is_safe = λ leaf q good e r p h met. (numbers_strict_exact column transform leaf q good e r p h).0 met r h;
      }

  pub bytes_leaf_lem : (is : layout column ≡ bytes n) → LeafLaws (bytes_kind column to transform n is result)
  unfolding bytes_kind bytes_values
  bytes_leaf_lem is = record {
    same_tests = refl;
    part_read_lem = λ bs s h e. ok_inj (passed (not (same_type to String) || utf8 bs) NotUtf8 _ e).1;
    part_reads = λ bs s e. (s, e);
    filing = bytes_filing_lem column to transform n is result;
    strict_is_safe = λ leaf q good e r p h met.
        bytes_strict_is_safe column transform leaf q (all_parts column n (literals_in leaf) good).0 e r p (row_held column n transform r p h) met;
  }

  -- ---- what the steps of a known transform are refused with: 6 and 8
  module _ (k : known transform ≡ true) where
    not_unknown : transform ≡ Unknown → Refusal FeatureUnsupported
    not_unknown is = absurd (false≢true (sym (ap known is) ∙ k))

    pub numbers_refusals : (leaf : Predicate ℤ) → Only Refusal (project_numbers Inclusive column transform leaf)
    numbers_refusals leaf = numbers_refused (inl refl) (inr refl) column to transform not_unknown result Inclusive leaf

    pub bytes_refusals : layout column ≡ bytes n → (leaf : Predicate (List ℕ)) → Only Refusal (project_bytes Inclusive column transform leaf)
    bytes_refusals is leaf = bytes_refused (inl refl) (inr refl) column to transform not_unknown result n is Inclusive leaf
