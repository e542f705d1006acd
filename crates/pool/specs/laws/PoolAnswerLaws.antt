-- Pooling two summaries gives only the answers that document 02 names. Assumes nothing.
use Rattle.std.specs.Prelude.{ℕ, List, ◌⊎◌, ◌≡◌, refl, Ok, Err}
use Rattle.std.proofs.Common.{inl, inr, ap}
use Rattle.values.specs.Outcomes.{Res, error_number}
use Rattle.values.specs.Types.{same_type}
use Rattle.values.specs.declared.error.ErrorKind.{ErrorKind}
use Rattle.values.specs.declared.error.ErrorKind.TheVariants.{Malformed, NotUtf8, WrongSummary, DifferentTypes}
use Rattle.sheet.specs.laws.RefusalLaws.{Only, only_ok, only_bind, only_need, malformed}
use Rattle.summary.specs.Summaries.{Summary, summary}
use Rattle.summary.specs.laws.SummaryLaws.{summary_only}
use Rattle.pool.specs.Handed.{pool_number}
use Rattle.pool.specs.Pooling.{pool_of, pool}
use Rattle.pool.specs.declared.pool.Pooled.{Pooled}
use Rattle.pool.specs.laws.PoolLaws.{both_encoded, both_ordered, pool_checks}

-- what is refused is Malformed, not UTF-8, out of order, or of different types
abbrev Refusal : ErrorKind → Type 0
Refusal e = (e ≡ Malformed) ⊎ ((e ≡ NotUtf8) ⊎ ((e ≡ WrongSummary) ⊎ (e ≡ DifferentTypes)))

read_only : (x y : Summary) → Only Refusal (pool_of x y)
read_only x y =
    rw (pool_checks x y)
    (only_need (both_encoded x y) NotUtf8 _ (inr (inl refl)) (only_need (both_ordered x y) WrongSummary _ (inr (inr (inl refl))) (
    only_need (same_type x.column y.column) DifferentTypes _ (inr (inr (inr refl))) only_ok)))

pool_only : (a b : List ℕ) → Only Refusal (pool a b)
unfolding pool
pool_only a b =
    only_bind (summary a) _ (malformed (inl refl) (summary_only a)) (λ x.
    only_bind (summary b) _ (malformed (inl refl) (summary_only b)) (λ y. read_only x y))

-- 0, 3, 4, 11 and 12, and no other
pub answers : (a b : List ℕ) → let n = pool_number (pool a b) in (n ≡ 0) ⊎ ((n ≡ 3) ⊎ ((n ≡ 4) ⊎ ((n ≡ 11) ⊎ (n ≡ 12))))
answers a b = go (pool a b) (pool_only a b)
  where
    refusal : {e : ErrorKind} → Refusal e → (error_number e ≡ 3) ⊎ ((error_number e ≡ 4) ⊎ ((error_number e ≡ 11) ⊎ (error_number e ≡ 12)))
    refusal (inl is) = inl (ap error_number is)
    refusal (inr (inl is)) = inr (inl (ap error_number is))
    refusal (inr (inr (inl is))) = inr (inr (inl (ap error_number is)))
    refusal (inr (inr (inr is))) = inr (inr (inr (ap error_number is)))

    go : (r : Res Pooled) → Only Refusal r → let n = pool_number r in (n ≡ 0) ⊎ ((n ≡ 3) ⊎ ((n ≡ 4) ⊎ ((n ≡ 11) ⊎ (n ≡ 12))))
    go (Ok p) h = inl refl
    go (Err e) h = inr (refusal (h.only e refl))
