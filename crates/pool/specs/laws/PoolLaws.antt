-- What two summaries are answered, as checks in their order and the pooled summary; and the ends that it has. Assumes nothing.
use Rattle.std.specs.Prelude.{ℕ, Bool, ◌&&◌, List, [], ◌∷◌, ◌++◌, ◌≡◌, Ok}
use Rattle.std.proofs.Math.Path.{ap}
use Rattle.std.proofs.Common.{◌∙◌}
use Rattle.values.specs.Order.{is_less}
use Rattle.values.specs.Outcomes.{Res, need, ◌>>◌}
use Rattle.values.specs.laws.OutcomeLaws.{need_both, need_read}
use Rattle.values.specs.Types.{same_type}
use Rattle.values.specs.Words.{field}
use Rattle.values.specs.declared.error.ErrorKind.TheVariants.{NotUtf8, WrongSummary, DifferentTypes}
use Rattle.std.specs.declared.cmp.Ordering.{Ordering}
use Rattle.summary.specs.EndValues.{compare_in, ordered}
use Rattle.summary.specs.Summaries.{Ends, none_present, ◌to◌, Summary, type_at}
use Rattle.summary.specs.code.SummaryAnswers.{ends_encoded}
use Rattle.summary.specs.laws.EndLaws.{ends_read}
use Rattle.pool.specs.Handed.{lowest_end, highest_end}
use Rattle.pool.specs.Pooling.{of, second_where, joined, pool_of, pool, pooled}
use Rattle.pool.specs.declared.pool.Pooled.{Pooled}

module _ (x y : Summary) where
  abbrev pub both_encoded : Bool
  both_encoded = ends_encoded x.column x.ends && ends_encoded y.column y.ends

  abbrev pub both_ordered : Bool
  both_ordered = ordered (compare_in x.column) x.ends && ordered (compare_in y.column) y.ends

  abbrev pub after_utf8 : Res Pooled
  after_utf8 = do
    need both_ordered WrongSummary
    need (same_type x.column y.column) DifferentTypes
    Ok (joined x.column x.ends x.has_missing y.ends y.has_missing)

  pub pool_checks : pool_of x y ≡ (need both_encoded NotUtf8 >> after_utf8)
  unfolding pool_of
  pool_checks =
      let a = ends_encoded x.column x.ends in
      let b = ends_encoded y.column y.ends in
      let last = need (same_type x.column y.column) DifferentTypes >> Ok (joined x.column x.ends x.has_missing y.ends y.has_missing) in
      rw (ends_read x.column x.ends, ends_read y.column y.ends)
      (need_read a NotUtf8 x.ends _
      ∙ ap (λ r. need a NotUtf8 >> r) (need_read b NotUtf8 y.ends _)
      ∙ need_both a b NotUtf8 _
      ∙ ap (λ r. need both_encoded NotUtf8 >> r)
      (need_both (ordered (compare_in x.column) x.ends) (ordered (compare_in y.column) y.ends) WrongSummary last))

-- ---- the ends of the pooled summary
module _ {A : Type 0} (compare : A → A → Ordering) where
  abbrev pub joined_ends : Ends A → Ends A → Ends A
  joined_ends x none_present = x
  joined_ends none_present (m to k) = m to k
  joined_ends (l to h) (m to k) = of (second_where (is_less (compare m l))) l m to of (second_where (is_less (compare h k))) h k

-- the pooled summary is put together from the ends that are handed back
pub from_its_ends : (a b : List ℕ) {p : Pooled} → pool a b ≡ Ok p → pooled a b ≡ Ok (lowest_end a b ++ highest_end a b ++ field type_at 1 a ++ (p.flag ∷ []))
unfolding pooled
from_its_ends a b is = rw is
