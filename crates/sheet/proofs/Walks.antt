-- The returns of `literal_after` and of `walk`: the number of the next literal, and what a walk leaves in `records`. Assumes nothing.
use Rattle.std.specs.Prelude.{◌≡◌, ℕ, suc, ◌+◌, ◌*◌, ◌≤◌, ◌<◌, true, ◌&&◌, List, [], ◌∷◌, length, take, refl, Ok, Err, Some, None}
use Rattle.std.proofs.Common.{arith, sym, ap, ◌∙◌, lt-ltb, ltb-true, eq-eqb, ne_eqb}
use mathlib.Core.List.{append-nil}
use native.Mathlib.Nat.{add-zero}
use native.Mathlib.Numerals.{add-one}
use lib.Dec.{ltb}
use lib.ListN.{set, length-set}
use lib.Seq.{take-suc-set, append_snoc}
use Rattle.values.specs.laws.OutcomeLaws.{ok_inj, ok_not_err}
use Rattle.values.specs.Outcomes.{Res, ◌>>=◌}
use Rattle.values.specs.laws.TestLaws.{refuted, and_both}
use Rattle.values.specs.Types.{Layout}
use Rattle.values.specs.Words.{word}
use Rattle.values.specs.declared.error.ErrorKind.{ErrorKind}
use Rattle.values.specs.declared.error.ErrorKind.TheVariants.{Malformed}
use Rattle.expr.specs.Operators.{holds_limit}
use Rattle.sheet.specs.code.ReadAnswers.{is_ok, literal_after, walked_as, broken_chain, counted, Stored, records_from}
use Rattle.sheet.specs.laws.PartLaws.{next_here}
use Rattle.sheet.specs.Records.{record_size, record_count, next_in, content, record_at}
use Rattle.sheet.specs.laws.WalkLaws.{Next, walk_few, walk_malformed}

-- ---- the returns of `literal_after`, by the next that it reads
module _ (l : Layout) (s : List ℕ) (at n : ℕ) (is : n ≡ word (record_size * at) 2 s) where
  next : n ≡ next_in (record_at s at)
  next = is ∙ next_here s at

  pub after_end : n ≡ 0 → Ok None ≡ literal_after l s at
  unfolding literal_after
  after_end z = rw (← next, eq-eqb n 0 z)

  pub after_literal : at < n → n < record_count s → is_ok (content l (record_at s n)) ≡ true → Ok (Some n) ≡ literal_after l s at
  unfolding literal_after
  after_literal a b t = rw (← next, ne_eqb n 0 (λ e. omega arith), lt-ltb at n a, lt-ltb n (record_count s) b, t)

  pub after_broken : (n ≡ 0 → ⊥) → (at < n → n < record_count s → is_ok (content l (record_at s n)) ≡ true → ⊥) → Err Malformed ≡ literal_after l s at
  unfolding literal_after
  after_broken some f =
      rw (
        ← next,
        ne_eqb n 0 some,
        refuted (ltb at n && ltb n (record_count s) && is_ok (content l (record_at s n))) λ sound.
            let x = and_both (ltb at n && ltb n (record_count s)) _ sound in
            let y = and_both (ltb at n) _ x.0 in
            f (ltb-true at n y.0) (ltb-true n (record_count s) y.1) x.1,
      )

-- ---- what a return of the walk leaves in `records`

-- the walk after record `at` finds what it answers, and leaves it in `records`
pub record Ends (l : Layout) (s : List ℕ) (at filled : ℕ) (before : List ℕ) (r : ℕ) (after : List ℕ) : Type 0 where
  pub value : r ≡ counted (walked_as filled (records_from l s at))
  pub stored : Stored filled (records_from l s at) before after

module _ {l : Layout} {s : List ℕ} {at filled : ℕ} {before : List ℕ} where
  pub ended : records_from l s at ≡ Ok [] → Ends l s at filled before filled before
  ended e = record {
    value = rw (e, add-zero);
    stored = record { stored = λ ns d. let none : [] ≡ ns = ok_inj (sym e ∙ d) in rw (← none, add-zero, append-nil); kept = refl };
  }

  pub broken : {e : ErrorKind} → records_from l s at ≡ Err e → Ends l s at filled before broken_chain before
  broken e = record { value = rw e; stored = record { stored = λ ns d. ok_not_err (sym e ∙ d); kept = refl } }

  module _ {n r : ℕ} {after : List ℕ} (is : Next l s at n) (room : filled < length before) (rest : Ends l s n (filled + 1) (set before filled n) r after) where
    one_more : (x : Res (List ℕ)) → records_from l s n ≡ x → records_from l s at ≡ (x >>= λ ns. Ok (n ∷ ns)) → Ends l s at filled before r after
    one_more (Ok ns) q f =
        let more : filled + suc (length ns) ≡ filled + 1 + length ns = omega arith in
        record {
          value = rest.value ∙ rw (q, f) (sym more);
          stored = record {
            stored = λ ms d.
                let all : n ∷ ns ≡ ms = ok_inj (sym f ∙ d) in
                rw (← all, more, rest.stored.stored ns q, add-one, take-suc-set before filled n room) (append_snoc (take filled before) n ns);
            kept = rest.stored.kept ∙ length-set before filled n;
          };
        }
    one_more (Err e) q f = record {
      value = rest.value ∙ rw (q, f);
      stored = record { stored = λ ms d. ok_not_err (sym f ∙ d); kept = rest.stored.kept ∙ length-set before filled n };
    }

    pub gone_on : Ends l s at filled before r after
    gone_on = one_more (records_from l s n) refl is.more

-- ---- a count that stands for a broken chain

-- no chain that is not broken has so many literals
pub chain_broken : (l : Layout) (s : List ℕ) (at filled : ℕ) → at < record_count s → length s ≤ record_size * suc holds_limit → filled ≤ at
    → broken_chain ≡ counted (walked_as filled (records_from l s at)) → ◌≡◌ {A = Res ℕ} (Err Malformed) (walked_as filled (records_from l s at))
chain_broken l s at filled there short below = go (records_from l s at) refl
  where
    go : (x : Res (List ℕ)) → records_from l s at ≡ x → broken_chain ≡ counted (walked_as filled x) → ◌≡◌ {A = Res ℕ} (Err Malformed) (walked_as filled x)
    go (Ok ns) is e = let few = walk_few l s at there is in absurd (omega (arith, few, e))
    go (Err k) is e = ap Err (sym ((walk_malformed l s at).only k is))
