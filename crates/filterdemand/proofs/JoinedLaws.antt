-- Filters over any leaves: what is so of every leaf is so of every leaf turned, and what two answers of each leaf have to do with each other the answers of the
-- whole have. Assumes nothing.
use Rattle.std.specs.Prelude.{Ok, Err}
use mathlib.Core.Bool.{Bool, true, ◌&&◌, ◌||◌}
use mathlib.Core.Logic.{◌⊎◌, ⊎_elim}
use mathlib.Core.Path.{◌≡◌, ap, ◌∙◌}
use Rattle.values.specs.Outcomes.{Res, error_number}
use Rattle.values.specs.laws.OutcomeLaws.{ok_inj, going, gone}
use Rattle.values.specs.laws.TestLaws.{or_cases, or_left, or_right, and_both, both_and}
use Rattle.values.specs.declared.error.ErrorKind.{ErrorKind}
use Rattle.grammar.specs.Filters.{Filter, leaf, either, both, opposite, bracket, Turned, one, any, all, straight, turned, joined, answered}
use Rattle.sheet.specs.laws.RefusalLaws.{Only}
use Rattle.filter.specs.FilterDemand.{Kept}
use Rattle.filter.specs.laws.FilterAnswerLaws.{joined_only}

-- ---- what is so of every leaf
abbrev pub EveryLeaf : {L : Type 0} → (L → Type 0) → Filter L → Type 0
EveryLeaf g (leaf l) = g l
EveryLeaf g (either f h) = EveryLeaf g f × EveryLeaf g h
EveryLeaf g (both f h) = EveryLeaf g f × EveryLeaf g h
EveryLeaf g (opposite f) = EveryLeaf g f
EveryLeaf g (bracket f) = EveryLeaf g f

abbrev pub EveryTurned : {L : Type 0} → (L → Type 0) → Turned L → Type 0
EveryTurned g (one l) = g l
EveryTurned g (any f h) = EveryTurned g f × EveryTurned g h
EveryTurned g (all f h) = EveryTurned g f × EveryTurned g h

module _ {L : Type 0} (g : L → Type 0) where
  -- where turning a leaf keeps it
  pub straight_every : (turn : L → L) → ((l : L) → g l → g (turn l)) → (f : Filter L) → EveryLeaf g f
      → EveryTurned g (straight turn f) × EveryTurned g (turned turn f)
  straight_every turn k (leaf l) h = (h, k l h)
  straight_every turn k (either f f') h =
      let a = straight_every turn k f h.0 in
      let b = straight_every turn k f' h.1 in
      ((a.0, b.0), (a.1, b.1))
  straight_every turn k (both f f') h =
      let a = straight_every turn k f h.0 in
      let b = straight_every turn k f' h.1 in
      ((a.0, b.0), (a.1, b.1))
  straight_every turn k (opposite f) h = let a = straight_every turn k f h in (a.1, a.0)
  straight_every turn k (bracket f) h = straight_every turn k f h

  pub turned_map : (g' : L → Type 0) → ((l : L) → g l → g' l) → (f : Turned L) → EveryTurned g f → EveryTurned g' f
  turned_map g' k (one l) h = k l h
  turned_map g' k (any f f') h = (turned_map g' k f h.0, turned_map g' k f' h.1)
  turned_map g' k (all f f') h = (turned_map g' k f h.0, turned_map g' k f' h.1)

  pub every_both : (g' : L → Type 0) (f : Filter L) → EveryLeaf g f → EveryLeaf g' f → EveryLeaf (λ l. g l × g' l) f
  every_both g' (leaf l) h k = (h, k)
  every_both g' (either f f') h k = (every_both g' f h.0 k.0, every_both g' f' h.1 k.1)
  every_both g' (both f f') h k = (every_both g' f h.0 k.0, every_both g' f' h.1 k.1)
  every_both g' (opposite f) h k = every_both g' f h k
  every_both g' (bracket f) h k = every_both g' f h k

-- ---- what every leaf is refused with, the whole is
pub answered_only : {L : Type 0} {p : ErrorKind → Type 0} (ask : L → Res Bool) (f : Turned L) → EveryTurned (λ l. Only p (ask l)) f → Only p (answered ask f)
answered_only ask (one l) h = h
answered_only ask (any f g) h = joined_only ◌||◌ (answered ask f) (answered ask g) (answered_only ask f h.0) (answered_only ask g h.1)
answered_only ask (all f g) h = joined_only ◌&&◌ (answered ask f) (answered ask g) (answered_only ask f h.0) (answered_only ask g h.1)

-- ---- inclusive: the second answer is yes where the first is, and its refusals are 6 and 8
abbrev pub Refusal : ErrorKind → Type 0
Refusal e = (error_number e ≡ 6) ⊎ (error_number e ≡ 8)

abbrev pub Follows : Res Bool → Res Bool → Type 0
Follows a (Ok u) = a ≡ Ok true → u ≡ true
Follows a (Err e) = Refusal e

pub follows_kept : (a p : Res Bool) → Follows a p → a ≡ Ok true → Kept p
follows_kept a (Ok u) h e = h e
follows_kept a (Err x) h e = h

-- ---- strict: the first answer is no refusal, and yes where the second is
pub record Leads (a p : Res Bool) : Type 0 where
  pub says : Bool
  pub is : a ≡ Ok says
  pub yes_where : p ≡ Ok true → says ≡ true

pub leads_yes : (a p : Res Bool) → Leads a p → p ≡ Ok true → a ≡ Ok true
leads_yes a p h e = h.is ∙ ap Ok (h.yes_where e)

-- ---- two answers joined
joined_ok : (join : Bool → Bool → Bool) (a b : Res Bool) {z : Bool} → joined join a b ≡ Ok z
    → (x : Bool) × (y : Bool) × (a ≡ Ok x) × (b ≡ Ok y) × (join x y ≡ z)
joined_ok join a b e =
    let x = gone a _ e in
    let y = gone b _ x.2 in
    (x.0, y.0, x.1, y.1, ok_inj y.2)

-- a join that is yes only where one that is yes with less is
abbrev Rises : (Bool → Bool → Bool) → Type 0
Rises join = (x y u w : Bool) → (x ≡ true → u ≡ true) → (y ≡ true → w ≡ true) → join x y ≡ true → join u w ≡ true

or_rises : Rises ◌||◌
or_rises x y u w f g h = ⊎_elim (λ a. or_left w (f a)) (λ b. or_right u (g b)) (or_cases x y h)

and_rises : Rises ◌&&◌
and_rises x y u w f g h = let k = and_both x y h in both_and (f k.0) (g k.1)

module _ (join : Bool → Bool → Bool) (rises : Rises join) where
  joined_follows : (a b p q : Res Bool) → Follows a p → Follows b q → Follows (joined join a b) (joined join p q)
  joined_follows a b (Ok u) (Ok w) h k = λ e.
      let x = joined_ok join a b e in
      rises x.0 x.1 u w (λ d. h (x.2 ∙ ap Ok d)) (λ d. k (x.3 ∙ ap Ok d)) x.4
  joined_follows a b (Ok u) (Err z) h k = k
  joined_follows a b (Err z) q h k = h

  joined_leads : (a b p q : Res Bool) → Leads a p → Leads b q → Leads (joined join a b) (joined join p q)
  joined_leads a b p q h k = record {
    says = join h.says k.says;
    is = going _ h.is ∙ going _ k.is;
    yes_where = λ e.
        let x = joined_ok join p q e in
        rises x.0 x.1 h.says k.says (λ d. h.yes_where (x.2 ∙ ap Ok d)) (λ d. k.yes_where (x.3 ∙ ap Ok d)) x.4;
  }

-- ---- the whole
module _ {L : Type 0} (row part : L → Res Bool) where
  pub answered_follows : (f : Turned L) → EveryTurned (λ l. Follows (row l) (part l)) f → Follows (answered row f) (answered part f)
  answered_follows (one l) h = h
  answered_follows (any f g) h = joined_follows ◌||◌ or_rises _ _ (answered part f) (answered part g) (answered_follows f h.0) (answered_follows g h.1)
  answered_follows (all f g) h = joined_follows ◌&&◌ and_rises _ _ (answered part f) (answered part g) (answered_follows f h.0) (answered_follows g h.1)

  pub answered_leads : (f : Turned L) → EveryTurned (λ l. Leads (row l) (part l)) f → Leads (answered row f) (answered part f)
  answered_leads (one l) h = h
  answered_leads (any f g) h = joined_leads ◌||◌ or_rises _ _ _ _ (answered_leads f h.0) (answered_leads g h.1)
  answered_leads (all f g) h = joined_leads ◌&&◌ and_rises _ _ _ _ (answered_leads f h.0) (answered_leads g h.1)
