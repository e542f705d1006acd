-- Eq and In under any T from values of one kind to values of another: what is returned accepts just the values of the literals. No order is asked of either
-- kind. Assumes nothing.
use Rattle.std.specs.Prelude.{true, ◌≡◌, refl, Ok}
use mathlib.Core.List.Memᴰ.{eq_of_singleton}
use mathlib.Core.List.Memᴰ.{head as here}
use mathlib.Core.List.{List, Memᴰ as Isin}
use Rattle.std.proofs.Common.{sym, ap, ◌∙◌}
use Rattle.values.specs.Ascending.{ascending}
use Rattle.values.specs.Outcomes.{Res}
use Rattle.values.specs.laws.OutcomeLaws.{ok_inj}
use Rattle.expr.specs.Holds.{Tests, meets}
use Rattle.expr.specs.Operators.{eq, is_in}
use Rattle.expr.specs.Predicates.{Test, binary, set, test, literals_in}
use Rattle.expr.specs.laws.EqualityLaws.{Tells, is_same, is_member, is_ascending_member}
use Rattle.projection.specs.laws.StepLaws.{Returned, returned_literal, returned_each, each_into, Literal, each_from}
use Rattle.projection.specs.Steps.{with_literal, with_each}

module _ {A B : Type 0} (rows : Tests A) (parts : Tests B) (tells : Tells rows) (tells_parts : Tells parts) (T : A → Res B) where
  -- x asks for its literals, and q for their values
  pub record Equals (x : Test A) (q : Test B) : Type 0 where
    pub own : (l : A) → Isin l (literals_in (test x)) → meets rows x l ≡ true
    pub kept : (v : A) (p : B) → T v ≡ Ok p → meets rows x v ≡ true → meets parts q p ≡ true
    pub needed : (p : B) → meets parts q p ≡ true → Literal T (literals_in (test x)) p
    pub literals : (t : B) → Isin t (literals_in (test q)) → Literal T (literals_in (test x)) t

  pub eq_equals : (l : A) → Returned (with_literal eq (T l)) (Equals (binary eq l))
  eq_equals l =
      returned_literal eq (T l) (Equals (binary eq l)) (λ t e. record {
        own = λ k m. (is_same rows tells k l).1 (eq_of_singleton m);
        kept = λ v p h m. (is_same parts tells_parts p t).1 (ok_inj (sym h ∙ ap T ((is_same rows tells v l).0 m) ∙ e));
        needed = λ p m. (l, e ∙ ap Ok (sym ((is_same parts tells_parts p t).0 m)), here refl);
        literals = λ k m. (l, e ∙ ap Ok (sym (eq_of_singleton m)), here refl);
      })

  pub in_equals : (ls : List A) → Returned (with_each parts.compare is_in T ls) (Equals (set is_in ls))
  in_equals ls =
      returned_each parts.compare is_in T ls (Equals (set is_in ls)) (λ ts e. record {
        own = λ k m. (is_member rows tells k ls).1 m;
        kept = λ v p h m. (is_ascending_member parts tells_parts p ts).1 (each_into T ls e v p h ((is_member rows tells v ls).0 m));
        needed = λ p m. each_from T ls e p ((is_ascending_member parts tells_parts p ts).0 m);
        literals = λ t m. each_from T ls e t
            ((is_ascending_member parts tells_parts t ts).0 ((is_member parts tells_parts t (ascending parts.compare ts)).1 m));
      })
