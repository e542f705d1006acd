-- A sheet by the steps of the code that reads it: its size, its head, the numbers on its chain, and how many literals its operator takes. Assumes nothing.
use Prim.Native.Nat.{ℕ, suc, ◌*◌, ◌%◌}
use Rattle.std.proofs.Common.{arith, sym, ◌∙◌, ne_eqb}
use Rattle.std.specs.Prelude.{true, false, List, [], ◌∷◌, map, ◌≡◌, refl, ltb, leb, eqb, length, Ok, Err}
use Rattle.std.proofs.Math.Path.{ap}
use Rattle.values.specs.Numbered.{find}
use Rattle.values.specs.Outcomes.{Res, need, each, ◌>>=◌, ◌>>◌}
use Rattle.values.specs.laws.TestLaws.{clash}
use Rattle.values.specs.Types.{layout}
use Rattle.values.specs.Words.{word}
use Rattle.values.specs.declared.error.ErrorKind.TheVariants.{Malformed}
use Rattle.expr.specs.Operators.{Operator, none, one, many, by_arity, operators, operator_of}
use Rattle.expr.specs.code.OperatorAnswers.{takes}
use Rattle.expr.specs.laws.PredicateLaws.{operator_of_lem}
use Rattle.expr.specs.Predicates.{Predicate, unary, test, binary, set, operator_in, literals_in, with_literals, predicate}
use Rattle.expr.specs.declared.operator.PredicateOperator.{PredicateOperator}
use Rattle.sheet.specs.code.Placed.{content_at}
use Rattle.sheet.specs.code.ReadAnswers.{head_in, records_from}
use Rattle.sheet.specs.Records.{record_size, record_count, record_at, content}
use Rattle.sheet.specs.Sheets.{chain, fields, Sheet, sheet}
use Rattle.sheet.specs.laws.WalkLaws.{literals_follow}
use Rattle.sheet.specs.declared.head.Head.{Head}

-- what follows a head: the leaf of its operator and of the literals on the chain
abbrev pub leaf_of : List ℕ → Head → List ℕ → Res Sheet
leaf_of s h ns = do
  leaf ← predicate h.operator (map (content_at s) ns)
  Ok (record { head = record { column = h.column; transform = h.transform }; leaf = leaf })

abbrev pub with_chain : List ℕ → Head → Res Sheet
with_chain s h = do
  ns ← records_from (layout h.column) s 0
  leaf_of s h ns

-- a head's lines, and what follows them
through : {A B C D : Type 0} (a : Res A) (b : Res B) (f : A → B → C) (g : C → Res D) (k : A → B → Res D) → ((o : A) (h : B) → k o h ≡ g (f o h))
    → (a >>= λ o. b >>= λ h. k o h) ≡ ((a >>= λ o. b >>= λ h. Ok (f o h)) >>= g)
through (Ok o) (Ok h) f g k e = e o h
through (Ok o) (Err d) f g k e = refl
through (Err d) b f g k e = refl

module _ (s : List ℕ) where
  after_size : (find operators (word 2 2 s) >>= λ o. fields s >>= λ h.
      chain (record_count s) s 0 >>= λ ns. each (λ n. content (layout h.column) (record_at s n)) ns >>= λ ls.
      predicate o ls >>= λ leaf. Ok (record { head = h; leaf = leaf }))
      ≡ (head_in s >>= with_chain s)
  unfolding head_in
  after_size = through (find operators (word 2 2 s)) (fields s) _ (with_chain s) _ (λ o h. literals_follow (layout h.column) s 0 _)

  pub sheet_steps : (most : ℕ) → sheet most s
      ≡ (need (ltb 0 (length s)) Malformed >> (need (eqb (length s % record_size) 0) Malformed >>
      (need (leb (length s) (record_size * suc most)) Malformed >> (head_in s >>= with_chain s))))
  unfolding sheet
  sheet_steps most =
      ap (λ r. need (ltb 0 (length s)) Malformed >> (need (eqb (length s % record_size) 0) Malformed >>
      (need (leb (length s) (record_size * suc most)) Malformed >> r))) after_size

-- ---- an operator with as many literals as it takes

-- a predicate of the operator and the literals
pub record Made {A : Type 0} (o : PredicateOperator) (ls : List A) : Type 0 where
  pub leaf : Predicate A
  pub made : predicate o ls ≡ Ok leaf
  pub operator : operator_in leaf ≡ o
  pub literals : literals_in leaf ≡ ls

module _ {A : Type 0} (o : PredicateOperator) where
  made_of : (a : Operator) → by_arity o ≡ a → (ls : List A) → takes a (length ls) ≡ true → Made o ls
  made_of (none u) e [] t = record { leaf = unary u; made = rw e; operator = sym (ap operator_of e) ∙ operator_of_lem o; literals = refl }
  made_of (none u) e (l ∷ ls) t = clash t (ne_eqb (suc (length ls)) 0 (λ d. omega arith))
  made_of (one b) e [] t = clash t refl
  made_of (one b) e (l ∷ []) t = record { leaf = test (binary b l); made = rw e; operator = sym (ap operator_of e) ∙ operator_of_lem o; literals = refl }
  made_of (one b) e (l ∷ k ∷ ls) t = clash t (ne_eqb (suc (suc (length ls))) 1 (λ d. omega arith))
  made_of (many m) e ls t = record { leaf = test (set m ls); made = rw e; operator = sym (ap operator_of e) ∙ operator_of_lem o; literals = refl }

  pub predicate_made : (ls : List A) → takes (by_arity o) (length ls) ≡ true → Made o ls
  predicate_made ls t = made_of (by_arity o) refl ls t

  refused_of : (a : Operator) (ls : List A) → takes a (length ls) ≡ false → with_literals a ls ≡ Err Malformed
  refused_of (none u) [] t = clash refl t
  refused_of (none u) (l ∷ ls) t = refl
  refused_of (one b) [] t = refl
  refused_of (one b) (l ∷ []) t = clash refl t
  refused_of (one b) (l ∷ k ∷ ls) t = refl
  refused_of (many m) ls t = clash refl t

  pub predicate_refused : (ls : List A) → takes (by_arity o) (length ls) ≡ false → predicate o ls ≡ Err Malformed
  predicate_refused ls t = refused_of (by_arity o) ls t
