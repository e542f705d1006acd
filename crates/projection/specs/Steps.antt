-- What a step of a projection gives: a test on the partition values, none, or a refusal. Assumes nothing.
use Rattle.std.specs.Prelude.{List, Ok, Err, Option}
pub use Rattle.std.specs.Prelude.{Some as some, None as none}
use Rattle.values.specs.Ascending.{ascending}
use Rattle.values.specs.Outcomes.{Res, each, ◌>>=◌, Row, missing, present}
use Rattle.values.specs.declared.error.ErrorKind.TheVariants.{FeatureUnsupported}
use Rattle.std.specs.declared.cmp.Ordering.{Ordering}
use Rattle.expr.specs.Operators.{Binary, SetOperator}
use Rattle.expr.specs.Predicates.{Test, binary, set}

-- 01, answer 0: "a predicate or value exists"; answer 1: "no predicate"
abbrev pub Projected : Type 0 → Type 0
Projected P = Option P

abbrev pub mapped : {P Q : Type 0} → (P → Q) → Projected P → Projected Q
mapped f (some p) = some (f p)
mapped f none = none

-- T(L), the value of a literal under a transform. Void alone gives missing for a present value, and no step is asked of Void: the refusal here is never met
abbrev pub value_in : {B : Type 0} → Row B → Res B
value_in missing = Err FeatureUnsupported
value_in (present t) = Ok t

abbrev pub literal_under : {A B : Type 0} → (A → Res (Row B)) → A → Res B
literal_under transform l = transform l >>= value_in

-- an operator with T(L)
abbrev pub with_literal : {B : Type 0} → Binary → Res B → Res (Projected (Test B))
with_literal o value = do
  t ← value
  Ok (some (binary o t))

-- a set operator with each T(L), ascending and without repeats. 01: "An empty set stays an empty set"
abbrev pub with_each : {A B : Type 0} → (B → B → Ordering) → SetOperator → (A → Res B) → List A → Res (Projected (Test B))
with_each compare o T ls = do
  ts ← each T ls
  Ok (some (set o (ascending compare ts)))
