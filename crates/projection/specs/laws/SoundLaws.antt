-- From present values to rows, for any question: nothing is lost of a row where nothing is lost of its value. Assumes nothing.
use Rattle.std.specs.Prelude.{Bool, true, ◌≡◌, Ok}
use Rattle.std.proofs.Common.{sym, ap, ◌∙◌}
use Rattle.values.specs.Outcomes.{Res, Row, missing, present}
use Rattle.values.specs.laws.OutcomeLaws.{ok_inj, missing_not_present}
use Rattle.std.specs.declared.cmp.Ordering.TheVariants.{Equal}
use Rattle.partition.specs.Partition.{of_row}
use Rattle.expr.specs.Holds.{Tests, meets, holds}
use Rattle.expr.specs.Operators.{Unary}
use Rattle.expr.specs.Predicates.{Test, Predicate, unary, test}
use Rattle.projection.specs.laws.LeafDemand.{RowOf, NoRowLost, StrictIsSafe}
use Rattle.projection.specs.Projection.{in_order}
use Rattle.projection.specs.laws.ProjectionLaws.{in_order_holds}
use Rattle.projection.specs.laws.MissingLaws.{SameMissing}
use Rattle.projection.specs.laws.RowLaws.{unary_row}
use Rattle.projection.specs.declared.question.Question.{Question}
use Rattle.projection.specs.declared.question.Question.TheVariants.{Inclusive, Strict, Older}

-- what is demanded of a row's test and its partition value's
abbrev pub Demanded : Question → Bool → Bool → Type 0
Demanded Inclusive row part = row ≡ true → part ≡ true
Demanded Strict row part = part ≡ true → row ≡ true
Demanded Older row part = part ≡ true → row ≡ true

pub demanded_same : (question : Question) {row part : Bool} → row ≡ part → Demanded question row part
demanded_same Inclusive e = λ m. sym e ∙ m
demanded_same Strict e = λ m. e ∙ m
demanded_same Older e = λ m. e ∙ m

module _ {A B : Type 0} (rows : Tests A) (parts : Tests B) (Held : A → Type 0) where
  abbrev pub Sound : Question → (Row A → Res (Row B)) → Predicate A → Predicate B → Type 0
  Sound Inclusive part leaf q = NoRowLost rows parts Held part leaf q
  Sound Strict part leaf q = StrictIsSafe rows parts Held part leaf q
  Sound Older part leaf q = StrictIsSafe rows parts Held part leaf q

  sound_by : (question : Question) (part : Row A → Res (Row B)) (leaf : Predicate A) (q : Predicate B)
      → ((r : Row A) (p : Row B) → RowOf Held part r p → Demanded question (holds rows leaf r) (holds parts q p))
      → Sound question part leaf q
  sound_by Inclusive part leaf q k = k
  sound_by Strict part leaf q k = k
  sound_by Older part leaf q k = k

  module _ (value : A → Res (Row B)) (never : (v : A) → value v ≡ Ok missing → ⊥) (question : Question) where
    pub tests_sound : (x : Test A) (q : Test B) → SameMissing x q
        → ((v : A) (p : B) → Held v → value v ≡ Ok (present p) → Demanded question (meets rows x v) (meets parts q p))
        → Sound question (of_row value) (test x) (test q)
    tests_sound x q same k = sound_by question (of_row value) (test x) (test q) go
      where
        go : (r : Row A) (p : Row B) → RowOf Held (of_row value) r p → Demanded question (holds rows (test x) r) (holds parts (test q) p)
        go missing missing e = demanded_same question (sym same)
        go missing (present p) e = missing_not_present (ok_inj e.1)
        go (present v) missing e = absurd (never v e.1)
        go (present v) (present p) e = k v p e.0 e.1

    pub unary_sound : (o : Unary) → Sound question (of_row value) (unary o) (unary o)
    unary_sound o =
        sound_by question (of_row value) (unary o) (unary o) (λ r p e. demanded_same question (unary_row value never rows parts o r p e.1))

-- where each row is its own partition value
module _ {A : Type 0} (by : Tests A) (equal : (a b : A) → by.compare a b ≡ Equal → a ≡ b) (Held : A → Type 0) (part : Row A → Res (Row A))
    (same : (r p : Row A) → part r ≡ Ok p → r ≡ p) where
  pub itself_sound : (question : Question) (leaf : Predicate A) → Sound by by Held question part leaf (in_order by.compare leaf)
  itself_sound question leaf =
      sound_by
      by
      by
      Held
      question
      part
      leaf
      (in_order by.compare leaf)
      (λ r p e. demanded_same question (ap (holds by leaf) (same r p e.1) ∙ sym (in_order_holds by equal leaf p)))
