-- The two kinds of values that columns have, numbers and byte strings: how they are read and written, transformed and projected. Assumes nothing.
use Rattle.std.specs.Prelude.{ℕ, List, ℤ, length}
use Rattle.values.specs.Outcomes.{Res, Row}
use Rattle.values.specs.Types.{layout}
use Rattle.values.specs.Words.{le_number, signed}
use Rattle.values.specs.declared.datatypes.PrimitiveType.{PrimitiveType}
use Rattle.values.specs.declared.transform.Transform.{Transform}
use Rattle.partition.specs.Partition.{number_partition, bytes_partition}
use Rattle.expr.specs.Holds.{Tests, number_tests, bytes_tests}
use Rattle.expr.specs.Predicates.{Predicate}
use Rattle.projection.specs.Projection.{project_numbers, project_bytes}
use Rattle.projection.specs.Steps.{Projected}
use Rattle.projection.specs.declared.question.Question.{Question}
use Rattle.sheet.specs.Values.{read_number, read_bytes, by_layout}
use Rattle.write.specs.Written.{number_bytes}

-- a column's values are of kind A, its partition values of kind B; `write` gives the content of a partition value of the result type, `read_part` reads it
pub record Kind (A B : Type 0) : Type 0 where
  pub read : List ℕ → Res A
  pub partition : Row A → Res (Row B)
  pub project : Question → Predicate A → Res (Projected (Predicate B))
  pub write : PrimitiveType → B → List ℕ
  pub read_part : List ℕ → B
  pub parts : Tests B

module _ (column : PrimitiveType) (transform : Transform) where
  -- numbers of n bytes
  abbrev pub numbers : ℕ → Kind ℤ ℤ
  numbers n = record {
    read = read_number n;
    partition = number_partition column transform;
    project = λ question leaf. project_numbers question column transform leaf;
    write = λ to z. number_bytes (layout to) z;
    read_part = λ bs. signed (length bs) (le_number bs);
    parts = number_tests;
  }

  abbrev pub byte_strings : Kind (List ℕ) (List ℕ)
  byte_strings = record {
    read = read_bytes column;
    partition = bytes_partition column transform;
    project = λ question leaf. project_bytes question column transform leaf;
    write = λ to s. s;
    read_part = λ bs. bs;
    parts = bytes_tests;
  }

-- which kind the values of a column are, and which its partition values: chosen here, by type and transform
abbrev pub by_kind : {X : Type 0} → PrimitiveType → Transform → ((A B : Type 0) → Kind A B → X) → X
by_kind column transform by = by_layout (layout column) (λ n. by ℤ ℤ (numbers column transform n)) (by (List ℕ) (List ℕ) (byte_strings column transform))
