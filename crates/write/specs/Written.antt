-- How sheets and value records are written. Assumes nothing.
use Rattle.std.specs.Prelude.{ℕ, suc, ◌-◌, ◌*◌, List, [], ◌∷◌, ◌++◌, length, replicate, ℤ}
use Rattle.values.specs.Outcomes.{Row, missing, present}
use Rattle.values.specs.Types.{Layout, number, bytes, content_size, type_number}
use Rattle.values.specs.Words.{le_bytes, signed_bytes}
use Rattle.values.specs.declared.datatypes.PrimitiveType.{PrimitiveType}
use Rattle.expr.specs.Operators.{operator_number, holds_limit}
use Rattle.expr.specs.Predicates.{Predicate, operator_in, literals_in}
use Rattle.expr.specs.declared.operator.PredicateOperator.{PredicateOperator}
use Rattle.sheet.specs.Records.{record_size, missing_mark}

-- 01: "Literal: 0–1 next; 2–3 length; 4–63 content, zero after the length"
abbrev pub literal_record : ℕ → List ℕ → List ℕ
literal_record next bs = le_bytes 2 next ++ (le_bytes 2 (length bs) ++ (bs ++ replicate (content_size - length bs) 0))

-- 01: "one literal record with next 0; length 65535 and zero content mark it missing"
abbrev pub value_record : Row (List ℕ) → List ℕ
value_record missing = le_bytes 2 0 ++ (le_bytes 2 missing_mark ++ replicate content_size 0)
value_record (present bs) = literal_record 0 bs

-- the number of record k, which holds the first of the literals, if there is one; else 0
abbrev pub next_to : ℕ → List (List ℕ) → ℕ
next_to k [] = 0
next_to k (b ∷ bs) = k

-- literals in records k, k + 1, ..
abbrev pub literal_records : ℕ → List (List ℕ) → List ℕ
literal_records k [] = []
literal_records k (b ∷ bs) = literal_record (next_to (suc k) bs) b ++ literal_records (suc k) bs

-- 01: "The answer sheet has the result type, transform 0, width 0, and its literals in records 1, 2, .."
abbrev pub head_record : ℕ → ℕ → ℕ → List ℕ
head_record next operator type = le_bytes 2 next ++ (le_bytes 2 operator ++ (le_bytes 1 type ++ replicate (record_size - 5) 0))

abbrev pub answer_bytes : PredicateOperator → PrimitiveType → List (List ℕ) → List ℕ
answer_bytes operator type contents = head_record (next_to 1 contents) (operator_number operator) (type_number type) ++ literal_records 1 contents

unfoldable pub answer_sheet : PrimitiveType → Predicate (List ℕ) → List ℕ
answer_sheet type p = answer_bytes (operator_in p) type (literals_in p)

-- the content of a literal that is a number; a byte layout has none
abbrev pub number_bytes : Layout → ℤ → List ℕ
number_bytes (number n) z = signed_bytes n z
number_bytes (bytes n) z = []

-- 01, answer 2: "result buffer under 8,256 bytes": the longest sheet, a head and `holds_limit` literals
abbrev pub sheet_buffer : ℕ
sheet_buffer = record_size * suc holds_limit
