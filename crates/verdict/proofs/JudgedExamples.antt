-- Examples of what a leaf and a file's summary are answered: of 4, of 11, and of the orders of types. An edit of `judged` breaks them. Assumes nothing.
use Rattle.std.specs.Prelude.{ℕ, false, List, [], ◌∷◌, ◌≡◌, refl, pos, negsuc, Ok, Err}
use Rattle.values.specs.Characters.{ascii}
use Rattle.values.specs.Order.{compare_numbers, compare_bytes}
use Rattle.values.specs.Utf8.{is_code_point, code_points, utf8}
use Rattle.values.specs.Words.{signed_bytes}
use Rattle.values.specs.declared.datatypes.PrimitiveType.{PrimitiveType}
use Rattle.values.specs.declared.datatypes.PrimitiveType.TheVariants.{Int, String, Binary}
use Rattle.values.specs.declared.error.ErrorKind.TheVariants.{NotUtf8, WrongSummary}
use Rattle.expr.specs.Operators.{not_null}
use Rattle.expr.specs.Predicates.{Predicate, unary}
use Rattle.summary.specs.Summaries.{◌to◌, Summary}
use Rattle.ends.specs.Between.{between}
use Rattle.verdict.specs.Judged.{judged}
use Rattle.verdict.specs.TextVerdicts.{text_verdict}
use Rattle.verdict.specs.Verdicts.{number_verdict}
use Rattle.verdict.specs.declared.verdict.Verdict.TheVariants.{Read, Whole}

abbrev file_of : PrimitiveType → List ℕ → List ℕ → Summary
file_of column low high = record { column = column; ends = low to high; has_missing = false }

abbrev present : Predicate (List ℕ)
present = unary not_null

-- an end is looked at by the summary's own type: one that is not UTF-8 is 4, and only then is its type 11
by_its_own_type : (judged Int present (file_of String (0xFF ∷ []) (0xFF ∷ [])) ≡ Err NotUtf8)
    × (judged Int present (file_of String (ascii "a") (ascii "b")) ≡ Err WrongSummary)
    × (judged Binary present (file_of Binary (0xFF ∷ []) (0xFF ∷ [])) ≡ Ok Read)
unfolding judged text_verdict compare_bytes utf8 code_points is_code_point
by_its_own_type = (refl, refl, refl)

-- numbers are signed: from -1 up to 0 is in order, as byte strings it is not
in_order : (judged Int present (file_of Int (signed_bytes 4 (negsuc 0)) (signed_bytes 4 (pos 0))) ≡ Ok Whole)
    × (judged Binary present (file_of Binary (signed_bytes 4 (negsuc 0)) (signed_bytes 4 (pos 0))) ≡ Err WrongSummary)
unfolding judged number_verdict between compare_numbers compare_bytes
in_order = (refl, refl)
