-- What the code's enums and structs say, as the definitions have it. Assumes nothing.
use Rattle.std.specs.Prelude.{ℕ, ◌+◌, ◌-◌, ◌≤◌, ◌<◌, min, true, false, List, [], ◌≡◌, ◌≢◌, Option, Some, None, ℤ, length, drop}
use Rattle.std.specs.List.{prefix_len}
use Rattle.values.specs.Characters.{is_digit, leading, following}
use Rattle.values.specs.Types.{in_type}
use Rattle.values.specs.Words.{field}
use Rattle.values.specs.declared.datatypes.PrimitiveType.TheVariants.{Long}
use Rattle.expr.specs.Operators.{Binary, one, by_arity}
use Rattle.tokens.specs.Tokens.{Token, word, sign, decimal, quoted, opening, closing, unreadable, Taken, taken}
use Rattle.tokens.specs.Tokens.{is_space, number_after, token, longest}
use Rattle.tokens.specs.declared.decimal.Digits.{Digits}
use Rattle.tokens.specs.declared.token.Span.{Span}
use Rattle.tokens.specs.declared.token.Token as declared
use Rattle.tokens.specs.declared.token.Token.TheVariants as kind

-- ---- decimals

-- a magnitude in the code: 2^63 + 1 stands for every number from there on
abbrev pub capped : ℕ → ℕ
capped n = min n 9223372036854775809

-- what the digits come to that a text begins with, and how many they are
abbrev pub digits_of : List ℕ → Digits
digits_of s = record { magnitude = capped (number_after 0 (leading is_digit s)); len = prefix_len is_digit s }

-- ---- tokens

-- a number of 64 bits, or none that they hold
abbrev pub decimal_of : Option ℤ → declared.Token
decimal_of (Some z) = kind.Decimal z
decimal_of None = kind.TooLarge

-- a part of s, and that it lies in it
abbrev pub part : List ℕ → Span → List ℕ
part s p = field p.from (p.to - p.from) s

pub record IsPart (s : List ℕ) (p : Span) : Type 0 where
  pub forward : p.from ≤ p.to
  pub within : p.to ≤ length s

-- k was taken of a text, and s from `next` on is the text after it; after what is unreadable, nothing is said
abbrev pub Is : List ℕ → declared.Token → ℕ → Taken → Type 0
Is s kind.End next x = ⊥
Is s (kind.Word p) next x = IsPart s p × (x ≡ taken (word (part s p)) (drop next s))
Is s (kind.Sign operator) next x = (o : Binary) × (by_arity operator ≡ one o) × (x ≡ taken (sign o) (drop next s))
Is s (kind.Decimal z) next x = (in_type Long z ≡ true) × (x ≡ taken (decimal z) (drop next s))
Is s kind.TooLarge next x = (z : ℤ) × (in_type Long z ≡ false) × (x ≡ taken (decimal z) (drop next s))
Is s (kind.Quoted p) next x = IsPart s p × (x ≡ taken (quoted (part s p)) (drop next s))
Is s kind.Opening next x = x ≡ taken opening (drop next s)
Is s kind.Closing next x = x ≡ taken closing (drop next s)
Is s kind.Unreadable next x = (rest : List ℕ) × (x ≡ taken unreadable rest)

-- what was taken from `at` on is k, and `next` lies after it in the text
pub record Takes (s : List ℕ) (at : ℕ) (k : declared.Token) (next : ℕ) (x : Taken) : Type 0 where
  pub is : Is s k next x
  pub forward : at < next
  pub within : next ≤ length s

-- wherever the text goes on, k is t
abbrev pub Stands : List ℕ → declared.Token → Token → Type 0
Stands s k t = (next : ℕ) → Is s k next (taken t (drop next s))

-- either of two tokens that the code has
abbrev pub Longest : declared.Token → declared.Token → List ℕ → ℕ → declared.Token → ℕ → Type 0
Longest with without s from k next =
    (t u : Token) → Stands s with t → Stands s without u → Takes s from k next (longest t u (drop (from + 1) s))

-- what a text u without spaces before it begins with, from `at` on; its end is a token of its own
abbrev pub ReadsAs : List ℕ → ℕ → declared.Token → ℕ → List ℕ → Type 0
ReadsAs s at kind.End next u = (u ≡ []) × (next ≡ length s)
ReadsAs s at k next u = (u ≢ []) × Takes s at k next (token u)

abbrev pub Reads : List ℕ → ℕ → declared.Token → ℕ → Type 0
Reads s at k next = ReadsAs s at k next (following is_space (drop at s))
