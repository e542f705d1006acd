-- What the code has read is the token of the text. Assumes nothing.
use Rattle.std.proofs.Common.{ℕ, ◌+◌, ◌-◌, ◌≤◌, ◌<◌, true, false, List, [], ◌∷◌, ◌≡◌, ◌≢◌, refl, sym, ap, subst, ◌∙◌, length, take, drop, get_or, ℤ, pos, neg_ℤ}
use Rattle.std.proofs.Common.{arith, add-one, drop-cons, drop_of_length-le, Option, Some, None, w64}
use Prim.Native.Char.{code}
use Rattle.std.specs.Prelude.{FitsSigned, ◌+ℤ◌, ◌-ℤ◌}
use Rattle.std.specs.Option.{SomeIff}
use Rattle.std.specs.List.{prefix_len}
use Rattle.values.specs.Characters.{is_letter, is_digit, leading}
use Rattle.values.specs.laws.IntLaws.{orders, range, fits, neg, minus}
use Rattle.values.specs.laws.RangeLaws.{in_long}
use Rattle.values.specs.laws.CharacterLaws.{passing_inside}
use Rattle.values.specs.laws.TestLaws.{refuted, picks}
use Rattle.tokens.specs.Tokens.{Taken, taken, unreadable, decimal, number_after, is_space, is_text, word_at, decimal_at, minus_at, quoted_at, token}
use Rattle.tokens.specs.code.TokenAnswers.{capped, digits_of, decimal_of, Is, Takes, ReadsAs, Reads}
use Rattle.tokens.specs.laws.RunLaws.{rest_is, run, run_some}
use Rattle.tokens.specs.laws.TokenLaws.{minus_digit, minus_other}
use Rattle.tokens.specs.declared.decimal.Digits.{Digits}
use Rattle.tokens.specs.declared.token.Token as declared
use Rattle.tokens.specs.declared.token.Token.TheVariants as kind

module _ (s : List ℕ) where
  abbrev rest : ℕ → List ℕ
  rest at = take (length s - at) (drop at s)

  pub word_taken : (from n : ℕ) → is_letter (get_or s from 0) ≡ true → n ≡ prefix_len is_letter (rest from)
      → Takes s from (kind.Word (record { from = from; to = from + n })) (from + n) (word_at (drop from s))
  word_taken from n first is =
      let inside = passing_inside is_letter refl s from first in
      let r = run is_letter s from n (omega arith) is in
      let size : from + n - from ≡ n = omega arith in
      record {
        is = (record { forward = omega arith; within = r.within }, rw (size, r.leads, r.follows));
        forward = omega (arith, run_some is_letter s from n inside first is);
        within = r.within;
      }

  -- a number, where z is the one of the text, and x what 64 bits hold of it
  number_is : (number : Option ℤ) (x z : ℤ) → SomeIff number (FitsSigned w64 x) x → (FitsSigned w64 x → x ≡ z) → (FitsSigned w64 z → FitsSigned w64 x)
      → (next : ℕ) → Is s (decimal_of number) next (taken (decimal z) (drop next s))
  number_is (Some v) x z is same holds next =
      let e : v ≡ z = is.1 ∙ same is.0 in
      rw e ((in_long z).1 (rw (← same is.0) is.0), refl)
  number_is None x z is same holds next = (z, refuted _ (λ e. is (holds ((in_long z).0 e))), refl)

  -- a decimal, whose digits begin at `at`
  module _ (from at : ℕ) (d : Digits) (is : d ≡ digits_of (rest at)) (digit : is_digit (get_or s at 0) ≡ true) (after : from ≤ at) where
    inside : at < length s
    inside = passing_inside is_digit refl s at digit

    abbrev number : ℕ
    number = number_after 0 (leading is_digit (drop at s))

    len_is : d.len ≡ prefix_len is_digit (rest at)
    len_is = ap (λ (x : Digits). x.len) is

    magnitude_is : d.magnitude ≡ capped number
    magnitude_is = rw rest_is at (ap (λ (x : Digits). x.magnitude) is)

    pub decimal_taken : (signed : ℕ → ℤ) (z : Option ℤ) (x : ℤ) → SomeIff z (FitsSigned w64 x) x
        → (FitsSigned w64 x → x ≡ signed number) → (FitsSigned w64 (signed number) → FitsSigned w64 x)
        → Takes s from (decimal_of z) (at + d.len) (decimal_at signed (drop at s))
    decimal_taken signed z x held same holds =
        let r = run is_digit s at d.len (omega (arith, inside)) len_is in
        record {
          is = rw (← r.follows) (number_is z x (signed number) held same holds (at + d.len));
          forward = omega (arith, run_some is_digit s at d.len inside digit len_is);
          within = r.within;
        }

    pub natural_taken : (z : Option ℤ) → SomeIff z (FitsSigned w64 (pos 0 +ℤ pos d.magnitude)) (pos 0 +ℤ pos d.magnitude)
        → Takes s from (decimal_of z) (at + d.len) (decimal_at pos (drop at s))
    natural_taken z held =
        decimal_taken pos z (pos (0 + d.magnitude)) held
        (λ f. ap pos (omega (arith, f.sfits, magnitude_is)))
        (λ f. record { sfits = omega (arith, f.sfits, magnitude_is) })

    pub negative_taken : (z : Option ℤ) → SomeIff z (FitsSigned w64 (pos 0 -ℤ pos d.magnitude)) (pos 0 -ℤ pos d.magnitude)
        → Takes s from (decimal_of z) (at + d.len) (minus_at (drop at s))
    negative_taken z held =
        let less = minus (pos 0) (pos d.magnitude) in
        let negative = neg (pos number) in
        rw (minus_digit s at digit)
        (decimal_taken (λ n. neg_ℤ (pos n)) z (pos 0 -ℤ pos d.magnitude) held
        (λ f. let same : d.magnitude ≡ number = omega (orders, range f, less, magnitude_is) in omega (orders, less, negative))
        (λ f. fits (omega (orders, range f, less, negative, magnitude_is))))

  -- text after a quote
  module _ (from n : ℕ) (inside : from < length s) (is : n ≡ prefix_len is_text (rest (from + 1))) where
    pub unclosed_taken : from + 1 + n ≡ length s → Takes s from kind.Unreadable (from + 1 + n) (quoted_at (drop (from + 1) s))
    unclosed_taken e =
        let r = run is_text s (from + 1) n (omega arith) is in
        rw (← r.follows, drop_of_length-le s {i = from + 1 + n} (omega arith)) (record { is = ([], refl); forward = omega arith; within = r.within })

    pub quoted_taken : from + 1 + n ≢ length s
        → Takes s from (kind.Quoted (record { from = from + 1; to = from + 1 + n })) (from + 1 + n + 1) (quoted_at (drop (from + 1) s))
    quoted_taken e =
        let r = run is_text s (from + 1) n (omega arith) is in
        let more : from + 1 + n < length s = omega (arith, r.within) in
        let size : from + 1 + n - (from + 1) ≡ n = omega arith in
        rw (← r.follows, drop-cons s (from + 1 + n) 0 more) (record {
          is = (record { forward = omega arith; within = r.within }, rw (size, r.leads, add-one (from + 1 + n)));
          forward = omega arith;
          within = omega arith;
        })

  -- after the spaces
  module _ (at n : ℕ) (inside : at ≤ length s) (is : n ≡ prefix_len is_space (rest at)) where
    pub end_read : at + n ≡ length s → Reads s at kind.End (at + n)
    end_read e =
        let r = run is_space s at n inside is in
        rw (← r.follows, drop_of_length-le s {i = at + n} (omega arith)) (refl, e)

    token_reads : (k : declared.Token) (next b : ℕ) (u : List ℕ) → b ∷ u ≢ [] → Takes s at k next (token (b ∷ u)) → ReadsAs s at k next (b ∷ u)
    token_reads kind.End next b u some t = absurd t.is
    token_reads (kind.Word p) next b u some t = (some, t)
    token_reads (kind.Sign operator) next b u some t = (some, t)
    token_reads (kind.Decimal z) next b u some t = (some, t)
    token_reads kind.TooLarge next b u some t = (some, t)
    token_reads (kind.Quoted p) next b u some t = (some, t)
    token_reads kind.Opening next b u some t = (some, t)
    token_reads kind.Closing next b u some t = (some, t)
    token_reads kind.Unreadable next b u some t = (some, t)

    pub token_read : at + n ≢ length s → (k : declared.Token) (next : ℕ) → Takes s (at + n) k next (token (drop (at + n) s)) → Reads s at k next
    token_read e k next t =
        let r = run is_space s at n inside is in
        let more : at + n < length s = omega (arith, r.within) in
        let first = drop-cons s (at + n) 0 more in
        rw (← r.follows, first) (token_reads k next _ _ (λ e. cc) (record { is = rw first at t.is; forward = omega (arith, t.forward); within = t.within }))

  module _ (from : ℕ) (inside : from < length s) where
    -- no digit after a minus
    pub minus_refused : is_digit (get_or s (from + 1) 0) ≡ false → Takes s from kind.Unreadable (from + 1) (minus_at (drop (from + 1) s))
    minus_refused e = record { is = (drop (from + 1) s, minus_other s (from + 1) e); forward = omega arith; within = omega arith }

    -- a token by its first byte
    module _ (k : declared.Token) (next : ℕ) where
      first_is : (t : Taken) → t ≡ token (get_or s from 0 ∷ drop (from + 1) s) → Takes s from k next t → Takes s from k next (token (drop from s))
      first_is t e =
          let first : drop from s ≡ get_or s from 0 ∷ drop (from + 1) s = rw (add-one, drop-cons s from 0 inside) in
          subst (Takes s from k next) (e ∙ sym (ap token first))

      pub known_first : (b : ℕ) → get_or s from 0 ≡ b → Takes s from k next (token (b ∷ drop (from + 1) s)) → Takes s from k next (token (drop from s))
      known_first b e = first_is (token (b ∷ drop (from + 1) s)) (ap (λ b. token (b ∷ drop (from + 1) s)) (sym e))

    -- one that begins no token
    pub other_first : is_letter (get_or s from 0) ≡ false → is_digit (get_or s from 0) ≡ false
        → get_or s from 0 ≢ code "-" → get_or s from 0 ≢ code "'" → get_or s from 0 ≢ code "(" → get_or s from 0 ≢ code ")"
        → get_or s from 0 ≢ code "<" → get_or s from 0 ≢ code ">" → get_or s from 0 ≢ code "=" → get_or s from 0 ≢ code "!"
        → Takes s from kind.Unreadable (from + 1) (token (drop from s))
    other_first letter digit minus quote opens closes less greater equals exclaims =
        let t = taken unreadable (drop (from + 1) s) in
        first_is _ _ t (search picks depth 14) (record { is = (drop (from + 1) s, refl); forward = omega arith; within = omega arith })
