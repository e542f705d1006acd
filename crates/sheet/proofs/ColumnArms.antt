-- What a match over the column types returns in each arm, by what the arm is for. Assumes nothing.
use Prim.Native.Nat.{ℕ, ◌+◌, ◌*◌, ◌≤◌}
use mathlib.Core.List.{List}
use mathlib.Core.Path.{◌≡◌, ◌∙◌}
use lib.Dec.{lit≤}
use lib.IntN.{ℤ, pos}
use mir.Syntax.{w32, w64}
use mir.Val.{SFits, to_z, of_z}
use Rattle.values.specs.laws.SignedLaws.{back}
use Rattle.values.specs.laws.RangeLaws.{widen, four, eight, range_fits}
use Rattle.values.specs.Types.{layout, number, bytes, content_size}
use Rattle.values.specs.Words.{word, signed}
use Rattle.values.specs.declared.datatypes.PrimitiveType.{PrimitiveType}
use Rattle.sheet.specs.code.Placed.{number_at, InLayout}
use Rattle.sheet.specs.laws.PartLaws.{in_record}
use Rattle.sheet.specs.Records.{header_size, record_size}

module _ {ty kind : PrimitiveType} (is : ty ≡ kind) where
  module _ (s : List ℕ) (k : ℕ) where
    module _ {z : ℤ} where
      numbered : (n : ℕ) → header_size + n ≤ record_size → layout kind ≡ number n → z ≡ signed n (word (record_size * k + header_size) n s)
          → z ≡ number_at (layout ty) s k
      numbered n h e d = d ∙ rw (is, e, in_record s k header_size n h)

      pub four_bytes : layout kind ≡ number 4 → SFits w32 z → z ≡ signed 4 (word (record_size * k + header_size) 4 s)
          → to_z w64 (of_z w64 (to_z w32 (of_z w32 z))) ≡ number_at (layout ty) s k
      four_bytes e f d = rw (back f, back (widen f)) (numbered 4 (lit≤ tt) e d)

      pub eight_bytes : layout kind ≡ number 8 → SFits w64 z → z ≡ signed 8 (word (record_size * k + header_size) 8 s)
          → to_z w64 (of_z w64 z) ≡ number_at (layout ty) s k
      eight_bytes e f d = rw (back f) (numbered 8 (lit≤ tt) e d)

      pub four_ranged : layout kind ≡ number 4 → SFits w32 z → InLayout (layout ty) (to_z w64 (of_z w64 (to_z w32 (of_z w32 z))))
      four_ranged e f = rw (back f, back (widen f), is, e) ((range_fits four z).1 f)

      pub eight_ranged : layout kind ≡ number 8 → SFits w64 z → InLayout (layout ty) (to_z w64 (of_z w64 z))
      eight_ranged e f = rw (back f, is, e) ((range_fits eight z).1 f)

    pub no_number : layout kind ≡ bytes content_size → pos 0 ≡ number_at (layout ty) s k
    no_number e = rw (is, e)

    pub no_range : layout kind ≡ bytes content_size → InLayout (layout ty) (pos 0)
    no_range e = rw (is, e) tt

pub ruleset numbering = (four_bytes, eight_bytes, no_number, four_ranged, eight_ranged, no_range)
