-- T(L): a beginning of L. Assumes nothing.
use Rattle.std.specs.Prelude.{◌≡◌, ℕ, ◌≤◌, List, length, take, Ok}
use Rattle.std.proofs.Common.{arith, ap, length-take}
use Rattle.values.specs.declared.datatypes.PrimitiveType.{PrimitiveType}
use Rattle.values.specs.declared.transform.Transform.TheVariants.{Truncate}
use Rattle.partition.specs.Partition.{truncate_bytes}
use Rattle.partition.specs.laws.BytesPartitionLaws.{bytes_begin, bytes_truncates}
use Rattle.expr.specs.Operators.{Operator}
use Rattle.projection.specs.ByteSteps.{Step}
use Rattle.projection.specs.code.OneLiteral.{one_test}
use Rattle.strings.specs.code.Prefixes.{truncated_leaf}

module _ (column : PrimitiveType) (width : ℕ) (l t : List ℕ) (d : t ≡ truncate_bytes column width l) where
  pub cut_is : (a : Operator) → ◌≡◌ {A = Step} (Ok (one_test a t)) (truncated_leaf column width a l)
  cut_is a = rw (bytes_truncates column width l, d)

  pub no_longer : length t ≤ length l
  no_longer =
      let begins : t ≡ take (length t) l = (bytes_begin column (Truncate width) l t (rw d (bytes_truncates column width l))).beginning in
      omega (arith, ap length begins, length-take (length t) l)
