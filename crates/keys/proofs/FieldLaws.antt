-- Single fields, one law for each reader in both directions: it finds a part exactly where a string lies whose bytes are what the draft says.
use Prim.Native.Nat.{ℕ, ◌+◌, ◌-◌}
use mathlib.Core.Path.{◌≡◌}
use mathlib.Core.List.{List}
use native.Mathlib.Omega.{arith}
use borrow.Author.Tests.{eqb-true, eq-eqb}
use lib.Dec.{eqb}
use lib.ListN.{length}
use Rattle.wire.specs.Numbers.{Bytes}
use Rattle.wire.specs.Read.{same}
use Rattle.wire.proofs.Reading.{same-rule}
use Rattle.wire.proofs.Strings.{behind, Reads, tested_reads, bytes-reads}
use Rattle.keys.specs.Fields.{sized_at, named_at, uncompressed, point_at, scalar, scalar_at}
use Rattle.keys.specs.Forms.{Point, Scalar}
use Rattle.keys.proofs.TestLaws.{point_rule, scalar-rule}

module _ {s : List ℕ} (bytes : Bytes s) {at : ℕ} where
  pub sized_reads : (n : ℕ) → Reads (λ v. length v ≡ n) s at (sized_at s at n)
  unfolding sized_at
  sized_reads n =
      tested_reads bytes (λ v. length v ≡ n) (λ f t. eqb (t - f) n) λ v a.
      let l : behind at v - (at + 4) ≡ length v = omega arith in
      rw l (eqb-true (length v) n, eq-eqb (length v) n)

  pub named_reads : (name : List ℕ) → Reads (λ v. v ≡ name) s at (named_at s at name)
  unfolding named_at
  named_reads name = bytes-reads bytes (λ v. v ≡ name) (λ v. same v name) λ v b. same-rule v name

  pub point_reads : (n : ℕ) → Reads (Point n) s at (point_at s at n)
  unfolding point_at
  point_reads n = bytes-reads bytes (Point n) (λ v. uncompressed v n) λ v b. point_rule v n

  pub scalar-reads : (n : ℕ) → Reads (Scalar n) s at (scalar_at s at n)
  unfolding scalar_at
  scalar-reads n = bytes-reads bytes (Scalar n) (λ v. scalar v n) λ v b. scalar-rule v n b
