-- The two ends of `put_blob`: three parts one behind the other, or nothing.
use Prim.Native.Nat.{ℕ, ◌+◌, ◌≤◌, ◌<◌}
use mathlib.Core.Path.{◌≡◌, refl, sym, ap, ◌∙◌}
use mathlib.Core.List.{List, ◌++◌, append_assoc}
use native.Mathlib.Omega.{arith}
use borrow.Author.Tests.{le-leb, lt-leb}
use lib.ListN.{length, length-append}
use Rattle.wire.specs.Read.{cut_of}
use Rattle.wire.specs.Write.{write}
use Rattle.wire.proofs.Writing.{write-behind}
use Rattle.keys.specs.declared.kinds.Places.{Places}
use Rattle.std.proofs.Common.{Some, None}
use Rattle.keys.specs.Kinds.{blob_of, blob_answer, blob_left}
use Rattle.keys.specs.Promises.{BlobRule}

module _ (s : List ℕ) (at : ℕ) (p : Places) (out a b c : List ℕ) (ea : a ≡ cut_of s at p.front) (eb : b ≡ cut_of s p.swap p.back) (ec : c ≡ cut_of s p.front p.swap) where
  blob_parts : blob_of s at p ≡ a ++ (b ++ c)
  unfolding blob_of
  blob_parts = rw (← ea, ← eb, ← ec)

  blob_size : length (blob_of s at p) ≡ length a + (length b + length c)
  blob_size = rw blob_parts (simp length-append)

  pub blob_long : length out < length a + (length b + length c) → (None ≡ blob_answer s at p out) × (out ≡ blob_left s at p out)
  unfolding blob_answer blob_left
  blob_long h = rw (lt-leb (length (blob_of s at p)) (length out) (omega (arith, blob_size))) (refl, refl)

  pub blob_fits : (m n o : List ℕ) (x y z : ℕ) → m ≡ write out 0 a → x ≡ 0 + length a → n ≡ write m x b → y ≡ x + length b
      → o ≡ write n y c → z ≡ y + length c → length a + (length b + length c) ≤ length out
      → (Some z ≡ blob_answer s at p out) × (o ≡ blob_left s at p out)
  unfolding blob_answer blob_left
  blob_fits m n o x y z em ex en ey eo ez h =
      let q₁ = write-behind out 0 a m x b n em en ex (omega arith) in
      let q₂ = write-behind out 0 (a ++ b) n y c o q₁ eo (simp length-append (omega arith)) (simp length-append (omega arith)) in
      let w : z ≡ length (blob_of s at p) = omega (arith, blob_size) in
      rw (le-leb (length (blob_of s at p)) (length out) (omega (arith, blob_size)))
      (ap {A = ℕ} Some w, q₂ ∙ ap (write out 0) (append_assoc a b c ∙ sym blob_parts))

pub blob_rule : BlobRule
unfolding blob_answer blob_left
blob_rule s at p out = record {
  fits = λ h. rw (le-leb (length (blob_of s at p)) (length out) h) (refl, refl);
  too_long = λ h. rw (lt-leb (length (blob_of s at p)) (length out) h) (refl, refl);
}
