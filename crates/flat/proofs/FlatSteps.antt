-- The three ways that a number of an answer goes: each is what the two tests give. Assumes nothing.
use Prim.Native.Nat.{ℕ}
use mathlib.Core.Path.{◌≡◌}
use borrow.Author.Tests.{ne_eqb}
use Rattle.flat.specs.Flat.{told}

module _ {A : Type 0} (n : ℕ) (denied granted missing : A) where
  pub told-no : n ≡ 1 → denied ≡ told n denied granted missing
  told-no e = rw e

  pub told-yes : n ≡ 2 → granted ≡ told n denied granted missing
  told-yes e = rw e

  pub told-nothing : (n ≡ 1 → ⊥) → (n ≡ 2 → ⊥) → missing ≡ told n denied granted missing
  told-nothing f g = rw (ne_eqb n 1 f, ne_eqb n 2 g)
