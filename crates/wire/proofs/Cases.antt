-- One case lemma for each way in which a definition goes on, and what a test says.
use Prim.Native.Nat.{ℕ}
use mathlib.Core.Path.{◌≡◌, refl, sym}
use mathlib.Core.Bool.{Bool, true, false, ◌&&◌, not, cond}
use native.Mathlib.Omega.{arith}
use Rattle.std.proofs.Common.{Result, Ok, Err}
use Rattle.wire.specs.declared.read.Cursor.{Cursor}
use Rattle.wire.specs.declared.read.Fault.{Fault}
use Rattle.wire.specs.declared.read.Part.{Part}
use Rattle.wire.specs.Steps.{got, part_of, faulted, number, part}

module _ {A : Type 0} (P : A → Type 0) where
  pub cond_cases : (b : Bool) {z a : A} → (b ≡ true → P a) → (b ≡ false → P z) → P (cond b a z)
  cond_cases true f g = f refl
  cond_cases false f g = g refl

  pub number_cases : (r : Result (ℕ × Cursor) Fault) {z : ℕ → A} {next : ℕ → Cursor → A} → ((at : ℕ) → r ≡ faulted at → P (z at)) → ((n : ℕ) (k : Cursor) → r ≡ got n k → P (next n k)) → P (number z r next)
  unfolding number
  number_cases (Ok r) g h = h r.0 r.1 refl
  number_cases (Err e) g h = g e.at refl

  pub part-cases : (p : Result Part Fault) {z : ℕ → A} {next : ℕ → ℕ → Cursor → A} → ((at : ℕ) → p ≡ faulted at → P (z at)) → ((f t : ℕ) (k : Cursor) → p ≡ part_of f t k → P (next f t k)) → P (part z p next)
  unfolding part
  part-cases (Ok p) g h = h p.from p.to p.next refl
  part-cases (Err e) g h = g e.at refl

-- ## Tests

pub true_not_false : true ≡ false → ⊥
true_not_false e = let z : ◌≡◌ {A = ℕ} 0 1 = cc in omega arith

pub and_left : (a b : Bool) → a && b ≡ true → a ≡ true
and_left true b e = refl
and_left false b e = e

pub and_right : (a b : Bool) → a && b ≡ true → b ≡ true
and_right true b e = e
and_right false b e = absurd (true_not_false (sym e))

pub both_true : (a b : Bool) → a ≡ true → b ≡ true → a && b ≡ true
both_true a b e f = rw (e, f)

pub not_true : (b : Bool) → not b ≡ true → b ≡ false
not_true true e = absurd (true_not_false (sym e))
not_true false e = refl
