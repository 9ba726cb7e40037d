use native.Mathlib.Omega.{arith}
use Prim.Native.Nat.{ℕ, ◌+◌, ◌≤◌, ◌<◌}
use mathlib.Core.Path.{◌≡◌, refl, sym, ◌∙◌}
use mathlib.Core.Bool.{Bool, true, false, ◌&&◌}
use mathlib.Core.List.{List}
use borrow.Author.Tests.{eqb-true, eqb-false, ne_eqb}
use lib.Bits.{bit_or, bit_xor, or_add_and, xor_add_and, xor_self, and_le_l, and_le_r}
use lib.Dec.{eqb}
use lib.ListN.{length, take, get_or}
use lib.Seq.{length-take-le, get_or-take}
use Rattle.wire.specs.Read.{same}
use Rattle.table.proofs.ByteLaws.{same-long}
use Rattle.table.proofs.ByteLaws.{same_along, equal_step, equal_end}
use Rattle.table.proofs.locks.is_passphrase.Goals as goal

-- what a turn makes of d, which was gathered before it
abbrev gathered : (d x y : ℕ) → ℕ
gathered d x y = bit_or d (bit_xor x y)

module _ (d x y : ℕ) where
  nothing-lost : gathered d x y ≡ 0 → (d ≡ 0) × (x ≡ y)
  nothing-lost e =
      let both = or_add_and d (bit_xor x y) in
      let in-first = and_le_l d (bit_xor x y) in
      let in-second = and_le_r d (bit_xor x y) in
      let bits = xor_add_and x y in
      let in-x = and_le_l x y in
      let in-y = and_le_r x y in
      (omega arith, omega arith)

  gathers : eqb (gathered d x y) 0 ≡ eqb d 0 && eqb x y
  gathers = cases (eqb d 0) (eqb x y) refl refl
    where
      cases : (t u : Bool) → eqb d 0 ≡ t → eqb x y ≡ u → eqb (gathered d x y) 0 ≡ t && u
      cases true true p q = rw (eqb-true d 0 p, eqb-true x y q, xor_self y)
      cases true false p q = ne_eqb _ 0 (λ e. eqb-false x y q (nothing-lost e).1)
      cases false u p q = ne_eqb _ 0 (λ e. eqb-false d 0 p (nothing-lost e).0)

-- the first n bytes of the record beside those that were given
module _ (n : ℕ) (bytes p : List ℕ) (within : n ≤ length bytes) where
  front : length (take n bytes) ≡ n
  front = length-take-le n bytes within

  another-length : (n ≡ length p → ⊥) → false ≡ same (take n bytes) p
  another-length h = same-long (take n bytes) p (λ e. h (sym front ∙ e))

  turn : n ≡ length p → (i d : ℕ) → i < n
      → same_along (eqb d 0) i (take n bytes) p ≡ same_along (eqb (gathered d (get_or bytes i 0) (get_or p i 0)) 0) (i + 1) (take n bytes) p
  turn given i d h = rw (gathers, ← get_or-take n bytes i 0 h) (equal_step (take n bytes) p i (eqb d 0) (omega (arith, front)) (omega arith))

  decision : n ≡ length p → (i d : ℕ) → n ≤ i → same_along (eqb d 0) i (take n bytes) p ≡ eqb d 0
  decision given i d h = equal_end (take n bytes) p i (eqb d 0) (omega (arith, front)) (omega arith)

pub returns-then-len-p : goal.returns-then-len-p
returns-then-len-p c =
    let a = c.args in
    another-length a.len a.bytes.now a.p.now (omega arith) c.if-len-p.true

pub loop-i-init : goal.loop-i-init
loop-i-init c = (omega arith, refl)

pub loop-i-preserved : goal.loop-i-preserved
loop-i-preserved c =
    let l = c.loop-i in
    let a = c.args in
    (omega arith, l.invariant.1 ∙ turn a.len a.bytes.now a.p.now (omega arith) (omega arith) l.i l.differences (omega arith))

pub returns : goal.returns
returns c =
    let l = c.loop-i in
    let a = c.args in
    sym (l.invariant.1 ∙ decision a.len a.bytes.now a.p.now (omega arith) (omega arith) l.i l.differences (omega arith))
