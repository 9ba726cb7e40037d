-- The tests of Q and d in the words of the draft: Q by its first byte and length, d by the bounds that the length of an mpint sets to its number.
use Prim.Native.Nat.{ℕ, zero, suc, ◌-◌, ◌*◌, ◌^◌, ◌≤◌, ◌<◌}
use mathlib.Core.Path.{◌≡◌, refl}
use mathlib.Core.List.{List, [], ◌∷◌}
use mathlib.Core.Bool.{Bool, true, false, ◌&&◌, ◌||◌}
use mathlib.Core.Logic.{◌↔◌, ◌⊎◌, inl, inr, ⊎_elim}
use native.Mathlib.Omega.{arith}
use native.Mathlib.Nat.{pow-succ', pow-le-pow_right, zero-lt-suc}
use borrow.Author.Tests.{leb-true, eqb-true, le-leb, lt-leb, eq-eqb}
use lib.Dec.{leb, eqb}
use lib.ListN.{length, get_or}
use Rattle.wire.specs.Numbers.{Bytes}
use Rattle.wire.specs.Mpint.{mpint, value, Shortest}
use Rattle.wire.proofs.Mpint.{mpint-rule, value-below, needed, needed_above, no_shorter}
use Rattle.wire.proofs.Reading.{le_or_lt}
use Rattle.keys.specs.Fields.{uncompressed, scalar}
use Rattle.keys.specs.Forms.{Point, Scalar}

both : (a b : Bool) → (a && b) ≡ true → (a ≡ true) × (b ≡ true)
both true b e = (refl, e)
both false b e = let z : ◌≡◌ {A = ℕ} 0 1 = cc in absurd (omega arith)

either : (a b : Bool) → (a || b) ≡ true → (a ≡ true) ⊎ (b ≡ true)
either true b e = inl refl
either false b e = inr e

-- ## Q

starts : (v : List ℕ) (n : ℕ) → length v ≡ n → get_or v 0 0 ≡ 4 → Point n v
starts [] n l e = absurd (omega arith)
starts (b ∷ q) n l e = (q, rw e, l)

pub point_rule : (v : List ℕ) (n : ℕ) → (uncompressed v n ≡ true) ↔ Point n v
unfolding uncompressed
point_rule v n = (
  (λ e. let h = both (eqb (length v) n) (eqb (get_or v 0 0) 4) e in starts v n (eqb-true _ _ h.0) (eqb-true _ _ h.1)),
  (λ (q, e, l). rw (e, eq-eqb (length (4 ∷ q)) n l)),
)

-- ## d

-- v without its sign byte has at most n bytes
abbrev fits : List ℕ → ℕ → Bool
fits v n = leb (length v) n || (leb (length v - 1) n && eqb (get_or v 0 0) 0)

power : (k n : ℕ) → k ≤ n → 256 ^ k ≤ 256 ^ n
power k n h = pow-le-pow_right {n = 256} (zero-lt-suc 255) h

signed_below : (v : List ℕ) (n : ℕ) → Bytes v → length v - 1 ≤ n → get_or v 0 0 ≡ 0 → value v < 256 ^ n
unfolding value
signed_below [] n h l e = omega (arith, power 0 n (omega arith))
signed_below (a ∷ v) n h l e = rw e (omega (arith, value-below v (λ i. h (suc i)), power (length v) n (omega arith)))

fits_below : (v : List ℕ) (n : ℕ) → Bytes v → fits v n ≡ true → value v < 256 ^ n
fits_below v n h e =
    ⊎_elim
    (λ f. omega (arith, value-below v h, power (length v) n (leb-true _ _ f)))
    (λ f. let g = both _ _ f in signed_below v n h (leb-true _ _ g.0) (eqb-true _ _ g.1))
    (either (leb (length v) n) _ e)

below_signed : (v : List ℕ) (n : ℕ) → value v < 256 ^ n → n < length v → get_or v 0 0 ≡ 0
unfolding value
below_signed [] n h l = refl
below_signed (zero ∷ v) n h l = refl
below_signed (suc a ∷ v) n h l = absurd (omega (arith, power n (length v) (omega arith)))

below_fits : (v : List ℕ) (n m : ℕ) → 0 < m → Shortest v m → m < 256 ^ n → fits v n ≡ true
below_fits v n m h s b =
    let e : value v ≡ m = s.form.spells in
    let above : 256 ^ length v ≤ 512 * m = rw e at (needed_above v (needed v m h s)) in
    let most : length v ≤ suc n = no_shorter (length v) (suc n) m above (rw pow-succ' (omega arith)) in
    ⊎_elim
    (λ (l : length v ≤ n). rw (le-leb _ _ l))
    (λ (l : n < length v). rw (lt-leb _ _ l, le-leb (length v - 1) n (omega arith), eq-eqb _ _ (below_signed v n (omega arith) l)))
    (le_or_lt (length v) n)

pub scalar-rule : (v : List ℕ) (n : ℕ) → Bytes v → (scalar v n ≡ true) ↔ Scalar n v
unfolding scalar
scalar-rule v n h = (
  (λ e.
      let b = both (mpint v) (fits v n) e in
      let (m, positive, shortest) = (mpint-rule v h).0 b.0 in
      (m, positive, shortest, rw shortest.form.spells at (fits_below v n h b.1))),
  (λ (m, positive, shortest, below). rw ((mpint-rule v h).1 (m, positive, shortest), below_fits v n m positive shortest below)),
)
