-- The accepted bytes are the shortest that spell a number above zero, and each number has one: an accepted v spells at least 256 ^ length v / 512, any w with a clear top bit less than 256 ^ length w / 2, so that w is no shorter; and a number has one list of digits of each length.
use Prim.Native.Nat.{ℕ, zero, suc, ◌+◌, ◌*◌, ◌^◌, ◌≤◌, ◌<◌}
use mathlib.Core.Path.{◌≡◌, refl, sym, ◌∙◌}
use mathlib.Core.List.{List, [], ◌∷◌}
use mathlib.Core.Bool.{Bool, true, false, ◌&&◌, ◌||◌}
use native.Mathlib.Omega.{arith, by_contra}
use native.Mathlib.Nat.{pow-succ', one-le-pow, pow-le-pow_right, mul-le-mul_right, lt_of_mul-lt-mul_right, add_left_cancel, zero-lt-suc}
use lib.ListN.{length, get_or}
use lib.Dec.{ltb, leb}
use borrow.Author.Tests.{ltb-true, leb-true, lt-ltb, le-leb}
use Rattle.wire.specs.Numbers.{Bytes}
use Rattle.wire.specs.Mpint.{mpint, value, Spells, Shortest}
use Rattle.wire.specs.Promises.{MpintRule, MpintOne}

-- ## A digit and what is below it

module _ (base : ℕ) where
  digit_below : (a m x : ℕ) → a < m → x < base → a * base + x < m * base
  digit_below a m x h k = omega (arith, mul-le-mul_right base h)

  digit_at_most : (a b x y : ℕ) → y < base → a * base + x ≡ b * base + y → a ≤ b
  digit_at_most a b x y h e =
      let k : a * base < suc b * base = omega arith in
      omega (arith, lt_of_mul-lt-mul_right base k)

  digit_one : (a b x y : ℕ) → x < base → y < base → a * base + x ≡ b * base + y → (a ≡ b) × (x ≡ y)
  digit_one a b x y h k e =
      let d : a ≡ b = omega (arith, digit_at_most a b x y k e, digit_at_most b a y x h (sym e)) in
      (d, add_left_cancel (b * base) (rw d at e))

-- ## Values

tail_bytes : (a : ℕ) (v : List ℕ) → Bytes (a ∷ v) → Bytes v
tail_bytes a v h i = h (suc i)

pub value-below : (v : List ℕ) → Bytes v → value v < 256 ^ length v
unfolding value
value-below [] h = omega arith
value-below (a ∷ v) h = rw pow-succ' (digit_below (256 ^ length v) a 256 (value v) (h 0) (value-below v (tail_bytes a v h)))

value-one : (v w : List ℕ) → Bytes v → Bytes w → length v ≡ length w → value v ≡ value w → v ≡ w
unfolding value
value-one [] [] hv hw l e = refl
value-one [] (b ∷ w) hv hw l e = absurd (omega arith)
value-one (a ∷ v) [] hv hw l e = absurd (omega arith)
value-one (a ∷ v) (b ∷ w) hv hw l e =
    let k : length v ≡ length w = omega arith in
    let bv : Bytes v = tail_bytes a v hv in
    let bw : Bytes w = tail_bytes b w hw in
    let d = digit_one (256 ^ length w) a b (value v) (value w) (rw k at (value-below v bv)) (value-below w bw) (rw k at e) in
    let r = value-one v w bv bw k d.1 in
    cc

-- ## First bytes

-- a first byte a before b is not needless: where it is 0, the top bit of b is set
abbrev Needed : ℕ → ℕ → Type 0
Needed a b = a ≡ 0 → 128 ≤ b

pub needed_above : (v : List ℕ) → Needed (get_or v 0 0) (get_or v 1 0) → 256 ^ length v ≤ 512 * value v
unfolding value
needed_above [] h = omega (arith, h refl)
needed_above (zero ∷ []) h = omega (arith, h refl)
needed_above (zero ∷ b ∷ v) h = rw (pow-succ', pow-succ') (omega (arith, mul-le-mul_right (256 ^ length v) (h refl)))
needed_above (suc a ∷ v) h = rw pow-succ' (omega arith)

clear_below : (v : List ℕ) → Bytes v → get_or v 0 0 < 128 → 2 * value v < 256 ^ length v
unfolding value
clear_below [] h k = omega arith
clear_below (a ∷ v) h k = rw pow-succ' (omega (arith, digit_below (256 ^ length v) a 128 (value v) k (value-below v (tail_bytes a v h))))

pub no_shorter : (k l n : ℕ) → 256 ^ k ≤ 512 * n → 2 * n < 256 ^ l → k ≤ l
no_shorter k l n low high = by_contra k l (λ h. omega (arith, pow-le-pow_right {n = 256} (zero-lt-suc 255) h))

-- ## The test

module _ (a b : ℕ) where
  abbrev test : Bool
  test = ltb a 128 && (ltb 0 a || leb 128 b)

  passed : test ≡ true → (a < 128) × Needed a b
  passed e = go (ltb a 128) refl (ltb 0 a) refl e
    where
      go : (q : Bool) → ltb a 128 ≡ q → (r : Bool) → ltb 0 a ≡ r → (q && (r || leb 128 b)) ≡ true → (a < 128) × Needed a b
      go true p true k e = (ltb-true a 128 p, λ z. omega (arith, ltb-true 0 a k))
      go true p false k e = (ltb-true a 128 p, λ z. leb-true 128 b e)
      go false p r k e = let z : ◌≡◌ {A = ℕ} 0 1 = cc in absurd (omega arith)

passes : (a b : ℕ) → a < 128 → Needed a b → test a b ≡ true
passes zero b h k = le-leb 128 b (k refl)
passes (suc a) b h k = rw (lt-ltb (suc a) 128 h, lt-ltb 0 (suc a) (zero-lt-suc a))

-- ## The rule

accepted : (v : List ℕ) → Bytes v → get_or v 0 0 < 128 → Needed (get_or v 0 0) (get_or v 1 0) → (n : ℕ) × (0 < n) × Shortest v n
accepted v h k m = (
  value v,
  omega (arith, one-le-pow (length v) 256 (zero-lt-suc 255), needed_above v m),
  record {
    form = record { bytes = h; sign = k; spells = refl };
    shortest = λ w s. no_shorter (length v) (length w) (value v) (needed_above v m) (rw s.spells at (clear_below w s.bytes s.sign));
  },
)

pub needed : (v : List ℕ) (n : ℕ) → 0 < n → Shortest v n → Needed (get_or v 0 0) (get_or v 1 0)
unfolding value
needed [] n h s e = omega arith
needed (suc a ∷ v) n h s e = omega arith
needed (zero ∷ v) n h s e =
    by_contra 128 (get_or v 0 0) λ k.
    let r : Spells v n = record { bytes = tail_bytes zero v s.form.bytes; sign = k; spells = omega (arith, s.form.spells) } in
    omega (arith, s.shortest v r)

pub mpint-rule : MpintRule
unfolding mpint
mpint-rule v h = (
  λ e. let p = passed (get_or v 0 0) (get_or v 1 0) e in accepted v h p.0 p.1,
  λ p. passes (get_or v 0 0) (get_or v 1 0) p.2.form.sign (needed v p.0 p.1 p.2),
)

pub mpint-one : MpintOne
mpint-one v w n s t =
    value-one v w s.form.bytes t.form.bytes
    (omega (arith, s.shortest w t.form, t.shortest v s.form))
    (s.form.spells ∙ sym t.form.spells)
