-- Numbers and strings, for every length: what is read is what the format writes, and where nothing is read nothing was written.
use Prim.Native.Nat.{ℕ, ◌+◌, ◌-◌, ◌≤◌, ◌<◌, ◌^◌, ◌/◌, ◌%◌}
use mathlib.Core.Path.{◌≡◌, refl, sym, ap, ap₂, ◌∙◌}
use mathlib.Core.List.{List, [], ◌∷◌, ◌++◌}
use mathlib.Core.Logic.{◌↔◌, ⊎_elim}
use native.Mathlib.Omega.{arith}
use native.Mathlib.Numerals.{add-one}
use native.Mathlib.Nat.{add-sub_cancel_left, add_assoc, add-zero, div-div-eq-div-mul}
use lib.ListN.{length, get_or, take, drop, length-append, length-take, length-drop, take-append-drop}
use lib.Seq.{get_or-drop, drop-cons, drop-drop, take_at, drop_at}
use Rattle.wire.specs.declared.read.Cursor.{Cursor}
use Rattle.wire.specs.Numbers.{be, be32, be_at, Bytes}
use Rattle.wire.specs.Read.{cut_of, number_at, string_at}
use Rattle.wire.specs.Steps.{got, part_of, faulted}
use Rattle.wire.specs.Write.{string}
use Rattle.wire.proofs.Reading.{le_or_lt, cut_there, number_there, number_cut, number_read, number_short, string-there, string-cut, string-read}

-- four bytes are those of the number that they spell
pub be32-of_be : (a b c d : ℕ) → a < 256 → b < 256 → c < 256 → d < 256 → be32 (be a b c d) ≡ a ∷ b ∷ c ∷ d ∷ []
be32-of_be a b c d ha hb hc hd =
    let e₁ : be a b c d / 16777216 % 256 ≡ a = omega arith in
    let e₂ : be a b c d / 65536 % 256 ≡ b = omega arith in
    let e₃ : be a b c d / 256 % 256 ≡ c = omega arith in
    let e₄ : be a b c d % 256 ≡ d = omega arith in
    cc

nested : (n : ℕ) → n < 2 ^ 32 → be (n / 256 / 256 / 256) (n / 256 / 256 % 256) (n / 256 % 256) (n % 256) ≡ n
nested n h = omega arith

-- a number of 32 bits is what its four bytes spell
pub be-of_be32 : (n : ℕ) → n < 2 ^ 32 → be (n / 16777216 % 256) (n / 65536 % 256) (n / 256 % 256) (n % 256) ≡ n
be-of_be32 n h =
    let e₂ : n / 65536 ≡ n / 256 / 256 = sym (div-div-eq-div-mul n 256 256) in
    let e₃ : n / 16777216 % 256 ≡ n / 256 / 256 / 256 = (let e₁ : n / 16777216 ≡ n / 65536 / 256 = sym (div-div-eq-div-mul n 65536 256) in omega arith) in
    rw (e₃, e₂) (nested n h)

module _ (s : List ℕ) (at : ℕ) where
  -- four bytes, and what is behind them
  pub four : at + 4 ≤ length s → drop at s ≡ get_or s at 0 ∷ get_or s (at + 1) 0 ∷ get_or s (at + 2) 0 ∷ get_or s (at + 3) 0 ∷ drop (at + 4) s
  four h =
      rw (drop-cons s at 0 (omega arith), ← add-one at, drop-cons s (at + 1) 0 (omega arith), ← add-one (at + 1), add_assoc at 1 1, drop-cons s (at + 2) 0 (omega arith), ← add-one (at + 2), add_assoc at 2 1, drop-cons s (at + 3) 0 (omega arith), ← add-one (at + 3), add_assoc at 3 1)

  -- a number of four bytes has 32 bits
  pub be-small : Bytes s → be_at s at < 2 ^ 32
  unfolding be_at
  be-small bytes = omega (arith, bytes at, bytes (at + 1), bytes (at + 2), bytes (at + 3))

  -- what is read has the form that the format writes
  pub be-shape : Bytes s → at + 4 ≤ length s → drop at s ≡ be32 (be_at s at) ++ drop (at + 4) s
  unfolding be_at
  be-shape bytes h =
      four h ∙ ap (λ (l : List ℕ). l ++ drop (at + 4) s)
      (sym (be32-of_be (get_or s at 0) (get_or s (at + 1) 0) (get_or s (at + 2) 0) (get_or s (at + 3) 0) (bytes at) (bytes (at + 1)) (bytes (at + 2)) (bytes (at + 3))))

  -- the byte at an index behind a place
  behind : (l : List ℕ) (i : ℕ) → drop at s ≡ l → get_or s (at + i) 0 ≡ get_or l i 0
  behind l i e = sym (get_or-drop at s i 0) ∙ ap (λ (x : List ℕ). get_or x i 0) e

  -- what the format writes is read
  pub be-written : (n : ℕ) (rest : List ℕ) → n < 2 ^ 32 → drop at s ≡ be32 n ++ rest → be_at s at ≡ n
  unfolding be_at
  be-written n rest h e =
      rw (← add-zero at, behind _ 0 e, add-zero at, behind _ 1 e, behind _ 2 e, behind _ 3 e) (be-of_be32 n h)

  be-behind : (n : ℕ) (rest : List ℕ) → drop at s ≡ be32 n ++ rest → drop (at + 4) s ≡ rest
  be-behind n rest e = sym (drop-drop 4 at s) ∙ ap (drop 4) e

  be-within : (n : ℕ) (rest : List ℕ) → drop at s ≡ be32 n ++ rest → at + 4 + length rest ≤ length s
  be-within n rest e = omega (arith, simp (length-drop, length-append) at (ap length e))

pub number_form : (s : List ℕ) (at n : ℕ) (rest : List ℕ) → Bytes s → n < 2 ^ 32
    → (drop at s ≡ be32 n ++ rest) ↔ ((number_at s at ≡ got n (record { at = at + 4 })) × (drop (at + 4) s ≡ rest))
number_form s at n rest bytes h = (
  (λ e.
      let n' = be-written s at n rest h e in
      let w = be-within s at n rest e in
      (rw (← n') (sym (number_there s at (omega arith))), be-behind s at n rest e)),
  (λ r.
      let found = number_read s at _ _ r.0 in
      be-shape s at bytes found.within ∙ ap₂ (λ (m : ℕ) (l : List ℕ). be32 m ++ l) (sym found.number) r.1),
)

pub number_none : (s : List ℕ) (at : ℕ) → Bytes s
    → (number_at s at ≡ faulted at) ↔ ((n : ℕ) (rest : List ℕ) → n < 2 ^ 32 → drop at s ≡ be32 n ++ rest → ⊥)
number_none s at bytes = (
  (λ e n rest h w. let f = number_short s at at e in let b = be-within s at n rest w in omega arith),
  (λ none.
      ⊎_elim
      (λ h. absurd (none (be_at s at) (drop (at + 4) s) (be-small s at bytes) (be-shape s at bytes h)))
      (λ h. sym (number_cut s at h))
      (le_or_lt (at + 4) (length s))),
)

-- a part of given length behind a place
part-behind : (s : List ℕ) (f : ℕ) (v rest : List ℕ) → drop f s ≡ v ++ rest → f + length v ≤ length s → cut_of s f (f + length v) ≡ v
part-behind s f v rest e h =
    sym (cut_there s f (f + length v) (omega arith) h) ∙ rw (add-sub_cancel_left f (length v), e) (take_at v rest (length v) refl)

-- a part and what is behind it
pub part-shape : (s : List ℕ) (f t : ℕ) → f ≤ t → t ≤ length s → drop f s ≡ cut_of s f t ++ drop t s
part-shape s f t h k =
    let p : f + (t - f) ≡ t = omega arith in
    rw (← cut_there s f t h k)
    (sym (take-append-drop (t - f) (drop f s)) ∙ ap (λ (l : List ℕ). take (t - f) (drop f s) ++ l) (drop-drop (t - f) f s ∙ ap (λ (i : ℕ). drop i s) p))

pub part_length : (s : List ℕ) (f t : ℕ) → f ≤ t → t ≤ length s → length (cut_of s f t) ≡ t - f
part_length s f t h k = rw (← cut_there s f t h k) (simp (length-take, length-drop) (omega arith))

-- what is read is what the format writes, as one equation
pub string-shape : (s : List ℕ) (at f t : ℕ) (k : Cursor) → Bytes s → string_at s at ≡ part_of f t k → drop at s ≡ string (cut_of s f t) ++ drop t s
string-shape s at f t k bytes e =
    let w = string-read s at f t k e in
    let n : be_at s at ≡ length (cut_of s f t) = (let l = part_length s f t (omega arith) w.within in omega arith) in
    let b : drop (at + 4) s ≡ cut_of s f t ++ drop t s = rw (← w.start) (part-shape s f t (omega arith) w.within) in
    be-shape s at bytes (omega arith) ∙ ap₂ (λ (m : ℕ) (l : List ℕ). be32 m ++ l) n b

pub string-form : (s : List ℕ) (at : ℕ) (v rest : List ℕ) → Bytes s → length v < 2 ^ 32
    → (drop at s ≡ string v ++ rest)
    ↔ ((string_at s at ≡ part_of (at + 4) (at + 4 + length v) (record { at = at + 4 + length v }))
    × (cut_of s (at + 4) (at + 4 + length v) ≡ v)
    × (drop (at + 4 + length v) s ≡ rest))
string-form s at v rest bytes h = (
  (λ e.
      let n = be-written s at (length v) (v ++ rest) h e in
      let b = be-behind s at (length v) (v ++ rest) e in
      let l = simp length-append at (be-within s at (length v) (v ++ rest) e) in
      let w : at + 4 + be_at s at ≤ length s = omega arith in
      (rw (← n) (sym (string-there s at w)), part-behind s (at + 4) v rest b (omega arith), sym (drop-drop (length v) (at + 4) s) ∙ rw b (drop_at v rest (length v) refl))),
  (λ r. string-shape s at _ _ _ bytes r.0 ∙ ap₂ (λ (x y : List ℕ). string x ++ y) r.1 r.2),
)

pub string-none : (s : List ℕ) (at : ℕ) → Bytes s
    → (string_at s at ≡ faulted at) ↔ ((v rest : List ℕ) → length v < 2 ^ 32 → drop at s ≡ string v ++ rest → ⊥)
string-none s at bytes = (
  (λ e v rest h w. let z : ◌≡◌ {A = ℕ} 0 1 = (let r = ((string-form s at v rest bytes h).0 w).0 in cc) in omega arith),
  (λ none.
      ⊎_elim
      (λ h.
      let e = sym (string-there s at h) in
      let l = part_length s (at + 4) (at + 4 + be_at s at) (omega arith) h in
      absurd (none (cut_of s (at + 4) (at + 4 + be_at s at)) (drop (at + 4 + be_at s at) s) (omega (arith, be-small s at bytes)) (string-shape s at (at + 4) (at + 4 + be_at s at) (record { at = at + 4 + be_at s at }) bytes e)))
      (λ h. sym (string-cut s at h))
      (le_or_lt (at + 4 + be_at s at) (length s))),
)
