-- The walk accepts exactly what the ABNF derives: each of its nine forms of a character is a row of the table of first bytes.
use Prim.Native.Nat.{ℕ, zero, suc, ◌-◌}
use mathlib.Core.Path.{◌≡◌, refl, ap, ◌∙◌}
use mathlib.Core.List.{List, [], ◌∷◌, ◌++◌}
use mathlib.Core.Bool.{Bool, true, false, cond, ◌&&◌}
use native.Mathlib.Nat.{suc-ne-zero}
use native.Mathlib.Omega.{arith}
use borrow.Author.Tests.{le-leb, leb-true, ne_eqb, eqb-true}
use lib.Dec.{leb}
use Rattle.std.proofs.Common.{Option, Some, None}
use Rattle.wire.specs.declared.utf8.Tails.{Tails}
use Rattle.wire.specs.Numbers.{within}
use Rattle.wire.specs.Utf8.{wants, lead_of, step_of, steps_of, ended, start, utf8}
use Rattle.wire.specs.Abnf.{In, Tail, Char, Octets, utf8-1, utf8-2, utf8-3a, utf8-3b, utf8-3c, utf8-3d, utf8-4a, utf8-4b, utf8-4c, none, more}
use Rattle.wire.specs.Promises.{Utf8Rule}
use Rattle.wire.proofs.Bytewise.{OneRow, lead_in}

-- ## What the ABNF derives is accepted

first : (low high a : ℕ) (s : List ℕ) → OneRow low high → In low high a → steps_of start (a ∷ s) ≡ steps_of (lead_of low) s
unfolding steps_of step_of
first low high a s t h = rw (lead_in low high a t h)

next : (n low high b : ℕ) (s : List ℕ) → In low high b → steps_of (wants (suc n) low high) (b ∷ s) ≡ steps_of (wants n 0x80 0xBF) s
unfolding steps_of step_of
next n low high b s h =
    let e : suc n - 1 ≡ n = omega arith in
    rw (ne_eqb (suc n) 0 (suc-ne-zero n), le-leb low b h.0, le-leb b high h.1, e)

walk_char : {c : List ℕ} → Char c → (s : List ℕ) → steps_of start (c ++ s) ≡ steps_of start s
unfolding lead_of
walk_char (utf8-1 a h) s = rw (first 0x00 0x7F a _ tt h)
walk_char (utf8-2 a b h h₁) s = rw (first 0xC2 0xDF a _ tt h, next)
walk_char (utf8-3a a b c h h₁ h₂) s = rw (first 0xE0 0xE0 a _ tt h, next, next)
walk_char (utf8-3b a b c h h₁ h₂) s = rw (first 0xE1 0xEC a _ tt h, next, next)
walk_char (utf8-3c a b c h h₁ h₂) s = rw (first 0xED 0xED a _ tt h, next, next)
walk_char (utf8-3d a b c h h₁ h₂) s = rw (first 0xEE 0xEF a _ tt h, next, next)
walk_char (utf8-4a a b c d h h₁ h₂ h₃) s = rw (first 0xF0 0xF0 a _ tt h, next, next, next)
walk_char (utf8-4b a b c d h h₁ h₂ h₃) s = rw (first 0xF1 0xF3 a _ tt h, next, next, next)
walk_char (utf8-4c a b c d h h₁ h₂ h₃) s = rw (first 0xF4 0xF4 a _ tt h, next, next, next)

sound : {s : List ℕ} → Octets s → steps_of start s ≡ start
unfolding steps_of
sound none = refl
sound (more c s ch rest) = walk_char ch s ∙ sound rest

-- ## What is accepted the ABNF derives

-- s is `left` bytes more, the next one from low to high, and then whole characters
data Rest : ℕ → ℕ → ℕ → List ℕ → Type 0 where
  whole : {low high : ℕ} {s : List ℕ} → Octets s → Rest 0 low high s
  byte : {n low high b : ℕ} {s : List ℕ} → In low high b → Rest n 0x80 0xBF s → Rest (suc n) low high (b ∷ s)

-- s is what a state asks for
abbrev RestOf : Option Tails → List ℕ → Type 0
RestOf (Some t) s = Rest t.left t.low t.high s
RestOf None s = ⊥

in_range : (low high b : ℕ) → within low high b ≡ true → In low high b
in_range low high b e = go (leb low b) refl e
  where
    go : (q : Bool) → leb low b ≡ q → (q && leb b high) ≡ true → In low high b
    go true p e = (leb-true low b p, leb-true b high e)
    go false p e = let z : ◌≡◌ {A = ℕ} 0 1 = cc in absurd (omega arith)

row : (low high b : ℕ) (u v : Option Tails) (s : List ℕ) {A : Type 0} → (In low high b → RestOf u s → A) → (RestOf v s → A) → RestOf (cond (within low high b) u v) s → A
row low high b u v s {A} f g r = go (within low high b) refl r
  where
    go : (q : Bool) → within low high b ≡ q → RestOf (cond q u v) s → A
    go true e r = f (in_range low high b e) r
    go false e r = g r

module _ (a : ℕ) where
  one : {s : List ℕ} {low high : ℕ} → Char (a ∷ []) → Rest 0 low high s → Octets (a ∷ s)
  one ch (whole o) = more _ _ ch o

  two : {s : List ℕ} {low high : ℕ} → ((b : ℕ) → In low high b → Char (a ∷ b ∷ [])) → Rest 1 low high s → Octets (a ∷ s)
  two ch (byte h (whole o)) = more _ _ (ch _ h) o

  three : {s : List ℕ} {low high : ℕ} → ((b c : ℕ) → In low high b → Tail c → Char (a ∷ b ∷ c ∷ [])) → Rest 2 low high s → Octets (a ∷ s)
  three ch (byte h (byte i (whole o))) = more _ _ (ch _ _ h i) o

  four : {s : List ℕ} {low high : ℕ} → ((b c d : ℕ) → In low high b → Tail c → Tail d → Char (a ∷ b ∷ c ∷ d ∷ [])) → Rest 3 low high s → Octets (a ∷ s)
  four ch (byte h (byte i (byte j (whole o)))) = more _ _ (ch _ _ _ h i j) o

  lead_octets : {s : List ℕ} → RestOf (lead_of a) s → Octets (a ∷ s)
  unfolding lead_of
  lead_octets =
      row 0x00 0x7F a _ _ _ (λ h. one (utf8-1 a h))
      (row 0xC2 0xDF a _ _ _ (λ h. two (λ b. utf8-2 a b h))
      (row 0xE0 0xE0 a _ _ _ (λ h. three (λ b c. utf8-3a a b c h))
      (row 0xE1 0xEC a _ _ _ (λ h. three (λ b c. utf8-3b a b c h))
      (row 0xED 0xED a _ _ _ (λ h. three (λ b c. utf8-3c a b c h))
      (row 0xEE 0xEF a _ _ _ (λ h. three (λ b c. utf8-3d a b c h))
      (row 0xF0 0xF0 a _ _ _ (λ h. four (λ b c d. utf8-4a a b c d h))
      (row 0xF1 0xF3 a _ _ _ (λ h. four (λ b c d. utf8-4b a b c d h))
      (row 0xF4 0xF4 a _ _ _ (λ h. four (λ b c d. utf8-4c a b c d h)) absurd))))))))

follow : (n low high b : ℕ) (s : List ℕ) → RestOf (step_of (wants (suc n) low high) b) s → Rest (suc n) low high (b ∷ s)
unfolding step_of
follow n low high b s r =
    let e : suc n - 1 ≡ n = omega arith in
    row low high b _ _ _ byte absurd (rw (ne_eqb (suc n) 0 (suc-ne-zero n), e) at r)

parsed : (b : ℕ) (s : List ℕ) → ((u : Option Tails) → ended (steps_of u s) ≡ true → RestOf u s)
    → (n low high : ℕ) → ended (steps_of (step_of (wants n low high) b) s) ≡ true → Rest n low high (b ∷ s)
unfolding step_of
parsed b s f zero low high e = whole (lead_octets b (f (lead_of b) e))
parsed b s f (suc n) low high e = follow n low high b s (f (step_of (wants (suc n) low high) b) e)

parse : (s : List ℕ) (u : Option Tails) → ended (steps_of u s) ≡ true → RestOf u s
unfolding steps_of step_of ended
parse [] None e = let z : ◌≡◌ {A = ℕ} 0 1 = cc in omega arith
parse [] (Some t) e = rw (eqb-true t.left 0 e) (whole none)
parse (b ∷ s) None e = parse s None e
parse (b ∷ s) (Some t) e = parsed b s (parse s) t.left t.low t.high e

pub utf8-rule : Utf8Rule
unfolding utf8 ended
utf8-rule s = ((λ e. elim (parse s start e) [ whole o ↦ o ]), (λ o. ap ended (sound o)))
