-- What a first byte says, over a range of bytes that all say the same: a test that antt computes at each byte of the range.
use Prim.Native.Nat.{ℕ, zero, suc, ◌<◌}
use mathlib.Core.Path.{◌≡◌, refl, sym, subst}
use mathlib.Core.Bool.{Bool, true, false, cond, ◌&&◌}
use mathlib.Core.Logic.{⊎_elim}
use native.Mathlib.Nat.{le_of_suc-le-suc, eq-or-lt_of_le, not-suc-le-zero}
use native.Mathlib.Omega.{arith}
use borrow.Author.Tests.{le-leb}
use lib.Dec.{T, leb, eqb, eqb→eq}
use Rattle.std.proofs.Common.{Option, Some, None}
use Rattle.wire.specs.declared.utf8.Tails.{Tails}
use Rattle.wire.specs.Utf8.{wants, lead_of}
use Rattle.wire.specs.Abnf.{In}

both : (a b : Bool) → T (a && b) → T a × T b
both true b t = (tt, t)
both false b t = absurd t

abbrev all : ℕ → (ℕ → Bool) → Bool
all zero P = true
all (suc n) P = P n && all n P

all-at : (n : ℕ) (P : ℕ → Bool) → T (all n P) → (b : ℕ) → b < n → T (P b)
all-at zero P t b h = absurd (not-suc-le-zero h)
all-at (suc n) P t b h =
    let p = both (P n) (all n P) t in
    ⊎_elim (λ e. subst (λ (k : ℕ). T (P k)) (sym e) p.0) (λ l. all-at n P p.1 b l) (eq-or-lt_of_le (le_of_suc-le-suc h))

abbrev same_state : Option Tails → Option Tails → Bool
same_state None None = true
same_state None (Some u) = false
same_state (Some t) None = false
same_state (Some t) (Some u) = eqb t.left u.left && (eqb t.low u.low && eqb t.high u.high)

same-state : (t u : Option Tails) → T (same_state t u) → t ≡ u
same-state None None h = refl
same-state None (Some u) h = absurd h
same-state (Some t) None h = absurd h
same-state (Some t) (Some u) h =
    let p = both (eqb t.left u.left) (eqb t.low u.low && eqb t.high u.high) h in
    let q = both (eqb t.low u.low) (eqb t.high u.high) p.1 in
    let l = eqb→eq t.left u.left p.0 in
    let m = eqb→eq t.low u.low q.0 in
    let n = eqb→eq t.high u.high q.1 in
    λ i. wants (l i) (m i) (n i)

abbrev says : ℕ → ℕ → Bool
says low b = cond (leb low b) (same_state (lead_of low) (lead_of b)) true

-- every byte from low to high says what low says
abbrev pub OneRow : ℕ → ℕ → Type 0
OneRow low high = T (all (suc high) (says low))

pub lead_in : (low high b : ℕ) → OneRow low high → In low high b → lead_of low ≡ lead_of b
lead_in low high b t h = same-state (lead_of low) (lead_of b) (rw (le-leb low b h.0) at (all-at (suc high) (says low) t b (omega arith)))
