-- Refusals, and what a writer answers, told apart by their values: the number and the place name the refusal. Assumes nothing.
use Prim.Native.Nat.{ℕ}
use mathlib.Core.Path.{◌≡◌, refl, sym, ap, ap₂, ◌∙◌}
use mathlib.Core.Bool.{cond}
use native.Mathlib.Omega.{arith}
use lib.Dec.{eqb}
use Rattle.std.proofs.Common.{Result, Ok, Err}
use Rattle.wire.specs.declared.refusal.Refusal.{Refusal}
use Rattle.wire.specs.declared.refusal.Refusal.TheVariants.{OutputTooShort, Malformed, UnfitType, AgentFailure, OtherReply, NoSuchItem, PayloadTooLong, TooManyConstraints}
use Rattle.wire.specs.Refusals.{Where, no_place, at_place, refusal_number, refusal_place, Says, grants, refuses, wrote_says}
use Rattle.wire.specs.Promises.{RefusalsApart, WroteApart}

-- the refusal of a number, at a place
abbrev place_in : Where → ℕ
place_in no_place = 0
place_in (at_place n) = n

abbrev refusal_of : ℕ → Where → Refusal
refusal_of n w =
    cond (eqb n 11) OutputTooShort
    (cond (eqb n 12) (Malformed (place_in w))
    (cond (eqb n 13) UnfitType
    (cond (eqb n 14) AgentFailure
    (cond (eqb n 15) OtherReply
    (cond (eqb n 16) NoSuchItem
    (cond (eqb n 17) PayloadTooLong TooManyConstraints))))))

numbered : (r : Refusal) → r ≡ refusal_of (refusal_number r) (refusal_place r)
numbered OutputTooShort = refl
numbered (Malformed at) = refl
numbered UnfitType = refl
numbered AgentFailure = refl
numbered OtherReply = refl
numbered NoSuchItem = refl
numbered PayloadTooLong = refl
numbered TooManyConstraints = refl

pub refusals_apart : RefusalsApart
refusals_apart a b e f = numbered a ∙ ap₂ refusal_of e f ∙ sym (numbered b)

-- what is granted is not refused
pub granted : {B A : Type 0} {b : B} {n : ℕ} {w : Where} → grants b ≡ refuses n w → A
granted e = let z : ◌≡◌ {A = ℕ} 0 1 = cc in absurd (omega arith)

pub not_granted : {B A : Type 0} {b : B} {n : ℕ} {w : Where} → refuses n w ≡ grants b → A
not_granted e = let z : ◌≡◌ {A = ℕ} 0 1 = cc in absurd (omega arith)

-- the refusal that has these values
pub record Why (n : ℕ) (w : Where) (r : Refusal) : Type 0 where
  pub number : refusal_number r ≡ n
  pub place : refusal_place r ≡ w

pub why : {A : Type 0} {n : ℕ} {w : Where} (r : Refusal) → ◌≡◌ {A = Says A} (refuses (refusal_number r) (refusal_place r)) (refuses n w) → Why n w r
why r e = record { number = cc; place = cc }

pub wrote_written : (a : Result ℕ Refusal) (n : ℕ) → wrote_says a ≡ grants n → a ≡ Ok n
wrote_written (Ok m) n e = let q : m ≡ n = cc in rw q
wrote_written (Err r) n e = not_granted e

pub wrote_refused : (a : Result ℕ Refusal) (n : ℕ) (w : Where) → wrote_says a ≡ refuses n w → (r : Refusal) × (a ≡ Err r) × Why n w r
wrote_refused (Ok m) n w e = granted e
wrote_refused (Err r) n w e = (r, refl, why r e)

pub wrote_apart : WroteApart
wrote_apart (Ok m) b e = sym (wrote_written b m (sym e))
wrote_apart (Err r) b e =
    let (q, is, y) = wrote_refused b (refusal_number r) (refusal_place r) (sym e) in
    ap Err (refusals_apart r q (sym y.number) (sym y.place)) ∙ sym is
