-- The smartcard writers: their tests come first, in the definition's order, and behind them stands the payload's own writer.
use Prim.Native.Nat.{ℕ, ◌+◌, ◌≤◌, ◌<◌}
use mathlib.Core.Path.{◌≡◌, refl}
use mathlib.Core.List.{List, ◌∷◌, ◌++◌}
use native.Mathlib.Omega.{arith}
use borrow.Author.Tests.{eq-eqb, ne_eqb, le-ltb, lt-ltb}
use lib.ListN.{length, take, length-append}
use Rattle.wire.specs.declared.Constraint.{Constraint}
use Rattle.wire.specs.Utf8.{utf8_end}
use Rattle.wire.specs.Write.{write, string}
use Rattle.wire.specs.Constraints.{constraint_forms}
use Rattle.wire.specs.declared.refusal.Refusal.{Refusal}
use Rattle.wire.specs.declared.refusal.Refusal.TheVariants.{Malformed, TooManyConstraints}
use Rattle.std.specs.Prelude.{Result, Ok, Err}
use Rattle.std.specs.Result.{IsErrAnd}
use Rattle.client.specs.Requests.{plain_smartcard, constrained_smartcard, remove_smartcard, remove_smartcard_answer, remove_smartcard_left, add_smartcard, add_smartcard_answer, add_smartcard_left}
use Rattle.client.proofs.WriteLaws.{Met, Stage, refused, stage_size, more, counted, whole, behind-two}

-- what the two smartcard writers ensure
abbrev pub Removed : List ℕ → List ℕ → List ℕ → Result ℕ Refusal → List ℕ → Type 0
Removed id pin out r m = (r ≡ remove_smartcard_answer id pin out) × (m ≡ remove_smartcard_left id pin out)

abbrev pub Added : List ℕ → List ℕ → List Constraint → ℕ → List ℕ → Result ℕ Refusal → List ℕ → Type 0
Added id pin cs count out r m = (r ≡ add_smartcard_answer id pin cs count out) × (m ≡ add_smartcard_left id pin cs count out)

-- two strings behind a byte, with nothing more
pub two_whole : (kind : ℕ) (a b out : List ℕ) (r : Result ℕ Refusal) (m : List ℕ)
    → Met (9 + length a + length b + 0) (kind ∷ (string a ++ string b)) out r m → Met (length (kind ∷ (string a ++ string b))) (kind ∷ (string a ++ string b)) out r m
two_whole kind a b out r m e = counted _ _ out r m e (simp length-append (omega arith))

module _ (id pin out : List ℕ) (end : ℕ) (e : end ≡ utf8_end id) where
  pub remove_malformed : (end ≡ length id → ⊥) → Removed id pin out (Err (Malformed end)) out
  unfolding remove_smartcard_answer remove_smartcard_left
  remove_malformed h = rw (← e, ne_eqb end (length id) h) (refl, refl)

  pub remove_written : end ≡ length id → (r : Result ℕ Refusal) (m : List ℕ) → Met (length (remove_smartcard id pin)) (remove_smartcard id pin) out r m → Removed id pin out r m
  unfolding remove_smartcard_answer remove_smartcard_left
  remove_written h r m f = rw (← e, eq-eqb end (length id) h) f

  module _ (cs : List Constraint) (count : ℕ) where
    pub add_malformed : count ≤ 4 → (end ≡ length id → ⊥) → Added id pin cs count out (Err (Malformed end)) out
    unfolding add_smartcard_answer add_smartcard_left
    add_malformed k h = rw (le-ltb 4 count k, ← e, ne_eqb end (length id) h) (refl, refl)

    module _ (k : count ≤ 4) (h : end ≡ length id) (r : Result ℕ Refusal) (m : List ℕ) where
      pub add_plain : count ≡ 0 → Met (length (plain_smartcard id pin)) (plain_smartcard id pin) out r m → Added id pin cs count out r m
      unfolding add_smartcard_answer add_smartcard_left add_smartcard
      add_plain z f = rw (le-ltb 4 count k, ← e, eq-eqb end (length id) h, eq-eqb count 0 z) f

      pub add_constrained : (count ≡ 0 → ⊥) → Met (length (constrained_smartcard id pin (take count cs))) (constrained_smartcard id pin (take count cs)) out r m
          → Added id pin cs count out r m
      unfolding add_smartcard_answer add_smartcard_left add_smartcard
      add_constrained z f = rw (le-ltb 4 count k, ← e, eq-eqb end (length id) h, ne_eqb count 0 z) f

pub too_many : (id pin : List ℕ) (cs : List Constraint) (count : ℕ) (out : List ℕ) → 4 < count → Added id pin cs count out (Err TooManyConstraints) out
unfolding add_smartcard_answer add_smartcard_left
too_many id pin cs count out h = rw (lt-ltb 4 count h) (refl, refl)

-- ## Constraints behind the two strings

-- the payload's head: a byte and two strings
abbrev pub head_of : List ℕ → List ℕ → List ℕ
head_of id pin = 26 ∷ (string id ++ string pin)

module _ (id pin : List ℕ) (cs : List Constraint) (size : ℕ) (out : List ℕ) (counted_is : size ≡ length (constraint_forms cs)) where
  length-is : 9 + length id + length pin + size ≡ length (constrained_smartcard id pin cs)
  length-is = simp length-append (omega arith)

  pub constrained_refused : (r : Result ℕ Refusal) (m : List ℕ) → Met (9 + length id + length pin + size) (head_of id pin) out r m → (k : Refusal) → r ≡ Err k
      → (q : Result ℕ Refusal) → IsErrAnd q (λ y. y ≡ k) → Met (length (constrained_smartcard id pin cs)) (constrained_smartcard id pin cs) out q m
  constrained_refused r m f k g = refused _ _ out r m f k g _ _ length-is

  module _ (at : ℕ) (m : List ℕ) (s : Stage (9 + length id + length pin + size) (head_of id pin) out at m) where
    head_size : length (head_of id pin) ≡ 9 + length id + length pin
    head_size = simp length-append (omega arith)

    pub constraints_room : at + length (constraint_forms cs) ≤ length m
    constraints_room = let l = stage_size s (omega (arith, head_size)) in omega (arith, head_size, s.place, s.fits)

    pub constrained_written : (end : ℕ) (o : List ℕ) → end ≡ at + length (constraint_forms cs) → o ≡ write m at (constraint_forms cs)
        → Met (length (constrained_smartcard id pin cs)) (constrained_smartcard id pin cs) out (Ok end) o
    constrained_written end o g h =
        let t = more s (constraint_forms cs) o end (constrained_smartcard id pin cs) h g (behind-two 26 id pin (constraint_forms cs)) (omega (arith, length-is)) in
        whole _ _ out end o t length-is
