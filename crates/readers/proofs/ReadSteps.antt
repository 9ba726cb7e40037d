-- Where a reader's fault lies, and the two ways on behind a reach.
use Prim.Native.Nat.{ℕ, ◌≤◌, ◌<◌}
use mathlib.Core.Path.{◌≡◌, refl, sym, ◌∙◌}
use mathlib.Core.List.{List}
use mathlib.Core.Logic.{⊎_elim}
use native.Mathlib.Omega.{arith}
use lib.ListN.{length}
use Rattle.std.specs.Prelude.{Result, Ok, Err}
use Rattle.wire.specs.declared.read.Cursor.{Cursor}
use Rattle.wire.specs.declared.read.Fault.{Fault}
use Rattle.wire.specs.declared.read.Part.{Part}
use Rattle.wire.specs.Read.{byte_at, number_at, string_at}
use Rattle.wire.proofs.Reading.{le_or_lt, fault_one, byte_there, byte_cut, number_short, number_cut, string-short, string-cut}
use Rattle.readers.specs.Reaches.{reach}

-- a byte, a number and a string are missing where they are to begin
module _ (s : List ℕ) (at : ℕ) (e : Fault) where
  pub byte_place : ◌≡◌ {A = Result (ℕ × Cursor) Fault} (Err e) (byte_at s at) → e.at ≡ at
  byte_place h =
      ⊎_elim
      (λ (k : length s ≤ at). fault_one (h ∙ sym (byte_cut s at k)))
      (λ (k : at < length s). let q = byte_there s at k in let z : ◌≡◌ {A = ℕ} 0 1 = cc in absurd (omega arith))
      (le_or_lt (length s) at)

  pub number_place : ◌≡◌ {A = Result (ℕ × Cursor) Fault} (Err e) (number_at s at) → e.at ≡ at
  number_place h = fault_one (h ∙ sym (number_cut s at (number_short s at e.at (sym h))))

  pub string_place : ◌≡◌ {A = Result Part Fault} (Err e) (string_at s at) → e.at ≡ at
  string_place h = fault_one (h ∙ sym (string-cut s at (string-short s at e.at (sym h))))

-- ## Cases

-- either way on behind a reach
pub reach-cases : {A : Type 0} (P : A → Type 0) (r : Result ℕ Fault) {z next : ℕ → A} → ((at : ℕ) → P (z at)) → ((at : ℕ) → r ≡ Ok at → P (next at)) → P (reach z r next)
unfolding reach
reach-cases P (Ok at) g h = h at refl
reach-cases P (Err e) g h = g e.at

-- reading that came to an end had no fault
pub fault : {e : Fault} {end : ℕ} {A : Type 0} → ◌≡◌ {A = Result ℕ Fault} (Err e) (Ok end) → A
fault e = let z : ◌≡◌ {A = ℕ} 0 1 = cc in absurd (omega arith)
