-- What a reader answers, and how a definition goes on by it. Where it does not go on, `z` is the answer, at a fault by its place.
use Rattle.std.specs.Prelude.{ℕ, Result, Ok, Err}
use Rattle.wire.specs.declared.read.Cursor.{Cursor}
use Rattle.wire.specs.declared.read.Fault.{Fault}
use Rattle.wire.specs.declared.read.Part.{Part}

-- a value and the place behind it
abbrev pub got : {A : Type 0} → A → Cursor → Result (A × Cursor) Fault
got a k = Ok (a, k)

-- the part from f up to t, and the place behind it
abbrev pub part_of : ℕ → ℕ → Cursor → Result Part Fault
part_of f t k = Ok (record { from = f; to = t; next = k })

abbrev pub faulted : {A : Type 0} → ℕ → Result A Fault
faulted at = Err (record { at = at })

module _ {A : Type 0} where
  -- a byte is a number too
  unfoldable pub number : (ℕ → A) → Result (ℕ × Cursor) Fault → (ℕ → Cursor → A) → A
  number z (Ok r) next = next r.0 r.1
  number z (Err e) next = z e.at

  unfoldable pub part : (ℕ → A) → Result Part Fault → (ℕ → ℕ → Cursor → A) → A
  part z (Ok p) next = next p.from p.to p.next
  part z (Err e) next = z e.at
