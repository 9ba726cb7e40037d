-- How a definition goes on behind what was read: at the place behind it, or at the place of the fault in it.
use Rattle.std.specs.Prelude.{ℕ, Result, Ok, Err}
use Rattle.wire.specs.declared.read.Fault.{Fault}

unfoldable pub reach : {A : Type 0} → (ℕ → A) → Result ℕ Fault → (ℕ → A) → A
reach z (Ok at) next = next at
reach z (Err e) next = z e.at
