-- The words of the promises: what a request begins with and carries, what a gateway holds, and a call past its gate.
use Rattle.std.specs.Prelude.{ℕ, ◌<◌, ◌≡◌, true, List, length, get_or}
use Rattle.std.proofs.Math.Option.{none, some}
use Rattle.wire.specs.Steps.{part_of}
use Rattle.wire.specs.declared.read.Cursor.{Cursor}
use Rattle.wire.specs.Read.{cut_of, string_at}
use Rattle.rule.specs.Gateway.{Entry, Gateway, entry_at, advance}
use Rattle.rule.specs.Calls.{Call, refusal}

-- the first byte of a payload that has one
pub record Begins (byte : ℕ) (payload : List ℕ) : Type 0 where
  pub some_byte : 0 < length payload
  pub first : get_or payload 0 0 ≡ byte

-- the string behind the first byte is v
pub record Carries (v payload : List ℕ) : Type 0 where
  pub from : ℕ
  pub to : ℕ
  pub next : Cursor
  pub read : string_at payload 1 ≡ part_of from to next
  pub is : cut_of payload from to ≡ v

-- e stands at position i of the list
abbrev pub HeldAt : Gateway → ℕ → Entry → Type 0
HeldAt g i e = entry_at g.entries i ≡ some e

-- e is held
abbrev pub Held : Gateway → Entry → Type 0
Held g e = (i : ℕ) × HeldAt g i e

-- the gateway at the call's landing: its clock raised, due entries gone
abbrev pub at_call : Gateway → Call → Gateway
at_call g c = advance c.reading g

abbrev pub payload_of : Call → List ℕ
payload_of c = c.frame.payload

-- an accepted call whose gate says yes
pub record PastGate (g : Gateway) (c : Call) : Type 0 where
  pub accepted : refusal g c ≡ none
  pub gate : c.answers.gate ≡ some true

-- two gateways agree in all but the entries
pub record SameButEntries (g h : Gateway) : Type 0 where
  pub lock : g.lock ≡ h.lock
  pub clock : g.clock ≡ h.clock
  pub next : g.next ≡ h.next
