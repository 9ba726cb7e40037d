-- The promises of time: every key gone on time, and usable until the job ends.
use Rattle.std.specs.Prelude.{ℕ, ◌-◌, ◌*◌, max, ◌≤◌, ◌<◌, ◌≡◌, ◌⊎◌, Some}
use Rattle.std.proofs.Math.Option.{none}
use Rattle.wire.specs.declared.Seconds.{Seconds}
use Rattle.wire.specs.Numbers.{Bytes}
use Rattle.rule.specs.declared.Millis.{Millis}
use Rattle.rule.specs.Gateway.{Entry, Gateway, NewKey}
use Rattle.rule.specs.Soundness.{Sound}
use Rattle.rule.specs.Rule.{SUCCESS}
use Rattle.rule.specs.Calls.{Call, refusal, lands, call}
use Rattle.rule.specs.Words.{Begins, Carries, HeldAt, Held, payload_of}
use Rattle.rule.specs.Adding.{AddRequest}

abbrev pub OnTime : Millis → Entry → Type 0
OnTime clock e = (seconds : Seconds) → e.lifetime ≡ Some seconds → clock.count - e.reading.count < 1000 * seconds.count

-- an accepted call leaves no entry whose time is up, locked or not; only what it has itself just added with lifetime 0 still stands
abbrev pub GoneOnTime : Type 0
GoneOnTime =
    (g : Gateway) (c : Call) (e : Entry) → refusal g c ≡ none → Held (call g c).gateway e
    → OnTime (record { count = max g.clock.count c.reading.count }) e ⊎ ((e.number ≡ g.next) × (e.lifetime ≡ Some (record { count = 0 })))

abbrev pub ClockRaised : Type 0
ClockRaised = (g : Gateway) (c : Call) → refusal g c ≡ none → (call g c).gateway.clock.count ≡ max g.clock.count c.reading.count

-- why an entry may leave at a call
pub data Leaves (g : Gateway) (c : Call) (e : Entry) : Type 0 where
  expired : (seconds : Seconds) → e.lifetime ≡ Some seconds → 1000 * seconds.count ≤ max g.clock.count c.reading.count - e.reading.count → Leaves g c e
  removed : Begins 18 (payload_of c) → Carries e.blob (payload_of c) → (call g c).outcome ≡ lands SUCCESS → Leaves g c e
  cleared : Begins 19 (payload_of c) → (call g c).outcome ≡ lands SUCCESS → Leaves g c e
  replaced : (k : NewKey) → AddRequest (payload_of c) k → k.blob ≡ e.blob → (call g c).outcome ≡ lands SUCCESS → Leaves g c e

abbrev pub UsableUntil : Type 0
UsableUntil =
    (g : Gateway) (c : Call) (e : Entry) → Bytes (payload_of c) → Held g e
    → Held (call g c).gateway e ⊎ Leaves g c e

-- entries that are still held stand in the order in which they stood
abbrev pub OrderStays : Type 0
OrderStays =
    (g : Gateway) (c : Call) (i j k l : ℕ) (e x : Entry) → Sound g → HeldAt g i e → HeldAt g j x → i < j
    → HeldAt (call g c).gateway k e → HeldAt (call g c).gateway l x → k < l
