-- The promises of 22 and 23: the first lock holds, and its passphrase opens.
use Rattle.std.specs.Prelude.{ℕ, ◌≤◌, ◌≡◌, ◌↔◌, true, false, List, [], length}
use Rattle.wire.specs.Limits.{passphrase_limit}
use Rattle.rule.specs.Gateway.{Gateway, locked}
use Rattle.rule.specs.Rule.{SUCCESS}
use Rattle.rule.specs.Calls.{Call, lands, call}
use Rattle.rule.specs.Words.{Begins, Carries, at_call, payload_of, PastGate}

-- an open gateway past the gate is locked by exactly the passphrases of up to 1,024 bytes
abbrev pub LockRule : Type 0
LockRule =
    (g : Gateway) (c : Call) → PastGate g c → locked g ≡ false → Begins 22 (payload_of c)
    → ((call g c).outcome ≡ lands SUCCESS) ↔ ((v : List ℕ) × Carries v (payload_of c) × (length v ≤ passphrase_limit))

-- its success stores the passphrase, whole, and changes nothing else
abbrev pub LockHolds : Type 0
LockHolds =
    (g : Gateway) (c : Call) (v : List ℕ) → Begins 22 (payload_of c) → Carries v (payload_of c) → (call g c).outcome ≡ lands SUCCESS
    → (call g c).gateway ≡ record { entries = (at_call g c).entries; lock = v; clock = (at_call g c).clock; next = g.next }

-- a locked gateway past the gate is opened by exactly the stored passphrase, whole
abbrev pub UnlockRule : Type 0
UnlockRule =
    (g : Gateway) (c : Call) → PastGate g c → locked g ≡ true → Begins 23 (payload_of c)
    → ((call g c).outcome ≡ lands SUCCESS) ↔ Carries g.lock (payload_of c)

-- its success opens, and changes nothing else
abbrev pub UnlockOpens : Type 0
UnlockOpens =
    (g : Gateway) (c : Call) → Begins 23 (payload_of c) → (call g c).outcome ≡ lands SUCCESS
    → (call g c).gateway ≡ record { entries = (at_call g c).entries; lock = []; clock = (at_call g c).clock; next = g.next }
