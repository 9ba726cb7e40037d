-- The promises of 18 and 19.
use Rattle.std.specs.Prelude.{ℕ, suc, ◌≤◌, ◌<◌, ◌≡◌, ◌↔◌, ◌≢◌, false}
use Rattle.rule.specs.Gateway.{Entry, Gateway, locked, entry_at}
use Rattle.rule.specs.Rule.{SUCCESS}
use Rattle.rule.specs.Calls.{Call, lands, call}
use Rattle.rule.specs.Words.{Begins, Carries, HeldAt, Held, at_call, payload_of, PastGate, SameButEntries}

-- e is gone, everything else is as it was
pub record Gone (before after : Gateway) (e : Entry) : Type 0 where
  pub gone : ¬ (Held after e)
  pub others : (x : Entry) → x ≢ e → Held after x ↔ Held before x
  pub rest : SameButEntries after before

-- the gap at position i is closed: what stood before it stands where it stood, what stood behind it one position earlier
pub record Closed (before after : Gateway) (i : ℕ) : Type 0 where
  pub front : (j : ℕ) → j < i → entry_at after.entries j ≡ entry_at before.entries j
  pub back : (j : ℕ) → i ≤ j → entry_at after.entries j ≡ entry_at before.entries (suc j)

-- past the gate of an open gateway, a remove succeeds exactly where its blob is held
abbrev pub RemoveRule : Type 0
RemoveRule =
    (g : Gateway) (c : Call) → PastGate g c → locked g ≡ false → Begins 18 (payload_of c)
    → ((call g c).outcome ≡ lands SUCCESS) ↔ ((e : Entry) × Held (at_call g c) e × Carries e.blob (payload_of c))

abbrev pub RemoveTakes : Type 0
RemoveTakes =
    (g : Gateway) (c : Call) → Begins 18 (payload_of c) → (call g c).outcome ≡ lands SUCCESS
    → (e : Entry) × Held (at_call g c) e × Carries e.blob (payload_of c) × Gone (at_call g c) (call g c).gateway e

abbrev pub RemoveCloses : Type 0
RemoveCloses =
    (g : Gateway) (c : Call) (i : ℕ) (e : Entry) → Begins 18 (payload_of c) → (call g c).outcome ≡ lands SUCCESS
    → HeldAt (at_call g c) i e → Carries e.blob (payload_of c) → Closed (at_call g c) (call g c).gateway i

abbrev pub RemoveAllRule : Type 0
RemoveAllRule =
    (g : Gateway) (c : Call) → PastGate g c → locked g ≡ false → Begins 19 (payload_of c)
    → ((call g c).outcome ≡ lands SUCCESS) × ((e : Entry) → ¬ (Held (call g c).gateway e)) × SameButEntries (call g c).gateway (at_call g c)
