-- Locking and unlocking past the gate: exactly which passphrases succeed, and what success does.
use Prim.Native.Nat.{ℕ, ◌-◌, ◌≤◌}
use native.Mathlib.Omega.{arith}
use mathlib.Core.Path.{◌≡◌, refl, sym, ap, ◌∙◌}
use mathlib.Core.List.{List, []}
use borrow.Author.Tests.{leb-true, le-leb}
use lib.ListN.{length}
use lib.Dec.{leb}
use Rattle.wire.specs.Limits.{passphrase_limit}
use Rattle.wire.specs.Steps.{part}
use Rattle.wire.specs.Read.{cut_of, same, string_at}
use Rattle.wire.proofs.Reading.{string-read, same-rule}
use Rattle.wire.proofs.Format.{part_length}
use Rattle.rule.specs.Gateway.{Gateway, advance, at_clock, with_lock}
use Rattle.rule.specs.Rule.{SUCCESS, Plan, locking, unlocking}
use Rattle.rule.specs.Calls.{lent, Call, lands, follow, call}
use Rattle.rule.specs.Words.{Begins, Carries, at_call, payload_of}
use Rattle.rule.specs.Rows.{lock, unlock}
use Rattle.rule.specs.Locking.{LockRule, LockHolds, UnlockRule, UnlockOpens}
use Rattle.rule.proofs.Cases.{cond_cases, part-cases}
use Rattle.rule.proofs.RequestLaws.{one_carried}
use Rattle.rule.proofs.RowLaws.{past_gate_lem, OnSuccess, failure_shows, success_shows}

carries_length : {v payload : List ℕ} (s : Carries v payload) → length v ≡ s.to - s.from
carries_length {v} {payload} s =
    let w = string-read payload 1 s.from s.to s.next s.read in
    sym (ap length s.is) ∙ part_length payload s.from s.to (omega arith) w.within

-- ## Lock

-- the payload carries a passphrase that fits, and the gateway is locked with it
record Locks (g : Gateway) (payload : List ℕ) (after : Gateway) : Type 0 where
  passphrase : List ℕ
  carries : Carries passphrase payload
  fits : length passphrase ≤ passphrase_limit
  locks : after ≡ with_lock passphrase g

locking-shows : (g : Gateway) (payload : List ℕ) → OnSuccess (Locks g payload) (locking g payload)
unfolding locking
locking-shows g payload =
    part-cases Shows (string_at payload 1) (λ _ _. failure_shows) λ f t k e.
    cond_cases Shows (leb (t - f) passphrase_limit)
    (λ fits _.
    let s : Carries (cut_of payload f t) payload = record { from = f; to = t; next = k; read = e; is = refl } in
    let l = carries_length s in
    let h : t - f ≤ passphrase_limit = leb-true _ _ fits in
    record { passphrase = cut_of payload f t; carries = s; fits = omega arith; locks = refl })
    (λ _. failure_shows)
  where
    Shows : Plan → Type 0
    Shows = OnSuccess (Locks g payload)

lock_shows : (g : Gateway) (c : Call) → Begins 22 (payload_of c) → (call g c).outcome ≡ lands SUCCESS → Locks (at_call g c) (payload_of c) (call g c).gateway
lock_shows g c begins = success_shows (Locks (at_call g c) (payload_of c)) lock g c begins (locking-shows (at_call g c) (payload_of c))

locking-succeeds : (g : Gateway) (c : Call) (v : List ℕ) → Carries v (payload_of c) → length v ≤ passphrase_limit
    → (follow (lent c.answers) g (locking g (payload_of c))).outcome ≡ lands SUCCESS
unfolding locking part follow
locking-succeeds g c v s h =
    let l = carries_length s in
    let fits : s.to - s.from ≤ passphrase_limit = omega arith in
    rw (s.read, le-leb _ _ fits)

pub lock_rule : LockRule
lock_rule g c past fit begins = (
  (λ e. let shown = lock_shows g c begins e in (shown.passphrase, shown.carries, shown.fits)),
  (λ (v, s, h). rw (past_gate_lem lock g c past fit begins) (locking-succeeds (at_call g c) c v s h)),
)

pub lock_holds : LockHolds
unfolding advance at_clock
lock_holds g c v begins carries e =
    let shown = lock_shows g c begins e in
    shown.locks ∙ ap (λ (passphrase : List ℕ). with_lock passphrase (at_call g c)) (one_carried shown.carries carries).0

-- ## Unlock

-- the payload carries the stored passphrase, and the gateway is opened
record Unlocks (g : Gateway) (payload : List ℕ) (after : Gateway) : Type 0 where
  carries : Carries g.lock payload
  opens : after ≡ with_lock [] g

unlocking-shows : (g : Gateway) (payload : List ℕ) → OnSuccess (Unlocks g payload) (unlocking g payload)
unfolding unlocking
unlocking-shows g payload =
    part-cases Shows (string_at payload 1) (λ _ _. failure_shows) λ f t k e.
    cond_cases Shows (same g.lock (cut_of payload f t))
    (λ equal _. record { carries = record { from = f; to = t; next = k; read = e; is = sym ((same-rule _ _).0 equal) }; opens = refl })
    (λ _. failure_shows)
  where
    Shows : Plan → Type 0
    Shows = OnSuccess (Unlocks g payload)

unlock_shows : (g : Gateway) (c : Call) → Begins 23 (payload_of c) → (call g c).outcome ≡ lands SUCCESS → Unlocks (at_call g c) (payload_of c) (call g c).gateway
unlock_shows g c begins = success_shows (Unlocks (at_call g c) (payload_of c)) unlock g c begins (unlocking-shows (at_call g c) (payload_of c))

unlocking-succeeds : (g : Gateway) (c : Call) → Carries g.lock (payload_of c)
    → (follow (lent c.answers) g (unlocking g (payload_of c))).outcome ≡ lands SUCCESS
unfolding unlocking part follow
unlocking-succeeds g c s = rw (s.read, (same-rule _ _).1 (sym s.is))

pub unlock_rule : UnlockRule
unfolding advance at_clock
unlock_rule g c past fit begins = (
  (λ e. (unlock_shows g c begins e).carries),
  (λ s. rw (past_gate_lem unlock g c past fit begins) (unlocking-succeeds (at_call g c) c s)),
)

pub unlock_opens : UnlockOpens
unfolding advance at_clock
unlock_opens g c begins e = (unlock_shows g c begins e).opens
