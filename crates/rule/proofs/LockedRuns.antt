-- Between a lock and an unlock: what the rule does while locked, a run of it, and the lock's success.
use Prim.Native.Nat.{ℕ, zero-le}
use mathlib.Core.Path.{◌≡◌, refl, ap}
use mathlib.Core.Bool.{Bool, true, false, cond}
use mathlib.Core.Option.{Option, none}
use mathlib.Core.List.{List, [], ◌∷◌}
use borrow.Author.Tests.{ltb-true, lt-ltb, eqb-true}
use lib.ListN.{length}
use lib.Dec.{ltb, eqb}
use Rattle.wire.specs.Read.{cut_of, same, string_at}
use Rattle.rule.specs.declared.Millis.{Millis}
use Rattle.rule.specs.Gateway.{Gateway, zero_millis, locked, opened, later, advance}
use Rattle.rule.specs.Rule.{Question, gate, Answer, Landing, FAILURE, SUCCESS, Plan, land, ask, fails, unlocking, gated, row, table, rule}
use Rattle.rule.specs.Calls.{Call, asks, Result, call}
use Rattle.rule.specs.Runs.{Event, events, end_of, Every, is_accepted, heard, heard_in, greatest, turn, turns_from, some_accepted, Landed, alone}
use Rattle.rule.specs.Order.{settled, own_answers, NoUnlocking, EveryQuestion, WhileLocked, BetweenLockAndUnlock, Needs, here, behind}
use Rattle.rule.specs.Words.{Begins}
use Rattle.rule.proofs.Cases.{cond_cases, part-cases}
use Rattle.rule.proofs.Clock.{advance-lock}
use Rattle.rule.proofs.Plans.{EveryLanding, alone-has, refused_not_asks}
use Rattle.rule.proofs.Crossing.{landing_result, event_by, plan_of, own_cases, Together, together, together_asked, advance-settled}
use Rattle.rule.proofs.Leavings.{lands_not_asks}
use Rattle.rule.proofs.LockLaws.{lock_holds}

-- every question of a plan
abbrev pub EveryAsk : (Question → Type 0) → Plan → Type 0
EveryAsk A (land l after) = Unit {0}
EveryAsk A (ask q onwards) = A q × ((a : Answer q) → EveryAsk A (onwards a))

needs_has : (A : Question → Type 0) {answer : (q : Question) → Option (Answer q)} {plan : Plan} {q : Question} → Needs answer plan q → EveryAsk A plan → A q
needs_has A (here q onwards) h = h.0
needs_has A (behind p onwards a q e n) h = needs_has A n (h.1 a)

-- ## The rule while locked

data LockedLanding (g : Gateway) (payload : List ℕ) (l : Landing) (after : Gateway) : Type 0 where
  stays : l ≡ FAILURE → after ≡ g → LockedLanding g payload l after
  unlocks : Begins 23 payload → l ≡ SUCCESS → LockedLanding g payload l after

abbrev Gate7 : List ℕ → Question → Type 0
Gate7 payload q = (q ≡ gate 7) × Begins 23 payload

module _ (g : Gateway) (h : locked g ≡ true) where
  module _ (P : Plan → Type 0) where
    shut_row : (first byte class : ℕ) (body below : Plan) → P (fails g) → P below → P (row g first byte (opened g) class body below)
    unfolding row gated
    shut_row first byte class body below f b = cond_cases P (eqb first byte) (λ _. rw h f) (λ _. b)

    open_row : (first byte class : ℕ) (body : Plan) → P (fails g) → (first ≡ byte → P (ask (gate class) λ granted. cond granted body (fails g)))
        → P (row g first byte (locked g) class body (fails g))
    unfolding row gated
    open_row first byte class body f b = cond_cases P (eqb first byte) (λ e. rw h (b (eqb-true _ _ e))) (λ _. f)

    -- the rule fails, or is at an unlock's gate
    pub locked-cases : (payload : List ℕ) → P (fails g) → (Begins 23 payload → P (ask (gate 7) λ granted. cond granted (unlocking g payload) (fails g))) → P (rule g payload)
    unfolding rule table
    locked-cases payload f unlock =
        cond_cases P (ltb 0 (length payload))
        (λ some_byte.
        shut_row _ 11 1 _ _ f
        (shut_row _ 17 2 _ _ f
        (shut_row _ 25 2 _ _ f
        (shut_row _ 18 3 _ _ f
        (shut_row _ 19 4 _ _ f
        (shut_row _ 13 5 _ _ f
        (shut_row _ 22 6 _ _ f
        (open_row _ 23 7 _ f λ first. unlock (record { some_byte = ltb-true _ _ some_byte; first = first })))))))))
        (λ _. f)

  module _ (payload : List ℕ) where
    abbrev Lands : Plan → Type 0
    Lands = EveryLanding (LockedLanding g payload)

    locked-lands : Lands (rule g payload)
    unfolding unlocking
    locked-lands =
        locked-cases Lands payload (stays refl refl) λ begins granted.
        cond_cases Lands granted
        (λ _.
        part-cases Lands (string_at payload 1) (λ _ _. stays refl refl) λ f t k _.
        cond_cases Lands (same g.lock (cut_of payload f t)) (λ _. unlocks begins refl) (λ _. stays refl refl))
        (λ _. stays refl refl)

    abbrev Asks : Plan → Type 0
    Asks = EveryAsk (Gate7 payload)

    locked-asks : Asks (rule g payload)
    unfolding unlocking
    locked-asks =
        locked-cases Asks payload tt λ begins. (
          (refl, begins),
          λ granted.
              cond_cases Asks granted
              (λ _. part-cases Asks (string_at payload 1) (λ _ _. tt) λ f t k _. cond_cases Asks (same g.lock (cut_of payload f t)) (λ _. tt) (λ _. tt))
              (λ _. tt),
        )

-- ## A run while locked

locked-advance : (r : Millis) (g : Gateway) → locked g ≡ true → locked (advance r g) ≡ true
locked-advance r g h = rw (advance-lock r g) h

record Shut (b : Bool) (m : Millis) (before : Gateway) (es : List Event) (end : Gateway) : Type 0 where
  all-fail : Every (λ t. t.landing ≡ FAILURE) (turns_from m es)
  exactly : end ≡ settled (some_accepted b es) (heard_in m es) before
  only_gate_7 : EveryQuestion (λ c. Gate7 c.frame.payload) es

-- the run from a gateway on, and from a call on by what the call gives
abbrev Run : List Call → Bool → Millis → Gateway → Gateway → Type 0
Run cs b m g before = NoUnlocking (turns_from m (events g cs)) → Shut b m before (events g cs) (end_of g cs)

From : List Call → Bool → Millis → Gateway → Call → Option ℕ → Result → Type 0
From cs b m before c o r =
    NoUnlocking (turns_from m (event_by c r ∷ events r.gateway cs)) → Shut b m before (event_by c r ∷ events r.gateway cs) (end_of r.gateway cs)

asked-while_locked : (cs : List Call) (b : Bool) (m : Millis) (g before : Gateway) (c : Call) (q : Question) → Gate7 c.frame.payload q
    → Run cs true (later m c.reading) g before
    → From cs b m before c none (record { outcome = asks q; gateway = g })
unfolding From turns_from heard_in some_accepted heard is_accepted turn
asked-while_locked cs b m g before c q gated run no-unlocking =
    let after = run no-unlocking in
    record { all-fail = after.all-fail; exactly = after.exactly; only_gate_7 = (λ p e. let same : q ≡ p = cc in rw same at gated, after.only_gate_7) }

landed_while_locked : (cs : List Call) (b : Bool) (m : Millis) (g before : Gateway) (c : Call) (x : Landed) → LockedLanding g c.frame.payload x.landing x.gateway
    → Run cs true (later m c.reading) g before
    → From cs b m before c none (landing_result x)
unfolding From turns_from heard_in some_accepted heard is_accepted turn
landed_while_locked cs b m g before c x (unlocks begins s) run no-unlocking = absurd (no-unlocking.0 (begins, s))
landed_while_locked cs b m g before c x (stays f e) run no-unlocking =
    rw e
    (let after = run (rw e at no-unlocking.1) in
    record { all-fail = (f, after.all-fail); exactly = after.exactly; only_gate_7 = (λ q never. absurd (lands_not_asks _ q never), after.only_gate_7) })

stays_locked : (cs : List Call) (b : Bool) (m : Millis) (g before : Gateway) → Together b m g before → locked g ≡ true → Run cs b m g before
unfolding events turns_from heard_in end_of some_accepted heard is_accepted turn From
stays_locked [] b m g before t h = λ _. record { all-fail = tt; exactly = t.same; only_gate_7 = tt }
stays_locked (c ∷ cs) b m g before t h =
    let now = advance c.reading g in
    let l = locked-advance c.reading g h in
    let run = stays_locked cs true (later m c.reading) now before (together_asked b m c.reading g before t) l in
    own_cases g c (From cs b m before c)
    (λ n no-unlocking.
    let after = stays_locked cs b m g before t h no-unlocking in
    record { all-fail = after.all-fail; exactly = after.exactly; only_gate_7 = (λ q never. absurd (refused_not_asks n q never), after.only_gate_7) })
    (λ q needs. asked-while_locked cs b m now before c q (needs_has (Gate7 c.frame.payload) needs (locked-asks now l c.frame.payload)) run)
    (landed_while_locked cs b m now before c (alone (own_answers c) (plan_of g c))
    (alone-has (LockedLanding now c.frame.payload) (own_answers c) (plan_of g c) (locked-lands now l c.frame.payload)) run)

pub while_locked : WhileLocked
while_locked g cs h no-unlocking =
    let run = stays_locked cs false zero_millis g g (together zero_millis g zero-le) h no-unlocking in
    record {
      all-fail = run.all-fail;
      only_expiry = rw run.exactly (advance-settled (some_accepted false (events g cs)) (greatest (events g cs)) g);
      exactly = run.exactly;
      only_gate_7 = run.only_gate_7;
    }

-- ## The lock's success

pub between_lock_and_unlock : BetweenLockAndUnlock
between_lock_and_unlock g c passphrase begins carries some_byte e cs =
    let stored = ap (λ after. after.lock) (lock_holds g c passphrase begins carries e) in
    while_locked (call g c).gateway cs (rw stored (lt-ltb _ _ some_byte))
