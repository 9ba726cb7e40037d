-- A run of the code is a run of the rule: each step ends as the rule's call does (Leavings), and the state and store that it leaves are sound
-- and mean what the rule's next call starts from. So the promises of order hold of what the code gave. Assumed: a sound state and store at
-- the start, and steps that meet the contract of `call` (`ByCall`).
use Prim.Native.Nat.{ℕ}
use mathlib.Core.Path.{◌≡◌, refl, sym, ap, ◌∙◌, subst}
use mathlib.Core.Logic.{◌≢◌}
use mathlib.Core.Bool.{Bool, true, false, not}
use mathlib.Core.Option.{Option, some}
use mathlib.Core.List.{List, [], ◌∷◌, ◌++◌}
use native.Mathlib.Omega.{arith}
use borrow.Author.Tests.{lt-ltb}
use lib.Dec.{ltb}
use lib.ListN.{replicate}
use Rattle.wire.specs.Limits.{payload_limit, store_size, signature_limit, reply_room}
use Rattle.wire.specs.Numbers.{Bytes}
use Rattle.rule.specs.Gateway.{Gateway, fresh, locked}
use Rattle.rule.specs.Rule.{gate}
use Rattle.rule.specs.Calls as calls
use Rattle.rule.specs.Calls.{refusal_of, Frame, Call, refused, asks, refusal, call}
use Rattle.rule.specs.Runs.{Event, events, end_of, calls_of, Every, is_accepted, accepted_in, turns, Oracle}
use Rattle.rule.specs.Order.{EveryAccepted, Keeps, AsOneAtATime, own_frame, own_answers, NoUnlocking, EveryQuestion, OnlyExpiry}
use Rattle.rule.specs.Words.{Begins}
use Rattle.rule.specs.Comments.{TextComments, BytesIn}
use Rattle.rule.proofs.Cases.{cond_cases, true_not_false}
use Rattle.rule.proofs.PositionLaws.{some_not_none}
use Rattle.rule.proofs.RefusalLaws.{refused_by}
use Rattle.rule.proofs.Demands as demands
use Rattle.rule.proofs.LockLaws.{lock_holds}
use Rattle.rule.proofs.LockedRuns as locks
use Rattle.rule.proofs.SoundLaws.{never_refused_3}
use Rattle.rule.proofs.CommentLaws.{text_from_fresh}
use Rattle.table.specs.declared.State.{State}
use Rattle.table.specs.Meaning.{gateway_of, state_of}
use Rattle.table.specs.Soundness.{Means}
use Rattle.table.proofs.WritingLaws.{sound-meaning, fresh-means}
use Rattle.requests.specs.declared.Outcome.{Outcome}
use Rattle.requests.specs.declared.Outcome.TheVariants.{Refused, Gate, Check, Confirm, Sign, Reply, Close}
use Rattle.requests.specs.Outcomes.{code, outcome_values, outcome_for, outcome_in}
use Rattle.server.specs.Runs.{Step, ByCall, EndedWith, Asked, Unchanged, EndsAs, outcome_after, as_call, event_of, events_of, end_state, end_store, meant_end, accepted_steps, RuleRun, IsARun, CodeRun, CodeIsARun}
use Rattle.server.specs.Runs.{CodeDemand3, CodeAsLent, CodeRefusedDropOut, CodeOnlyExpiry, CodeWhileLocked, CodeBetweenLockAndUnlock, CodeNeverRefused3, CodeTextFromFresh, CodePromises}
use Rattle.server.proofs.Leavings.{no_second_answer, code-refusals, code-refusal_leaves, step-ends, ended_is, asked-question, replied}
use Rattle.server.proofs.Leavings.{code-question_leaves, code-close_leaves, code-failure_leaves, code-reply_leaves, code-reply_bytes, code-others_stay}
use Rattle.server.proofs.Numbers.{code-numbers, code-gate_asks, code-hashes}
use Rattle.server.proofs.Lists.{code-lists}

-- ## The run

record Lifted (state : State) (store : List ℕ) (g : Gateway) (ks : List Step) : Type 0 where
  calls : RuleRun g ks
  events-are : events g (calls_of (events_of ks)) ≡ events_of ks
  end : Means (end_state state ks) (end_store store ks) (end_of g (calls_of (events_of ks)))

lift : (ks : List Step) (state : State) (store : List ℕ) (g : Gateway) → Means state store g → CodeRun ByCall state store ks → Lifted state store g ks
unfolding end_state end_store events end_of
lift [] state store g m run = record { calls = tt; events-are = refl; end = m }
lift (k ∷ ks) state store g m run =
    let e = subst (λ (g : Gateway). EndsAs k (call g (as_call k))) m.gateway (step-ends state store m.sound k run.0) in
    let rest = lift ks k.gave.state k.gave.store (call g (as_call k)).gateway e.means run.1 in
    let ended = sym (ended_is k (call g (as_call k)) e) in
    record {
      calls = (e, rest.calls);
      events-are = λ i. record { by = as_call k; outcome = ended i } ∷ rest.events-are i;
      end = rest.end;
    }

pub code-is_a_run : CodeIsARun ByCall
code-is_a_run state store ks S run =
    let l = lift ks state store (gateway_of state store) (record { gateway = refl; sound = S }) run in
    record { calls = l.calls; runs = record { events-are = l.events-are; end_is = sym l.end.gateway }; end_sound = l.end.sound }

-- ## Refused steps drop out

refused_by_values : (o : Outcome) (out : List ℕ) → is_accepted (outcome_in (outcome_values o) out) ≡ false → (n : ℕ) × (outcome_values o ≡ 0 ∷ n ∷ [])
unfolding is_accepted outcome_for
refused_by_values (Refused n) out e = (n, refl)
refused_by_values (Gate class) out e = absurd (true_not_false e)
refused_by_values (Check from to) out e = absurd (true_not_false e)
refused_by_values (Confirm n) out e = absurd (true_not_false e)
refused_by_values (Sign n from to hash) out e = absurd (true_not_false e)
refused_by_values (Reply n) out e = absurd (true_not_false e)
refused_by_values Close out e = absurd (true_not_false e)

-- a call that is not accepted changes nothing
no_step : (state : State) (store : List ℕ) (k : Step) → ByCall state store k → is_accepted (outcome_after k) ≡ false → Unchanged state store k
no_step state store k m e =
    let (n, is) = refused_by_values m.outcome k.gave.reply (ap (λ (vs : List ℕ). is_accepted (outcome_in vs k.gave.reply)) (sym m.ended_is) ∙ e) in
    code-refusal_leaves state store k n m (m.ended_is ∙ is)

module _ (Met : State → List ℕ → Step → Type 0) (by_call : (state : State) (store : List ℕ) (k : Step) → Met state store k → ByCall state store k) where
  -- xs is ks without its refused steps
  record Alike (state : State) (store : List ℕ) (xs ks : List Step) : Type 0 where
    run : CodeRun Met state store xs
    accepted_events : events_of xs ≡ accepted_in (events_of ks)
    same-state : end_state state xs ≡ end_state state ks
    same_store : end_store store xs ≡ end_store store ks

  drop-out : (ks : List Step) (state : State) (store : List ℕ) → CodeRun Met state store ks → Alike state store (accepted_steps ks) ks
  unfolding accepted_steps accepted_in end_state end_store
  drop-out [] state store run = record { run = tt; accepted_events = refl; same-state = refl; same_store = refl }
  drop-out (k ∷ ks) state store run =
      cond_cases (λ xs. Alike state store xs (k ∷ ks)) (is_accepted (outcome_after k))
      (λ accepted.
      let rest = drop-out ks k.gave.state k.gave.store run.1 in
      record {
        run = (run.0, rest.run);
        accepted_events = rw accepted (ap (λ es. event_of k ∷ es) rest.accepted_events);
        same-state = rest.same-state;
        same_store = rest.same_store;
      })
      (λ not-accepted.
      let u = no_step state store k (by_call state store k run.0) not-accepted in
      let rest = drop-out ks state store (rw (u.state_stays, u.store_stays) at run.1) in
      record {
        run = rest.run;
        accepted_events = rw not-accepted rest.accepted_events;
        same-state = rw u.state_stays rest.same-state;
        same_store = rw u.store_stays rest.same_store;
      })

  pub code-refused_drop_out : CodeRefusedDropOut Met
  code-refused_drop_out state store ks run =
      let a = drop-out ks state store run in
      record { still_a_run = a.run; accepted_events = a.accepted_events; state_stays = a.same-state; store_stays = a.same_store }

-- ## The promises, carried over

gate_7_steps : (ks : List Step) (g : Gateway) → RuleRun g ks → EveryQuestion (λ c q. (q ≡ gate 7) × Begins 23 c.frame.payload) (events_of ks)
    → Every (λ k. Asked k → EndedWith (1 ∷ 7 ∷ []) k × Begins 23 k.payload) ks
unfolding code
gate_7_steps [] g run all = tt
gate_7_steps (k ∷ ks) g run all = (
  (λ a.
      let (q, is) = asked-question k (call g (as_call k)) run.0 a in
      let (seven, begins) = all.0 q (ended_is k (call g (as_call k)) run.0 ∙ is) in
      (run.0.ended ∙ ap (λ (o : calls.Outcome). outcome_values (code o)) (is ∙ ap asks seven), begins)),
  gate_7_steps ks (call g (as_call k)).gateway run.1 all.1,
)

module _ (state : State) (store : List ℕ) (ks : List Step) (is : IsARun state store ks) where
  abbrev start : Gateway
  start = gateway_of state store

  abbrev as_calls : List Call
  as_calls = calls_of (events_of ks)

  -- what holds of the rule's events and end holds of the code's
  as_run : (P : List Event → Gateway → Type 0) → P (events start as_calls) (end_of start as_calls) → P (events_of ks) (meant_end state store ks)
  as_run P = demands.carried P start (events_of ks) (meant_end state store ks) is.runs

  while_locked : locked start ≡ true → NoUnlocking (turns (events_of ks)) → CodeOnlyExpiry state store ks
  while_locked h no-unlocking =
      let ruled = as_run (λ es end. NoUnlocking (turns es) → OnlyExpiry start es end) (locks.while_locked start as_calls h) no-unlocking in
      record { as_ruled = ruled; only_gate_7 = gate_7_steps ks start is.calls ruled.only_gate_7 }

pub code-demand_3 : CodeDemand3 ByCall
code-demand_3 frames oracles state store ks S run =
    let frame_of : Call → Frame = λ c. frames c.request in
    let oracle_of : Call → Oracle = λ c. oracles c.request in
    let g = gateway_of state store in
    as_run state store ks (code-is_a_run state store ks S run) (λ es end. EveryAccepted (Keeps frame_of oracle_of) es → AsOneAtATime frame_of oracle_of g es end)
    (demands.demand_3 frames oracles g (calls_of (events_of ks)))

pub code-as_lent : CodeAsLent ByCall
code-as_lent state store ks S run =
    let g = gateway_of state store in
    as_run state store ks (code-is_a_run state store ks S run) (AsOneAtATime own_frame own_answers g) (demands.as_lent g (calls_of (events_of ks)))

pub code-while_locked : CodeWhileLocked ByCall
code-while_locked state store ks S run = while_locked state store ks (code-is_a_run state store ks S run)

pub code-between_lock_and_unlock : CodeBetweenLockAndUnlock ByCall
code-between_lock_and_unlock state store [] lock ks passphrase S run begins carries some_byte success no-unlocking =
    let g = gateway_of state store in
    let step = step-ends state store S lock run.0 in
    let stored = ap (λ (after : Gateway). after.lock) (lock_holds g (as_call lock) passphrase begins carries (replied state store lock S run.0 _ success)) in
    let h : locked (gateway_of lock.gave.state lock.gave.store) ≡ true = rw (step.means.gateway, stored) (lt-ltb _ _ some_byte) in
    code-while_locked lock.gave.state lock.gave.store ks step.means.sound run.1 h no-unlocking
code-between_lock_and_unlock state store (k ∷ before) lock ks passphrase S run begins carries some_byte success no-unlocking =
    let sound = (step-ends state store S k run.0).means.sound in
    code-between_lock_and_unlock k.gave.state k.gave.store before lock ks passphrase sound run.1 begins carries some_byte success no-unlocking

-- ## Refusals that never occur

refused_steps : (n : ℕ) (ks : List Step) → Every (λ e. e.outcome ≢ refused n) (events_of ks) → Every (λ k. ¬ (EndedWith (0 ∷ n ∷ []) k)) ks
unfolding outcome_for
refused_steps n [] all = tt
refused_steps n (k ∷ ks) all = ((λ v. all.0 (ap (λ (vs : List ℕ). outcome_in vs k.gave.reply) v)), refused_steps n ks all.1)

-- a store of the right length is not refused
not_2 : (buffer payload lent_bytes : ℕ) (is_sound : Bool) → refusal_of buffer store_size is_sound payload lent_bytes ≢ some 2
unfolding refusal_of
not_2 buffer payload lent_bytes is_sound =
    cond_cases Not (ltb buffer reply_room) (λ _. other 1 (omega arith)) λ _.
    cond_cases Not (not is_sound) (λ _. other 3 (omega arith)) λ _.
    cond_cases Not (ltb payload_limit payload) (λ _. other 4 (omega arith)) λ _.
    cond_cases Not (ltb signature_limit lent_bytes) (λ _. other 5 (omega arith)) λ _ never.
    some_not_none (sym never)
  where
    Not : Option ℕ → Type 0
    Not o = o ≢ some 2

    other : (n : ℕ) → n ≢ 2 → Not (some n)
    other n d e = let is : n ≡ 2 = cc in d is

never_2 : (ks : List Step) (g : Gateway) → Every (λ e. e.outcome ≢ refused 2) (events g (calls_of (events_of ks)))
unfolding refusal events
never_2 [] g = tt
never_2 (k ∷ ks) g = ((λ e. not_2 _ _ _ _ (refused_by g (as_call k) 2 e)), never_2 ks (call g (as_call k)).gateway)

pub code-never_refused_3 : CodeNeverRefused3 ByCall
code-never_refused_3 state store ks S run =
    let is = code-is_a_run state store ks S run in
    let g = gateway_of state store in
    let never_3 = (never_refused_3 g (calls_of (events_of ks)) (sound-meaning state store S)).0 in
    record {
      never_3 = refused_steps 3 ks (as_run state store ks is (λ es end. Every (λ e. e.outcome ≢ refused 3) es) never_3);
      never_2 = refused_steps 2 ks (as_run state store ks is (λ es end. Every (λ e. e.outcome ≢ refused 2) es) (never_2 ks g));
      end_sound = is.end_sound;
    }

-- ## Comments from a fresh state on

bytes-in : (ks : List Step) → Every (λ k. Bytes k.payload) ks → BytesIn (calls_of (events_of ks))
bytes-in [] all = tt
bytes-in (k ∷ ks) all = (all.0, bytes-in ks all.1)

pub code-text_from_fresh : CodeTextFromFresh ByCall
code-text_from_fresh ks run bytes =
    let cs = calls_of (events_of ks) in
    let is = code-is_a_run (state_of fresh) (replicate store_size 0) ks fresh-means.sound run in
    let from_fresh : end_of fresh cs ≡ end_of (gateway_of (state_of fresh) (replicate store_size 0)) cs = ap (λ (g : Gateway). end_of g cs) (sym fresh-means.gateway) in
    subst TextComments (from_fresh ∙ is.runs.end_is) (text_from_fresh cs (bytes-in ks bytes))

-- ## All of them, of any kind of call that meets the contract of `call`

module _ (Met : State → List ℕ → Step → Type 0) (by_call : (state : State) (store : List ℕ) (k : Step) → Met state store k → ByCall state store k) where
  as_calls_all : (ks : List Step) (state : State) (store : List ℕ) → CodeRun Met state store ks → CodeRun ByCall state store ks
  as_calls_all [] state store run = tt
  as_calls_all (k ∷ ks) state store run = (by_call state store k run.0, as_calls_all ks k.gave.state k.gave.store run.1)

  pub code-promises : CodePromises Met
  code-promises = record {
    no_second_answer = λ state store k other m n. no_second_answer state store k other (by_call _ _ _ m) (by_call _ _ _ n);
    refusals = λ state store k m. code-refusals state store k (by_call _ _ _ m);
    refusal-leaves = λ state store k n m. code-refusal_leaves state store k n (by_call _ _ _ m);
    numbers = λ state store k S m. code-numbers state store k S (by_call _ _ _ m);
    gate_asks = λ state store k byte needs class S m. code-gate_asks state store k byte needs class S (by_call _ _ _ m);
    hashes = λ state store k n from to bits S m. code-hashes state store k n from to bits S (by_call _ _ _ m);
    lists = λ state store k es S m. code-lists state store k es S (by_call _ _ _ m);
    question_leaves = λ state store k S m. code-question_leaves state store k S (by_call _ _ _ m);
    close_leaves = λ state store k S m. code-close_leaves state store k S (by_call _ _ _ m);
    failure_leaves = λ state store k S m. code-failure_leaves state store k S (by_call _ _ _ m);
    reply_leaves = λ state store k bytes S m. code-reply_leaves state store k bytes S (by_call _ _ _ m);
    reply_bytes = λ state store k n S m. code-reply_bytes state store k n S (by_call _ _ _ m);
    others-stay = λ state store k m. code-others_stay state store k (by_call _ _ _ m);
    is_a_run = λ state store ks S run. code-is_a_run state store ks S (as_calls_all ks state store run);
    demand_3 = λ frames oracles state store ks S run. code-demand_3 frames oracles state store ks S (as_calls_all ks state store run);
    as_lent = λ state store ks S run. code-as_lent state store ks S (as_calls_all ks state store run);
    refused_drop_out = code-refused_drop_out Met by_call;
    while_locked = λ state store ks S run. code-while_locked state store ks S (as_calls_all ks state store run);
    between_lock_and_unlock = λ state store before lock ks passphrase S run. code-between_lock_and_unlock state store before lock ks passphrase S (as_calls_all (before ++ lock ∷ ks) state store run);
    never_refused_3 = λ state store ks S run. code-never_refused_3 state store ks S (as_calls_all ks state store run);
    text_from_fresh = λ ks run. code-text_from_fresh ks (as_calls_all ks _ _ run);
  }

pub call-promises : CodePromises ByCall
call-promises = code-promises ByCall (λ state store k m. m)
