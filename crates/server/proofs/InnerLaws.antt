-- A call that meets its contract on a sound state and store leaves a sound one and is refused neither for the store nor for the state, as a run of
-- one call is. Assumes nothing.
use Prim.Native.Nat.{ℕ, ◌≤◌, ◌<◌}
use native.Mathlib.Omega.{arith}
use mathlib.Core.Path.{refl, sym, ap, ◌∙◌, subst}
use mathlib.Core.Logic.{⊎_elim}
use mathlib.Core.List.{List, [], ◌∷◌}
use lib.ListN.{length, get_or}
use Rattle.wire.specs.Limits.{reply_room}
use Rattle.wire.proofs.Reading.{le_or_lt}
use Rattle.rule.specs.declared.Millis.{Millis}
use Rattle.table.specs.declared.State.{State}
use Rattle.table.specs.Soundness.{Sound}
use Rattle.requests.specs.declared.Answers.{Answers}
use Rattle.requests.specs.declared.Outcome.{Outcome}
use Rattle.requests.specs.Outcomes.{outcome_values}
use Rattle.server.specs.declared.first.First.{First}
use Rattle.server.specs.Calls.{Meets}
use Rattle.server.specs.First.{first_values, FirstMeets}
use Rattle.server.specs.Runs.{Step, ByCall, NeverUnsound, end_state, end_store}
use Rattle.server.specs.FirstPromises.{FirstStep, ByFirst, FirstEnded, first, steps_in, any_end_state, any_end_store}
use Rattle.server.specs.Inner.{InnerMeets, InnerFirstMeets}
use Rattle.server.proofs.Lift.{code-promises}
use Rattle.server.proofs.FirstRuns.{call-first_promises}

one_call : (state : State) (store : List ℕ) (k : Step) → Sound state store → ByCall state store k → NeverUnsound state store (k ∷ [])
one_call state store k S by = (code-promises ByCall (λ s x j m. m)).never_refused_3 state store (k ∷ []) S (by, tt)

pub inner_meets : (state : State) (store payload : List ℕ) (reading : Millis) (answers : Answers) (signature buffer : List ℕ) (outcome : Outcome) (after : State) (store_after reply : List ℕ) → Sound state store
    → Meets state store payload reading answers signature buffer outcome after store_after reply → InnerMeets state store payload reading answers signature buffer outcome after store_after reply
unfolding end_state end_store
inner_meets state store payload reading answers signature buffer outcome after store_after reply S m =
    let k : Step = record {
      request = 0;
      payload = payload;
      reading = reading;
      answers = answers;
      signature = signature;
      buffer = buffer;
      gave = record { ended = outcome_values outcome; state = after; store = store_after; reply = reply };
    } in
    let never = one_call state store k S (record { outcome = outcome; ended_is = refl; meets = m }) in
    record { meets = m; sound = never.end_sound; never_2 = λ e. never.never_2.0 (ap outcome_values e); never_3 = λ e. never.never_3.0 (ap outcome_values e) }

pub inner_first_meets : (state : State) (store bytes : List ℕ) (reading : Millis) (buffer : List ℕ) (answer : First) (after : State) (store_after reply : List ℕ) → Sound state store
    → FirstMeets state store bytes reading buffer answer after store_after reply → InnerFirstMeets state store bytes reading buffer answer after store_after reply
unfolding any_end_state any_end_store
inner_first_meets state store bytes reading buffer answer after store_after reply S m =
    let run = call-first_promises.runs state store (first f ∷ []) (by, tt) in
    let never = call-first_promises.as_calls_all.never_refused_3 state store (steps_in (first f ∷ [])) S run.run in
    record {
      meets = m;
      sound = subst (λ (x : List ℕ). Sound after x) run.end_store_same (subst (λ (s : State). Sound s (end_store store (steps_in (first f ∷ [])))) run.end_state_same never.end_sound);
      never_2 = λ e. unrefused 2 (omega arith) (ap first_values e);
      never_3 = λ e. unrefused 3 (omega arith) (ap first_values e);
    }
  where
    f : FirstStep
    f = record { request = 0; bytes = bytes; reading = reading; buffer = buffer; gave = record { ended = first_values answer; state = after; store = store_after; reply = reply } }

    by : ByFirst state store f
    by = record { first = answer; ended_is = refl; meets = m }

    unrefused : (n : ℕ) → 2 ≤ n → FirstEnded (2 ∷ n ∷ []) f → ⊥
    unrefused n from-2 e =
        ⊎_elim
        (λ (room : reply_room ≤ length buffer). (call-first_promises.refusals state store f by).accepted room S n e)
        (λ (short : length buffer < reply_room).
        let whole = (call-first_promises.refused state store f n by e).only_whole in
        let is-1 = (call-first_promises.refusals state store f by).first whole short in
        omega (arith, from-2, ap (λ (vs : List ℕ). get_or vs 1 0) (sym e ∙ is-1)))
        (le_or_lt reply_room (length buffer))
