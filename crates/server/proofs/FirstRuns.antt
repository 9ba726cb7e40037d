-- A first call that made a call is that call, and one that made none left state and store; so a run with first calls is a run of calls, and what is
-- promised of runs of calls holds of it. Assumed: first calls that meet the contract of `first_call`, and others that meet that of `call`.
use Prim.Native.Nat.{ℕ}
use mathlib.Core.Path.{◌≡◌, refl}
use mathlib.Core.Logic.{inl, inr}
use mathlib.Core.Bool.{Bool, true, false}
use mathlib.Core.List.{List, [], ◌∷◌}
use Rattle.table.specs.declared.State.{State}
use Rattle.server.specs.Runs.{Step, ByCall, end_state, end_store}
use Rattle.server.specs.FirstPromises.{FirstStep, ByFirst, FirstUnchanged, first, later, is_made, steps_in, any_end_state, any_end_store}
use Rattle.server.specs.FirstPromises.{ByEither, IsARunOfCalls, FirstIsTwoSteps, FirstRuns, FirstPromises}
use Rattle.server.proofs.Lift.{code-promises}
use Rattle.server.proofs.FirstLaws.{nothing-is_lent, by_made, no_second_first, first_is_two_steps, first_refusals, first_refused, first_uses, first_uses_frame, first_asks, first_begun, first_made}

module _ (Met : State → List ℕ → FirstStep → Type 0) (by_first : (state : State) (store : List ℕ) (f : FirstStep) → Met state store f → ByFirst state store f)
    (MetLater : State → List ℕ → Step → Type 0) (by_call : (state : State) (store : List ℕ) (k : Step) → MetLater state store k → ByCall state store k) where
  either_by_call : (state : State) (store : List ℕ) (k : Step) → ByEither Met MetLater state store k → ByCall state store k
  either_by_call state store k (inl m) = rw m.step_is ((by_made state store m.first (by_first state store m.first m.met)).step m.made)
  either_by_call state store k (inr m) = by_call state store k m

  runs : FirstRuns Met MetLater
  unfolding steps_in any_end_state any_end_store end_state end_store
  runs state store [] run = record { run = tt; end_state_same = refl; end_store_same = refl }
  runs state store (later k ∷ cs) run =
      let rest = runs k.gave.state k.gave.store cs run.1 in
      record { run = (inr run.0, rest.run); end_state_same = rest.end_state_same; end_store_same = rest.end_store_same }
  runs state store (first f ∷ cs) run =
      by_test (is_made f) refl (runs f.gave.state f.gave.store cs run.1) (λ stays. runs state store cs (rw (stays.state_stays, stays.store_stays) at run.1))
    where
      by_test : (b : Bool) → is_made f ≡ b → IsARunOfCalls Met MetLater f.gave.state f.gave.store cs → (FirstUnchanged state store f → IsARunOfCalls Met MetLater state store cs)
          → IsARunOfCalls Met MetLater state store (first f ∷ cs)
      by_test true made rest _ = record {
        run = rw made (inl (record { first = f; met = run.0; made = made; step_is = refl; same-request = refl; on_its_payload = record { payload_is = refl; reading_is = refl; nothing_lent = nothing-is_lent; buffer_is = refl } }), rest.run);
        end_state_same = rw made rest.end_state_same;
        end_store_same = rw made rest.end_store_same;
      }
      by_test false unmade _ from-here =
          let stays = (by_made state store f (by_first state store f run.0)).stays unmade in
          let rest = from-here stays in
          record {
            run = rw unmade rest.run;
            end_state_same = rw (unmade, stays.state_stays) rest.end_state_same;
            end_store_same = rw (unmade, stays.store_stays) rest.end_store_same;
          }

  two_steps : FirstIsTwoSteps Met MetLater
  two_steps state store f m =
      let steps = first_is_two_steps state store f (by_first state store f m) in
      record { more_needed = steps.more_needed; too_long = steps.too_long; whole = λ whole k met. steps.whole whole k (by_call state store k met) }

  pub first_promises : FirstPromises Met MetLater
  first_promises = record {
    no_second_answer = λ state store f other m n. no_second_first state store f other (by_first _ _ _ m) (by_first _ _ _ n);
    two_steps = two_steps;
    refusals = λ state store f m. first_refusals state store f (by_first _ _ _ m);
    refused = λ state store f n m. first_refused state store f n (by_first _ _ _ m);
    uses = λ state store f used ended m. first_uses state store f used ended (by_first _ _ _ m);
    uses_frame = λ state store f payload rest used ended m. first_uses_frame state store f payload rest used ended (by_first _ _ _ m);
    asks = λ state store f S m. first_asks state store f S (by_first _ _ _ m);
    begun = λ state store f used ended m. first_begun state store f used ended (by_first _ _ _ m);
    made = λ state store f cs m. first_made state store f cs (by_first _ _ _ m);
    runs = runs;
    as_calls_all = code-promises (ByEither Met MetLater) either_by_call;
  }

pub call-first_promises : FirstPromises ByFirst ByCall
call-first_promises = first_promises ByFirst (λ state store f m. m) ByCall (λ state store k m. m)
