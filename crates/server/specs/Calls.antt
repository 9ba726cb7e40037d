-- What one call gives: outcome, state, and every byte of store and reply buffer.
use Rattle.std.specs.Prelude.{ℕ, ◌≡◌, List, length}
use Rattle.rule.specs.declared.Millis.{Millis}
use Rattle.rule.specs.Gateway.{advance}
use Rattle.rule.specs.Calls.{given, lent_length, refusal_of, served}
use Rattle.table.specs.declared.State.{State}
use Rattle.table.specs.Meaning.{gateway_of}
use Rattle.table.specs.Soundness.{sound_state}
use Rattle.requests.specs.declared.Answers.{Answers}
use Rattle.requests.specs.declared.Outcome.{Outcome}
use Rattle.requests.specs.declared.Outcome.TheVariants.{Refused}
use Rattle.requests.specs.Outcomes.{lent_of}
use Rattle.requests.specs.Ends.{Done, laid_out}

module _ (state : State) (store payload : List ℕ) (reading : Millis) (answers : Answers) (signature buffer : List ℕ) where
  -- the first refusal that applies changes nothing; else it is what the rule gives of the gateway that state and store mean
  unfoldable pub call_of : Done
  call_of =
      given
      (refusal_of (length buffer) (length store) (sound_state state store) (length payload) (lent_length (lent_of answers signature).signature))
      (laid_out buffer (served (advance reading (gateway_of state store)) (record { payload = payload }) (lent_of answers signature)))
      λ n. record { called = record { outcome = Refused n; state = state }; store = store; reply = buffer }

  -- what a call gave is what `call_of` gives: the contract of every form of the call
  pub record Meets (outcome : Outcome) (after : State) (store_after reply : List ℕ) : Type 0 where
    pub outcome_is : outcome ≡ call_of.called.outcome
    pub state_is : after ≡ call_of.called.state
    pub store_is : store_after ≡ call_of.store
    pub reply_is : reply ≡ call_of.reply
