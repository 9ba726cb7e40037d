-- What the exported calls give: what `call_of` and `first_of` give, flat.
use Rattle.std.specs.Prelude.{ℕ, ◌≡◌, ◌≢◌, List}
use Rattle.rule.specs.declared.Millis.{Millis}
use Rattle.table.specs.declared.State.{State}
use Rattle.table.specs.Soundness.{Sound}
use Rattle.requests.specs.Ends.{Done}
use Rattle.server.specs.Calls.{call_of}
use Rattle.server.specs.First.{FirstDone, first_of}
use Rattle.flat.specs.declared.FlatAnswers.{FlatAnswers}
use Rattle.flat.specs.declared.FlatOutcome.{FlatOutcome}
use Rattle.flat.specs.declared.FlatFirst.{FlatFirst}
use Rattle.flat.specs.Flat.{answers_of, numbered, flat_of, unbegun_first, flat_first}

module _ (state : State) (store payload : List ℕ) (reading : Millis) (answers : FlatAnswers) (signature buffer : List ℕ) where
  abbrev called : Done
  called = call_of state store payload reading (answers_of answers) signature buffer

  -- what it gave is what `call_of` gives, flat
  pub record FlatMeets (outcome : FlatOutcome) (after : State) (store_after reply : List ℕ) : Type 0 where
    pub outcome_is : outcome ≡ flat_of called.called.outcome
    pub state_is : after ≡ called.called.state
    pub store_is : store_after ≡ called.store
    pub reply_is : reply ≡ called.reply

  -- the inner call's (#113), which requires a sound state and store: it leaves a sound one too, and refuses neither the store nor the state
  pub record FlatInnerMeets (outcome : FlatOutcome) (after : State) (store_after reply : List ℕ) : Type 0 where
    pub meets : FlatMeets outcome after store_after reply
    pub sound : Sound after store_after  -- what the next inner call requires
    pub never_2 : outcome ≢ numbered 0 2
    pub never_3 : outcome ≢ numbered 0 3

module _ (state : State) (store bytes : List ℕ) (reading : Millis) (buffer : List ℕ) where
  abbrev first_done : FirstDone
  first_done = first_of state store bytes reading buffer

  -- what it gave is what `first_of` gives, flat
  pub record FlatFirstMeets (first : FlatFirst) (after : State) (store_after reply : List ℕ) : Type 0 where
    pub first_is : first ≡ flat_first first_done.first
    pub state_is : after ≡ first_done.state
    pub store_is : store_after ≡ first_done.store
    pub reply_is : reply ≡ first_done.reply

  pub record FlatInnerFirstMeets (first : FlatFirst) (after : State) (store_after reply : List ℕ) : Type 0 where
    pub meets : FlatFirstMeets first after store_after reply
    pub sound : Sound after store_after
    pub never_2 : first ≢ unbegun_first 2 2
    pub never_3 : first ≢ unbegun_first 2 3
