-- The inner calls (#113): "let the loop's own calls skip the test where the previous call's result is proved sound". They require a sound state and store,
-- and give what every call gives; "refusal 3 never occurs on the inner path", nor does 2.
use Rattle.std.specs.Prelude.{ℕ, ◌≢◌, List}
use Rattle.rule.specs.declared.Millis.{Millis}
use Rattle.table.specs.declared.State.{State}
use Rattle.table.specs.Soundness.{Sound}
use Rattle.requests.specs.declared.Answers.{Answers}
use Rattle.requests.specs.declared.Outcome.{Outcome}
use Rattle.requests.specs.declared.Outcome.TheVariants.{Refused}
use Rattle.server.specs.declared.first.First.{First}
use Rattle.server.specs.declared.first.First.TheVariants as first
use Rattle.server.specs.Calls.{Meets}
use Rattle.server.specs.First.{FirstMeets}

-- the contract of every form of the inner call
pub record InnerMeets (state : State) (store payload : List ℕ) (reading : Millis) (answers : Answers) (signature buffer : List ℕ) (outcome : Outcome) (after : State) (store_after reply : List ℕ) : Type 0 where
  pub meets : Meets state store payload reading answers signature buffer outcome after store_after reply
  pub sound : Sound after store_after  -- what the next inner call requires
  pub never_2 : outcome ≢ Refused 2
  pub never_3 : outcome ≢ Refused 3

-- and of a request's first call on the inner path
pub record InnerFirstMeets (state : State) (store bytes : List ℕ) (reading : Millis) (buffer : List ℕ) (answer : First) (after : State) (store_after reply : List ℕ) : Type 0 where
  pub meets : FirstMeets state store bytes reading buffer answer after store_after reply
  pub sound : Sound after store_after
  pub never_2 : answer ≢ first.Refused 2
  pub never_3 : answer ≢ first.Refused 3
