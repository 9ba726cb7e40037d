-- The first call of a request, from the connection's bytes (#104): "connection bytes go in; out comes more needed, too long, or the first outcome with
-- the bytes used". The splitter, and once a frame is whole the call on its payload with nothing lent.
use Rattle.std.specs.Prelude.{None, ℕ, ◌≡◌, List, [], ◌∷◌}
use Rattle.wire.specs.declared.frame.Split.{Split}
use Rattle.wire.specs.declared.frame.Split.TheVariants as split
use Rattle.wire.specs.Frames.{split_of, frame_payload}
use Rattle.rule.specs.declared.Millis.{Millis}
use Rattle.table.specs.declared.State.{State}
use Rattle.requests.specs.declared.Said.TheVariants as said
use Rattle.requests.specs.declared.Signed.TheVariants as signed
use Rattle.requests.specs.declared.Answers.{Answers}
use Rattle.requests.specs.declared.Outcome.{Outcome}
use Rattle.requests.specs.declared.Outcome.TheVariants.{Gate, Check, Confirm, Sign, Reply, Close}
use Rattle.requests.specs.declared.Outcome.TheVariants as outcome
use Rattle.requests.specs.Ends.{Done}
use Rattle.requests.specs.Outcomes.{outcome_values}
use Rattle.server.specs.declared.first.First.{First}
use Rattle.server.specs.declared.first.First.TheVariants.{MoreNeeded, TooLong, Refused, Began}
use Rattle.server.specs.Calls.{call_of}

-- its number and values: 0 more needed; 1 too long; 2 refused and 01's number; 3 begun, the bytes used, and 01's number and values of the outcome
abbrev pub first_values : First → List ℕ
first_values MoreNeeded = 0 ∷ []
first_values TooLong = 1 ∷ []
first_values (Refused n) = 2 ∷ n ∷ []
first_values (Began used o) = 3 ∷ used ∷ outcome_values o

-- "no answer is lent yet"
abbrev pub nothing_lent : Answers
nothing_lent = record { gate = said.Missing; check = said.Missing; confirmation = None; signature = signed.Missing }

-- of a refusal only the number is told, of any other outcome the bytes used too
unfoldable pub first_in : ℕ → Outcome → First
first_in used (outcome.Refused n) = Refused n
first_in used (Gate class) = Began used (Gate class)
first_in used (Check from to) = Began used (Check from to)
first_in used (Confirm n) = Began used (Confirm n)
first_in used (Sign n from to hash) = Began used (Sign n from to hash)
first_in used (Reply n) = Began used (Reply n)
first_in used Close = Began used Close

-- what it gives: state, and every byte of store and reply buffer
pub record FirstDone : Type 0 where
  pub first : First
  pub state : State
  pub store : List ℕ
  pub reply : List ℕ

module _ (state : State) (store bytes : List ℕ) (reading : Millis) (buffer : List ℕ) where
  -- more needed and too long change nothing, the clock neither
  abbrev unchanged : First → FirstDone
  unchanged first = record { first = first; state = state; store = store; reply = buffer }

  abbrev called : ℕ → Done → FirstDone
  called used d = record { first = first_in used d.called.outcome; state = d.called.state; store = d.store; reply = d.reply }

  unfoldable pub first_by : Split → FirstDone
  first_by split.MoreNeeded = unchanged MoreNeeded
  first_by split.TooLong = unchanged TooLong
  first_by (split.Frame from to) = called to (call_of state store (frame_payload bytes) reading nothing_lent [] buffer)

  unfoldable pub first_of : FirstDone
  first_of = first_by (split_of bytes)

  -- what a first call gave is what `first_of` gives: the contract of every form of it
  pub record FirstMeets (first : First) (after : State) (store_after reply : List ℕ) : Type 0 where
    pub first_is : first ≡ first_of.first
    pub state_is : after ≡ first_of.state
    pub store_is : store_after ≡ first_of.store
    pub reply_is : reply ≡ first_of.reply
