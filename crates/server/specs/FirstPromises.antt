-- What the first call promises, said of what it gave in numbers, and runs that begin their requests with it. The proofs are in proofs/FirstLaws.antt and
-- FirstRuns.antt; `Met` says what kind of first call it is: `ByFirst`, or in crate gateway `ByFirstExport`.
use Rattle.std.specs.Prelude.{ℕ, ◌+◌, ◌≤◌, ◌<◌, ◌≡◌, ◌≢◌, ◌⊎◌, Bool, true, cond, List, [], ◌∷◌, ◌++◌, eqb, ltb, length, get_or, drop}
use Rattle.wire.specs.Limits.{payload_limit, store_size, reply_room}
use Rattle.wire.specs.Read.{cut_of}
use Rattle.wire.specs.Write.{string}
use Rattle.wire.specs.Frames.{split_of, split_number, frame_payload}
use Rattle.wire.specs.Promises.{OneToOne}
use Rattle.rule.specs.declared.Millis.{Millis}
use Rattle.rule.specs.Calls as rule
use Rattle.table.specs.declared.State.{State}
use Rattle.table.specs.Soundness.{Sound}
use Rattle.requests.specs.Outcomes.{lent_of}
use Rattle.server.specs.declared.first.First.{First}
use Rattle.server.specs.First.{first_values, nothing_lent, FirstMeets}
use Rattle.server.specs.Runs.{Gave, Step, EndedWith, failure_bytes, CodeRun, end_state, end_store, CodePromises}

-- ## One first call

-- its number and values tell it from every other answer
abbrev pub FirstsApart : Type 0
FirstsApart = OneToOne First (List ℕ) first_values

-- as it was made, and what it gave
pub record FirstStep : Type 0 where
  pub request : ℕ  -- which request it begins, once its frame is whole
  pub bytes : List ℕ  -- of the connection
  pub reading : Millis
  pub buffer : List ℕ  -- the reply buffer at entry
  pub gave : Gave

-- the same first call, giving this
abbrev pub first_giving : FirstStep → Gave → FirstStep
first_giving f gave = record { request = f.request; bytes = f.bytes; reading = f.reading; buffer = f.buffer; gave = gave }

-- it gave what meets the contract of `first_call`
pub record ByFirst (state : State) (store : List ℕ) (f : FirstStep) : Type 0 where
  pub first : First
  pub ended_is : f.gave.ended ≡ first_values first
  pub meets : FirstMeets state store f.bytes f.reading f.buffer first f.gave.state f.gave.store f.gave.reply

abbrev pub FirstEnded : List ℕ → FirstStep → Type 0
FirstEnded values f = f.gave.ended ≡ values

-- the bytes hold a whole frame
abbrev pub Whole : FirstStep → Type 0
Whole f = split_number (split_of f.bytes) ≡ 2

abbrev pub payload_in : FirstStep → List ℕ
payload_in f = frame_payload f.bytes

-- nothing changed, the clock neither
pub record FirstUnchanged (state : State) (store : List ℕ) (f : FirstStep) : Type 0 where
  pub state_stays : f.gave.state ≡ state
  pub store_stays : f.gave.store ≡ store
  pub buffer_stays : f.gave.reply ≡ f.buffer

-- ## "Its answer equals the two steps done one after the other."

-- the second step: a call on the payload, with nothing lent
pub record OnPayload (f : FirstStep) (k : Step) : Type 0 where
  pub payload_is : k.payload ≡ payload_in f
  pub reading_is : k.reading ≡ f.reading
  pub nothing_lent : lent_of k.answers k.signature ≡ rule.nothing_lent
  pub buffer_is : k.buffer ≡ f.buffer

-- a refusal and its number alone, or else the frame's bytes and what the call ended with; state, store and reply buffer are the call's
pub record AsCalled (f : FirstStep) (k : Step) : Type 0 where
  pub refused : (n : ℕ) → EndedWith (0 ∷ n ∷ []) k → FirstEnded (2 ∷ n ∷ []) f
  pub begun : ((n : ℕ) → ¬ (EndedWith (0 ∷ n ∷ []) k)) → FirstEnded (3 ∷ (4 + length (payload_in f)) ∷ k.gave.ended) f
  pub state_is : f.gave.state ≡ k.gave.state
  pub store_is : f.gave.store ≡ k.gave.store
  pub reply_is : f.gave.reply ≡ k.gave.reply

pub record TwoSteps (Calls : State → List ℕ → Step → Type 0) (state : State) (store : List ℕ) (f : FirstStep) : Type 0 where
  pub more_needed : split_number (split_of f.bytes) ≡ 0 → FirstEnded (0 ∷ []) f × FirstUnchanged state store f
  pub too_long : split_number (split_of f.bytes) ≡ 1 → FirstEnded (1 ∷ []) f × FirstUnchanged state store f
  pub whole : Whole f → (k : Step) → Calls state store k → OnPayload f k → AsCalled f k

-- ## Refusals

-- "1, 2 and 3 are tested only when a frame is whole; 4 and 5 no longer occur here"
pub record FirstRefusalsInOrder (state : State) (store : List ℕ) (f : FirstStep) : Type 0 where
  pub first : Whole f → length f.buffer < reply_room → FirstEnded (2 ∷ 1 ∷ []) f
  pub second : Whole f → reply_room ≤ length f.buffer → length store ≢ store_size → FirstEnded (2 ∷ 2 ∷ []) f
  pub third : Whole f → reply_room ≤ length f.buffer → length store ≡ store_size → (Sound state store → ⊥) → FirstEnded (2 ∷ 3 ∷ []) f
  pub accepted : reply_room ≤ length f.buffer → Sound state store → (n : ℕ) → ¬ (FirstEnded (2 ∷ n ∷ []) f)

-- of a refusal, on any state and store: its number is 1, 2 or 3
pub record FirstRefused (state : State) (store : List ℕ) (f : FirstStep) (n : ℕ) : Type 0 where
  pub only_whole : Whole f
  pub from_1 : 1 ≤ n
  pub to_3 : n ≤ 3
  pub leaves : FirstUnchanged state store f

-- ## The bytes used

-- the frame's, its length in front included: the payload lies behind its four bytes, up to where they end
pub record Uses (f : FirstStep) (used : ℕ) : Type 0 where
  pub used_is : used ≡ 4 + length (payload_in f)
  pub payload_is : payload_in f ≡ cut_of f.bytes 4 used
  pub within : used ≤ length f.bytes

-- of a frame, with whatever stands behind it
pub record UsesFrame (f : FirstStep) (payload rest : List ℕ) (used : ℕ) : Type 0 where
  pub frame_only : used ≡ length (string payload)
  pub rest-is : drop used f.bytes ≡ rest

-- ## The first outcome

-- nothing is lent, so it is the gate's question or FAILURE
abbrev pub GateOrFailure : FirstStep → Type 0
GateOrFailure f =
    ((class : ℕ) × FirstEnded (3 ∷ (4 + length (payload_in f)) ∷ 1 ∷ class ∷ []) f)
    ⊎ (FirstEnded (3 ∷ (4 + length (payload_in f)) ∷ 5 ∷ 5 ∷ []) f × (f.gave.reply ≡ failure_bytes ++ drop 5 f.buffer))

-- ## Runs

-- a call of a run: a request's first, from the connection's bytes, or one on a payload
pub data AnyCall : Type 0 where
  first : FirstStep → AnyCall
  later : Step → AnyCall

-- 01's number and values of the call that was made, read off a first call's
abbrev pub ended_in : List ℕ → List ℕ
ended_in values = cond (eqb (get_or values 0 0) 2) (0 ∷ drop 1 values) (drop 2 values)

-- the call that a first call made, where a frame was whole
abbrev pub step_in : FirstStep → Step
step_in f = record {
  request = f.request;
  payload = payload_in f;
  reading = f.reading;
  answers = nothing_lent;
  signature = [];
  buffer = f.buffer;
  gave = record { ended = ended_in f.gave.ended; state = f.gave.state; store = f.gave.store; reply = f.gave.reply };
}

abbrev pub is_made : FirstStep → Bool
is_made f = ltb 1 (get_or f.gave.ended 0 0)

-- the calls of a run: more needed and too long made none
unfoldable pub steps_in : List AnyCall → List Step
steps_in [] = []
steps_in (first f ∷ cs) = cond (is_made f) (step_in f ∷ steps_in cs) (steps_in cs)
steps_in (later k ∷ cs) = k ∷ steps_in cs

-- it is among them exactly where a frame is whole, and every later call is
pub record MadeOfWhole (f : FirstStep) (cs : List AnyCall) : Type 0 where
  pub whole : Whole f → steps_in (first f ∷ cs) ≡ step_in f ∷ steps_in cs
  pub other : split_number (split_of f.bytes) ≢ 2 → steps_in (first f ∷ cs) ≡ steps_in cs
  pub later-too : (k : Step) → steps_in (later k ∷ cs) ≡ k ∷ steps_in cs

unfoldable pub any_end_state : State → List AnyCall → State
any_end_state state [] = state
any_end_state state (first f ∷ cs) = any_end_state f.gave.state cs
any_end_state state (later k ∷ cs) = any_end_state k.gave.state cs

unfoldable pub any_end_store : List ℕ → List AnyCall → List ℕ
any_end_store store [] = store
any_end_store store (first f ∷ cs) = any_end_store f.gave.store cs
any_end_store store (later k ∷ cs) = any_end_store k.gave.store cs

-- ## The promises

module _ (Met : State → List ℕ → FirstStep → Type 0) where
  abbrev pub FirstNoSecondAnswer : Type 0
  FirstNoSecondAnswer =
      (state : State) (store : List ℕ) (f : FirstStep) (other : Gave) → Met state store f → Met state store (first_giving f other) → f.gave ≡ other

  abbrev pub FirstRefusals : Type 0
  FirstRefusals =
      (state : State) (store : List ℕ) (f : FirstStep) → Met state store f
      → FirstRefusalsInOrder state store f

  abbrev pub FirstRefusedRule : Type 0
  FirstRefusedRule = (state : State) (store : List ℕ) (f : FirstStep) (n : ℕ) → Met state store f → FirstEnded (2 ∷ n ∷ []) f → FirstRefused state store f n

  abbrev pub FirstUses : Type 0
  FirstUses = (state : State) (store : List ℕ) (f : FirstStep) (used : ℕ) (ended : List ℕ) → Met state store f → FirstEnded (3 ∷ used ∷ ended) f → Uses f used

  abbrev pub FirstUsesFrame : Type 0
  FirstUsesFrame =
      (state : State) (store : List ℕ) (f : FirstStep) (payload rest : List ℕ) (used : ℕ) (ended : List ℕ) → Met state store f
      → length payload ≤ payload_limit → f.bytes ≡ string payload ++ rest → FirstEnded (3 ∷ used ∷ ended) f → UsesFrame f payload rest used

  abbrev pub FirstAsks : Type 0
  FirstAsks =
      (state : State) (store : List ℕ) (f : FirstStep) → Sound state store → Met state store f → Whole f → reply_room ≤ length f.buffer → GateOrFailure f

  -- and of whatever has begun, on any state and store
  abbrev pub FirstBegun : Type 0
  FirstBegun =
      (state : State) (store : List ℕ) (f : FirstStep) (used : ℕ) (ended : List ℕ)
      → Met state store f → FirstEnded (3 ∷ used ∷ ended) f → GateOrFailure f

  abbrev pub FirstMade : Type 0
  FirstMade = (state : State) (store : List ℕ) (f : FirstStep) (cs : List AnyCall) → Met state store f → MadeOfWhole f cs

  -- ### Runs, in which the other calls are of this kind

  module _ (MetLater : State → List ℕ → Step → Type 0) where
    -- the second step is such a call
    abbrev pub FirstIsTwoSteps : Type 0
    FirstIsTwoSteps = (state : State) (store : List ℕ) (f : FirstStep) → Met state store f → TwoSteps MetLater state store f

    -- each call gets the state and store that the call before it returned
    abbrev pub AnyRun : State → List ℕ → List AnyCall → Type 0
    AnyRun state store [] = Unit {0}
    AnyRun state store (first f ∷ cs) = Met state store f × AnyRun f.gave.state f.gave.store cs
    AnyRun state store (later k ∷ cs) = MetLater state store k × AnyRun k.gave.state k.gave.store cs

    -- a step that a first call made: the same request's call on the payload, with nothing lent
    pub record MadeFirst (state : State) (store : List ℕ) (k : Step) : Type 0 where
      pub first : FirstStep
      pub met : Met state store first
      pub made : is_made first ≡ true
      pub step_is : k ≡ step_in first
      pub same-request : k.request ≡ first.request
      pub on_its_payload : OnPayload first k

    abbrev pub ByEither : State → List ℕ → Step → Type 0
    ByEither state store k = MadeFirst state store k ⊎ MetLater state store k

    -- the run is one of calls, and those that made none left nothing
    pub record IsARunOfCalls (state : State) (store : List ℕ) (cs : List AnyCall) : Type 0 where
      pub run : CodeRun ByEither state store (steps_in cs)
      pub end_state_same : end_state state (steps_in cs) ≡ any_end_state state cs
      pub end_store_same : end_store store (steps_in cs) ≡ any_end_store store cs

    abbrev pub FirstRuns : Type 0
    FirstRuns = (state : State) (store : List ℕ) (cs : List AnyCall) → AnyRun state store cs → IsARunOfCalls state store cs

    pub record FirstPromises : Type 0 where
      pub no_second_answer : FirstNoSecondAnswer
      pub two_steps : FirstIsTwoSteps
      pub refusals : FirstRefusals
      pub refused : FirstRefusedRule
      pub uses : FirstUses
      pub uses_frame : FirstUsesFrame
      pub asks : FirstAsks
      pub begun : FirstBegun
      pub made : FirstMade
      pub runs : FirstRuns
      pub as_calls_all : CodePromises ByEither
