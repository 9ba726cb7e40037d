-- What a call gave, in 01's numbers and values, and runs of calls, each on what the one before it gave. What a call leaves, and the promises of
-- order, said of what was given; `Met` says what kind of call it is: `ByCall`, or in crate gateway `ByExport`.
use Rattle.std.specs.Prelude.{ℕ, ◌≤◌, ◌<◌, ◌%◌, ◌≡◌, ◌≢◌, Bool, true, false, cond, List, [], ◌∷◌, ◌++◌, map, length, get_or, take, drop, replicate}
use Rattle.wire.specs.Limits.{payload_limit, store_size, signature_limit, reply_room}
use Rattle.wire.specs.Numbers.{Bytes, be32}
use Rattle.wire.specs.Write.{string, write}
use Rattle.rule.specs.declared.Millis.{Millis}
use Rattle.rule.specs.Gateway.{Entry, Gateway, fresh, advance, locked}
use Rattle.rule.specs.Calls as rule
use Rattle.rule.specs.Calls.{Frame, Call, call}
use Rattle.rule.specs.Runs.{Event, RunsTo, Every, is_accepted, accepted_in, turns, Oracle}
use Rattle.rule.specs.Order.{EveryAccepted, Keeps, AsOneAtATime, own_frame, own_answers, NoUnlocking, OnlyExpiry}
use Rattle.rule.specs.Words.{Begins, Carries}
use Rattle.rule.specs.Rows.{Row}
use Rattle.rule.specs.Listing.{item_forms}
use Rattle.rule.specs.Signing.{SignRequest}
use Rattle.rule.specs.Comments.{TextComments}
use Rattle.table.specs.declared.State.{State}
use Rattle.table.specs.Meaning.{gateway_of, state_of}
use Rattle.table.specs.Soundness.{Sound, Means}
use Rattle.requests.specs.declared.Said.TheVariants.{Missing, Yes}
use Rattle.requests.specs.declared.Signed.TheVariants.{Given}
use Rattle.requests.specs.declared.Answers.{Answers}
use Rattle.requests.specs.declared.Outcome.{Outcome}
use Rattle.requests.specs.Outcomes.{lent_of, code, written, outcome_values, InNumbers, outcome_in}
use Rattle.server.specs.Calls.{Meets}

-- ## One call

-- 01's number and values of its outcome; state, store and reply buffer at exit
pub record Gave : Type 0 where
  pub ended : List ℕ
  pub state : State
  pub store : List ℕ
  pub reply : List ℕ

-- a call as it was made, and what it gave
pub record Step : Type 0 where
  pub request : ℕ  -- which request makes it
  pub payload : List ℕ
  pub reading : Millis
  pub answers : Answers
  pub signature : List ℕ
  pub buffer : List ℕ  -- the reply buffer at entry
  pub gave : Gave

-- it gave what meets the contract of `call`
pub record ByCall (state : State) (store : List ℕ) (k : Step) : Type 0 where
  pub outcome : Outcome
  pub ended_is : k.gave.ended ≡ outcome_values outcome
  pub meets : Meets state store k.payload k.reading k.answers k.signature k.buffer outcome k.gave.state k.gave.store k.gave.reply

-- ## Read off what a call gave

abbrev pub EndedWith : List ℕ → Step → Type 0
EndedWith values k = k.gave.ended ≡ values

-- it asked for the gate (1), the key check, the confirmation or the signature (4)
pub record Asked (k : Step) : Type 0 where
  pub from_gate : 1 ≤ get_or k.gave.ended 0 0
  pub to_signature : get_or k.gave.ended 0 0 ≤ 4

-- it replied these bytes
pub record Replied (bytes : List ℕ) (k : Step) : Type 0 where
  pub ended : EndedWith (5 ∷ length bytes ∷ []) k
  pub front : take (length bytes) k.gave.reply ≡ bytes

-- "FAILURE is 00 00 00 01 05, SUCCESS 00 00 00 01 06."
abbrev pub failure_bytes : List ℕ
failure_bytes = 0 ∷ 0 ∷ 0 ∷ 1 ∷ 5 ∷ []

abbrev pub success_bytes : List ℕ
success_bytes = 0 ∷ 0 ∷ 0 ∷ 1 ∷ 6 ∷ []

-- how it ended, in the rule's words
abbrev pub outcome_after : Step → rule.Outcome
outcome_after k = outcome_in k.gave.ended k.gave.reply

abbrev pub Accepted : Step → Type 0
Accepted k = is_accepted (outcome_after k) ≡ true

-- the rule's call; a store beside a sound state has 32,768 bytes
abbrev pub as_call : Step → Call
as_call k = record {
  request = k.request;
  frame = record { payload = k.payload };
  reading = k.reading;
  answers = lent_of k.answers k.signature;
  buffer = length k.buffer;
  store = store_size;
}

-- ## Read off a run

-- its events, off which the rule's words read the rest
abbrev pub event_of : Step → Event
event_of k = record { by = as_call k; outcome = outcome_after k }

abbrev pub events_of : List Step → List Event
events_of ks = map event_of ks

unfoldable pub end_state : State → List Step → State
end_state state [] = state
end_state state (k ∷ ks) = end_state k.gave.state ks

unfoldable pub end_store : List ℕ → List Step → List ℕ
end_store store [] = store
end_store store (k ∷ ks) = end_store k.gave.store ks

-- what state and store mean at its end
abbrev pub meant_end : State → List ℕ → List Step → Gateway
meant_end state store ks = gateway_of (end_state state ks) (end_store store ks)

-- the run without its refused steps
unfoldable pub accepted_steps : List Step → List Step
accepted_steps [] = []
accepted_steps (k ∷ ks) = cond (is_accepted (outcome_after k)) (k ∷ accepted_steps ks) (accepted_steps ks)

-- ## What one call does, said of a step

-- "Call refusals, first that applies"
pub record RefusalsInOrder (state : State) (store : List ℕ) (k : Step) : Type 0 where
  pub first : length k.buffer < reply_room → EndedWith (0 ∷ 1 ∷ []) k
  pub second : reply_room ≤ length k.buffer → length store ≢ store_size → EndedWith (0 ∷ 2 ∷ []) k
  pub third : reply_room ≤ length k.buffer → length store ≡ store_size → (Sound state store → ⊥) → EndedWith (0 ∷ 3 ∷ []) k
  pub fourth : reply_room ≤ length k.buffer → Sound state store → payload_limit < length k.payload → EndedWith (0 ∷ 4 ∷ []) k
  pub fifth : reply_room ≤ length k.buffer → Sound state store → length k.payload ≤ payload_limit
      → (n : ℕ) → k.answers.signature ≡ Given n → signature_limit < length k.signature → EndedWith (0 ∷ 5 ∷ []) k
  pub accepted : reply_room ≤ length k.buffer → Sound state store → length k.payload ≤ payload_limit
      → ((n : ℕ) → k.answers.signature ≡ Given n → length k.signature ≤ signature_limit) → (n : ℕ) → ¬ (EndedWith (0 ∷ n ∷ []) k)

-- "state, clock and all buffers unchanged"
pub record Unchanged (state : State) (store : List ℕ) (k : Step) : Type 0 where
  pub state_stays : k.gave.state ≡ state
  pub store_stays : k.gave.store ≡ store
  pub buffer_stays : k.gave.reply ≡ k.buffer

-- "Flag 2 set: SHA-256; else flag 4: SHA-512; else none."
pub record BitsTable (flags bits : ℕ) : Type 0 where
  pub flag_2 : 2 ≤ flags % 4 → bits ≡ 256
  pub flag_4 : flags % 4 < 2 → 4 ≤ flags % 8 → bits ≡ 512
  pub neither : flags % 4 < 2 → flags % 8 < 4 → bits ≡ 0

-- state and store mean the gateway as it was, its clock raised and its due entries gone, and are sound
abbrev pub OnlyClock : State → List ℕ → Step → Type 0
OnlyClock state store k = Means k.gave.state k.gave.store (advance k.reading (gateway_of state store))

-- and no byte of the reply buffer changed
pub record Quiet (state : State) (store : List ℕ) (k : Step) : Type 0 where
  pub only_clock : OnlyClock state store k
  pub buffer_stays : k.gave.reply ≡ k.buffer

-- five bytes, and the reply buffer's others stay
pub record Failed (state : State) (store : List ℕ) (k : Step) : Type 0 where
  pub only_clock : OnlyClock state store k
  pub buffer : k.gave.reply ≡ failure_bytes ++ drop 5 k.buffer

-- "A reply fills the first bytes of the reply buffer; all its other bytes .. stay."
pub record Fills (n : ℕ) (k : Step) : Type 0 where
  pub fits : n ≤ reply_room
  pub room : reply_room ≤ length k.buffer
  pub length-stays : length k.gave.reply ≡ length k.buffer
  pub others-stay : drop n k.gave.reply ≡ drop n k.buffer

-- it replied these bytes, at the reply buffer's front, and its others stay
pub record Fronted (bytes : List ℕ) (k : Step) : Type 0 where
  pub ended : EndedWith (5 ∷ length bytes ∷ []) k
  pub buffer : k.gave.reply ≡ write k.buffer 0 bytes

-- it ended as the rule's call does
pub record EndsAs (k : Step) (result : rule.Result) : Type 0 where
  pub ended : EndedWith (outcome_values (code result.outcome)) k
  pub means : Means k.gave.state k.gave.store result.gateway
  pub bytes : k.gave.reply ≡ written result.outcome k.buffer

-- ## What a run does, said of its steps

-- each step ends as the rule's call does, from the gateway that the rule's call before it left
abbrev pub RuleRun : Gateway → List Step → Type 0
RuleRun g [] = Unit {0}
RuleRun g (k ∷ ks) = EndsAs k (call g (as_call k)) × RuleRun (call g (as_call k)).gateway ks

-- its events and its end are those of the rule's run, and its end is sound
pub record IsARun (state : State) (store : List ℕ) (ks : List Step) : Type 0 where
  pub calls : RuleRun (gateway_of state store) ks
  pub runs : RunsTo (gateway_of state store) (events_of ks) (meant_end state store ks)
  pub end_sound : Sound (end_state state ks) (end_store store ks)

-- between a lock and an unlock as in the rule, and in 01's numbers: nothing is asked but the gate for an unlock
pub record CodeOnlyExpiry (state : State) (store : List ℕ) (ks : List Step) : Type 0 where
  pub as_ruled : OnlyExpiry (gateway_of state store) (events_of ks) (meant_end state store ks)
  pub only_gate_7 : Every (λ k. Asked k → EndedWith (1 ∷ 7 ∷ []) k × Begins 23 k.payload) ks

-- from a sound state on, it is refused neither for the state nor for the store
pub record NeverUnsound (state : State) (store : List ℕ) (ks : List Step) : Type 0 where
  pub never_3 : Every (λ k. ¬ (EndedWith (0 ∷ 3 ∷ []) k)) ks
  pub never_2 : Every (λ k. ¬ (EndedWith (0 ∷ 2 ∷ []) k)) ks
  pub end_sound : Sound (end_state state ks) (end_store store ks)

-- ## The promises

-- the same call, giving this
abbrev pub giving : Step → Gave → Step
giving k gave = record { request = k.request; payload = k.payload; reading = k.reading; answers = k.answers; signature = k.signature; buffer = k.buffer; gave = gave }

module _ (Met : State → List ℕ → Step → Type 0) where
  -- "each call gets the state and store that the call before it returned"
  abbrev pub CodeRun : State → List ℕ → List Step → Type 0
  CodeRun state store [] = Unit {0}
  CodeRun state store (k ∷ ks) = Met state store k × CodeRun k.gave.state k.gave.store ks

  -- ### One call

  -- "no second answer satisfies the contract"
  abbrev pub NoSecondAnswer : Type 0
  NoSecondAnswer = (state : State) (store : List ℕ) (k : Step) (other : Gave) → Met state store k → Met state store (giving k other) → k.gave ≡ other

  -- on any state and store
  abbrev pub CodeRefusals : Type 0
  CodeRefusals =
      (state : State) (store : List ℕ) (k : Step) → Met state store k
      → RefusalsInOrder state store k

  abbrev pub CodeRefusalLeaves : Type 0
  CodeRefusalLeaves = (state : State) (store : List ℕ) (k : Step) (n : ℕ) → Met state store k → EndedWith (0 ∷ n ∷ []) k → Unchanged state store k

  -- what is told outside of the rule's outcome
  abbrev pub CodeNumbers : Type 0
  CodeNumbers =
      (state : State) (store : List ℕ) (k : Step) → Sound state store → Met state store k
      → InNumbers (call (gateway_of state store) (as_call k)).outcome k.gave.ended

  -- the gate is asked for the class of the request
  abbrev pub CodeGateAsks : Type 0
  CodeGateAsks =
      (state : State) (store : List ℕ) (k : Step) (byte : ℕ) (needs : Bool) (class : ℕ) → Sound state store → Met state store k → Accepted k
      → Row byte needs class → Begins byte k.payload → locked (gateway_of state store) ≡ needs → k.answers.gate ≡ Missing
      → EndedWith (1 ∷ class ∷ []) k

  -- the signer is asked for the hash that the flags of the request choose
  abbrev pub CodeHashes : Type 0
  CodeHashes =
      (state : State) (store : List ℕ) (k : Step) (n from to bits : ℕ) → Sound state store → Met state store k → Bytes k.payload
      → EndedWith (4 ∷ n ∷ from ∷ to ∷ bits ∷ []) k
      → (blob bytes : List ℕ) × (flags : ℕ) × SignRequest k.payload blob bytes flags × BitsTable flags bits

  -- 11 answers the live entries' count, and of each, in list order, the blob and its own comment
  abbrev pub CodeLists : Type 0
  CodeLists =
      (state : State) (store : List ℕ) (k : Step) (es : List Entry) → Sound state store → Met state store k → Accepted k → Begins 11 k.payload
      → locked (gateway_of state store) ≡ false → k.answers.gate ≡ Yes → (advance k.reading (gateway_of state store)).entries ≡ es
      → Fronted (string (12 ∷ (be32 (length es) ++ item_forms es))) k

  -- "Questions and closing alter nothing but clock and expiry"
  abbrev pub CodeQuestionLeaves : Type 0
  CodeQuestionLeaves = (state : State) (store : List ℕ) (k : Step) → Sound state store → Met state store k → Asked k → Quiet state store k

  abbrev pub CodeCloseLeaves : Type 0
  CodeCloseLeaves = (state : State) (store : List ℕ) (k : Step) → Sound state store → Met state store k → EndedWith (6 ∷ []) k → Quiet state store k

  -- ".. nor does FAILURE"
  abbrev pub CodeFailureLeaves : Type 0
  CodeFailureLeaves =
      (state : State) (store : List ℕ) (k : Step) → Sound state store → Met state store k → Replied failure_bytes k → Failed state store k

  -- nor does any reply but SUCCESS
  abbrev pub CodeReplyLeaves : Type 0
  CodeReplyLeaves =
      (state : State) (store : List ℕ) (k : Step) (bytes : List ℕ) → Sound state store → Met state store k → Replied bytes k → bytes ≢ success_bytes
      → OnlyClock state store k

  abbrev pub CodeReplyBytes : Type 0
  CodeReplyBytes = (state : State) (store : List ℕ) (k : Step) (n : ℕ) → Sound state store → Met state store k → EndedWith (5 ∷ n ∷ []) k → Fills n k

  -- ".. and in other outcomes all its bytes, stay": on any state and store
  abbrev pub CodeOthersStay : Type 0
  CodeOthersStay =
      (state : State) (store : List ℕ) (k : Step) → Met state store k → ((n : ℕ) → ¬ (EndedWith (5 ∷ n ∷ []) k)) → k.gave.reply ≡ k.buffer

  -- ### Runs

  abbrev pub CodeIsARun : Type 0
  CodeIsARun = (state : State) (store : List ℕ) (ks : List Step) → Sound state store → CodeRun state store ks → IsARun state store ks

  -- demand 3: "each request keeps its frame, and a question asked twice within it gets one answer". `Keeps` binds every answer that is lent, also
  -- one that nobody asked for; where such a one differs from call to call, `CodeAsLent` speaks of the run.
  abbrev pub CodeDemand3 : Type 0
  CodeDemand3 =
      (frames : ℕ → Frame) (oracles : ℕ → Oracle) (state : State) (store : List ℕ) (ks : List Step) → Sound state store → CodeRun state store ks
      → EveryAccepted (Keeps (λ c. frames c.request) (λ c. oracles c.request)) (events_of ks)
      → AsOneAtATime (λ c. frames c.request) (λ c. oracles c.request) (gateway_of state store) (events_of ks) (meant_end state store ks)

  -- "the one-at-a-time run gets the answers lent at the landing": of any run, whatever is lent
  abbrev pub CodeAsLent : Type 0
  CodeAsLent =
      (state : State) (store : List ℕ) (ks : List Step) → Sound state store → CodeRun state store ks
      → AsOneAtATime own_frame own_answers (gateway_of state store) (events_of ks) (meant_end state store ks)

  pub record CodeDropsOut (state : State) (store : List ℕ) (ks : List Step) : Type 0 where
    pub still_a_run : CodeRun state store (accepted_steps ks)
    pub accepted_events : events_of (accepted_steps ks) ≡ accepted_in (events_of ks)
    pub state_stays : end_state state (accepted_steps ks) ≡ end_state state ks
    pub store_stays : end_store store (accepted_steps ks) ≡ end_store store ks

  -- "refused calls drop out"; what is read off events stays (`RefusedUnread` of the rule)
  abbrev pub CodeRefusedDropOut : Type 0
  CodeRefusedDropOut = (state : State) (store : List ℕ) (ks : List Step) → CodeRun state store ks → CodeDropsOut state store ks

  abbrev pub CodeWhileLocked : Type 0
  CodeWhileLocked =
      (state : State) (store : List ℕ) (ks : List Step) → Sound state store → CodeRun state store ks → locked (gateway_of state store) ≡ true
      → NoUnlocking (turns (events_of ks)) → CodeOnlyExpiry state store ks

  -- at any place of a run: `before`, then a non-empty lock's success, then steps without an unlock's success
  abbrev pub CodeBetweenLockAndUnlock : Type 0
  CodeBetweenLockAndUnlock =
      (state : State) (store : List ℕ) (before : List Step) (lock : Step) (ks : List Step) (passphrase : List ℕ) → Sound state store
      → CodeRun state store (before ++ lock ∷ ks) → Begins 22 lock.payload → Carries passphrase lock.payload → 0 < length passphrase
      → Replied success_bytes lock → NoUnlocking (turns (events_of ks)) → CodeOnlyExpiry lock.gave.state lock.gave.store ks

  abbrev pub CodeNeverRefused3 : Type 0
  CodeNeverRefused3 = (state : State) (store : List ℕ) (ks : List Step) → Sound state store → CodeRun state store ks → NeverUnsound state store ks

  -- #101: from a fresh state on, every comment that is kept is UTF-8
  abbrev pub CodeTextFromFresh : Type 0
  CodeTextFromFresh =
      (ks : List Step) → CodeRun (state_of fresh) (replicate store_size 0) ks → Every (λ k. Bytes k.payload) ks
      → TextComments (gateway_of (end_state (state_of fresh) ks) (end_store (replicate store_size 0) ks))

  -- ### All of them

  pub record CodePromises : Type 0 where
    pub no_second_answer : NoSecondAnswer
    pub refusals : CodeRefusals
    pub refusal-leaves : CodeRefusalLeaves
    pub numbers : CodeNumbers
    pub gate_asks : CodeGateAsks
    pub hashes : CodeHashes
    pub lists : CodeLists
    pub question_leaves : CodeQuestionLeaves
    pub close_leaves : CodeCloseLeaves
    pub failure_leaves : CodeFailureLeaves
    pub reply_leaves : CodeReplyLeaves
    pub reply_bytes : CodeReplyBytes
    pub others-stay : CodeOthersStay
    pub is_a_run : CodeIsARun
    pub demand_3 : CodeDemand3
    pub as_lent : CodeAsLent
    pub refused_drop_out : CodeRefusedDropOut
    pub while_locked : CodeWhileLocked
    pub between_lock_and_unlock : CodeBetweenLockAndUnlock
    pub never_refused_3 : CodeNeverRefused3
    pub text_from_fresh : CodeTextFromFresh
