-- The promises of order, as statements: demand 3, the time between a lock and an unlock, what each outcome leaves, questions, soundness.
use Rattle.std.specs.Prelude.{ℕ, suc, ◌≤◌, ◌<◌, ◌≡◌, ◌↔◌, ◌≢◌, Bool, true, false, List, [], ◌∷◌, length}
use Rattle.std.proofs.Math.Option.{Option, none, some}
use Rattle.wire.specs.Limits.{reply_room}
use Rattle.rule.specs.declared.Millis.{Millis}
use Rattle.rule.specs.Gateway.{Entry, Gateway, entry_at, zero_millis, fresh, locked, advance}
use Rattle.rule.specs.Soundness.{Sound, sound}
use Rattle.rule.specs.Rule.{Question, gate, check, confirmation, signature, Answer, Landing, reply, FAILURE, SUCCESS, Plan, land, ask, rule}
use Rattle.rule.specs.Calls.{given, lent, Frame, Call, refusal, refused, asks, lands, call}
use Rattle.rule.specs.Runs.{Event, events, end_of, RunsTo, Every, is_accepted, accepted_in, heard, greatest, Turn, turns, landings, asked_in, some_accepted, Oracle, one_at_a_time, one_at_a_time_end}
use Rattle.rule.specs.Words.{Begins, Carries}

-- ## Demand 3

-- of every accepted call of a run; refused calls drop out
abbrev pub EveryAccepted : (Call → Type 0) → List Event → Type 0
EveryAccepted P es = Every (λ e. is_accepted e.outcome ≡ true → P e.by) es

-- each answer that is lent is the oracle's
abbrev pub Agrees : ((q : Question) → Option (Answer q)) → Oracle → Type 0
Agrees lent oracle = (q : Question) (a : Answer q) → lent q ≡ some a → oracle q ≡ a

unfoldable pub settled : Bool → Millis → Gateway → Gateway
settled false reading g = g
settled true reading g = advance reading g

module _ (frame_of : Call → Frame) (oracle_of : Call → Oracle) where
  -- the call brings its request's frame, and the answers lent to it are those that its request's questions get
  pub record Keeps (c : Call) : Type 0 where
    pub frame : c.frame ≡ frame_of c
    pub one_answer : Agrees (lent c.answers) (oracle_of c)

  -- The run's landings are those of the one-at-a-time rule run in landing order, each landing at the greatest reading accepted so far (the
  -- turn's reading). The end states are the same once the greatest reading accepted in the run is applied to both; exactly: the run's is
  -- the other, advanced if accepted calls have only asked since the last landing.
  pub record AsOneAtATime (g : Gateway) (es : List Event) (end : Gateway) : Type 0 where
    pub replies : landings (turns es) ≡ one_at_a_time frame_of oracle_of g (turns es)
    pub end_states : advance (greatest es) end ≡ advance (greatest es) (one_at_a_time_end frame_of oracle_of g (turns es))
    pub exactly : end ≡ settled (asked_in false es) (greatest es) (one_at_a_time_end frame_of oracle_of g (turns es))

-- the oracle that gives what a call is lent, and else says no and gives nothing
unfoldable pub refusing : Oracle
refusing (gate class) = false
refusing (check from to) = false
refusing (confirmation n) = false
refusing (signature n from to hash) = none

unfoldable pub lent_or : ((q : Question) → Option (Answer q)) → Oracle → Oracle
lent_or lent other q = given (lent q) (other q) λ a. a

abbrev pub own_frame : Call → Frame
own_frame c = c.frame

abbrev pub own_answers : Call → Oracle
own_answers c = lent_or (lent c.answers) refusing

-- "the one-at-a-time run gets the answers lent at the landing": of any run, with no hypothesis
abbrev pub AsLent : Type 0
AsLent = (g : Gateway) (cs : List Call) → AsOneAtATime own_frame own_answers g (events g cs) (end_of g cs)

-- a call that lands lands as its request does alone, whatever landing its turn is said to have
abbrev pub AloneFinds : Type 0
AloneFinds =
    (g : Gateway) (c : Call) (l other : Landing) → (call g c).outcome ≡ lands l
    → one_at_a_time own_frame own_answers g (record { by = c; reading = c.reading; landing = other } ∷ []) ≡ l ∷ []

-- "each request keeps its frame, and a question asked twice within it gets one answer": frame and oracle go by the request
abbrev pub Demand3 : Type 0
Demand3 =
    (frames : ℕ → Frame) (oracles : ℕ → Oracle) (g : Gateway) (cs : List Call)
    → EveryAccepted (Keeps (λ c. frames c.request) (λ c. oracles c.request)) (events g cs)
    → AsOneAtATime (λ c. frames c.request) (λ c. oracles c.request) g (events g cs) (end_of g cs)

-- ## Refused calls drop out

-- a call is accepted exactly where no refusal applies
abbrev pub AcceptedRule : Type 0
AcceptedRule = (g : Gateway) (c : Call) → (is_accepted (call g c).outcome ≡ true) ↔ (refusal g c ≡ none)

-- of any events: what is read off them is read off the accepted ones
pub record ReadAlike (few es : List Event) : Type 0 where
  pub landings-stay : turns few ≡ turns es
  pub greatest-stays : greatest few ≡ greatest es

abbrev pub RefusedUnread : Type 0
RefusedUnread = (es : List Event) → ReadAlike (accepted_in es) es

-- and run without the refused calls it is the same run
abbrev pub RefusedDropOut : Type 0
RefusedDropOut = (g : Gateway) (cs : List Call) → RunsTo g (accepted_in (events g cs)) (end_of g cs)

-- ## Readings

-- accepted calls whose readings never fall
unfoldable pub NeverFall : Millis → List Event → Type 0
NeverFall m [] = Unit {0}
NeverFall m (e ∷ es) = (is_accepted e.outcome ≡ true → m.count ≤ e.by.reading.count) × NeverFall (heard m e) es

-- of any events: then each landing is at its own call's reading
abbrev pub OwnReadings : Type 0
OwnReadings = (es : List Event) → NeverFall zero_millis es → Every (λ t. t.reading ≡ t.by.reading) (turns es)

-- ## Between a non-empty lock's success and the next unlock's success

-- no landing is an unlock's success
abbrev pub NoUnlocking : List Turn → Type 0
NoUnlocking ts = Every (λ t. ¬ (Begins 23 t.by.frame.payload × (t.landing ≡ SUCCESS))) ts

-- every question of a run
abbrev pub EveryQuestion : (Call → Question → Type 0) → List Event → Type 0
EveryQuestion P es = Every (λ e. (q : Question) → e.outcome ≡ asks q → P e.by q) es

-- every landing is FAILURE; no key arrives, keys leave only by expiry, nothing else changes; nothing is asked but the gate for an unlock
pub record OnlyExpiry (before : Gateway) (es : List Event) (end : Gateway) : Type 0 where
  pub all-fail : Every (λ t. t.landing ≡ FAILURE) (turns es)
  pub only_expiry : advance (greatest es) end ≡ advance (greatest es) before
  pub exactly : end ≡ settled (some_accepted false es) (greatest es) before
  pub only_gate_7 : EveryQuestion (λ c q. (q ≡ gate 7) × Begins 23 c.frame.payload) es

abbrev pub WhileLocked : Type 0
WhileLocked = (g : Gateway) (cs : List Call) → locked g ≡ true → NoUnlocking (turns (events g cs)) → OnlyExpiry g (events g cs) (end_of g cs)

abbrev pub BetweenLockAndUnlock : Type 0
BetweenLockAndUnlock =
    (g : Gateway) (c : Call) (passphrase : List ℕ) → Begins 22 c.frame.payload → Carries passphrase c.frame.payload → 0 < length passphrase
    → (call g c).outcome ≡ lands SUCCESS
    → (cs : List Call) → NoUnlocking (turns (events (call g c).gateway cs))
    → OnlyExpiry (call g c).gateway (events (call g c).gateway cs) (end_of (call g c).gateway cs)

-- ## What each outcome leaves

-- "Questions and closing alter nothing but clock and expiry, nor does FAILURE", nor any landing but SUCCESS
abbrev pub QuestionLeaves : Type 0
QuestionLeaves = (g : Gateway) (c : Call) (q : Question) → (call g c).outcome ≡ asks q → (call g c).gateway ≡ advance c.reading g

abbrev pub LandingLeaves : Type 0
LandingLeaves = (g : Gateway) (c : Call) (l : Landing) → l ≢ SUCCESS → (call g c).outcome ≡ lands l → (call g c).gateway ≡ advance c.reading g

-- "state, clock and all buffers unchanged"
abbrev pub RefusalLeaves : Type 0
RefusalLeaves = (g : Gateway) (c : Call) (n : ℕ) → refusal g c ≡ some n → call g c ≡ record { outcome = refused n; gateway = g }

-- ## Questions

-- with these answers the rule comes to this question
pub data Needs (lent : (q : Question) → Option (Answer q)) : Plan → Question → Type 0 where
  here : (q : Question) (onwards : Answer q → Plan) → Needs lent (ask q onwards) q
  behind : (p : Question) (onwards : Answer p → Plan) (a : Answer p) (q : Question) → lent p ≡ some a → Needs lent (onwards a) q → Needs lent (ask p onwards) q

-- "A question is asked exactly when the rule needs it and its answer is not lent."
abbrev pub QuestionRule : Type 0
QuestionRule =
    (g : Gateway) (c : Call) (q : Question)
    → ((call g c).outcome ≡ asks q)
    ↔ ((refusal g c ≡ none) × Needs (lent c.answers) (rule (advance c.reading g) c.frame.payload) q × (lent c.answers q ≡ none))

-- how many questions the one-at-a-time rule asks
unfoldable pub questions : Oracle → Plan → ℕ
questions oracle (land l after) = 0
questions oracle (ask q onwards) = suc (questions oracle (onwards (oracle q)))

abbrev pub AtMostThree : Type 0
AtMostThree = (oracle : Oracle) (g : Gateway) (payload : List ℕ) → questions oracle (rule g payload) ≤ 3

-- ## Soundness, numbers, replies

abbrev pub SoundRule : Type 0
SoundRule = (g : Gateway) → (sound g ≡ true) ↔ Sound g

-- "blobs distinct, insertion numbers distinct", of any two positions
abbrev pub SoundApart : Type 0
SoundApart =
    (g : Gateway) (i j : ℕ) (e x : Entry) → Sound g → i ≢ j → entry_at g.entries i ≡ some e → entry_at g.entries j ≡ some x
    → (e.blob ≢ x.blob) × (e.number ≢ x.number)

abbrev pub FreshSound : Type 0
FreshSound = Sound fresh

abbrev pub CallsKeepSound : Type 0
CallsKeepSound = (g : Gateway) (c : Call) → Sound g → Sound (call g c).gateway

-- from a sound gateway refusal 3 never occurs
abbrev pub NeverRefused3 : Type 0
NeverRefused3 = (g : Gateway) (cs : List Call) → Sound g → Every (λ e. e.outcome ≢ refused 3) (events g cs) × Sound (end_of g cs)

abbrev pub NumbersOnlyRise : Type 0
NumbersOnlyRise = (g : Gateway) (c : Call) → g.next ≤ (call g c).gateway.next

-- every reply fits the bytes that refusal 1 asks for (`RefusalRule`)
abbrev pub RepliesFit : Type 0
RepliesFit = (g : Gateway) (c : Call) (bytes : List ℕ) → Sound g → (call g c).outcome ≡ lands (reply bytes) → length bytes ≤ reply_room
