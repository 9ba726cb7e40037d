-- Runs of inner calls (#113): one that begins with an outer call, or from a fresh state, and goes on with inner ones is the run of outer calls, byte for
-- byte. The proofs are in proofs/InnerRuns.antt and InnerTheorem.antt; four relations say what kinds of calls these are, in crate gateway those of the exports.
use Rattle.std.specs.Prelude.{ℕ, ◌≡◌, true, List, [], ◌∷◌, replicate}
use Rattle.wire.specs.Limits.{store_size}
use Rattle.rule.specs.Gateway.{fresh}
use Rattle.rule.specs.Runs.{Every}
use Rattle.table.specs.declared.State.{State}
use Rattle.table.specs.Meaning.{state_of}
use Rattle.table.specs.Soundness.{sound_state, Sound}
use Rattle.requests.specs.declared.Outcome.{Outcome}
use Rattle.requests.specs.Outcomes.{outcome_values}
use Rattle.server.specs.declared.first.First.{First}
use Rattle.server.specs.First.{first_values}
use Rattle.server.specs.Runs.{Step, EndedWith, Accepted, giving}
use Rattle.server.specs.FirstPromises.{FirstStep, FirstEnded, first_giving, AnyCall, first, later, AnyRun, any_end_state, any_end_store}
use Rattle.server.specs.Inner.{InnerMeets, InnerFirstMeets}

-- ## Inner calls

-- a step gave what meets the contract of the inner call
pub record GaveInner (state : State) (store : List ℕ) (k : Step) : Type 0 where
  pub outcome : Outcome
  pub ended_is : k.gave.ended ≡ outcome_values outcome
  pub meets : InnerMeets state store k.payload k.reading k.answers k.signature k.buffer outcome k.gave.state k.gave.store k.gave.reply

pub record GaveInnerFirst (state : State) (store : List ℕ) (f : FirstStep) : Type 0 where
  pub first : First
  pub ended_is : f.gave.ended ≡ first_values first
  pub meets : InnerFirstMeets state store f.bytes f.reading f.buffer first f.gave.state f.gave.store f.gave.reply

-- an inner call requires a sound state and store: on another nothing is known of what it gave
abbrev pub ByInner : State → List ℕ → Step → Type 0
ByInner state store k = Sound state store → GaveInner state store k

abbrev pub ByInnerFirst : State → List ℕ → FirstStep → Type 0
ByInnerFirst state store f = Sound state store → GaveInnerFirst state store f

-- ## Read off runs

-- the same calls one by one, whatever each gave
abbrev pub SameCalls : List AnyCall → List AnyCall → Type 0
SameCalls [] [] = Unit {0}
SameCalls (first f ∷ cs) (first e ∷ ds) = (first_giving f e.gave ≡ e) × SameCalls cs ds
SameCalls (later k ∷ cs) (later j ∷ ds) = (giving k j.gave ≡ j) × SameCalls cs ds
SameCalls [] (d ∷ ds) = ⊥
SameCalls (c ∷ cs) [] = ⊥
SameCalls (first f ∷ cs) (later j ∷ ds) = ⊥
SameCalls (later k ∷ cs) (first e ∷ ds) = ⊥

abbrev pub RefusedWith : ℕ → AnyCall → Type 0
RefusedWith n (first f) = FirstEnded (2 ∷ n ∷ []) f
RefusedWith n (later k) = EndedWith (0 ∷ n ∷ []) k

-- ## The promises

module _ (OuterFirst : State → List ℕ → FirstStep → Type 0) (Outer : State → List ℕ → Step → Type 0) (InnerFirst : State → List ℕ → FirstStep → Type 0) (Inner : State → List ℕ → Step → Type 0) where
  -- it is a run of outer calls; one of the same calls gives the same, byte for byte; none is refused for the store or the state, and what it leaves is sound
  pub record LikeOuter (state : State) (store : List ℕ) (cs : List AnyCall) : Type 0 where
    pub is_outer : AnyRun OuterFirst Outer state store cs
    pub same_bytes : (ds : List AnyCall) → AnyRun OuterFirst Outer state store ds → SameCalls cs ds → cs ≡ ds
    pub never_2 : Every (λ c. ¬ (RefusedWith 2 c)) cs
    pub never_3 : Every (λ c. ¬ (RefusedWith 3 c)) cs
    pub end_sound : Sound (any_end_state state cs) (any_end_store store cs)

  pub record InnerPromises : Type 0 where
    pub from_sound : (state : State) (store : List ℕ) (cs : List AnyCall) → Sound state store → AnyRun InnerFirst Inner state store cs → LikeOuter state store cs
    pub from_fresh : (cs : List AnyCall) → AnyRun InnerFirst Inner (state_of fresh) (replicate store_size 0) cs → LikeOuter (state_of fresh) (replicate store_size 0) cs
    -- where `key_agent_is_sound` answered yes
    pub after_test : (state : State) (store : List ℕ) (cs : List AnyCall) → sound_state state store ≡ true → AnyRun InnerFirst Inner state store cs → LikeOuter state store cs
    -- behind one outer call on any state and store, that was not refused
    pub after_call : (state : State) (store : List ℕ) (k : Step) (cs : List AnyCall) → Outer state store k → Accepted k
        → AnyRun InnerFirst Inner k.gave.state k.gave.store cs → LikeOuter state store (later k ∷ cs)
    -- .. or behind one that began its request
    pub after_first : (state : State) (store : List ℕ) (f : FirstStep) (used : ℕ) (ended : List ℕ) (cs : List AnyCall) → OuterFirst state store f
        → FirstEnded (3 ∷ used ∷ ended) f → AnyRun InnerFirst Inner f.gave.state f.gave.store cs → LikeOuter state store (first f ∷ cs)
    -- an outer call is an inner one, so all this holds of runs that mix the two
    pub call-too : (state : State) (store : List ℕ) (k : Step) → Outer state store k → Inner state store k
    pub first_too : (state : State) (store : List ℕ) (f : FirstStep) → OuterFirst state store f → InnerFirst state store f
