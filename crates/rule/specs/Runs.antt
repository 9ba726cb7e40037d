-- Runs of calls, what is read off their events, and the one-at-a-time rule (demand 3).
use Rattle.std.specs.Prelude.{◌≡◌, Bool, true, false, cond, List, [], ◌∷◌, ◌++◌, map}
use Rattle.rule.specs.declared.Millis.{Millis}
use Rattle.rule.specs.Gateway.{Gateway, zero_millis, later, advance}
use Rattle.rule.specs.Rule.{Question, Answer, Landing, Plan, land, ask, rule}
use Rattle.rule.specs.Calls.{Frame, Call, Outcome, refused, asks, lands, call}

-- ## Runs: "each call gets the state and store that the call before it returned"

-- a call as it was made, and how it ended
pub record Event : Type 0 where
  pub by : Call
  pub outcome : Outcome

-- the events of a run of the rule
unfoldable pub events : Gateway → List Call → List Event
events g [] = []
events g (c ∷ cs) = record { by = c; outcome = (call g c).outcome } ∷ events (call g c).gateway cs

unfoldable pub end_of : Gateway → List Call → Gateway
end_of g [] = g
end_of g (c ∷ cs) = end_of (call g c).gateway cs

abbrev pub calls_of : List Event → List Call
calls_of es = map (λ e. e.by) es

-- the calls of these events, run from g, give these events and end there
pub record RunsTo (g : Gateway) (es : List Event) (end : Gateway) : Type 0 where
  pub events-are : events g (calls_of es) ≡ es
  pub end_is : end_of g (calls_of es) ≡ end

-- ## Read off events, the rule's or a program's

abbrev pub Every : {A : Type 0} → (A → Type 0) → List A → Type 0
Every P [] = Unit {0}
Every P (x ∷ xs) = P x × Every P xs

unfoldable pub is_accepted : Outcome → Bool
is_accepted (refused n) = false
is_accepted (asks q) = true
is_accepted (lands l) = true

-- the run without its refused calls
unfoldable pub accepted_in : List Event → List Event
accepted_in [] = []
accepted_in (e ∷ es) = cond (is_accepted e.outcome) (e ∷ accepted_in es) (accepted_in es)

-- the greatest reading accepted so far, with this call; a refused one is not heard
unfoldable pub heard : Millis → Event → Millis
heard greatest e = cond (is_accepted e.outcome) (later greatest e.by.reading) greatest

unfoldable pub heard_in : Millis → List Event → Millis
heard_in greatest [] = greatest
heard_in greatest (e ∷ es) = heard_in (heard greatest e) es

-- the greatest reading accepted in a run
abbrev pub greatest : List Event → Millis
greatest es = heard_in zero_millis es

-- a landing of a run: the call that landed, the greatest reading accepted so far, and the landing
pub record Turn : Type 0 where
  pub by : Call
  pub reading : Millis
  pub landing : Landing

unfoldable pub turn : Millis → Call → Outcome → List Turn
turn reading c (refused n) = []
turn reading c (asks q) = []
turn reading c (lands l) = record { by = c; reading = reading; landing = l } ∷ []

unfoldable pub turns_from : Millis → List Event → List Turn
turns_from reading [] = []
turns_from reading (e ∷ es) = turn (heard reading e) e.by e.outcome ++ turns_from (heard reading e) es

-- the landings of a run, in landing order
abbrev pub turns : List Event → List Turn
turns es = turns_from zero_millis es

abbrev pub landings : List Turn → List Landing
landings [] = []
landings (t ∷ ts) = t.landing ∷ landings ts

-- have accepted calls only asked since the last landing?
unfoldable pub asked : Bool → Outcome → Bool
asked before (refused n) = before
asked before (asks q) = true
asked before (lands l) = false

unfoldable pub asked_in : Bool → List Event → Bool
asked_in before [] = before
asked_in before (e ∷ es) = asked_in (asked before e.outcome) es

-- has a call been accepted?
unfoldable pub some_accepted : Bool → List Event → Bool
some_accepted before [] = before
some_accepted before (e ∷ es) = some_accepted (cond (is_accepted e.outcome) true before) es

-- ## The one-at-a-time rule: the same plan, with an answer for every question

abbrev pub Oracle : Type 0
Oracle = (q : Question) → Answer q

pub record Landed : Type 0 where
  pub landing : Landing
  pub gateway : Gateway

unfoldable pub alone : Oracle → Plan → Landed
alone oracle (land l after) = record { landing = l; gateway = after }
alone oracle (ask q onwards) = alone oracle (onwards (oracle q))

module _ (frame_of : Call → Frame) (oracle_of : Call → Oracle) where
  -- a turn's request served alone, at the turn's reading
  unfoldable pub served_alone : Gateway → Turn → Landed
  served_alone g t = alone (oracle_of t.by) (rule (advance t.reading g) (frame_of t.by).payload)

  -- each from the state that the one before it left
  unfoldable pub one_at_a_time : Gateway → List Turn → List Landing
  one_at_a_time g [] = []
  one_at_a_time g (t ∷ ts) = (served_alone g t).landing ∷ one_at_a_time (served_alone g t).gateway ts

  unfoldable pub one_at_a_time_end : Gateway → List Turn → Gateway
  one_at_a_time_end g [] = g
  one_at_a_time_end g (t ∷ ts) = one_at_a_time_end (served_alone g t).gateway ts
