-- Calls that cross, against the one-at-a-time rule: a call by its outcomes, and a relation between the two gateways that every call keeps.
use Prim.Native.Nat.{ℕ, ◌≤◌, zero-le}
use native.Mathlib.Omega.{arith}
use mathlib.Core.Path.{◌≡◌, refl, sym, ap, ◌∙◌, subst}
use mathlib.Core.Bool.{Bool, true, false}
use mathlib.Core.Option.{Option, none, some}
use mathlib.Core.List.{List, [], ◌∷◌}
use Rattle.rule.specs.declared.Millis.{Millis}
use Rattle.rule.specs.Gateway.{Gateway, zero_millis, later, advance}
use Rattle.rule.specs.Rule.{Question, Answer, Plan, land, ask, rule}
use Rattle.rule.specs.Calls.{given, lent, Frame, Call, refusal, refused, asks, lands, Result, follow, served, call}
use Rattle.rule.specs.Runs.{Event, events, end_of, is_accepted, heard, heard_in, greatest, Turn, turn, turns_from, landings, asked, asked_in, Oracle, Landed, alone, served_alone, one_at_a_time, one_at_a_time_end}
use Rattle.rule.specs.Order.{EveryAccepted, Agrees, settled, Keeps, AsOneAtATime, lent_or, own_answers, AcceptedRule, Needs, here, behind}
use Rattle.rule.proofs.Cases.{given-cases, true_not_false}
use Rattle.rule.proofs.Clock.{advance-clock, advance-advance, advance-again, advance-heard}
use Rattle.rule.proofs.PositionLaws.{some_not_none}
use Rattle.rule.proofs.Plans.{alone-has}
use Rattle.rule.proofs.Effects.{Effect, rule-effect, effect_clock}

-- ## A call by its outcomes

abbrev pub landing_result : Landed → Result
landing_result l = record { outcome = lands l.landing; gateway = l.gateway }

-- with lent answers a plan comes to a question, or lands as it does alone with an oracle that gives those answers
follow-cases : (answer : (q : Question) → Option (Answer q)) (oracle : Oracle) → Agrees answer oracle → (g : Gateway) (P : Result → Type 0) (plan : Plan)
    → ((q : Question) → Needs answer plan q → P (record { outcome = asks q; gateway = g })) → P (landing_result (alone oracle plan))
    → P (follow answer g plan)
unfolding follow alone
follow-cases answer oracle agrees g P (land l after) asking landing = landing
follow-cases answer oracle agrees g P (ask q onwards) asking landing =
    given-cases P (answer q) (λ _. asking q (here q onwards)) λ a e.
    follow-cases answer oracle agrees g P (onwards a) (λ p n. asking p (behind q onwards a p e n))
    (subst (λ x. P (landing_result (alone oracle (onwards x)))) (agrees q a e) landing)

pub own_agrees : (c : Call) → Agrees (lent c.answers) (own_answers c)
unfolding lent_or
own_agrees c q a e = rw e

-- the event of a call, by what it gives
abbrev pub event_by : Call → Result → Event
event_by c r = record { by = c; outcome = r.outcome }

module _ (g : Gateway) (c : Call) where
  abbrev pub plan_of : Plan
  plan_of = rule (advance c.reading g) c.frame.payload

  call-cases : (oracle : Oracle) (P : Option ℕ → Result → Type 0) → (refusal g c ≡ none → Agrees (lent c.answers) oracle)
      → ((n : ℕ) → P (some n) (record { outcome = refused n; gateway = g }))
      → ((q : Question) → Needs (lent c.answers) plan_of q → P none (record { outcome = asks q; gateway = advance c.reading g }))
      → (refusal g c ≡ none → P none (landing_result (alone oracle plan_of)))
      → P (refusal g c) (call g c)
  unfolding call served
  call-cases oracle P agrees refuse asking landing = go (refusal g c) refl
    where
      go : (o : Option ℕ) → refusal g c ≡ o → P o (given o (served (advance c.reading g) c.frame c.answers) λ n. record { outcome = refused n; gateway = g })
      go (some n) e = refuse n
      go none e = follow-cases (lent c.answers) oracle (agrees e) (advance c.reading g) (P none) plan_of asking (landing e)

  -- the same with the call's own answers
  pub own_cases : (P : Option ℕ → Result → Type 0)
      → ((n : ℕ) → P (some n) (record { outcome = refused n; gateway = g }))
      → ((q : Question) → Needs (lent c.answers) plan_of q → P none (record { outcome = asks q; gateway = advance c.reading g }))
      → P none (landing_result (alone (own_answers c) plan_of))
      → P (refusal g c) (call g c)
  own_cases P refuse asking landing = call-cases (own_answers c) P (λ _. own_agrees c) refuse asking (λ _. landing)

pub accepted_rule : AcceptedRule
unfolding is_accepted
accepted_rule g c = (
  own_cases g c (λ o r. is_accepted r.outcome ≡ true → o ≡ none) (λ n never. absurd (true_not_false (sym never))) (λ q _ _. refl) (λ _. refl),
  own_cases g c (λ o r. o ≡ none → is_accepted r.outcome ≡ true) (λ n never. absurd (some_not_none never)) (λ q _ _. refl) (λ _. refl),
)

-- ## The relation

-- other has missed the calls which only asked, if there are any
pub record Together (b : Bool) (reading : Millis) (crossing other : Gateway) : Type 0 where
  pub same : crossing ≡ settled b reading other
  pub behind : reading.count ≤ crossing.clock.count

pub together : (m : Millis) (g : Gateway) → m.count ≤ g.clock.count → Together false m g g
unfolding settled
together m g h = record { same = refl; behind = h }

together_advanced : (b : Bool) (m r : Millis) (g h : Gateway) → Together b m g h → advance r g ≡ advance (later m r) h
unfolding settled
together_advanced false m r g h t = sym (advance-heard m r g t.behind) ∙ ap (advance (later m r)) t.same
together_advanced true m r g h t = ap (advance r) t.same ∙ advance-advance m r h

module _ (b : Bool) (m r : Millis) (g h : Gateway) (t : Together b m g h) where
  together_clock : (later m r).count ≤ (advance r g).clock.count
  together_clock = let k : m.count ≤ g.clock.count = t.behind in rw (advance-clock r g) (omega arith)

  pub together_asked : Together true (later m r) (advance r g) h
  unfolding settled
  together_asked = record { same = together_advanced b m r g h t; behind = together_clock }

pub advance-settled : (b : Bool) (r : Millis) (g : Gateway) → advance r (settled b r g) ≡ advance r g
unfolding settled
advance-settled false r g = refl
advance-settled true r g = advance-again r g

-- ## The run

module _ (frame_of : Call → Frame) (oracle_of : Call → Oracle) where
  record AsAlone (other : Gateway) (ts : List Turn) (b : Bool) (reading : Millis) (end : Gateway) : Type 0 where
    replies : landings ts ≡ one_at_a_time frame_of oracle_of other ts
    end_state_same : end ≡ settled b reading (one_at_a_time_end frame_of oracle_of other ts)

  one_more : (g : Gateway) (t : Turn) (ts : List Turn) (b : Bool) (reading : Millis) (end : Gateway) (x : Landed)
      → served_alone frame_of oracle_of g t ≡ x → t.landing ≡ x.landing → AsAlone x.gateway ts b reading end → AsAlone g (t ∷ ts) b reading end
  unfolding one_at_a_time one_at_a_time_end
  one_more g t ts b reading end x s e h = record { replies = rw s (λ i. e i ∷ h.replies i); end_state_same = rw s h.end_state_same }

  abbrev Kept : List Event → Type 0
  Kept = EveryAccepted (Keeps frame_of oracle_of)

  -- events that start here, where other is that gateway in the one-at-a-time rule
  abbrev Crosses : Bool → Millis → Gateway → List Event → Gateway → Type 0
  Crosses b m other es end = AsAlone other (turns_from m es) (asked_in b es) (heard_in m es) end

  -- the run from a call on, by what the call gives
  From : List Call → Bool → Millis → Gateway → Call → Option ℕ → Result → Type 0
  From cs b m h c o r = Kept (events r.gateway cs) → Crosses b m h (event_by c r ∷ events r.gateway cs) (end_of r.gateway cs)

  crossing : (cs : List Call) (b : Bool) (m : Millis) (g h : Gateway) → Together b m g h → Kept (events g cs) → Crosses b m h (events g cs) (end_of g cs)
  unfolding events turns_from heard_in end_of asked_in one_at_a_time one_at_a_time_end served_alone heard is_accepted turn asked From
  crossing [] b m g h t = λ _. record { replies = refl; end_state_same = t.same }
  crossing (c ∷ cs) b m g h t = λ keeps.
      let now : Millis = later m c.reading in
      let lone : Landed = alone (oracle_of c) (plan_of g c) in
      let clock : lone.gateway.clock ≡ (advance c.reading g).clock
      = effect_clock (alone-has (Effect (advance c.reading g)) (oracle_of c) (plan_of g c) (rule-effect (advance c.reading g) c.frame.payload)) in
      let landed : now.count ≤ lone.gateway.clock.count = rw clock (together_clock b m c.reading g h t) in
      let kept : refusal g c ≡ none → Keeps frame_of oracle_of c = λ e. keeps.0 ((accepted_rule g c).1 e) in
      call-cases g c (oracle_of c) (From cs b m h c)
      (λ e. (kept e).one_answer)
      (λ n. crossing cs b m g h t)
      (λ q _. crossing cs true now (advance c.reading g) h (together_asked b m c.reading g h t))
      (λ e rest.
      one_more h (record { by = c; reading = now; landing = lone.landing }) _ _ _ _ lone
      (λ i. alone (oracle_of c) (rule (sym (together_advanced b m c.reading g h t) i) (sym (kept e).frame i).payload))
      refl
      (crossing cs false now lone.gateway lone.gateway (together now lone.gateway landed) rest))
      keeps.1

  -- whatever oracle the answers of each call agree with
  pub any_order : (g : Gateway) (cs : List Call) → EveryAccepted (Keeps frame_of oracle_of) (events g cs) → AsOneAtATime frame_of oracle_of g (events g cs) (end_of g cs)
  any_order g cs keeps =
      let h = crossing cs false zero_millis g g (together zero_millis g zero-le) keeps in
      record {
        replies = h.replies;
        end_states = rw h.end_state_same (advance-settled (asked_in false (events g cs)) (greatest (events g cs)) _);
        exactly = h.end_state_same;
      }
