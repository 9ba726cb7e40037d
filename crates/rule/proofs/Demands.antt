-- Demand 3 in its forms: as lent, by request, without refused calls, at the calls' own readings.
use Prim.Native.Nat.{◌≤◌}
use native.Mathlib.Omega.{arith}
use mathlib.Core.Path.{◌≡◌, refl, ap, subst}
use mathlib.Core.Bool.{true, false}
use mathlib.Core.List.{List, [], ◌∷◌, ◌++◌}
use Rattle.rule.specs.declared.Millis.{Millis}
use Rattle.rule.specs.Gateway.{Gateway, zero_millis}
use Rattle.rule.specs.Rule.{Landing}
use Rattle.rule.specs.Calls.{Call, Outcome, refused, asks, lands, call}
use Rattle.rule.specs.Runs.{Event, events, end_of, calls_of, RunsTo, Every, is_accepted, accepted_in, heard, heard_in, Turn, turn, turns_from, alone, served_alone, one_at_a_time}
use Rattle.rule.specs.Order.{EveryAccepted, Keeps, own_frame, own_answers, AsLent, AloneFinds, Demand3, RefusedUnread, RefusedDropOut, NeverFall, OwnReadings}
use Rattle.rule.proofs.Cases.{cond_cases, true_not_false}
use Rattle.rule.proofs.Clock.{same_count}
use Rattle.rule.proofs.Plans.{asks_not_lands, refused_not_lands}
use Rattle.rule.proofs.Crossing.{event_by, plan_of, own_cases, own_agrees, any_order}
use Rattle.rule.proofs.RowLaws.{same-landing}

-- ## The run as the one-at-a-time rule

own_kept : (g : Gateway) (cs : List Call) → EveryAccepted (Keeps own_frame own_answers) (events g cs)
unfolding events
own_kept g [] = tt
own_kept g (c ∷ cs) = (λ _. record { frame = refl; one_answer = own_agrees c }, own_kept (call g c).gateway cs)

pub as_lent : AsLent
as_lent g cs = any_order own_frame own_answers g cs (own_kept g cs)

pub demand_3 : Demand3
demand_3 frames oracles g cs keeps = any_order (λ c. frames c.request) (λ c. oracles c.request) g cs keeps

-- ## Events that are those of a run have what the run has

pub carried : (P : List Event → Gateway → Type 0) (g : Gateway) (es : List Event) (end : Gateway) → RunsTo g es end
    → P (events g (calls_of es)) (end_of g (calls_of es)) → P es end
carried P g es end runs h = subst (λ (es : List Event). P es end) runs.events-are (subst (P (events g (calls_of es))) runs.end_is h)

-- ## Refused calls drop out

-- a refused call is not read
record Unread (m : Millis) (few es : List Event) : Type 0 where
  same-turns : turns_from m few ≡ turns_from m es
  same-heard : heard_in m few ≡ heard_in m es

unread : (es : List Event) (m : Millis) → Unread m (accepted_in es) es
unfolding accepted_in is_accepted turns_from turn heard_in heard
unread [] m = record { same-turns = refl; same-heard = refl }
unread (e ∷ es) m =
    cond_cases (λ few. Unread m few (e ∷ es)) (is_accepted e.outcome)
    (λ _. let rest = unread es (heard m e) in record { same-turns = ap (λ ts. turn (heard m e) e.by e.outcome ++ ts) rest.same-turns; same-heard = rest.same-heard })
    (λ not-accepted. without e.outcome not-accepted (unread es m))
  where
    without : (o : Outcome) → is_accepted o ≡ false → Unread m (accepted_in es) es → Unread m (accepted_in es) (record { by = e.by; outcome = o } ∷ es)
    without (refused n) _ rest = record { same-turns = rest.same-turns; same-heard = rest.same-heard }
    without (asks q) never rest = absurd (true_not_false never)
    without (lands l) never rest = absurd (true_not_false never)

pub refused_unread : RefusedUnread
refused_unread es = let u = unread es zero_millis in record { landings-stay = u.same-turns; greatest-stays = u.same-heard }

refused_stays : (g : Gateway) (c : Call) → is_accepted (call g c).outcome ≡ false → (call g c).gateway ≡ g
unfolding is_accepted
refused_stays g c =
    own_cases g c (λ o r. is_accepted r.outcome ≡ false → r.gateway ≡ g)
    (λ n _. refl)
    (λ q _ never. absurd (true_not_false never))
    (λ never. absurd (true_not_false never))

pub refused_drop_out : RefusedDropOut
unfolding events end_of accepted_in
refused_drop_out g [] = record { events-are = refl; end_is = refl }
refused_drop_out g (c ∷ cs) =
    cond_cases (λ few. RunsTo g few (end_of (call g c).gateway cs)) (is_accepted (call g c).outcome)
    (λ _. let rest = refused_drop_out (call g c).gateway cs in record { events-are = ap (λ es. event_by c (call g c) ∷ es) rest.events-are; end_is = rest.end_is })
    (λ not-accepted. rw (refused_stays g c not-accepted) (refused_drop_out g cs))

-- ## Readings that never fall

abbrev Own : Turn → Type 0
Own t = t.reading ≡ t.by.reading

own_from : (es : List Event) (m : Millis) → NeverFall m es → Every Own (turns_from m es)
unfolding is_accepted turns_from turn heard NeverFall
own_from [] m _ = tt
own_from (e ∷ es) m (low, rest) = by e.outcome low (own_from es (heard m e) rest)
  where
    by : (o : Outcome) → (is_accepted o ≡ true → m.count ≤ e.by.reading.count) → Every Own (turns_from (heard m (record { by = e.by; outcome = o })) es)
        → Every Own (turns_from m (record { by = e.by; outcome = o } ∷ es))
    by (refused n) low rest = rest
    by (asks q) low rest = rest
    by (lands l) low rest = let h : m.count ≤ e.by.reading.count = low refl in (same_count (omega arith), rest)

pub own_readings : OwnReadings
own_readings es = own_from es zero_millis

pub alone-finds : AloneFinds
unfolding one_at_a_time served_alone
alone-finds g c l other e =
    ap (λ (x : Landing). x ∷ [])
    (own_cases g c (λ o r. r.outcome ≡ lands l → (alone (own_answers c) (plan_of g c)).landing ≡ l)
    (λ n never. absurd (refused_not_lands n l never))
    (λ q _ never. absurd (asks_not_lands q l never))
    (λ same. same-landing same)
    e)
