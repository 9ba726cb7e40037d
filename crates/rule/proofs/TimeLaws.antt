-- An accepted call raises the clock to its reading and leaves no entry whose time is up but what it has itself added with lifetime 0.
use Prim.Native.Nat.{ℕ, zero, suc, ◌-◌, ◌<◌}
use native.Mathlib.Omega.{arith}
use mathlib.Core.Path.{◌≡◌, refl, sym, ap, ◌∙◌}
use mathlib.Core.Logic.{◌⊎◌, inl, inr}
use mathlib.Core.Bool.{false}
use mathlib.Core.Option.{none}
use mathlib.Core.List.{List, [], ◌∷◌}
use lib.Dec.{leb}
use borrow.Author.Tests.{leb-false}
use Rattle.std.proofs.Common.{None, Some}
use Rattle.wire.specs.declared.Seconds.{Seconds}
use Rattle.keys.specs.Constraints.{Lifetime}
use Rattle.rule.specs.declared.Millis.{Millis}
use Rattle.rule.specs.Gateway.{Entry, Gateway, millis_of, due_at, lasting, at_clock, later, advance}
use Rattle.rule.specs.Soundness.{EveryEntry}
use Rattle.rule.specs.Rule.{Landing}
use Rattle.rule.specs.Calls.{Call, refusal, call}
use Rattle.rule.specs.Order.{own_answers}
use Rattle.rule.specs.Words.{at_call, payload_of}
use Rattle.rule.specs.Times.{OnTime, GoneOnTime, ClockRaised}
use Rattle.rule.proofs.Cases.{cond_cases}
use Rattle.rule.proofs.Clock.{advance-clock}
use Rattle.rule.proofs.Plans.{alone-has}
use Rattle.rule.proofs.Effects.{Effect, leaves, removes, clears, locks, stores, rule-effect, effect_clock}
use Rattle.rule.proofs.Crossing.{plan_of, own_cases}
use Rattle.rule.proofs.PositionLaws.{some_not_none, every_at, every_imp, Fewer, fewer_every, fewer_all, remove_fewer, put_every}
use Rattle.rule.proofs.RoomLaws.{place_inside, has_place}

-- what holds once the clock is raised, and after each effect, holds after an accepted call
pub accepted_keeps : (P : Gateway → Type 0) (g : Gateway) (c : Call) → P (at_call g c)
    → ((l : Landing) (after : Gateway) → Effect (at_call g c) l after → P after) → refusal g c ≡ none → P (call g c).gateway
accepted_keeps P g c now effects =
    own_cases g c (λ o r. o ≡ none → P r.gateway)
    (λ n never. absurd (some_not_none never))
    (λ q _ _. now)
    (λ _. effects _ _ (alone-has (Effect (at_call g c)) (own_answers c) (plan_of g c) (rule-effect (at_call g c) (payload_of c))))

pub clock_raised : ClockRaised
clock_raised g c =
    let raised = advance-clock c.reading g in
    λ accepted. ap (λ (t : Millis). t.count)
    (accepted_keeps (λ after. after.clock ≡ later g.clock c.reading) g c raised (λ l after h. effect_clock h ∙ raised) accepted)

-- ## On time

not_due : (clock : Millis) (e : Entry) → due_at clock e.reading e.lifetime ≡ false → OnTime clock e
unfolding due_at
not_due clock e h seconds for =
    let early : leb (millis_of seconds).count (clock.count - e.reading.count) ≡ false = rw for at h in
    let l : clock.count - e.reading.count < (millis_of seconds).count = leb-false _ _ early in
    omega arith

lasting-on_time : (clock : Millis) (es : List Entry) → EveryEntry (OnTime clock) (lasting clock es)
unfolding lasting
lasting-on_time clock [] = tt
lasting-on_time clock (e ∷ es) =
    cond_cases (EveryEntry (OnTime clock)) (due_at clock e.reading e.lifetime)
    (λ _. lasting-on_time clock es)
    (λ early. (not_due clock e early, lasting-on_time clock es))

-- on time, or just added with lifetime 0
abbrev Timely : Millis → ℕ → Entry → Type 0
Timely clock next e = OnTime clock e ⊎ ((e.number ≡ next) × (e.lifetime ≡ Some (record { count = 0 })))

forever_not_for : (seconds : Seconds) → None ≡ Some seconds → ⊥
forever_not_for seconds never = let z : ◌≡◌ {A = ℕ} 0 1 = cc in omega arith

same-seconds : {a b : Seconds} → Some a ≡ Some b → a ≡ b
same-seconds e = cc

still_timely : (g : Gateway) {es : List Entry} → Fewer g.entries es → EveryEntry (OnTime g.clock) g.entries → EveryEntry (Timely g.clock g.next) es
still_timely g {es} fewer all = every_imp (OnTime g.clock) (Timely g.clock g.next) (λ e. inl) es (fewer_every (OnTime g.clock) fewer all)

new_timely : (clock : Millis) (next : ℕ) (e : Entry) → e.number ≡ next → e.reading ≡ clock → Timely clock next e
new_timely clock next e number reading = by_lifetime e.lifetime refl
  where
    by_count : (n : ℕ) → e.lifetime ≡ Some (record { count = n }) → Timely clock next e
    by_count zero is = inr (number, is)
    by_count (suc n) is = inl λ seconds for.
        let count : suc n ≡ seconds.count = ap (λ s. s.count) (same-seconds (sym is ∙ for)) in
        let now : e.reading.count ≡ clock.count = ap (λ (t : Millis). t.count) reading in
        omega arith

    by_lifetime : (l : Lifetime) → e.lifetime ≡ l → Timely clock next e
    by_lifetime None is = inl (λ seconds never. absurd (forever_not_for seconds (sym is ∙ never)))
    by_lifetime (Some seconds) is = by_count seconds.count is

effect_timely : {g after : Gateway} {l : Landing} → EveryEntry (OnTime g.clock) g.entries → Effect g l after
    → EveryEntry (Timely g.clock g.next) after.entries
effect_timely {g} all (leaves e) = rw e (still_timely g (fewer_all g.entries) all)
effect_timely {g} all (removes blob i _ _ e) = rw e (still_timely g (remove_fewer i g.entries) all)
effect_timely {g} all (clears _ e) = rw e tt
effect_timely {g} all (locks passphrase _ _ e) = rw e (still_timely g (fewer_all g.entries) all)
effect_timely {g} all (stores entry i new _ e) =
    let inside = place_inside (has_place entry g.entries i new.place).placed in
    rw e
    (put_every g.entries i entry inside (Timely g.clock g.next) (new_timely g.clock g.next entry new.number new.reading)
    (still_timely g (fewer_all g.entries) all))

pub gone_on_time : GoneOnTime
unfolding advance at_clock
gone_on_time g c e accepted (i, held) =
    let now : Gateway = at_call g c in
    let on-time : EveryEntry (OnTime now.clock) now.entries = lasting-on_time (later g.clock c.reading) g.entries in
    every_at (Timely now.clock now.next) (call g c).gateway.entries
    (accepted_keeps (λ after. EveryEntry (Timely now.clock now.next) after.entries) g c
    (still_timely now (fewer_all now.entries) on-time)
    (λ l after. effect_timely on-time)
    accepted)
    i e held
