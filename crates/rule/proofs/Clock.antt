-- Laws of the clock: to advance twice is to advance to the greater reading.
use Prim.Native.Nat.{◌≤◌, ◌-◌}
use native.Mathlib.Omega.{arith}
use mathlib.Core.Path.{◌≡◌, refl, ap, ◌∙◌}
use mathlib.Core.Bool.{true, cond}
use mathlib.Core.List.{List, [], ◌∷◌}
use borrow.Author.Tests.{le-leb, leb-true}
use Rattle.std.proofs.Common.{None, Some}
use Rattle.keys.specs.Constraints.{Lifetime}
use Rattle.rule.specs.declared.Millis.{Millis}
use Rattle.rule.specs.Gateway.{Entry, Gateway, millis_of, due_at, lasting, at_clock, later, advance}
use Rattle.rule.proofs.Cases.{cond_cases}

pub same_count : {a b : Millis} → a.count ≡ b.count → a ≡ b
same_count e = λ i. record { count = e i }

due_later : (c d reading : Millis) (l : Lifetime) → c.count ≤ d.count → due_at c reading l ≡ true → due_at d reading l ≡ true
unfolding due_at
due_later c d reading None h e = e
due_later c d reading (Some seconds) h e =
    let q : (millis_of seconds).count ≤ c.count - reading.count = leb-true _ _ e in
    let r : (millis_of seconds).count ≤ d.count - reading.count = omega arith in
    le-leb _ _ r

-- what lasts to a later reading has lasted to an earlier one
lasting-later : (c d : Millis) → c.count ≤ d.count → (es : List Entry) → lasting d (lasting c es) ≡ lasting d es
unfolding lasting
lasting-later c d h [] = refl
lasting-later c d h (e ∷ es) =
    cond_cases (λ l. lasting d l ≡ lasting d (e ∷ es)) (due_at c e.reading e.lifetime)
    (λ t. rw (due_later c d e.reading e.lifetime h t) (lasting-later c d h es))
    (λ t. ap (λ l. cond (due_at d e.reading e.lifetime) l (e ∷ l)) (lasting-later c d h es))

at_clock-later : (c d : Millis) (g : Gateway) → c.count ≤ d.count → at_clock d (at_clock c g) ≡ at_clock d g
unfolding at_clock
at_clock-later c d g h = λ i. record { entries = lasting-later c d h g.entries i; lock = g.lock; clock = d; next = g.next }

pub advance-clock : (r : Millis) (g : Gateway) → (advance r g).clock ≡ later g.clock r
unfolding advance at_clock
advance-clock r g = refl

pub advance-lock : (r : Millis) (g : Gateway) → (advance r g).lock ≡ g.lock
unfolding advance at_clock
advance-lock r g = refl

pub advance-next : (r : Millis) (g : Gateway) → (advance r g).next ≡ g.next
unfolding advance at_clock
advance-next r g = refl

-- two advances are one, to the greater reading
pub advance-advance : (a b : Millis) (g : Gateway) → advance b (advance a g) ≡ advance (later a b) g
unfolding advance at_clock
advance-advance a b g =
    let lower : (later g.clock a).count ≤ (later (later g.clock a) b).count = omega arith in
    let clocks : later (later g.clock a) b ≡ later g.clock (later a b) = same_count (omega arith) in
    at_clock-later _ _ g lower ∙ ap (λ c. at_clock c g) clocks

pub advance-again : (a : Millis) (g : Gateway) → advance a (advance a g) ≡ advance a g
advance-again a g =
    let same-reading : later a a ≡ a = same_count (omega arith) in
    advance-advance a a g ∙ ap (λ r. advance r g) same-reading

-- a reading not above the kept clock adds nothing to another
pub advance-heard : (m r : Millis) (g : Gateway) → m.count ≤ g.clock.count → advance (later m r) g ≡ advance r g
unfolding advance
advance-heard m r g h =
    let clocks : later g.clock (later m r) ≡ later g.clock r = same_count (omega arith) in
    ap (λ c. at_clock c g) clocks
