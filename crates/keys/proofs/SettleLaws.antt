-- The walk takes what constraints are written as, up to what settles it: by the next byte, and by induction over the bytes.
use Prim.Native.Nat.{ℕ, suc, ◌+◌, ◌<◌, ◌^◌}
use mathlib.Core.Path.{◌≡◌, refl, sym, ap, subst, ◌∙◌}
use mathlib.Core.List.{List, [], ◌∷◌, ◌++◌, append-nil}
use mathlib.Core.Bool.{Bool, true, false, cond}
use mathlib.Core.Logic.{◌↔◌}
use native.Mathlib.Omega.{arith}
use borrow.Author.Tests.{eqb-true, eqb-false, ne_eqb}
use lib.Dec.{eqb}
use lib.ListN.{length}
use Rattle.std.proofs.Common.{Some, None}
use Rattle.wire.specs.declared.Seconds.{Seconds}
use Rattle.wire.specs.declared.Constraint.{Constraint}
use Rattle.wire.specs.declared.Constraint.TheVariants.{KeyLifetime, Confirm}
use Rattle.wire.specs.Numbers.{be, be32, Bytes}
use Rattle.wire.proofs.Format.{be-of_be32, be32-of_be}
use Rattle.keys.specs.declared.constraints.Walk.TheVariants.{Done, Unknown}
use Rattle.keys.specs.Constraints.{Lifetime, once, walk_of, seconds_of}
use Rattle.keys.specs.Forms.{constraint_forms, Adds, none, lifetime, confirm}
use Rattle.keys.specs.Values.{seconds_in, Walked, ended, walk_says}
use Rattle.keys.specs.Promises.{Settles, end, twice, other, short, ConstraintRule}
use Rattle.keys.proofs.WalkLaws.{cut_short}
use Rattle.keys.proofs.AnswerLaws.{key-answers_apart, same-limits}

-- constraints that stand are taken, and the walk goes on behind them
walk_on : (at : ℕ) (rest : List ℕ) {l₀ : Lifetime} {c₀ : Bool} {cs : List Constraint} {l : Lifetime} {c : Bool} → Adds l₀ c₀ cs l c
    → walk_of at (constraint_forms cs ++ rest) l₀ c₀ ≡ walk_of (at + length (constraint_forms cs)) rest l c
unfolding walk_of seconds_of
walk_on at rest (none l c) = ap (λ (i : ℕ). walk_of i rest l c) (omega arith)
walk_on at rest {l = l} {c = c} (lifetime seconds h a) = rw (be-of_be32 seconds.count h) (walk_on (at + 1 + 4) rest a ∙ ap (λ (i : ℕ). walk_of i rest l c) (omega arith))
walk_on at rest {l = l} {c = c} (confirm c₀ a) = walk_on (at + 1) rest a ∙ ap (λ (i : ℕ). walk_of i rest l c) (omega arith)

-- what is left settles it so
settles_says : {at : ℕ} {rest : List ℕ} {l : Lifetime} {c : Bool} {r : Walked} → Settles at rest l c r → walk_says (walk_of at rest l c) ≡ r
unfolding walk_of
settles_says (end l c) = refl
settles_says (twice seconds c rest) = refl
settles_says (other l c byte rest one two) = rw (ne_eqb byte 1 one, ne_eqb byte 2 two)
settles_says {at} (short c rest h) = ap walk_says (cut_short (at + 1) rest c h)

-- constraints that stand, and what is left behind them
record Settled (at : ℕ) (s : List ℕ) (l₀ : Lifetime) (c₀ : Bool) (r : Walked) : Type 0 where
  cs : List Constraint
  l : Lifetime
  c : Bool
  rest : List ℕ
  form : s ≡ constraint_forms cs ++ rest
  adds : Adds l₀ c₀ cs l c
  settles : Settles (at + length (constraint_forms cs)) rest l c r

module _ {at : ℕ} {r : Walked} where
  -- no constraint stands in front
  at_once : {s : List ℕ} {l : Lifetime} {c : Bool} → Settles at s l c r → Settled at s l c r
  at_once {s} {l} {c} h = record { cs = []; l = l; c = c; rest = s; form = refl; adds = none l c; settles = subst (λ (i : ℕ). Settles i s l c r) (omega arith) h }

  -- a lifetime in front
  limit : (seconds : Seconds) (c₀ : Bool) (s : List ℕ) → seconds.count < 2 ^ 32 → Settled (at + 1 + 4) s (Some seconds) c₀ r
      → Settled at (1 ∷ be32 seconds.count ++ s) None c₀ r
  limit seconds c₀ s h x = record {
    cs = KeyLifetime seconds ∷ x.cs;
    l = x.l;
    c = x.c;
    rest = x.rest;
    form = rw x.form;
    adds = lifetime seconds h x.adds;
    settles = subst (λ (i : ℕ). Settles i x.rest x.l x.c r) (omega arith) x.settles;
  }

  -- four bytes as the seconds of a lifetime
  seconds_limit : (w x y z : ℕ) (s : List ℕ) (c₀ : Bool) → Bytes (w ∷ x ∷ y ∷ z ∷ s) → Settled (at + 1 + 4) s (Some (record { count = be w x y z })) c₀ r
      → Settled at (1 ∷ w ∷ x ∷ y ∷ z ∷ s) None c₀ r
  seconds_limit w x y z s c₀ bytes h =
      let small : be w x y z < 2 ^ 32 = omega (arith, bytes 0, bytes 1, bytes 2, bytes 3) in
      let whole : 1 ∷ be32 (be w x y z) ++ s ≡ 1 ∷ w ∷ x ∷ y ∷ z ∷ s = ap (λ (f : List ℕ). 1 ∷ f ++ s) (be32-of_be w x y z (bytes 0) (bytes 1) (bytes 2) (bytes 3)) in
      rw whole at (limit (record { count = be w x y z }) c₀ s small h)

  -- Confirm in front
  confirm_first : (l₀ : Lifetime) (c₀ : Bool) (s : List ℕ) → Settled (at + 1) s l₀ true r → Settled at (2 ∷ s) l₀ c₀ r
  confirm_first l₀ c₀ s x = record {
    cs = Confirm ∷ x.cs;
    l = x.l;
    c = x.c;
    rest = x.rest;
    form = rw x.form;
    adds = confirm c₀ x.adds;
    settles = subst (λ (i : ℕ). Settles i x.rest x.l x.c r) (omega arith) x.settles;
  }

-- by the next byte
by_byte : (at b : ℕ) (s : List ℕ) (l₀ : Lifetime) (c₀ : Bool) → Settled at (1 ∷ s) None c₀ (walk_says (seconds_of (at + 1) s c₀))
    → Settled (at + 1) s l₀ true (walk_says (walk_of (at + 1) s l₀ true)) → Settled at (b ∷ s) l₀ c₀ (walk_says (walk_of at (b ∷ s) l₀ c₀))
unfolding walk_of
by_byte at b s l₀ c₀ seconds rest = go l₀ (eqb b 1) refl (eqb b 2) refl rest
  where
    go : (l₀ : Lifetime) (q : Bool) → eqb b 1 ≡ q → (p : Bool) → eqb b 2 ≡ p → Settled (at + 1) s l₀ true (walk_says (walk_of (at + 1) s l₀ true))
        → Settled at (b ∷ s) l₀ c₀ (walk_says (cond q (once l₀ at (seconds_of (at + 1) s c₀)) (cond p (walk_of (at + 1) s l₀ true) (Unknown at))))
    go None true h p k rest = rw (eqb-true b 1 h) seconds
    go (Some n) true h p k rest = rw (eqb-true b 1 h) (at_once (twice n c₀ s))
    go l₀ false h true k rest = rw (eqb-true b 2 k) (confirm_first l₀ c₀ s rest)
    go l₀ false h false k rest = at_once (other l₀ c₀ b s (eqb-false b 1 h) (eqb-false b 2 k))

mutual
  unfolding walk_of seconds_of

  walk_settles : (at : ℕ) (s : List ℕ) (l₀ : Lifetime) (c₀ : Bool) → Bytes s → Settled at s l₀ c₀ (walk_says (walk_of at s l₀ c₀))
  walk_settles at [] l₀ c₀ bytes = at_once (end l₀ c₀)
  walk_settles at (b ∷ s) l₀ c₀ bytes =
      by_byte at b s l₀ c₀ (seconds_settle at s c₀ (λ i. bytes (suc i))) (walk_settles (at + 1) s l₀ true (λ i. bytes (suc i)))

  seconds_settle : (at : ℕ) (s : List ℕ) (c₀ : Bool) → Bytes s → Settled at (1 ∷ s) None c₀ (walk_says (seconds_of (at + 1) s c₀))
  seconds_settle at [] c₀ bytes = at_once (short c₀ [] (omega arith))
  seconds_settle at (w ∷ []) c₀ bytes = at_once (short c₀ (w ∷ []) (omega arith))
  seconds_settle at (w ∷ x ∷ []) c₀ bytes = at_once (short c₀ (w ∷ x ∷ []) (omega arith))
  seconds_settle at (w ∷ x ∷ y ∷ []) c₀ bytes = at_once (short c₀ (w ∷ x ∷ y ∷ []) (omega arith))
  seconds_settle at (w ∷ x ∷ y ∷ z ∷ s) c₀ bytes =
      seconds_limit w x y z s c₀ bytes (walk_settles (at + 1 + 4) s (Some (record { count = be w x y z })) c₀ (λ i. bytes (suc (suc (suc (suc i))))))

pub constraint_rule : ConstraintRule
constraint_rule at s r bytes = (
  (λ e. let x = rw e at (walk_settles at s None false bytes) in (x.cs, x.l, x.c, x.rest, x.form, x.adds, x.settles)),
  (λ (cs, l, c, rest, form, adds, settles). rw form (ap walk_says (walk_on at rest adds) ∙ settles_says settles)),
)

-- ## A walk that ends well

-- nothing is left then, and the limits are these
ended_so : {at : ℕ} {rest : List ℕ} {l m : Lifetime} {c d : Bool} {r : Walked} → Settles at rest l c r → r ≡ ended (record { seconds = seconds_in m; confirm = d })
    → (rest ≡ []) × (l ≡ m) × (c ≡ d)
ended_so {m = m} {d = d} (end l c) e = let (same-lifetime, same-confirm) = same-limits l m c d (cc) in (refl, same-lifetime, same-confirm)
ended_so (twice seconds c rest) e = let z : ◌≡◌ {A = ℕ} 0 1 = cc in absurd (omega arith)
ended_so (other l c byte rest one two) e = let z : ◌≡◌ {A = ℕ} 0 1 = cc in absurd (omega arith)
ended_so (short c rest h) e = let z : ◌≡◌ {A = ℕ} 0 1 = cc in absurd (omega arith)

pub walk_rule : (at : ℕ) (s : List ℕ) (l : Lifetime) (c : Bool) → Bytes s
    → (walk_of at s None false ≡ Done l c) ↔ ((cs : List Constraint) × (s ≡ constraint_forms cs) × Adds None false cs l c)
walk_rule at s l c bytes =
    let rule = constraint_rule at s (walk_says (Done l c)) bytes in (
      (λ e.
          let (cs, m, d, rest, form, adds, settles) = rule.0 (ap walk_says e) in
          let (nothing, same-lifetime, same-confirm) = ended_so {m = l} {d = c} settles refl in
          (cs, form ∙ rw nothing (append-nil (constraint_forms cs)), rw (same-lifetime, same-confirm) at adds)),
      (λ (cs, form, adds). key-answers_apart.walks (walk_of at s None false) (Done l c) (rule.1 (cs, l, c, [], form ∙ sym (append-nil (constraint_forms cs)), adds, end l c))),
    )
