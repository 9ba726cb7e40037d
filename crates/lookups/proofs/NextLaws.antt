-- What is promised of the next number: it is the least one held above, and from 0 on all are met.
use Prim.Native.Nat.{ℕ, zero, suc, ◌-◌, ◌≤◌, ◌<◌}
use mathlib.Core.Path.{◌≡◌, refl, sym, ap, ◌∙◌, subst}
use mathlib.Core.Logic.{◌≢◌, ◌⊎◌, inl, inr, ⊎_elim}
use mathlib.Core.Bool.{Bool, true, false}
use mathlib.Core.List.{List, [], ◌∷◌}
use native.Mathlib.Omega.{arith}
use borrow.Author.Tests.{leb-true, leb-false, eqb-true, eqb-false, ltb-true, ltb-false}
use lib.Dec.{leb, ltb, eqb}
use Rattle.wire.proofs.Reading.{le_or_lt}
use Rattle.rule.specs.Gateway.{Entry as Key, Gateway}
use Rattle.rule.proofs.Cases.{cond_cases}
use Rattle.rule.proofs.PositionLaws.{some_not_none, same-entry, Holds}
use Rattle.table.specs.declared.State.{State}
use Rattle.table.specs.Meaning.{gateway_of}
use Rattle.table.specs.Soundness.{sound_state, Sound}
use Rattle.table.proofs.TestLaws.{sound_state-rule}
use Rattle.lookups.specs.Told.{nearer, least_above, next_told}
use Rattle.lookups.specs.Promises.{HeldUnder, Next, NextRule, NoNextRule, Reached, start, on, EveryReached}
use Rattle.lookups.proofs.ToldLaws.{next_unsound, next_sound}
use Rattle.lookups.proofs.HeldLaws.{is_sound}

-- ## The least number above another, over a list of keys

-- a key of the list has the number
record Has (ks : List Key) (n : ℕ) : Type 0 where
  at : ℕ
  key : Key
  there : Holds ks at key
  number : key.number ≡ n

-- m is 0 and no number is above, or m is the least one above
data Least (after : ℕ) (ks : List Key) (m : ℕ) : Type 0 where
  none_above : m ≡ 0 → ((n : ℕ) → Has ks n → n ≤ after) → Least after ks m
  least : Has ks m → after < m → ((n : ℕ) → Has ks n → after < n → m ≤ n) → Least after ks m

behind : (k : Key) (ks : List Key) (n : ℕ) → Has ks n → Has (k ∷ ks) n
behind k ks n h = record { at = suc h.at; key = h.key; there = h.there; number = h.number }

-- the first key's number, or one behind it
data Split (k : Key) (ks : List Key) (n : ℕ) : Type 0 where
  first : n ≡ k.number → Split k ks n
  rest : Has ks n → Split k ks n

split_at : (k : Key) (ks : List Key) (n i : ℕ) (e : Key) → Holds (k ∷ ks) i e → e.number ≡ n → Split k ks n
split_at k ks n zero e there is = first (sym is ∙ sym (ap (λ (k : Key). k.number) (same-entry there)))
split_at k ks n (suc i) e there is = rest (record { at = i; key = e; there = there; number = is })

split : (k : Key) (ks : List Key) (n : ℕ) → Has (k ∷ ks) n → Split k ks n
split k ks n h = split_at k ks n h.at h.key h.there h.number

here : (k : Key) (ks : List Key) → Has (k ∷ ks) k.number
here k ks = record { at = 0; key = k; there = refl; number = refl }

module _ (after : ℕ) (k : Key) (ks : List Key) where
  abbrev n : ℕ
  n = k.number

  -- the first key's number is not above
  passed : (m : ℕ) → n ≤ after → Least after ks m → Least after (k ∷ ks) m
  passed m low (none_above z all) = none_above z (λ q h. by_split q (split k ks q h))
    where
      by_split : (q : ℕ) → Split k ks q → q ≤ after
      by_split q (first e) = omega arith
      by_split q (rest h) = all q h
  passed m low (least has above all) = least (behind k ks m has) above (λ q h over. by_split q over (split k ks q h))
    where
      by_split : (q : ℕ) → after < q → Split k ks q → m ≤ q
      by_split q over (first e) = omega arith
      by_split q over (rest h) = all q h over

  -- it is the only one above, or lower than the others
  taken : (m : ℕ) → after < n → (m ≡ 0) ⊎ (n < m) → Least after ks m → Least after (k ∷ ks) n
  taken m over low (none_above z all) = least (here k ks) over (λ q h above. by_split q above (split k ks q h))
    where
      by_split : (q : ℕ) → after < q → Split k ks q → n ≤ q
      by_split q above (first e) = omega arith
      by_split q above (rest h) = let r = all q h in omega arith
  taken m over (inl z) (least has above all) = absurd (omega arith)
  taken m over (inr lower) (least has above all) = least (here k ks) over (λ q h b. by_split q b (split k ks q h))
    where
      by_split : (q : ℕ) → after < q → Split k ks q → n ≤ q
      by_split q b (first e) = omega arith
      by_split q b (rest h) = let r = all q h b in omega arith

  -- one behind it is lower or as low
  kept : (m : ℕ) → m ≢ 0 → m ≤ n → Least after ks m → Least after (k ∷ ks) m
  kept m is low (none_above z all) = absurd (is z)
  kept m is low (least has above all) = least (behind k ks m has) above (λ q h b. by_split q b (split k ks q h))
    where
      by_split : (q : ℕ) → after < q → Split k ks q → m ≤ q
      by_split q b (first e) = omega arith
      by_split q b (rest h) = all q h b

  nearer-least : (m : ℕ) → Least after ks m → Least after (k ∷ ks) (nearer after n m)
  unfolding nearer
  nearer-least m l =
      cond_cases (Least after (k ∷ ks)) (leb n after)
      (λ t. passed m (leb-true n after t) l)
      (λ t.
      let over = leb-false n after t in
      cond_cases (Least after (k ∷ ks)) (eqb m 0)
      (λ u. taken m over (inl (eqb-true m 0 u)) l)
      (λ u.
      cond_cases (Least after (k ∷ ks)) (ltb n m)
      (λ v. taken m over (inr (ltb-true n m v)) l)
      (λ v. kept m (eqb-false m 0 u) (ltb-false n m v) l)))

least_above_lem : (after : ℕ) (ks : List Key) → Least after ks (least_above after ks)
unfolding least_above
least_above_lem after [] = none_above refl (λ n h. absurd (some_not_none (sym h.there)))
least_above_lem after (k ∷ ks) = nearer-least after k ks (least_above after ks) (least_above_lem after ks)

-- ## Of a gateway

has : (g : Gateway) (n : ℕ) → HeldUnder g n → Has g.entries n
has g n h = record { at = h.held.0; key = h.key; there = h.held.1; number = h.number }

held : (g : Gateway) (n : ℕ) → Has g.entries n → HeldUnder g n
held g n h = record { key = h.key; held = (h.at, h.there); number = h.number }

module _ (g : Gateway) (after m : ℕ) (l : Least after g.entries m) where
  least_next : m ≢ 0 → Next g after m
  least_next is = by_least l
    where
      by_least : Least after g.entries m → Next g after m
      by_least (none_above z all) = absurd (is z)
      by_least (least h above all) = record { held = held g m h; above = above; least = λ n k over. all n (has g n k) over }

  least_none : m ≡ 0 → (n : ℕ) → HeldUnder g n → n ≤ after
  least_none z q h = by_least l
    where
      by_least : Least after g.entries m → q ≤ after
      by_least (none_above _ all) = all q (has g q h)
      by_least (least _ above all) = absurd (omega arith)

  next_least : (o : ℕ) → Next g after o → m ≡ o
  next_least o next = by_least l
    where
      by_least : Least after g.entries m → m ≡ o
      by_least (none_above _ all) = let low = all o (has g o next.held) in let over = next.above in absurd (omega arith)
      by_least (least h above all) =
          let low = all o (has g o next.held) next.above in
          let high = next.least m (held g m h) above in
          omega arith

  none_least : ((n : ℕ) → HeldUnder g n → n ≤ after) → m ≡ 0
  none_least all = by_least l
    where
      by_least : Least after g.entries m → m ≡ 0
      by_least (none_above z _) = z
      by_least (least h above _) = let low = all m (held g m h) in absurd (omega arith)

-- ## Told

module _ (s : State) (x : List ℕ) (after : ℕ) where
  -- what is told of a sound pair
  told-least : Sound s x → Least after (gateway_of s x).entries (next_told s x after)
  told-least S = subst (Least after (gateway_of s x).entries) (next_sound s x after (is_sound s x S)) (least_above_lem after (gateway_of s x).entries)

  -- a number is told of a sound pair only
  told-sound : next_told s x after ≢ 0 → Sound s x
  told-sound is = by_test (sound_state s x) refl
    where
      by_test : (b : Bool) → sound_state s x ≡ b → Sound s x
      by_test true e = (sound_state-rule s x).0 e
      by_test false e = absurd (is (sym (next_unsound s x after e)))

pub next_rule : NextRule
next_rule s x after m is = (to, from)
  where
    to : next_told s x after ≡ m → Sound s x × Next (gateway_of s x) after m
    to e =
        let S = told-sound s x after (λ z. is (sym e ∙ z)) in
        (S, least_next (gateway_of s x) after m (subst (Least after (gateway_of s x).entries) e (told-least s x after S)) is)

    from : Sound s x × Next (gateway_of s x) after m → next_told s x after ≡ m
    from (S, next) = next_least (gateway_of s x) after (next_told s x after) (told-least s x after S) m next

pub no_next_rule : NoNextRule
no_next_rule s x after = (to, from)
  where
    to : next_told s x after ≡ 0 → Sound s x → (n : ℕ) → HeldUnder (gateway_of s x) n → n ≤ after
    to e S = least_none (gateway_of s x) after (next_told s x after) (told-least s x after S) e

    from : (Sound s x → (n : ℕ) → HeldUnder (gateway_of s x) n → n ≤ after) → next_told s x after ≡ 0
    from all = by_number (next_told s x after) refl
      where
        by_number : (m : ℕ) → next_told s x after ≡ m → next_told s x after ≡ 0
        by_number zero e = e
        by_number (suc m) e =
            let S = told-sound s x after (λ z. omega arith) in
            none_least (gateway_of s x) after (next_told s x after) (told-least s x after S) (all S)

-- ## All are met

module _ (s : State) (x : List ℕ) (n : ℕ) (S : Sound s x) (h : HeldUnder (gateway_of s x) n) where
  -- the next number is this one, or one below it
  abbrev On : ℕ → Type 0
  On after = (next_told s x after ≡ n) ⊎ ((after < next_told s x after) × (next_told s x after < n))

  comes_nearer : (after : ℕ) → after < n → On after
  comes_nearer after low = by_least (told-least s x after S)
    where
      by_order : after < next_told s x after → next_told s x after ≤ n → (n ≤ next_told s x after) ⊎ (next_told s x after < n) → On after
      by_order above below (inl high) = inl (omega arith)
      by_order above below (inr more) = inr (above, more)

      by_least : Least after (gateway_of s x).entries (next_told s x after) → On after
      by_least (none_above _ all) = let never = all n (has (gateway_of s x) n h) in absurd (omega arith)
      by_least (least _ above all) = by_order above (all n (has (gateway_of s x) n h) low) (le_or_lt n (next_told s x after))

  reached_from : (d after : ℕ) → Reached s x after → after < n → n - after ≤ d → Reached s x n
  reached_from zero after r low near = absurd (omega arith)
  reached_from (suc d) after r low near =
      ⊎_elim
      (λ e. subst (Reached s x) e (on after r))
      (λ (w : (after < next_told s x after) × (next_told s x after < n)). let above = w.0 in let more = w.1 in reached_from d (next_told s x after) (on after r) more (omega arith))
      (comes_nearer after low)

  reached : (m : ℕ) → n ≡ m → Reached s x n
  reached zero e = subst (Reached s x) (sym e) start
  reached (suc m) e = reached_from n 0 start (omega arith) (omega arith)

pub every_reached : EveryReached
every_reached s x n S h = reached s x n S h n refl
