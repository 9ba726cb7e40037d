-- A held entry stays until its time is up, or a request's SUCCESS removes it, clears all, or adds its blob again.
use Prim.Native.Nat.{ℕ, ◌-◌, ◌≤◌}
use native.Mathlib.Omega.{arith}
use mathlib.Core.Path.{◌≡◌, refl, sym, ap, ◌∙◌, subst}
use mathlib.Core.Logic.{◌≢◌, ◌⊎◌, inl, inr}
use mathlib.Core.Bool.{Bool, true, false}
use mathlib.Core.List.{List}
use borrow.Author.Tests.{leb-true}
use Rattle.std.proofs.Common.{None, Some}
use Rattle.wire.specs.Numbers.{Bytes}
use Rattle.keys.specs.Constraints.{Lifetime}
use Rattle.keys.specs.Kinds.{blob_of}
use Rattle.rule.specs.Gateway.{Entry, Gateway, millis_of, due_at, at_clock, later, advance}
use Rattle.rule.specs.Rule.{entry_of, listing, removing_all}
use Rattle.rule.specs.Calls.{lent, Call, Outcome, Result, follow, call}
use Rattle.rule.specs.Words.{Begins, Carries, HeldAt, Held, at_call, payload_of}
use Rattle.rule.specs.Rows.{Row, list, add, add_constrained, remove, remove_all, sign, lock, unlock}
use Rattle.rule.specs.Adding.{add_byte}
use Rattle.rule.specs.Times.{Leaves, expired, removed, cleared, replaced, UsableUntil}
use Rattle.rule.proofs.Cases.{true_not_false}
use Rattle.rule.proofs.PositionLaws.{same-entry, same-or_other, holds-within, lasting-keeps, remove_elsewhere, put_elsewhere, found_at}
use Rattle.rule.proofs.RoomLaws.{Placed, replacing, anew, place_inside, has_place}
use Rattle.rule.proofs.RowLaws.{body_result, rows_cases}
use Rattle.rule.proofs.RequestLaws.{add_in}
use Rattle.rule.proofs.BodyLaws.{removing-cases, locking-cases, unlocking-cases, adding-cases, signing-cases, add_result}

-- ## Time

due_expired : (g : Gateway) (c : Call) (e : Entry) → due_at (later g.clock c.reading) e.reading e.lifetime ≡ true → Leaves g c e
unfolding due_at
due_expired g c e = by_lifetime e.lifetime refl
  where
    by_lifetime : (l : Lifetime) → e.lifetime ≡ l → due_at (later g.clock c.reading) e.reading l ≡ true → Leaves g c e
    by_lifetime None is t = absurd (true_not_false (sym t))
    by_lifetime (Some seconds) is t = let up : (millis_of seconds).count ≤ (later g.clock c.reading).count - e.reading.count = leb-true _ _ t in expired seconds is (omega arith)

still_held : (g : Gateway) (c : Call) (i : ℕ) (e : Entry) → HeldAt g i e → due_at (later g.clock c.reading) e.reading e.lifetime ≡ false → Held (at_call g c) e
unfolding advance at_clock
still_held g c i e held early = lasting-keeps (later g.clock c.reading) g.entries i e held early

-- ## Requests

module _ (g : Gateway) (c : Call) (bytes : Bytes (payload_of c)) (i : ℕ) (e : Entry) (held : HeldAt (at_call g c) i e) where
  -- where this is the call's result
  abbrev Keeps : Result → Type 0
  Keeps r = r.outcome ≡ (call g c).outcome → Held r.gateway e ⊎ Leaves g c e

  stays : {o : Outcome} → o ≡ (call g c).outcome → Held (at_call g c) e ⊎ Leaves g c e
  stays _ = inl (i, held)

  -- at the position that a landing changes, or elsewhere
  by_position : (j : ℕ) {A B : Type 0} → (i ≡ j → B) → (i ≢ j → A) → A ⊎ B
  by_position j {A} {B} here elsewhere = at_or_not (same-or_other i j)
    where
      at_or_not : (i ≡ j) ⊎ (i ≢ j) → A ⊎ B
      at_or_not (inl p) = inr (here p)
      at_or_not (inr n) = inl (elsewhere n)

  -- a stored entry takes the position of its own blob, or goes behind all others
  stored_over : (blob : List ℕ) (j : ℕ) → Placed blob (at_call g c).entries j → HeldAt (at_call g c) j e → blob ≡ e.blob
  stored_over blob j (replacing at) there =
      let old = found_at blob (at_call g c).entries j at in
      sym old.is ∙ ap (λ x. x.blob) (same-entry (sym old.there ∙ there))
  stored_over blob j (anew _ last) there = absurd (let h = holds-within (at_call g c).entries j e there in omega arith)

  add_keeps : (constrained : Bool) → Begins (add_byte constrained) (payload_of c) → Keeps (add_result constrained g c)
  add_keeps constrained begins =
      adding-cases (lent c.answers) (at_call g c) (payload_of c) Keeps stays constrained (λ k j _ _. stays) λ k j read storable _ success.
      let entry = entry_of (at_call g c) (payload_of c) k (blob_of (payload_of c) 1 k.places) in
      let place = (has_place entry (at_call g c).entries j storable.place).placed in
      let (new, request, r) = add_in (payload_of c) bytes constrained k begins read in
      let over : i ≡ j → Leaves g c e
      = λ here. replaced new request (sym (ap (λ n. n.blob) r.brings) ∙ stored_over entry.blob j place (rw here at held)) (sym success) in
      by_position j over (λ other. (i, put_elsewhere j entry (at_call g c).entries (place_inside place) i other ∙ held))

  row_keeps : {byte : ℕ} {needs : Bool} {class : ℕ} (r : Row byte needs class) → Begins byte (payload_of c) → Keeps (body_result r g c)
  unfolding listing removing_all follow
  row_keeps list begins = stays
  row_keeps add begins = add_keeps false begins
  row_keeps add_constrained begins = add_keeps true begins
  row_keeps remove begins =
      removing-cases (lent c.answers) (at_call g c) (payload_of c) Keeps stays λ j x key success.
      let named : i ≡ j → x ≡ e = λ here. same-entry (sym key.there ∙ rw here at held) in
      by_position j
      (λ here. removed begins (subst (λ x. Carries x.blob (payload_of c)) (named here) key.carries) (sym success))
      (λ other. remove_elsewhere j (at_call g c).entries i e other held)
  row_keeps remove_all begins = λ success. inr (cleared begins (sym success))
  row_keeps sign begins =
      signing-cases (lent c.answers) (at_call g c) (payload_of c) Keeps (λ _. stays) (λ _. stays)
      (λ j x _ _. stays)
      (λ j x f t flags _ _ _. stays)
      (λ j x f t flags blob _ _ _ _. stays)
  row_keeps lock begins = locking-cases (lent c.answers) (at_call g c) (payload_of c) Keeps stays (λ passphrase. stays)
  row_keeps unlock begins = unlocking-cases (lent c.answers) (at_call g c) (payload_of c) Keeps stays (λ passphrase. stays)

  call-keeps : Held g e → Held (call g c).gateway e ⊎ Leaves g c e
  call-keeps before =
      rows_cases Keeps g c
      (λ n _ _. inl before)
      (λ _. stays)
      (λ byte needs class _ _ _ _ _. stays)
      (λ byte needs class r begins _ _. row_keeps r begins)
      refl

pub usable_until : UsableUntil
usable_until g c e bytes (i, held) = by_time (due_at (later g.clock c.reading) e.reading e.lifetime) refl
  where
    by_time : (b : Bool) → due_at (later g.clock c.reading) e.reading e.lifetime ≡ b → Held (call g c).gateway e ⊎ Leaves g c e
    by_time true due = inr (due_expired g c e due)
    by_time false early = let (j, there) = still_held g c i e held early in call-keeps g c bytes j e there (i, held)
