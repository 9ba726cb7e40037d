-- What a landing may do to the gateway: one fact over all of 01's table, from which the others follow.
use Prim.Native.Nat.{ℕ, ◌-◌, ◌≤◌, ◌<◌, zero-le}
use native.Mathlib.Omega.{arith}
use mathlib.Core.Path.{◌≡◌, refl, ap}
use mathlib.Core.Bool.{Bool, true, false}
use mathlib.Core.Option.{Option, none, some}
use mathlib.Core.List.{List, []}
use borrow.Author.Tests.{leb-true, ltb-true}
use lib.ListN.{length}
use lib.Dec.{leb, ltb, eqb}
use Rattle.std.proofs.Common.{Some}
use Rattle.wire.specs.Limits.{passphrase_limit, last_number}
use Rattle.wire.specs.Read.{cut_of, same, string_at, number_at}
use Rattle.wire.proofs.Reading.{string-read}
use Rattle.wire.proofs.Format.{part_length}
use Rattle.keys.specs.Kinds.{blob_of}
use Rattle.keys.specs.Additions.{addition_at}
use Rattle.rule.specs.Gateway.{Entry, Gateway, locked, opened, seek, holds, entry_with, place_for, with_lock, without, without_all, with_entry}
use Rattle.rule.specs.Soundness.{fit}
use Rattle.rule.specs.Rule.{Landing, FAILURE, SUCCESS, Plan, listing, removing, removing_all, locking, unlocking, signed, signing_data, confirming, signing, entry_of, storing, adding, gated, row, table, rule}
use Rattle.rule.proofs.Cases.{cond_cases, part-cases, number_cases, found-cases, added-cases}
use Rattle.rule.proofs.Plans.{EveryLanding}

-- an entry that may be stored, at a position for it
pub record Storable (g : Gateway) (e : Entry) (i : ℕ) : Type 0 where
  pub fits : fit e.blob e.fields e.comment ≡ true
  pub numbers_left : g.next < last_number
  pub place : place_for e g.entries ≡ Some i
  pub number : e.number ≡ g.next
  pub reading : e.reading ≡ g.clock

pub data Effect (g : Gateway) (l : Landing) (after : Gateway) : Type 0 where
  leaves : after ≡ g → Effect g l after
  removes : (blob : List ℕ) (i : ℕ) → seek (holds blob) 0 g.entries ≡ Some i → l ≡ SUCCESS → after ≡ without i g → Effect g l after
  clears : l ≡ SUCCESS → after ≡ without_all g → Effect g l after
  locks : (passphrase : List ℕ) → length passphrase ≤ passphrase_limit → l ≡ SUCCESS → after ≡ with_lock passphrase g → Effect g l after
  stores : (e : Entry) (i : ℕ) → Storable g e i → l ≡ SUCCESS → after ≡ with_entry i e g → Effect g l after

module _ (g : Gateway) where
  abbrev Lands : Plan → Type 0
  Lands = EveryLanding (Effect g)

  removing-effect : (payload : List ℕ) → Lands (removing g payload)
  unfolding removing
  removing-effect payload =
      part-cases Lands (string_at payload 1) (λ _ _. leaves refl) λ f t k _.
      found-cases Lands (seek (holds (cut_of payload f t)) 0 g.entries) (λ _. leaves refl) λ i e.
      removes (cut_of payload f t) i e refl refl

  locking-effect : (payload : List ℕ) → Lands (locking g payload)
  unfolding locking
  locking-effect payload =
      part-cases Lands (string_at payload 1) (λ _ _. leaves refl) λ f t k e.
      cond_cases Lands (leb (t - f) passphrase_limit)
      (λ fits.
      let w = string-read payload 1 f t k e in
      let l = part_length payload f t (omega arith) w.within in
      let h : t - f ≤ passphrase_limit = leb-true _ _ fits in
      locks (cut_of payload f t) (omega arith) refl refl)
      (λ _. leaves refl)

  unlocking-effect : (payload : List ℕ) → Lands (unlocking g payload)
  unfolding unlocking
  unlocking-effect payload =
      part-cases Lands (string_at payload 1) (λ _ _. leaves refl) λ f t k _.
      cond_cases Lands (same g.lock (cut_of payload f t)) (λ _. locks [] zero-le refl refl) (λ _. leaves refl)

  data_effect : (payload : List ℕ) (n at : ℕ) → Lands (signing_data g payload n at)
  unfolding signing_data signed
  data_effect payload n at =
      part-cases Lands (string_at payload at) (λ _ _. leaves refl) λ f t k _.
      number_cases Lands (number_at payload k.at) (λ _ _. leaves refl) λ flags end _.
      by_signer
    where
      by_signer : (a : Option (List ℕ)) → Lands (signed g a)
      by_signer none = leaves refl
      by_signer (some blob) = leaves refl

  signing-effect : (payload : List ℕ) → Lands (signing g payload)
  unfolding signing confirming
  signing-effect payload =
      part-cases Lands (string_at payload 1) (λ _ _. leaves refl) λ f t k _.
      by_key (entry_with (cut_of payload f t) g.entries) k.at
    where
      by_key : (o : Option Entry) (at : ℕ) → Lands (confirming g payload o at)
      by_key none at = leaves refl
      by_key (some e) at =
          let signer = data_effect payload e.number at in
          cond_cases Lands e.confirm (λ _ granted. cond_cases Lands granted (λ _. signer) (λ _. leaves refl)) (λ _. signer)

  adding-effect : (constrained : Bool) (payload : List ℕ) → Lands (adding constrained g payload)
  unfolding adding storing
  adding-effect constrained payload =
      added-cases Lands (addition_at payload 1 constrained) (leaves refl) λ c _.
      let e = entry_of g payload c (blob_of payload 1 c.places) in
      cond_cases Lands (fit e.blob e.fields e.comment)
      (λ fits.
      cond_cases Lands (ltb g.next last_number)
      (λ left.
      found-cases Lands (place_for e g.entries) (λ _. leaves refl) λ i place granted.
      cond_cases Lands granted
      (λ _. stores e i (record { fits = fits; numbers_left = ltb-true _ _ left; place = place; number = refl; reading = refl }) refl refl)
      (λ _. leaves refl))
      (λ _. leaves refl))
      (λ _. leaves refl)

  row-effect : (first byte : ℕ) (fit : Bool) (class : ℕ) (body below : Plan) → Lands body → Lands below → Lands (row g first byte fit class body below)
  unfolding row gated
  row-effect first byte fit class body below h k =
      cond_cases Lands (eqb first byte)
      (λ _. cond_cases Lands fit (λ _ granted. cond_cases Lands granted (λ _. h) (λ _. leaves refl)) (λ _. leaves refl))
      (λ _. k)

  pub rule-effect : (payload : List ℕ) → Lands (rule g payload)
  unfolding rule table listing removing_all
  rule-effect payload =
      cond_cases Lands (ltb 0 (length payload))
      (λ _.
      row-effect _ 11 (opened g) 1 _ _ (leaves refl)
      (row-effect _ 17 (opened g) 2 _ _ (adding-effect false payload)
      (row-effect _ 25 (opened g) 2 _ _ (adding-effect true payload)
      (row-effect _ 18 (opened g) 3 _ _ (removing-effect payload)
      (row-effect _ 19 (opened g) 4 _ _ (clears refl refl)
      (row-effect _ 13 (opened g) 5 _ _ (signing-effect payload)
      (row-effect _ 22 (opened g) 6 _ _ (locking-effect payload)
      (row-effect _ 23 (locked g) 7 _ _ (unlocking-effect payload)
      (leaves refl)))))))))
      (λ _. leaves refl)

-- no landing moves the clock
pub effect_clock : {g after : Gateway} {l : Landing} → Effect g l after → after.clock ≡ g.clock
effect_clock (leaves e) = ap (λ x. x.clock) e
effect_clock (removes blob i h s e) = ap (λ x. x.clock) e
effect_clock (clears s e) = ap (λ x. x.clock) e
effect_clock (locks passphrase f s e) = ap (λ x. x.clock) e
effect_clock (stores entry i f s e) = ap (λ x. x.clock) e

pub success_not_failure : {l : Landing} → l ≡ SUCCESS → l ≡ FAILURE → ⊥
success_not_failure s f = let z : ◌≡◌ {A = ℕ} 6 5 = cc in omega arith

-- only SUCCESS alters anything
pub only_success : {g after : Gateway} {l : Landing} → Effect g l after → (l ≡ SUCCESS → ⊥) → after ≡ g
only_success (leaves e) n = e
only_success (removes blob i h s e) n = absurd (n s)
only_success (clears s e) n = absurd (n s)
only_success (locks passphrase h s e) n = absurd (n s)
only_success (stores entry i h s e) n = absurd (n s)
