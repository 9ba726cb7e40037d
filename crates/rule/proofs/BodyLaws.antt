-- Every result of a row's body with lent answers, and what it says: one case lemma for each body. So only adds and signs ask behind the gate.
use Prim.Native.Nat.{ℕ, ◌-◌}
use native.Mathlib.Omega.{arith}
use mathlib.Core.Path.{◌≡◌, refl, sym, ap, ◌∙◌}
use mathlib.Core.Logic.{◌≢◌}
use mathlib.Core.Bool.{Bool, true, false}
use mathlib.Core.Option.{Option, none, some}
use mathlib.Core.List.{List, []}
use borrow.Author.Tests.{ltb-true}
use lib.Dec.{leb, ltb}
use Rattle.std.proofs.Common.{None, Ok, Some}
use Rattle.wire.specs.Steps.{faulted, part_of}
use Rattle.wire.specs.Limits.{passphrase_limit, last_number}
use Rattle.wire.specs.declared.read.Cursor.{Cursor}
use Rattle.wire.specs.Read.{cut_of, same, string_at, number_at}
use Rattle.keys.specs.declared.addition.Carried.{Carried}
use Rattle.keys.specs.Kinds.{blob_of}
use Rattle.keys.specs.Additions.{addition_at}
use Rattle.rule.specs.Gateway.{Found}
use Rattle.rule.specs.Gateway.{Entry, Gateway, locked, seek, holds, entry_with, place_for, with_lock, without, with_entry}
use Rattle.rule.specs.Soundness.{fit}
use Rattle.rule.specs.Rule.{Question, gate, check, confirmation, signature, Answer, Landing, reply, close, FAILURE, SUCCESS, Plan, land, fails, closes, listing, removing, removing_all, locking, unlocking, hash_of, signature_reply, signed, signing_data, confirming, signing, entry_of, storing, adding}
use Rattle.wire.proofs.Reading.{part_one}
use Rattle.rule.specs.Calls.{lent, Call, asks, lands, Result, follow, call}
use Rattle.rule.specs.Words.{Begins, Carries, HeldAt, at_call, payload_of, PastGate}
use Rattle.rule.specs.Rows.{Row, list, add, add_constrained, remove, remove_all, sign, lock, unlock}
use Rattle.rule.specs.Adding.{add_byte}
use Rattle.rule.proofs.Cases.{cond_cases, part-cases, number_cases, found-cases, added-cases, true_not_false}
use Rattle.rule.proofs.PositionLaws.{found_at, entry_found, entry_absent}
use Rattle.rule.proofs.Effects.{Storable}
use Rattle.rule.proofs.Leavings.{lands_not_asks}
use Rattle.rule.proofs.RowLaws.{body_result, question_beyond, through_some}
use Rattle.rule.proofs.RequestLaws.{Ordered}
use Rattle.rule.proofs.FollowLaws.{Gives, land_gives, ask_gives, cond-gives}

-- the key that a request names, held at position i
pub record Chosen (g : Gateway) (payload : List ℕ) (i : ℕ) (e : Entry) : Type 0 where
  pub there : HeldAt g i e
  pub carries : Carries e.blob payload

whole_not_fault : {from to at : ℕ} {next : Cursor} → part_of from to next ≡ faulted at → ⊥
whole_not_fault e = let z : ◌≡◌ {A = ℕ} 0 1 = cc in omega arith

-- nothing is ordered where the flags behind the data are cut
flags_not_cut : {payload : List ℕ} {at from to flags x y cut : ℕ} {next : Cursor} → Ordered payload at from to flags → string_at payload at ≡ part_of x y next
    → number_at payload next.at ≡ faulted cut → ⊥
flags_not_cut {next = next} order message fault =
    let same_next : order.next ≡ next = (part_one (sym order.message ∙ message)).next in
    let z : ◌≡◌ {A = ℕ} 0 1 = cc in
    omega arith

-- a Confirm key has its yes
abbrev pub Allowed : ((q : Question) → Option (Answer q)) → Entry → Type 0
Allowed answer e = e.confirm ≡ true → answer (confirmation e.number) ≡ some true

-- why a sign request fails behind the gate
pub data Failing (answer : (q : Question) → Option (Answer q)) (g : Gateway) (payload : List ℕ) : Type 0 where
  not_found : (v : List ℕ) → Carries v payload → seek (holds v) 0 g.entries ≡ None → Failing answer g payload
  said_no : (i : ℕ) (e : Entry) → Chosen g payload i e → e.confirm ≡ true → answer (confirmation e.number) ≡ some false → Failing answer g payload

-- why it closes
pub data Closing (answer : (q : Question) → Option (Answer q)) (g : Gateway) (payload : List ℕ) : Type 0 where
  no_key : ((v : List ℕ) → Carries v payload → ⊥) → Closing answer g payload
  no_order : (i : ℕ) (e : Entry) (k : Chosen g payload i e) → Allowed answer e → ((from to flags : ℕ) → Ordered payload k.carries.next.at from to flags → ⊥)
      → Closing answer g payload
  none_given : (i : ℕ) (e : Entry) (from to flags : ℕ) (k : Chosen g payload i e) → Ordered payload k.carries.next.at from to flags → Allowed answer e
      → answer (signature e.number from to (hash_of flags)) ≡ some none → Closing answer g payload

module _ (answer : (q : Question) → Option (Answer q)) (g : Gateway) (payload : List ℕ) (P : Result → Type 0) where
  abbrev Follows : Plan → Type 0
  Follows = Gives answer g P

  abbrev Lands : Landing → Gateway → Type 0
  Lands l after = P (record { outcome = lands l; gateway = after })

  abbrev Asks : Question → Type 0
  Asks q = P (record { outcome = asks q; gateway = g })

  module _ (failing : Lands FAILURE g) where
    failure : Follows (fails g)
    failure = land_gives answer g P FAILURE g failing

    success : (after : Gateway) → Lands SUCCESS after → Follows (land SUCCESS after)
    success after h = land_gives answer g P SUCCESS after h

    pub removing-cases : ((i : ℕ) (e : Entry) → Chosen g payload i e → Lands SUCCESS (without i g)) → Follows (removing g payload)
    unfolding removing
    removing-cases removed =
        part-cases Follows (string_at payload 1) (λ _ _. failure) λ f t k read.
        found-cases Follows (seek (holds (cut_of payload f t)) 0 g.entries) (λ _. failure) λ i at.
        let held = found_at (cut_of payload f t) g.entries i at in
        success (without i g)
        (removed i held.entry (record { there = held.there; carries = record { from = f; to = t; next = k; read = read; is = sym held.is } }))

    pub locking-cases : ((passphrase : List ℕ) → Lands SUCCESS (with_lock passphrase g)) → Follows (locking g payload)
    unfolding locking
    locking-cases locked =
        part-cases Follows (string_at payload 1) (λ _ _. failure) λ f t k _.
        cond-gives answer g P (leb (t - f) passphrase_limit) _ failing λ _. success _ (locked (cut_of payload f t))

    pub unlocking-cases : ((passphrase : List ℕ) → Lands SUCCESS (with_lock passphrase g)) → Follows (unlocking g payload)
    unfolding unlocking
    unlocking-cases unlocked =
        part-cases Follows (string_at payload 1) (λ _ _. failure) λ f t k _.
        cond-gives answer g P (same g.lock (cut_of payload f t)) _ failing λ _. success _ (unlocked [])

    abbrev made : Carried → Entry
    made c = entry_of g payload c (blob_of payload 1 c.places)

    pub adding-cases : (constrained : Bool)
        → ((c : Carried) (i : ℕ) → addition_at payload 1 constrained ≡ Ok c → Storable g (made c) i → Asks (check 1 c.places.end))
        → ((c : Carried) (i : ℕ) → addition_at payload 1 constrained ≡ Ok c → Storable g (made c) i
        → answer (check 1 c.places.end) ≡ some true → Lands SUCCESS (with_entry i (made c) g))
        → Follows (adding constrained g payload)
    unfolding adding storing
    adding-cases constrained asking stored =
        added-cases Follows (addition_at payload 1 constrained) failure λ c read.
        let e = made c in
        cond-gives answer g P (fit e.blob e.fields e.comment) _ failing λ fits.
        cond-gives answer g P (ltb g.next last_number) _ failing λ left.
        found-cases Follows (place_for e g.entries) (λ _. failure) λ i place.
        let storable : Storable g e i = record { fits = fits; numbers_left = ltb-true _ _ left; place = place; number = refl; reading = refl } in
        ask_gives answer g P (check 1 c.places.end) _
        (λ _. asking c i read storable)
        (λ granted says. cond-gives answer g P granted _ failing λ agreed. success _ (stored c i read storable (says ∙ ap some agreed)))

  pub signing-cases : (Failing answer g payload → Lands FAILURE g) → (Closing answer g payload → Lands close g)
      → ((i : ℕ) (e : Entry) → Chosen g payload i e → e.confirm ≡ true → Asks (confirmation e.number))
      → ((i : ℕ) (e : Entry) (from to flags : ℕ) (k : Chosen g payload i e) → Ordered payload k.carries.next.at from to flags → Allowed answer e
      → Asks (signature e.number from to (hash_of flags)))
      → ((i : ℕ) (e : Entry) (from to flags : ℕ) (blob : List ℕ) (k : Chosen g payload i e) → Ordered payload k.carries.next.at from to flags → Allowed answer e
      → answer (signature e.number from to (hash_of flags)) ≡ some (some blob) → Lands (reply (signature_reply blob)) g)
      → Follows (signing g payload)
  unfolding signing confirming signing_data signed
  signing-cases failing closing confirms asking signs =
      part-cases Follows (string_at payload 1) (λ _ cut. closed (no_key (λ v s. whole_not_fault (sym s.read ∙ cut)))) λ f t k read.
      by_search (record { from = f; to = t; next = k; read = read; is = refl }) (seek (holds (cut_of payload f t)) 0 g.entries) refl
    where
      failed : Failing answer g payload → Follows (fails g)
      failed why = land_gives answer g P FAILURE g (failing why)

      closed : Closing answer g payload → Follows (closes g)
      closed why = land_gives answer g P close g (closing why)

      by_signer : (i : ℕ) (e : Entry) (from to flags : ℕ) (k : Chosen g payload i e) → Ordered payload k.carries.next.at from to flags → Allowed answer e
          → (a : Option (List ℕ)) → answer (signature e.number from to (hash_of flags)) ≡ some a → Follows (signed g a)
      by_signer i e from to flags k order allowed none says = closed (none_given i e from to flags k order allowed says)
      by_signer i e from to flags k order allowed (some blob) says = land_gives answer g P _ g (signs i e from to flags blob k order allowed says)

      by_data : (i : ℕ) (e : Entry) (k : Chosen g payload i e) → Allowed answer e → Follows (signing_data g payload e.number k.carries.next.at)
      by_data i e k allowed =
          part-cases Follows (string_at payload k.carries.next.at)
          (λ _ cut. closed (no_order i e k allowed (λ from to flags order. whole_not_fault (sym order.message ∙ cut)))) λ from to next message.
          number_cases Follows (number_at payload next.at)
          (λ _ cut. closed (no_order i e k allowed (λ _ _ flags order. flags_not_cut order message cut))) λ flags end choice.
          let order : Ordered payload k.carries.next.at from to flags = record { next = next; end = end; message = message; choice = choice } in
          ask_gives answer g P (signature e.number from to (hash_of flags)) (signed g)
          (λ _. asking i e from to flags k order allowed)
          (by_signer i e from to flags k order allowed)

      by_search : {v : List ℕ} (s : Carries v payload) (found : Found) → seek (holds v) 0 g.entries ≡ found → Follows (confirming g payload (entry_with v g.entries) s.next.at)
      by_search {v} s None absent = rw (entry_absent v g.entries absent) (failed (not_found v s absent))
      by_search {v} s (Some i) at =
          let held = found_at v g.entries i at in
          let e = held.entry in
          let key : Chosen g payload i e = record { there = held.there; carries = record { from = s.from; to = s.to; next = s.next; read = s.read; is = s.is ∙ sym held.is } } in
          rw (entry_found v g.entries i at, held.there)
          (cond_cases Follows e.confirm
          (λ confirm.
          ask_gives answer g P (confirmation e.number) _
          (λ _. confirms i e key confirm)
          (λ granted says.
          cond_cases Follows granted
          (λ agreed. by_data i e key (λ _. says ∙ ap some agreed))
          (λ denied. failed (said_no i e key confirm (says ∙ ap some denied)))))
          (λ free. by_data i e key (λ confirm. absurd (true_not_false (sym confirm ∙ free)))))

-- ## Questions behind the gate

-- a request's body, followed at its call
abbrev pub add_result : Bool → Gateway → Call → Result
add_result constrained g c = follow (lent c.answers) (at_call g c) (adding constrained (at_call g c) (payload_of c))

abbrev pub sign_result : Gateway → Call → Result
sign_result g c = follow (lent c.answers) (at_call g c) (signing (at_call g c) (payload_of c))

-- an add or a sign request asks q behind the gate of an open gateway
pub data AsksIn (g : Gateway) (c : Call) (q : Question) : Type 0 where
  in_add : PastGate g c → locked g ≡ false → (constrained : Bool) → Begins (add_byte constrained) (payload_of c) → (add_result constrained g c).outcome ≡ asks q → AsksIn g c q
  in_sign : PastGate g c → locked g ≡ false → Begins 13 (payload_of c) → (sign_result g c).outcome ≡ asks q → AsksIn g c q

-- a landing asks nothing
pub silent : {X : Type 0} {l : Landing} {q : Question} → lands l ≡ asks q → X
silent {l = l} {q = q} never = absurd (lands_not_asks l q never)

-- no other row asks there
pub asks_in : (g : Gateway) (c : Call) (q : Question) → ((class : ℕ) → q ≢ gate class) → (call g c).outcome ≡ asks q → AsksIn g c q
unfolding listing removing_all follow
asks_in g c q other e =
    let some-row = through_some g c e (question_beyond other) in
    let way = some-row.through in
    by_row some-row.row some-row.begins way.past way.fit (rw way.result at e)
  where
    Asks : Result → Type 0
    Asks r = r.outcome ≡ asks q → AsksIn g c q

    by_row : {byte : ℕ} {needs : Bool} {class : ℕ} (r : Row byte needs class) → Begins byte (payload_of c) → PastGate g c → locked g ≡ needs → Asks (body_result r g c)
    by_row list begins past fit = silent
    by_row add begins past fit = in_add past fit false begins
    by_row add_constrained begins past fit = in_add past fit true begins
    by_row remove begins past fit = removing-cases (lent c.answers) (at_call g c) (payload_of c) Asks silent (λ i e k. silent)
    by_row remove_all begins past fit = silent
    by_row sign begins past fit = in_sign past fit begins
    by_row lock begins past fit = locking-cases (lent c.answers) (at_call g c) (payload_of c) Asks silent (λ passphrase. silent)
    by_row unlock begins past fit = unlocking-cases (lent c.answers) (at_call g c) (payload_of c) Asks silent (λ passphrase. silent)
