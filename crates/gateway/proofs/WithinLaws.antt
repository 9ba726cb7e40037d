-- Every part that a call names is there: a string that was read lies in the payload, key fields that are not empty too, and a reply fits the
-- buffer that refusal 1 asks for. Assumes nothing.
use Prim.Native.Nat.{ℕ, ◌-◌, ◌≤◌, ◌<◌}
use native.Mathlib.Omega.{arith}
use mathlib.Core.Path.{◌≡◌, refl, sym, ap, ◌∙◌, subst}
use mathlib.Core.Bool.{Bool, true, false, cond, not}
use mathlib.Core.Logic.{⊎_elim}
use mathlib.Core.Option.{Option, none, some}
use mathlib.Core.List.{List}
use borrow.Author.Tests.{ltb-false, not-false}
use lib.ListN.{length}
use lib.Dec.{leb, ltb, eqb}
use Rattle.wire.specs.Limits.{store_size, passphrase_limit, reply_room, last_number}
use Rattle.wire.specs.Read.{cut_of, same, string_at, number_at}
use Rattle.wire.proofs.Reading.{le_or_lt, cut_past, cut_back, string-read}
use Rattle.keys.specs.Kinds.{blob_of}
use Rattle.keys.specs.Additions.{addition_at}
use Rattle.rule.specs.declared.Millis.{Millis}
use Rattle.rule.specs.Gateway.{Entry, Gateway, locked, opened, advance, seek, holds, entry_with, place_for, with_entry}
use Rattle.rule.specs.Soundness.{fit, sound}
use Rattle.rule.specs.Rule.{Question, gate, check, confirmation, signature, Answer, Landing, reply, close, SUCCESS, Plan, land, ask, fails, listing, removing, removing_all, locking, unlocking, hash_of, signed, signing_data, confirming, signing, entry_of, storing, adding, gated, row, table, rule}
use Rattle.rule.specs.Calls as rule
use Rattle.rule.specs.Calls.{lent, lent_length, Call, refused, asks, lands, follow, served, refusal_of, refusal, call}
use Rattle.rule.proofs.Cases.{cond_cases, part-cases, number_cases, found-cases, added-cases, given-cases}
use Rattle.rule.proofs.Plans.{asks_not_lands}
use Rattle.rule.proofs.PositionLaws.{some_not_none}
use Rattle.rule.proofs.SoundLaws.{fit-says, sound-rule}
use Rattle.rule.proofs.ReplyLaws.{replies_fit}
use Rattle.table.specs.declared.State.{State}
use Rattle.table.specs.Meaning.{gateway_of}
use Rattle.table.specs.Soundness.{sound_state}
use Rattle.table.proofs.TestLaws.{sound_state-rule}
use Rattle.table.proofs.WritingLaws.{sound-meaning}
use Rattle.requests.specs.declared.Answers.{Answers}
use Rattle.requests.specs.declared.Outcome.TheVariants.{Refused}
use Rattle.requests.specs.Outcomes.{lent_of, code}
use Rattle.requests.specs.Ends.{Done, laid_out}
use Rattle.server.specs.Calls.{call_of}
use Rattle.flat.specs.Flat.{answers_of, flat_of}
use Rattle.flat.specs.Promises.{UnusedZero}
use Rattle.gateway.specs.Promises.{NamesWithin, CallsNameWithin}
use Rattle.flat.proofs.FlatLaws.{flat_unused}

-- ## What a plan asks

-- key fields that are not empty lie in the payload
fields_within : (payload : List ℕ) (t : ℕ) → 1 ≤ length (cut_of payload 1 t) → (1 ≤ t) × (t ≤ length payload)
fields_within payload t h =
    ⊎_elim
    (λ (a : 1 ≤ t).
    ⊎_elim
    (λ (b : t ≤ length payload). (a, b))
    (λ (b : length payload < t). let e = ap length (cut_past payload 1 t a b) in absurd (omega arith))
    (le_or_lt t (length payload)))
    (λ (a : t < 1). let e = ap length (cut_back payload 1 t a) in absurd (omega arith))
    (le_or_lt 1 t)

module _ (payload : List ℕ) where
  abbrev Within : Question → Type 0
  Within (gate class) = Unit {0}
  Within (check f t) = (f ≤ t) × (t ≤ length payload)
  Within (confirmation n) = Unit {0}
  Within (signature n f t hash) = (f ≤ t) × (t ≤ length payload)

  module _ (lent : (q : Question) → Option (Answer q)) (g : Gateway) where
    record Inside (plan : Plan) : Type 0 where
      inside : (q : Question) → (follow lent g plan).outcome ≡ asks q → Within q

    land_inside : (l : Landing) (after : Gateway) → Inside (land l after)
    unfolding follow
    land_inside l after = record { inside = λ q never. absurd (asks_not_lands q l (sym never)) }

    ask_inside : (q : Question) (onwards : Answer q → Plan) → Within q → ((a : Answer q) → Inside (onwards a)) → Inside (ask q onwards)
    unfolding follow
    ask_inside q onwards h f = record {
      inside = λ q'. given-cases (λ (r : rule.Result). r.outcome ≡ asks q' → Within q') (lent q) (λ _ e. subst Within (same-question q q' e) h) (λ a _. (f a).inside q');
    }
      where
        same-question : (q q' : Question) → asks q ≡ asks q' → q ≡ q'
        same-question q q' e = cc

    cond-inside : (b : Bool) (plan : Plan) → Inside plan → Inside (cond b plan (fails g))
    cond-inside b plan h = cond_cases Inside b (λ _. h) (λ _. land_inside _ g)

    signed-inside : (a : Option (List ℕ)) → Inside (signed g a)
    unfolding signed
    signed-inside none = land_inside _ g
    signed-inside (some blob) = land_inside _ g

    data_inside : (n at : ℕ) → Inside (signing_data g payload n at)
    unfolding signing_data
    data_inside n at =
        part-cases Inside (string_at payload at) (λ _ _. land_inside _ g) λ f t k e.
        number_cases Inside (number_at payload k.at) (λ _ _. land_inside _ g) λ flags end _.
        let s = string-read payload at f t k e in
        ask_inside (signature n f t (hash_of flags)) (signed g) (omega arith, s.within) signed-inside

    signing-inside : Inside (signing g payload)
    unfolding signing confirming
    signing-inside =
        part-cases Inside (string_at payload 1) (λ _ _. land_inside _ g) λ f t k _.
        by_key (entry_with (cut_of payload f t) g.entries) k.at
      where
        by_key : (o : Option Entry) (at : ℕ) → Inside (confirming g payload o at)
        by_key none at = land_inside _ g
        by_key (some e) at =
            let signer = data_inside e.number at in
            cond_cases Inside e.confirm (λ _. ask_inside (confirmation e.number) _ tt (λ granted. cond-inside granted _ signer)) (λ _. signer)

    adding-inside : (constrained : Bool) → Inside (adding constrained g payload)
    unfolding adding storing
    adding-inside constrained =
        added-cases Inside (addition_at payload 1 constrained) (land_inside _ g) λ c _.
        let end = c.places.end in
        let e = entry_of g payload c (blob_of payload 1 c.places) in
        cond_cases Inside (fit e.blob e.fields e.comment)
        (λ fits.
        let lengths = (fit-says e.blob e.fields e.comment).0 fits in
        cond-inside (ltb g.next last_number) _
        (found-cases Inside (place_for e g.entries) (λ _. land_inside _ g) λ i _.
        ask_inside (check 1 end) _ (fields_within payload end lengths.fields_some) (λ granted. cond-inside granted _ (land_inside SUCCESS (with_entry i e g)))))
        (λ _. land_inside _ g)

    removing-inside : Inside (removing g payload)
    unfolding removing
    removing-inside =
        part-cases Inside (string_at payload 1) (λ _ _. land_inside _ g) λ f t k _.
        found-cases Inside (seek (holds (cut_of payload f t)) 0 g.entries) (λ _. land_inside _ g) (λ i _. land_inside _ _)

    locking-inside : Inside (locking g payload)
    unfolding locking
    locking-inside =
        part-cases Inside (string_at payload 1) (λ _ _. land_inside _ g) λ f t k _.
        cond-inside (leb (t - f) passphrase_limit) _ (land_inside _ _)

    unlocking-inside : Inside (unlocking g payload)
    unfolding unlocking
    unlocking-inside =
        part-cases Inside (string_at payload 1) (λ _ _. land_inside _ g) λ f t k _.
        cond-inside (same g.lock (cut_of payload f t)) _ (land_inside _ _)

    row_inside : (first byte : ℕ) (fit : Bool) (class : ℕ) (body below : Plan) → Inside body → Inside below → Inside (row g first byte fit class body below)
    unfolding row gated
    row_inside first byte fit class body below h k =
        cond_cases Inside (eqb first byte) (λ _. cond-inside fit _ (ask_inside (gate class) _ tt (λ granted. cond-inside granted body h))) (λ _. k)

    rule-inside : Inside (rule g payload)
    unfolding rule table listing removing_all
    rule-inside =
        cond-inside (ltb 0 (length payload)) _
        (row_inside _ 11 (opened g) 1 _ _ (land_inside _ _)
        (row_inside _ 17 (opened g) 2 _ _ (adding-inside false)
        (row_inside _ 25 (opened g) 2 _ _ (adding-inside true)
        (row_inside _ 18 (opened g) 3 _ _ removing-inside
        (row_inside _ 19 (opened g) 4 _ _ (land_inside _ _)
        (row_inside _ 13 (opened g) 5 _ _ signing-inside
        (row_inside _ 22 (opened g) 6 _ _ locking-inside
        (row_inside _ 23 (locked g) 7 _ _ unlocking-inside
        (land_inside _ g)))))))))

-- ## A call

-- refusals 1 and 3 did not apply
record Passed (buffer : ℕ) (is_sound : Bool) : Type 0 where
  room : reply_room ≤ buffer
  sound-found : is_sound ≡ true

passed : (buffer store : ℕ) (is_sound : Bool) (payload lent_bytes : ℕ) → refusal_of buffer store is_sound payload lent_bytes ≡ none → Passed buffer is_sound
unfolding refusal_of
passed buffer store is_sound payload lent_bytes =
    cond_cases None (ltb buffer reply_room) (λ _. some_refusal 1) λ room.
    cond_cases None (not (eqb store store_size)) (λ _. some_refusal 2) λ _.
    cond_cases None (not is_sound) (λ _. some_refusal 3) λ found _.
    record { room = ltb-false _ _ room; sound-found = not-false _ found }
  where
    None : Option ℕ → Type 0
    None o = o ≡ none → Passed buffer is_sound

    some_refusal : (n : ℕ) → None (some n)
    some_refusal n never = absurd (some_not_none never)

-- a reply of a call that was not refused fits the buffer
module _ (s : State) (x payload : List ℕ) (reading : Millis) (answers : rule.Answers) (buffer : ℕ) where
  abbrev made : Call
  made = record { request = 0; frame = record { payload = payload }; reading = reading; answers = answers; buffer = buffer; store = length x }

  reply_fits : refusal_of buffer (length x) (sound_state s x) (length payload) (lent_length answers.signature) ≡ none
      → (bytes : List ℕ) → (served (advance reading (gateway_of s x)) (record { payload = payload }) answers).outcome ≡ lands (reply bytes) → length bytes ≤ buffer
  unfolding call refusal
  reply_fits ok bytes e =
      let p = passed buffer (length x) (sound_state s x) (length payload) (lent_length answers.signature) ok in
      let S = sound-meaning s x ((sound_state-rule s x).0 p.sound-found) in
      let same_test : sound (gateway_of s x) ≡ sound_state s x = (sound-rule (gateway_of s x)).1 S ∙ sym p.sound-found in
      let none_of : refusal (gateway_of s x) made ≡ none = ap (λ (b : Bool). refusal_of buffer (length x) b (length payload) (lent_length answers.signature)) same_test ∙ ok in
      let r = replies_fit (gateway_of s x) made bytes S (rw none_of e) in
      let room = p.room in
      omega arith

-- ## Its outcome, flat

coded : (payload buffer : List ℕ) (o : rule.Outcome) → ((q : Question) → o ≡ asks q → Within payload q) → ((bytes : List ℕ) → o ≡ lands (reply bytes) → length bytes ≤ length buffer)
    → NamesWithin payload buffer (flat_of (code o))
unfolding flat_of code
coded payload buffer (refused n) f g = record { ordered = omega arith; of_payload = λ _. omega arith; of_reply = λ _. omega arith }
coded payload buffer (asks (gate class)) f g = record { ordered = omega arith; of_payload = λ _. omega arith; of_reply = λ _. omega arith }
coded payload buffer (asks (check from to)) f g = record { ordered = (f (check from to) refl).0; of_payload = λ _. (f (check from to) refl).1; of_reply = λ never. absurd (omega (arith, never)) }
coded payload buffer (asks (confirmation n)) f g = record { ordered = omega arith; of_payload = λ _. omega arith; of_reply = λ _. omega arith }
coded payload buffer (asks (signature n from to hash)) f g = record {
  ordered = (f (signature n from to hash) refl).0;
  of_payload = λ _. (f (signature n from to hash) refl).1;
  of_reply = λ never. absurd (omega (arith, never));
}
coded payload buffer (lands (reply bytes)) f g = record { ordered = omega arith; of_payload = λ other. absurd (other refl); of_reply = λ _. g bytes refl }
coded payload buffer (lands close) f g = record { ordered = omega arith; of_payload = λ _. omega arith; of_reply = λ _. omega arith }

pub call-names_within : (state : State) (store payload : List ℕ) (reading : Millis) (answers : Answers) (bytes buffer : List ℕ)
    → NamesWithin payload buffer (flat_of (call_of state store payload reading answers bytes buffer).called.outcome)
unfolding call_of served flat_of
call-names_within state store payload reading answers bytes buffer =
    given-cases (λ (d : Done). NamesWithin payload buffer (flat_of d.called.outcome))
    (refusal_of (length buffer) (length store) (sound_state state store) (length payload) (lent_length (lent_of answers bytes).signature))
    {z = laid_out buffer (served (advance reading (gateway_of state store)) (record { payload = payload }) (lent_of answers bytes))}
    {f = λ n. record { called = record { outcome = Refused n; state = state }; store = store; reply = buffer }}
    (λ ok.
    coded payload buffer (served (advance reading (gateway_of state store)) (record { payload = payload }) (lent_of answers bytes)).outcome
    (rule-inside payload (lent (lent_of answers bytes)) (advance reading (gateway_of state store))).inside
    (reply_fits state store payload reading (lent_of answers bytes) (length buffer) ok))
    (λ n _. record { ordered = omega arith; of_payload = λ _. omega arith; of_reply = λ _. omega arith })

pub calls_name_within : CallsNameWithin
calls_name_within state store payload reading answers bytes buffer outcome after store_after out m = (
  subst (NamesWithin payload buffer) (sym m.outcome_is) (call-names_within state store payload reading (answers_of answers) bytes buffer),
  subst UnusedZero (sym m.outcome_is) (flat_unused (call_of state store payload reading (answers_of answers) bytes buffer).called.outcome),
)
