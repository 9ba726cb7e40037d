-- Adding: its SUCCESS stores the entry that a well-formed request makes, every such request within the limits succeeds where there is room, and the key check sees the fields alone.
use Prim.Native.Nat.{ℕ, ◌+◌, ◌≤◌, ◌<◌}
use native.Mathlib.Omega.{arith}
use mathlib.Core.Path.{◌≡◌, refl, sym, ap, ◌∙◌, subst}
use mathlib.Core.Logic.{◌≢◌, ◌⊎◌, inl, inr}
use mathlib.Core.Bool.{Bool, true, false}
use mathlib.Core.Option.{Option, none, some}
use mathlib.Core.List.{List, [], ◌∷◌}
use borrow.Author.Tests.{lt-ltb, leb-true, leb-false}
use lib.ListN.{length}
use lib.Dec.{leb}
use Rattle.std.proofs.Common.{None, Ok}
use Rattle.wire.specs.Limits.{last_number}
use Rattle.wire.specs.Numbers.{Bytes}
use Rattle.wire.proofs.Reading.{same-rule}
use Rattle.keys.specs.declared.addition.Carried.{Carried}
use Rattle.keys.specs.Kinds.{blob_of}
use Rattle.keys.specs.Additions.{addition_at}
use Rattle.keys.specs.Forms.{ed25519_key, ecdsa_key, rsa_key, KeyFields, as_ed25519, as_nistp256, as_nistp384, as_nistp521, as_rsa}
use Rattle.rule.specs.declared.Millis.{Millis}
use Rattle.rule.specs.Gateway.{Entry, Gateway, locked, at_clock, advance, holds, found, lengths_of, all_lengths, others, has_room, place_for, NewKey, new_entry, with_entry}
use Rattle.rule.specs.Soundness.{fit}
use Rattle.rule.specs.Rule.{Question, gate, check, Answer, FAILURE, SUCCESS, added, brought, entry_of, storing, adding}
use Rattle.rule.specs.Calls.{lent, Call, Outcome, asks, lands, Result, follow, call}
use Rattle.rule.specs.Words.{Begins, HeldAt, Held, at_call, payload_of, PastGate}
use Rattle.rule.specs.Rows.{add, add_constrained}
use Rattle.rule.specs.Adding.{add_byte, AddRequest, made_by, Put, Beside, none_left, replaced, stays, bytes_of, new_bytes, Room, WithinLimits, MayStore, RoomRule, AddedOnly, AddedAlways, CheckAsks}
use Rattle.rule.proofs.Cases.{cond_cases}
use Rattle.rule.proofs.PositionLaws.{every_at, put_there, put_elsewhere, not_same, differs, found_at, absent_differs}
use Rattle.rule.proofs.RoomLaws.{Placed, replacing, anew, place_inside, has_place, room_place, no_place}
use Rattle.rule.proofs.Effects.{Storable, success_not_failure}
use Rattle.rule.proofs.SoundLaws.{Says, says-not, RoomBeside, room_says, fit-says}
use Rattle.rule.proofs.RefusalLaws.{accepted}
use Rattle.rule.proofs.AnswerLaws.{numbered-answers}
use Rattle.rule.proofs.RowLaws.{past_gate_lem, Beyond, success_beyond, through, failure_shows, same-landing}
use Rattle.rule.proofs.Plans.{asks_not_lands}
use Rattle.rule.proofs.RequestLaws.{add_in, add_out}
use Rattle.rule.proofs.BodyLaws.{adding-cases, signing-cases, add_result, AsksIn, in_add, in_sign, silent, asks_in}

-- ## The add rows

add_through : (constrained : Bool) (g : Gateway) (c : Call) → Begins (add_byte constrained) (payload_of c) → {o : Outcome} → (call g c).outcome ≡ o → Beyond o
    → call g c ≡ add_result constrained g c
add_through false g c begins e b = (through add g c begins e b).result
add_through true g c begins e b = (through add_constrained g c begins e b).result

add_past : (constrained : Bool) (g : Gateway) (c : Call) → PastGate g c → locked g ≡ false → Begins (add_byte constrained) (payload_of c) → call g c ≡ add_result constrained g c
add_past false g c past state begins = past_gate_lem add g c past state begins
add_past true g c past state begins = past_gate_lem add_constrained g c past state begins

-- what is read of a request
abbrev read_key : Call → Carried → NewKey
read_key c carried = brought (payload_of c) carried (blob_of (payload_of c) 1 carried.places)

abbrev pub read_entry : Gateway → Call → Carried → Entry
read_entry g c carried = entry_of (at_call g c) (payload_of c) carried (blob_of (payload_of c) 1 carried.places)

-- the entry that is read is the entry that the request makes
pub read_made : (g : Gateway) (c : Call) (carried : Carried) (k : NewKey) → read_key c carried ≡ k → read_entry g c carried ≡ made_by g c k
unfolding advance at_clock
read_made g c carried k brings = ap (made_by g c) brings

-- ## Room, in the promises' words and in the rule's

beside-others : {blob : List ℕ} {es os : List Entry} → Beside blob es os → others blob es ≡ os
unfolding others
beside-others none_left = refl
beside-others {blob} (replaced e is b) = rw ((same-rule e.blob blob).1 is) (beside-others b)
beside-others {blob} (stays e other b) = rw (differs e.blob blob other) (ap (λ l. e ∷ l) (beside-others b))

others-beside : (blob : List ℕ) (es : List Entry) → Beside blob es (others blob es)
unfolding others
others-beside blob [] = none_left
others-beside blob (e ∷ es) =
    cond_cases (Beside blob (e ∷ es)) (holds blob e)
    (λ t. replaced e ((same-rule e.blob blob).0 t) (others-beside blob es))
    (λ f. stays e (not_same e.blob blob f) (others-beside blob es))

bytes-lengths : (es : List Entry) → bytes_of es ≡ all_lengths es
unfolding all_lengths lengths_of
bytes-lengths [] = refl
bytes-lengths (e ∷ es) = let rest = bytes-lengths es in omega arith

room_is : (number : ℕ) (reading : Millis) (k : NewKey) (es os : List Entry) → Beside k.blob es os → Says (has_room (new_entry number reading k) es) (Room os k)
unfolding lengths_of
room_is number reading k es os beside =
    let e = new_entry number reading k in
    let says : Says (has_room e es) (RoomBeside os e) = rw (beside-others beside) at (room_says e es) in
    let bytes = bytes-lengths os in (
      (λ t. let r = says.0 t in record { count = r.count; bytes = let h = r.bytes in omega arith }),
      (λ r. says.1 (record { count = r.count; bytes = let h = r.bytes in omega arith })),
    )

-- 24 others are held, or the lengths would pass 32,768
abbrev Full : List Entry → NewKey → Type 0
Full os k = (24 ≤ length os) ⊎ (32768 < bytes_of os + new_bytes k)

full_no_room : {os : List Entry} {k : NewKey} → Full os k → Room os k → ⊥
full_no_room (inl h) r = let few = r.count in omega arith
full_no_room (inr h) r = let fits = r.bytes in omega arith

no_room_full : (os : List Entry) (k : NewKey) → (Room os k → ⊥) → Full os k
no_room_full os k never = by_count (leb 24 (length os)) refl (leb (bytes_of os + new_bytes k) 32768) refl
  where
    by_count : (b : Bool) → leb 24 (length os) ≡ b → (d : Bool) → leb (bytes_of os + new_bytes k) 32768 ≡ d → Full os k
    by_count true t d u = inl (leb-true _ _ t)
    by_count false t true u = absurd (never (record { count = leb-false _ _ t; bytes = leb-true _ _ u }))
    by_count false t false u = inr (leb-false _ _ u)

-- ## What SUCCESS did

module _ (g : Gateway) (e : Entry) (i : ℕ) where
  where_put : Placed e.blob g.entries i
      → ((old : Entry) × HeldAt g i old × (old.blob ≡ e.blob))
      ⊎ ((i ≡ length g.entries) × ((old : Entry) → Held g old → old.blob ≢ e.blob))
  where_put (replacing at) = let held = found_at e.blob g.entries i at in inl (held.entry, held.there, held.is)
  where_put (anew absent last) =
      inr (last, (λ old (j, there). every_at (λ x. x.blob ≢ e.blob) g.entries (absent_differs e.blob g.entries absent) j old there))

  put : Storable g e i → Put g (with_entry i e g) i e
  put s =
      let place = (has_place e g.entries i s.place).placed in
      record {
        there = put_there i e g.entries (place_inside place);
        others = put_elsewhere i e g.entries (place_inside place);
        lock = refl;
        clock = refl;
        next = refl;
        place = where_put place;
      }

may_store : (g : Gateway) (number : ℕ) (reading : Millis) (k : NewKey) (i : ℕ) → Storable g (new_entry number reading k) i → MayStore g k
may_store g number reading k i s =
    let lengths = (fit-says k.blob k.fields k.comment).0 s.fits in
    let room = (has_place (new_entry number reading k) g.entries i s.place).room in
    record {
      limits = record { blob_fits = lengths.blob_fits; fields_fit = lengths.fields_fit; comment_fits = lengths.comment_fits; numbers_left = s.numbers_left };
      room = λ os beside. (room_is number reading k g.entries os beside).0 room;
    }

-- a request in the draft's form was stored
abbrev Added : Gateway → Call → Gateway → Type 0
Added g c after =
    (k : NewKey) × (i : ℕ) × AddRequest (payload_of c) k × Put (at_call g c) after i (made_by g c k) × MayStore (at_call g c) k
    × (c.answers.check ≡ some true)

add_success : (constrained : Bool) (g : Gateway) (c : Call) → Bytes (payload_of c) → Begins (add_byte constrained) (payload_of c) → (call g c).outcome ≡ lands SUCCESS
    → Added g c (call g c).gateway
add_success constrained g c bytes begins e =
    let result = add_through constrained g c begins e success_beyond in
    let now = at_call g c in
    rw result
    (adding-cases (lent c.answers) now (payload_of c) (λ r. r.outcome ≡ lands SUCCESS → Added g c r.gateway)
    (λ never. failure_shows (same-landing never))
    constrained
    (λ carried i read storable never. absurd (asks_not_lands _ SUCCESS never))
    (λ carried i read storable checked _.
    let (k, request, r) = add_in (payload_of c) bytes constrained carried begins read in
    let entry = read_entry g c carried in
    let stored = subst (Put now (with_entry i entry now) i) (read_made g c carried k r.brings) (put now entry i storable) in
    let may = subst (MayStore now) r.brings (may_store now _ _ (read_key c carried) i storable) in
    (k, i, request, stored, may, sym ((numbered-answers c.answers).checks 1 carried.places.end) ∙ checked))
    (rw result at e))

pub added-only : AddedOnly
added-only g c bytes (inl begins) e = add_success false g c bytes begins e
added-only g c bytes (inr begins) e = add_success true g c bytes begins e

-- ## What succeeds

-- fields and blob begin with a string, so they are not empty
record SomeBytes (fields blob : List ℕ) : Type 0 where
  fields_some : 1 ≤ length fields
  blob_some : 1 ≤ length blob

some_bytes : {fields blob : List ℕ} → KeyFields fields blob → SomeBytes fields blob
some_bytes (as_ed25519 (ed25519_key a seed _ _)) = record { fields_some = omega arith; blob_some = omega arith }
some_bytes (as_nistp256 (ecdsa_key q d n _ _ _ _)) = record { fields_some = omega arith; blob_some = omega arith }
some_bytes (as_nistp384 (ecdsa_key q d n _ _ _ _)) = record { fields_some = omega arith; blob_some = omega arith }
some_bytes (as_nistp521 (ecdsa_key q d n _ _ _ _)) = record { fields_some = omega arith; blob_some = omega arith }
some_bytes (as_rsa (rsa_key n e d iqmp p q _ _ _ _ _ _)) = record { fields_some = omega arith; blob_some = omega arith }

fits-within : {payload : List ℕ} {k : NewKey} {g : Gateway} → AddRequest payload k → WithinLimits g k → fit k.blob k.fields k.comment ≡ true
fits-within {k = k} request limits =
    let some_byte = some_bytes request.key in
    (fit-says k.blob k.fields k.comment).1
    (record {
      blob_some = some_byte.blob_some;
      blob_fits = limits.blob_fits;
      fields_some = some_byte.fields_some;
      fields_fit = limits.fields_fit;
      comment_fits = limits.comment_fits;
    })

-- past the gate of an open gateway, a well-formed request comes to the entry that it makes
comes_to_store : (g : Gateway) (c : Call) (k : NewKey) → Bytes (payload_of c) → PastGate g c → locked g ≡ false → AddRequest (payload_of c) k
    → (to : ℕ) × (call g c ≡ follow (lent c.answers) (at_call g c) (storing (at_call g c) (made_by g c k) to))
unfolding adding added
comes_to_store g c k bytes past state request =
    let short = (accepted g c past.accepted).payload in
    let (constrained, carried, r) = add_out (payload_of c) bytes k (omega arith) request in
    let to = carried.places.end in (
      to,
      rw (add_past constrained g c past state r.begins, r.read)
          (ap (λ e. follow (lent c.answers) (at_call g c) (storing (at_call g c) e to)) (read_made g c carried k r.brings)),
    )

-- and may be stored where there is room
storable_made : (g : Gateway) (c : Call) (k : NewKey) (os : List Entry) → AddRequest (payload_of c) k → WithinLimits (at_call g c) k
    → Beside k.blob (at_call g c).entries os → Room os k → (i : ℕ) × Storable (at_call g c) (made_by g c k) i
unfolding advance at_clock
storable_made g c k os request limits beside room =
    let e = made_by g c k in
    let es = (at_call g c).entries in
    let place = room_place e es ((room_is e.number e.reading k es os beside).1 room) in
    (_, record { fits = fits-within request limits; numbers_left = limits.numbers_left; place = place; number = refl; reading = refl })

module _ (answer : (q : Question) → Option (Answer q)) (g : Gateway) (e : Entry) (to : ℕ) where
  storing-succeeds : (i : ℕ) → Storable g e i → answer (check 1 to) ≡ some true → (follow answer g (storing g e to)).outcome ≡ lands SUCCESS
  unfolding storing found follow
  storing-succeeds i s checked = rw (s.fits, lt-ltb _ _ s.numbers_left, s.place, checked)

  storing-asks : (i : ℕ) → Storable g e i → answer (check 1 to) ≡ none → (follow answer g (storing g e to)).outcome ≡ asks (check 1 to)
  unfolding storing found follow
  storing-asks i s unlent = rw (s.fits, lt-ltb _ _ s.numbers_left, s.place, unlent)

  storing-goes_on : (i : ℕ) → Storable g e i → answer (check 1 to) ≢ some false → (follow answer g (storing g e to)).outcome ≢ lands FAILURE
  storing-goes_on i s unless fails = by_answer (answer (check 1 to)) refl
    where
      by_answer : (a : Option Bool) → answer (check 1 to) ≡ a → ⊥
      by_answer none is = asks_not_lands _ FAILURE (sym (storing-asks i s is) ∙ fails)
      by_answer (some true) is = success_not_failure refl (same-landing (sym (storing-succeeds i s is) ∙ fails))
      by_answer (some false) is = unless is

  storing-fails : fit e.blob e.fields e.comment ≡ true → g.next < last_number → place_for e g.entries ≡ None
      → (follow answer g (storing g e to)).outcome ≡ lands FAILURE
  unfolding storing found follow
  storing-fails fits left nowhere = rw (fits, lt-ltb _ _ left, nowhere)

pub added-always : AddedAlways
unfolding lent
added-always g c k bytes past state request may checked =
    let (to, comes) = comes_to_store g c k bytes past state request in
    let es = (at_call g c).entries in
    let beside = others-beside k.blob es in
    let (i, storable) = storable_made g c k (others k.blob es) request may.limits beside (may.room (others k.blob es) beside) in
    rw comes (storing-succeeds (lent c.answers) (at_call g c) (made_by g c k) to i storable checked)

pub room_rule : RoomRule
unfolding lent
room_rule g c k os bytes past state request limits unless beside =
    let (to, comes) = comes_to_store g c k bytes past state request in
    let e = made_by g c k in
    let says = room_is e.number e.reading k (at_call g c).entries os beside in (
      (λ fails. no_room_full os k λ room.
          let (i, storable) = storable_made g c k os request limits beside room in
          storing-goes_on (lent c.answers) (at_call g c) e to i storable unless (rw comes at fails)),
      (λ full.
          let nowhere = no_place e (at_call g c).entries (says-not _ says (full_no_room full)) in
          rw comes (storing-fails (lent c.answers) (at_call g c) e to (fits-within request limits) limits.numbers_left nowhere)),
    )

-- ## What the key check sees

pub check_asks : CheckAsks
check_asks g c from to bytes e = by_row (asks_in g c (check from to) (λ class never. check_not_gate never) e)
  where
    Seen : Type 0
    Seen =
        PastGate g c × (locked g ≡ false) × (k : NewKey) × AddRequest (payload_of c) k × (from ≡ 1) × (to ≡ 1 + length k.fields) × MayStore (at_call g c) k

    check_not_gate : {class : ℕ} → check from to ≡ gate class → ⊥
    check_not_gate never = let z : ◌≡◌ {A = ℕ} 0 1 = cc in omega arith

    Asks : Result → Type 0
    Asks r = r.outcome ≡ asks (check from to) → Seen

    asked : PastGate g c → locked g ≡ false → (constrained : Bool) (carried : Carried) (i : ℕ) → Begins (add_byte constrained) (payload_of c)
        → addition_at (payload_of c) 1 constrained ≡ Ok carried → Storable (at_call g c) (read_entry g c carried) i
        → asks (check 1 carried.places.end) ≡ asks (check from to) → Seen
    asked past state constrained carried i begins read storable is =
        let (k, request, r) = add_in (payload_of c) bytes constrained carried begins read in
        let same_from : from ≡ 1 = cc in
        let same-to : to ≡ carried.places.end = cc in
        (past, state, k, request, same_from, same-to ∙ r.end, subst (MayStore (at_call g c)) r.brings (may_store (at_call g c) _ _ (read_key c carried) i storable))

    by_row : AsksIn g c (check from to) → Seen
    by_row (in_add past state constrained begins is) =
        adding-cases (lent c.answers) (at_call g c) (payload_of c) Asks silent constrained
        (λ carried i read storable. asked past state constrained carried i begins read storable)
        (λ carried i _ _ _. silent)
        is
    by_row (in_sign past state begins is) =
        signing-cases (lent c.answers) (at_call g c) (payload_of c) Asks (λ _. silent) (λ _. silent)
        (λ i x _ _ never. let z : ◌≡◌ {A = ℕ} 0 1 = cc in absurd (omega arith))
        (λ i x from to flags _ _ _ never. let z : ◌≡◌ {A = ℕ} 0 1 = cc in absurd (omega arith))
        (λ i x from to flags blob _ _ _ _. silent)
        is
