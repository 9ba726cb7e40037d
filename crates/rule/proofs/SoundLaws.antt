-- The test of soundness says what the facts say; every effect keeps them, so every call does, and refusal 3 never occurs; numbers only rise.
use Prim.Native.Nat.{ℕ, ◌+◌, ◌≤◌, ◌<◌}
use native.Mathlib.Omega.{arith}
use mathlib.Core.Path.{◌≡◌, refl, sym, ap, ◌∙◌}
use mathlib.Core.Logic.{◌↔◌, ◌≢◌}
use mathlib.Core.Bool.{Bool, true, false, ◌&&◌, not}
use mathlib.Core.Option.{Option}
use mathlib.Core.List.{List, [], ◌∷◌}
use borrow.Author.Tests.{leb-true, ltb-true, eqb-true, eqb-false, le-leb, lt-ltb, eq-eqb, ne_eqb}
use lib.Dec.{leb, ltb, eqb}
use lib.ListN.{length}
use Rattle.std.proofs.Common.{Some}
use Rattle.wire.specs.Limits.{entries_limit, store_size, blob_limit, fields_limit, comment_limit, passphrase_limit, last_number}
use Rattle.wire.specs.Numbers.{within}
use Rattle.wire.specs.Read.{same}
use Rattle.rule.specs.declared.Millis.{Millis}
use Rattle.rule.specs.Gateway.{Entry, Gateway, at_clock, later, advance, lengths_of, all_lengths, others, has_room, place_for, remove_at, put_at, with_lock, without, without_all, with_entry}
use Rattle.rule.specs.Soundness.{EveryEntry, Apart, Distinct, Fits, SoundEntry, Sound, every_entry, apart, distinct, fit, sound_entry, sound}
use Rattle.rule.specs.Rule.{Question, Answer, Landing, Plan, land, ask, rule}
use Rattle.rule.specs.Calls.{lent, Call, refusal, refused, Result, follow, served, call}
use Rattle.rule.specs.Runs.{events, end_of}
use Rattle.rule.specs.Order.{SoundRule, SoundApart, FreshSound, CallsKeepSound, NeverRefused3, NumbersOnlyRise}
use Rattle.rule.proofs.Cases.{given-cases, true_not_false, and_left, and_right, both_true, not_true}
use Rattle.rule.proofs.Clock.{advance-next}
use Rattle.rule.proofs.Plans.{EveryLanding, every_landing_imp}
use Rattle.rule.proofs.Effects.{Storable, Effect, leaves, removes, clears, locks, stores, rule-effect}
use Rattle.rule.proofs.RefusalLaws.{refusal-3, refused_by}
use Rattle.rule.proofs.PositionLaws.{Holds, every_at, every_imp, Fewer, fewer_every, fewer_distinct, fewer_length, fewer_none, lasting-fewer, remove_fewer, put_every, put_distinct, not_same, differs, found_at, absent_differs, distinct-at, one_blob}
use Rattle.rule.proofs.RoomLaws.{fewer_lengths, put_length, put_lengths, Placed, replacing, anew, placed_others, place_inside, has_place}

-- ## The test

-- a test that is passed exactly where the fact holds
abbrev pub Says : Bool → Type 0 → Type 0
Says b P = (b ≡ true) ↔ P

-- two tests say two facts
pub both_say : (a b : Bool) (P Q : Type 0) → Says a P → Says b Q → Says (a && b) (P × Q)
both_say a b P Q p q = ((λ t. (p.0 (and_left a b t), q.0 (and_right a b t))), (λ (x, y). both_true a b (p.1 x) (q.1 y)))

-- where the fact does not hold, the test is not passed
pub says-not : (b : Bool) {P : Type 0} → Says b P → (P → ⊥) → b ≡ false
says-not true says never = absurd (never (says.0 refl))
says-not false says never = refl

pub le_says : (m n : ℕ) → Says (leb m n) (m ≤ n)
le_says m n = (leb-true m n, le-leb m n)

pub lt_says : (m n : ℕ) → Says (ltb m n) (m < n)
lt_says m n = (ltb-true m n, lt-ltb m n)

pub eq_says : (m n : ℕ) → Says (eqb m n) (m ≡ n)
eq_says m n = (eqb-true m n, eq-eqb m n)

pub within-says : (low high n : ℕ) → Says (within low high n) ((low ≤ n) × (n ≤ high))
within-says low high n = both_say _ _ _ _ (le_says low n) (le_says n high)

pub every_says : (test : Entry → Bool) (P : Entry → Type 0) → ((e : Entry) → Says (test e) (P e)) → (es : List Entry) → Says (every_entry test es) (EveryEntry P es)
unfolding every_entry
every_says test P f [] = ((λ _. tt), (λ _. refl))
every_says test P f (e ∷ es) = both_say _ _ _ _ (f e) (every_says test P f es)

same-says : (a b : List ℕ) → Says (not (same a b)) (a ≢ b)
same-says a b = ((λ t. not_same a b (not_true _ t)), (λ n. ap not (differs a b n)))

number_says : (m n : ℕ) → Says (not (eqb m n)) (m ≢ n)
number_says m n = ((λ t. eqb-false m n (not_true _ t)), (λ d. ap not (ne_eqb m n d)))

apart-says : (e x : Entry) → Says (apart e x) (Apart e x)
apart-says e x =
    let all = both_say _ _ _ _ (same-says e.blob x.blob) (number_says e.number x.number) in
    ((λ t. record { blobs = (all.0 t).0; numbers = (all.0 t).1 }), (λ a. all.1 (a.blobs, a.numbers)))

pub distinct-says : (es : List Entry) → Says (distinct es) (Distinct es)
unfolding distinct
distinct-says [] = ((λ _. tt), (λ _. refl))
distinct-says (e ∷ es) = both_say _ _ _ _ (every_says (apart e) (Apart e) (apart-says e) es) (distinct-says es)

-- beside these there is room
pub record RoomBeside (os : List Entry) (e : Entry) : Type 0 where
  pub count : length os < entries_limit
  pub bytes : all_lengths os + lengths_of e ≤ store_size

pub room_says : (e : Entry) (es : List Entry) → Says (has_room e es) (RoomBeside (others e.blob es) e)
unfolding has_room
room_says e es =
    let os = others e.blob es in
    let all = both_say _ _ _ _ (lt_says (length os) entries_limit) (le_says (all_lengths os + lengths_of e) store_size) in
    ((λ t. record { count = (all.0 t).0; bytes = (all.0 t).1 }), (λ r. all.1 (r.count, r.bytes)))

pub fit-says : (blob fields comment : List ℕ) → Says (fit blob fields comment) (Fits blob fields comment)
unfolding fit
fit-says blob fields comment =
    let rest = both_say _ _ _ _ (within-says 1 fields_limit (length fields)) (le_says (length comment) comment_limit) in
    let all = both_say _ _ _ _ (within-says 1 blob_limit (length blob)) rest in (
      (λ t.
          let (in-blob, (in-fields, in-comment)) = all.0 t in
          record { blob_some = in-blob.0; blob_fits = in-blob.1; fields_some = in-fields.0; fields_fit = in-fields.1; comment_fits = in-comment }),
      (λ s. all.1 ((s.blob_some, s.blob_fits), ((s.fields_some, s.fields_fit), s.comment_fits))),
    )

entry_says : (clock : Millis) (next : ℕ) (e : Entry) → Says (sound_entry clock next e) (SoundEntry clock next e)
entry_says clock next e =
    let n = both_say _ _ _ _ (both_say _ _ _ _ (le_says 1 e.number) (lt_says e.number next)) (le_says e.reading.count clock.count) in
    let all = both_say _ _ _ _ (fit-says e.blob e.fields e.comment) n in (
      (λ t.
          let h = all.0 t in
          record {
            lengths = h.0;
            number_first = h.1.0.0;
            number_taken = h.1.0.1;
            reading_past = h.1.1;
          }),
      (λ s. all.1 (s.lengths, ((s.number_first, s.number_taken), s.reading_past))),
    )

pub sound-rule : SoundRule
unfolding sound
sound-rule g =
    let room = both_say _ _ _ _ (le_says (length g.entries) entries_limit) (le_says (all_lengths g.entries) store_size) in
    let p = both_say _ _ _ _ room (every_says _ _ (entry_says g.clock g.next) g.entries) in
    let q = both_say _ _ _ _ (distinct-says g.entries) (both_say _ _ _ _ (le_says (length g.lock) passphrase_limit) (within-says 1 last_number g.next)) in
    let all = both_say _ _ _ _ p q in (
      (λ t.
          let h = all.0 t in
          record {
            few = h.0.0.0;
            room = h.0.0.1;
            entries = h.0.1;
            distinct = h.1.0;
            lock_fits = h.1.1.0;
            next_first = h.1.1.1.0;
            next_last = h.1.1.1.1;
          }),
      (λ s. all.1 (((s.few, s.room), s.entries), (s.distinct, (s.lock_fits, (s.next_first, s.next_last))))),
    )

pub sound-apart : SoundApart
sound-apart g i j e x s n h k = let a = distinct-at g.entries s.distinct i j e x n h k in (a.blobs, a.numbers)

pub fresh-sound : FreshSound
unfolding all_lengths
fresh-sound = record { few = omega arith; room = omega arith; entries = tt; distinct = tt; lock_fits = omega arith; next_first = omega arith; next_last = omega arith }

-- ## What keeps it

-- fewer entries, a later clock
pub sound-fewer : (g after : Gateway) → Fewer g.entries after.entries
    → after.lock ≡ g.lock → g.clock.count ≤ after.clock.count → after.next ≡ g.next → Sound g → Sound after
sound-fewer g after f lock clock next s =
    let count = fewer_length f in
    let bytes = fewer_lengths f in
    let few : length g.entries ≤ entries_limit = s.few in
    let room : all_lengths g.entries ≤ store_size = s.room in
    record {
      few = omega arith;
      room = omega arith;
      entries = fewer_every _ f (every_imp (SoundEntry g.clock g.next) _ (λ e h. omega arith) g.entries s.entries);
      distinct = fewer_distinct f s.distinct;
      lock_fits = rw lock s.lock_fits;
      next_first = rw next s.next_first;
      next_last = rw next s.next_last;
    }

pub sound-advance : (r : Millis) (g : Gateway) → Sound g → Sound (advance r g)
unfolding advance at_clock
sound-advance r g s =
    let raised : g.clock.count ≤ (later g.clock r).count = omega arith in
    sound-fewer g (advance r g) (lasting-fewer (later g.clock r) g.entries) refl raised refl s

pub sound-lock : (passphrase : List ℕ) (g : Gateway) → length passphrase ≤ passphrase_limit → Sound g → Sound (with_lock passphrase g)
sound-lock passphrase g h s = record {
  few = s.few;
  room = s.room;
  entries = s.entries;
  distinct = s.distinct;
  lock_fits = h;
  next_first = s.next_first;
  next_last = s.next_last;
}

-- the entry that is put in differs from all but the one whose position it takes
new_apart : (g : Gateway) (e : Entry) (i : ℕ) → Sound g → e.number ≡ g.next → Placed e.blob g.entries i
    → (j : ℕ) (x : Entry) → j ≢ i → Holds g.entries j x → Apart e x
new_apart g e i s n p j x d h =
    let old-number = (every_at (SoundEntry g.clock g.next) g.entries s.entries j x h).number_taken in
    record { blobs = other_blob p; numbers = λ q. omega arith }
  where
    other_blob : Placed e.blob g.entries i → e.blob ≢ x.blob
    other_blob (replacing at) q =
        let old = found_at e.blob g.entries i at in
        d (one_blob g.entries s.distinct j i x old.entry h old.there (sym q ∙ sym old.is))
    other_blob (anew absent _) q = every_at (λ x. x.blob ≢ e.blob) g.entries (absent_differs e.blob g.entries absent) j x h (sym q)

-- what is put in takes the room that was tested
pub room_after : (e : Entry) (es : List Entry) (i : ℕ) → Distinct es → place_for e es ≡ Some i
    → (length (put_at i e es) ≤ entries_limit) × (all_lengths (put_at i e es) ≤ store_size)
room_after e es i d p =
    let place = has_place e es i p in
    let room : RoomBeside (remove_at i es) e = rw (placed_others d place.placed) at ((room_says e es).0 place.room) in
    let count = put_length i e es in
    let bytes = put_lengths i e es in
    (omega arith, omega arith)

pub sound-entry : (g : Gateway) (e : Entry) (i : ℕ) → Storable g e i → Sound g → Sound (with_entry i e g)
sound-entry g e i h s =
    let left : g.next < last_number = h.numbers_left in
    let number : e.number ≡ g.next = h.number in
    let reading : e.reading.count ≡ g.clock.count = ap (λ (t : Millis). t.count) h.reading in
    let first : 1 ≤ g.next = s.next_first in
    let new : SoundEntry g.clock (g.next + 1) e
    = record { lengths = (fit-says e.blob e.fields e.comment).0 h.fits; number_first = omega arith; number_taken = omega arith; reading_past = omega arith } in
    let old = every_imp (SoundEntry g.clock g.next) (SoundEntry g.clock (g.next + 1)) (λ x k. omega arith) g.entries s.entries in
    let place = (has_place e g.entries i h.place).placed in
    let room = room_after e g.entries i s.distinct h.place in
    record {
      few = room.0;
      room = room.1;
      entries = put_every g.entries i e (place_inside place) (SoundEntry g.clock (g.next + 1)) new old;
      distinct = put_distinct g.entries i e (place_inside place) (new_apart g e i s number place) s.distinct;
      lock_fits = s.lock_fits;
      next_first = omega arith;
      next_last = omega arith;
    }

sound-effect : {g after : Gateway} {l : Landing} → Sound g → Effect g l after → Sound after
sound-effect s (leaves e) = rw e s
sound-effect {g} s (removes blob i _ _ e) = rw e (sound-fewer g (without i g) (remove_fewer i g.entries) refl (omega arith) refl s)
sound-effect {g} s (clears _ e) = rw e (sound-fewer g (without_all g) (fewer_none g.entries) refl (omega arith) refl s)
sound-effect {g} s (locks passphrase fits _ e) = rw e (sound-lock passphrase g fits s)
sound-effect {g} s (stores entry i storable _ e) = rw e (sound-entry g entry i storable s)

-- ## Calls

-- what a gateway has after the clock and after each landing, it has after a call
module _ (P : Gateway → Type 0) where
  follow-keeps : (lent : (q : Question) → Option (Answer q)) (g : Gateway) (plan : Plan) → P g
      → EveryLanding (λ l after. P after) plan → P (follow lent g plan).gateway
  unfolding follow
  follow-keeps lent g (land l after) h k = k
  follow-keeps lent g (ask q onwards) h k = given-cases (λ (r : Result). P r.gateway) (lent q) (λ _. h) (λ a _. follow-keeps lent g (onwards a) h (k a))

  pub call-keeps : (g : Gateway) (c : Call) → P g → P (advance c.reading g)
      → ((l : Landing) (after : Gateway) → Effect (advance c.reading g) l after → P after) → P (call g c).gateway
  unfolding call served
  call-keeps g c h k f =
      let now = advance c.reading g in
      let plan = rule now c.frame.payload in
      given-cases (λ (r : Result). P r.gateway) (refusal g c)
      (λ _. follow-keeps (lent c.answers) now plan k (every_landing_imp (Effect now) (λ l after. P after) f plan (rule-effect now c.frame.payload)))
      (λ _ _. h)

pub calls_keep_sound : CallsKeepSound
calls_keep_sound g c s = let now = sound-advance c.reading g s in call-keeps Sound g c s now (λ l after. sound-effect now)

never_3 : (g : Gateway) (c : Call) → Sound g → (call g c).outcome ≢ refused 3
never_3 g c s e = true_not_false (sym ((sound-rule g).1 s) ∙ refusal-3 g c (refused_by g c 3 e))

pub never_refused_3 : NeverRefused3
unfolding events end_of
never_refused_3 g [] s = (tt, s)
never_refused_3 g (c ∷ cs) s = let rest = never_refused_3 (call g c).gateway cs (calls_keep_sound g c s) in ((never_3 g c s, rest.0), rest.1)

-- ## Numbers

effect_next : {g after : Gateway} {l : Landing} → Effect g l after → g.next ≤ after.next
effect_next (leaves e) = rw e (omega arith)
effect_next (removes blob i _ _ e) = rw e (omega arith)
effect_next (clears _ e) = rw e (omega arith)
effect_next (locks passphrase _ _ e) = rw e (omega arith)
effect_next (stores entry i _ _ e) = rw e (omega arith)

pub numbers_only_rise : NumbersOnlyRise
numbers_only_rise g c =
    let same_next = advance-next c.reading g in
    call-keeps (λ after. g.next ≤ after.next) g c (omega arith) (omega arith) (λ l after h. let k = effect_next h in omega arith)
