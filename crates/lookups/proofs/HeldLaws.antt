-- What is promised of one key: the search ends at the position that holds it, and what is told of it there is the key's.
use Prim.Native.Nat.{ℕ, ◌+◌, ◌-◌, ◌≤◌, ◌<◌}
use mathlib.Core.Path.{◌≡◌, refl, sym, ap, ◌∙◌, subst}
use mathlib.Core.Logic.{◌≢◌, ◌⊎◌, inl, inr}
use mathlib.Core.Bool.{Bool, true, false}
use mathlib.Core.List.{List, [], ◌∷◌}
use native.Mathlib.Omega.{arith}
use borrow.Author.Tests.{eq-eqb, le-leb, lt-leb}
use lib.Dec.{leb}
use lib.ListN.{length, take, drop}
use Rattle.wire.specs.declared.Seconds.{Seconds}
use Rattle.wire.specs.Limits.{comment_limit}
use Rattle.wire.specs.Read.{cut_of}
use Rattle.wire.proofs.Reading.{le_or_lt}
use Rattle.keys.specs.Constraints.{Lifetime}
use Rattle.std.specs.Prelude.{Some, None}
use Rattle.rule.specs.declared.Millis.{Millis}
use Rattle.rule.specs.Gateway.{Found}
use Rattle.rule.specs.Gateway.{Entry as Key, Gateway, millis_of, due_at, lasting, at_clock, later, advance, seek}
use Rattle.rule.specs.Soundness as rule
use Rattle.rule.specs.Soundness.{EveryEntry, Distinct, Fits, SoundEntry}
use Rattle.rule.specs.Words.{HeldAt, Held}
use Rattle.rule.proofs.Cases.{cond_cases, true_not_false}
use Rattle.rule.proofs.Clock.{same_count}
use Rattle.rule.proofs.PositionLaws.{Holds, every_at, distinct-at, same-or_other, lasting-keeps, seek-none, at_not_nothing}
use Rattle.table.specs.declared.State.{State}
use Rattle.table.specs.Bytes.{padded}
use Rattle.table.specs.Meaning.{entries_of, gateway_of, start_of, flag_of, limited_flag, kept_comment}
use Rattle.table.specs.Soundness.{sound_state, Sound}
use Rattle.table.proofs.ByteLaws.{padded-size, padded-front, padded-rest}
use Rattle.table.proofs.TestLaws.{sound_state-rule}
use Rattle.table.proofs.WritingLaws.{sound-meaning}
use Rattle.lookups.specs.declared.HeldKey.{HeldKey}
use Rattle.lookups.specs.Told.{has_number, left_at, kept, nothing, told_of, key_told}
use Rattle.lookups.specs.Promises.{HeldUnder, Says, Tells, KeyRule, LeftSays, LeftRule, AllZero, NothingRule, ToldRule, PartsWithin, PartsRule}
use Rattle.lookups.proofs.EntryLaws.{Stored, stored}
use Rattle.lookups.proofs.ToldLaws.{Numbered, number_there, key-unsound, key-absent, key-found, numbered-at}

-- ## The search

module _ (ks : List Key) (d : Distinct ks) (i : ℕ) (k : Key) (there : Holds ks i k) where
  -- among distinct keys the search finds the one that has the number
  pub number_found : seek (has_number k.number) 0 ks ≡ Some i
  number_found = by_end (seek (has_number k.number) 0 ks) refl
    where
      by_end : (f : Found) → seek (has_number k.number) 0 ks ≡ f → f ≡ Some i
      by_end None e =
          let none : has_number k.number k ≡ false = every_at (λ x. has_number k.number x ≡ false) ks (seek-none (has_number k.number) 0 ks e) i k there in
          absurd (true_not_false (sym (eq-eqb k.number k.number refl) ∙ none))
      by_end (Some j) e = ap Some (by_position (same-or_other j i))
        where
          other : Numbered k.number ks j
          other = number_there k.number ks j e

          by_position : (j ≡ i) ⊎ (j ≢ i) → j ≡ i
          by_position (inl here) = here
          by_position (inr apart) = absurd ((distinct-at ks d j i other.key k apart other.there there).numbers other.is)

-- ## What is told of a held key

pub is_sound : (s : State) (x : List ℕ) → Sound s x → sound_state s x ≡ true
is_sound s x S = (sound_state-rule s x).1 S

-- a part that is all there
cut_lies : (x : List ℕ) (from n : ℕ) → from + n ≤ length x → cut_of x from (from + n) ≡ take n (drop from x)
unfolding cut_of
cut_lies x from n h =
    let span : from + n - from ≡ n = omega arith in
    rw (le-leb from (from + n) (omega arith), le-leb (from + n) (length x) h, span)

kept-says : (c : List ℕ) → length c ≤ comment_limit → Says (kept c) c
unfolding kept kept_comment
kept-says c h = record { long = refl; text_is = padded-front comment_limit c; rest = padded-rest comment_limit c; whole = padded-size comment_limit c h }

module _ (s : State) (x : List ℕ) (i : ℕ) (k : Key) (S : Sound s x) (there : HeldAt (gateway_of s x) i k) where
  abbrev g : Gateway
  g = gateway_of s x

  meant : rule.Sound g
  meant = sound-meaning s x S

  told-held : key_told s x k.number ≡ told_of s i k
  told-held = sym (key-found s x k.number (is_sound s x S) i k (number_found g.entries meant.distinct i k there) there)

  pub key-sound : SoundEntry g.clock g.next k
  key-sound = every_at (SoundEntry g.clock g.next) g.entries meant.entries i k there

  lengths : Fits k.blob k.fields k.comment
  lengths = key-sound.lengths

  -- its bytes are those of its entry
  there_stored : Stored s x i k
  there_stored = stored s x S i k there

  told-tells : Tells x k (told_of s i k)
  unfolding told_of
  told-tells =
      let bytes = there_stored in
      record {
        number = refl;
        confirm = λ yes. ap flag_of yes;
        no_confirm = λ no. ap flag_of no;
        limited = λ seconds l. ap limited_flag l;
        unlimited = λ l. ap limited_flag l;
        blob = cut_lies x (start_of (entries_of s) i) (length k.blob) (omega arith) ∙ sym bytes.blob;
        fields = cut_lies x (start_of (entries_of s) i + length k.blob) (length k.fields) (omega arith) ∙ sym bytes.fields;
        comment = kept-says k.comment lengths.comment_fits;
      }

  told-within : PartsWithin x (told_of s i k)
  unfolding told_of kept
  told-within =
      let within = there_stored.within in
      record {
        blob_ordered = omega arith;
        blob_within = omega arith;
        fields_ordered = omega arith;
        fields_within = omega arith;
        comment_within = lengths.comment_fits;
      }

pub key-rule : KeyRule
key-rule s x k S (i, there) = subst (Tells x k) (sym (told-held s x i k S there)) (told-tells s x i k S there)

-- ## What is left

lasting-undue : (clock : Millis) (ks : List Key) → EveryEntry (λ k. due_at clock k.reading k.lifetime ≡ false) (lasting clock ks)
unfolding lasting
lasting-undue clock [] = tt
lasting-undue clock (k ∷ ks) =
    cond_cases (EveryEntry (λ k. due_at clock k.reading k.lifetime ≡ false)) (due_at clock k.reading k.lifetime)
    (λ _. lasting-undue clock ks)
    (λ early. (early, lasting-undue clock ks))

module _ (g : Gateway) (i : ℕ) (k : Key) (there : HeldAt g i k) where
  abbrev due_then : Millis → Bool
  due_then clock = due_at clock k.reading k.lifetime

  -- the key is held no more exactly where it is due
  gone_due : (reading : Millis) → ¬ Held (advance reading g) k → due_then (later g.clock reading) ≡ true
  unfolding advance at_clock
  gone_due reading gone = by_due (due_then (later g.clock reading)) refl
    where
      by_due : (b : Bool) → due_then (later g.clock reading) ≡ b → b ≡ true
      by_due true e = refl
      by_due false e = absurd (gone (lasting-keeps (later g.clock reading) g.entries i k there e))

  due_gone : (reading : Millis) → due_then (later g.clock reading) ≡ true → ¬ Held (advance reading g) k
  unfolding advance at_clock
  due_gone reading due (j, held) =
      let now = later g.clock reading in
      true_not_false (sym due ∙ every_at (λ k. due_at now k.reading k.lifetime ≡ false) (lasting now g.entries) (lasting-undue now g.entries) j k held)

  early_stays : (reading : Millis) → due_then (later g.clock reading) ≡ false → Held (advance reading g) k
  unfolding advance at_clock
  early_stays reading early = lasting-keeps (later g.clock reading) g.entries i k there early

  module _ (past : k.reading.count ≤ g.clock.count) (seconds : Seconds) (l : k.lifetime ≡ Some seconds) (t : ℕ) where
    -- t more than the kept clock
    abbrev then : Millis
    then = record { count = g.clock.count + t }

    -- how much of the lifetime is used up then
    abbrev past_then : ℕ
    past_then = then.count - k.reading.count

    left_is : (left_at g.clock k.reading k.lifetime).count ≡ (millis_of seconds).count - (g.clock.count - k.reading.count)
    unfolding left_at
    left_is = ap (λ (l : Lifetime). (left_at g.clock k.reading l).count) l

    due_is : due_then (later g.clock then) ≡ leb (millis_of seconds).count past_then
    unfolding due_at
    due_is = let raised : later g.clock then ≡ then = same_count (omega arith) in λ j. due_at (raised j) k.reading (l j)

    goes_then : (left_at g.clock k.reading k.lifetime).count ≤ t → ¬ Held (advance then g) k
    goes_then h = due_gone then (due_is ∙ le-leb (millis_of seconds).count past_then (let e = left_is in omega arith))

    was_left : ¬ Held (advance then g) k → (left_at g.clock k.reading k.lifetime).count ≤ t
    was_left gone = by_order (le_or_lt (millis_of seconds).count past_then)
      where
        by_order : ((millis_of seconds).count ≤ past_then) ⊎ (past_then < (millis_of seconds).count) → (left_at g.clock k.reading k.lifetime).count ≤ t
        by_order (inl h) = let e = left_is in omega arith
        by_order (inr h) = absurd (true_not_false (sym (gone_due then gone) ∙ due_is ∙ lt-leb _ _ h))

  left_says : k.reading.count ≤ g.clock.count → LeftSays g k (left_at g.clock k.reading k.lifetime)
  unfolding left_at due_at
  left_says past = record {
    goes = λ seconds t l. (was_left past seconds l t, goes_then past seconds l t);
    none_left = λ l. ap (left_at g.clock k.reading) l;
    stays = λ l reading. early_stays reading (ap (due_at (later g.clock reading) k.reading) l);
  }

pub left_rule : LeftRule
unfolding told_of gateway_of
left_rule s x k S (i, there) =
    subst (λ (r : HeldKey). LeftSays (gateway_of s x) k r.left) (sym (told-held s x i k S there))
    (left_says (gateway_of s x) i k there (key-sound s x i k S there).reading_past)

-- ## None told

nothing-zero : AllZero nothing
unfolding nothing kept kept_comment padded
nothing-zero = record { number = refl; confirm = refl; limited = refl; left = refl; blob = (refl, refl); fields = (refl, refl); comment = (refl, refl) }

-- a lookup ends so: with nothing, or with a held key of a sound pair
data Ended (s : State) (x : List ℕ) (n : ℕ) : Type 0 where
  untold : key_told s x n ≡ nothing → (Sound s x → HeldUnder (gateway_of s x) n → ⊥) → Ended s x n
  told : (S : Sound s x) (h : HeldUnder (gateway_of s x) n) → key_told s x n ≡ told_of s h.held.0 h.key → Ended s x n

module _ (s : State) (x : List ℕ) (n : ℕ) where
  held-told : (S : Sound s x) (h : HeldUnder (gateway_of s x) n) → key_told s x n ≡ told_of s h.held.0 h.key
  held-told S h = ap (key_told s x) (sym h.number) ∙ told-held s x h.held.0 h.key S h.held.1

  ended : Ended s x n
  ended = by_test (sound_state s x) refl
    where
      by_search : sound_state s x ≡ true → (f : Found) → seek (has_number n) 0 (gateway_of s x).entries ≡ f → Ended s x n
      by_search t None e = untold (sym (key-absent s x n t e)) (λ S h.
          let (i, there) = h.held in
          let found-there = number_found (gateway_of s x).entries (sound-meaning s x S).distinct i h.key there in
          at_not_nothing (sym (subst (λ (m : ℕ). seek (has_number m) 0 (gateway_of s x).entries ≡ Some i) h.number found-there) ∙ e))
      by_search t (Some i) e =
          let k = numbered-at s x n i e in
          let S = (sound_state-rule s x).0 t in
          let h : HeldUnder (gateway_of s x) n = record { key = k.key; held = (i, k.there); number = k.is } in
          told S h (held-told S h)

      by_test : (b : Bool) → sound_state s x ≡ b → Ended s x n
      by_test false e = untold (sym (key-unsound s x n e)) (λ S h. true_not_false (sym (is_sound s x S) ∙ e))
      by_test true e = by_search e (seek (has_number n) 0 (gateway_of s x).entries) refl

pub nothing-rule : NothingRule
nothing-rule s x n never = by_end (ended s x n)
  where
    by_end : Ended s x n → AllZero (key_told s x n)
    by_end (untold e _) = subst AllZero (sym e) nothing-zero
    by_end (told S h _) = absurd (never S h)

pub told-rule : ToldRule
unfolding told_of
told-rule s x n = (by_end (ended s x n), some_number)
  where
    by_end : Ended s x n → (key_told s x n).number ≢ 0 → Sound s x × HeldUnder (gateway_of s x) n
    by_end (untold e _) is = absurd (is (ap (λ (r : HeldKey). r.number) e ∙ nothing-zero.number))
    by_end (told S h _) is = (S, h)

    some_number : Sound s x × HeldUnder (gateway_of s x) n → (key_told s x n).number ≢ 0
    some_number (S, h) never =
        let same_number : (key_told s x n).number ≡ h.key.number = ap (λ (r : HeldKey). r.number) (held-told s x n S h) in
        let first = (key-sound s x h.held.0 h.key S h.held.1).number_first in
        omega arith

pub parts_rule : PartsRule
unfolding nothing kept kept_comment
parts_rule s x n = by_end (ended s x n)
  where
    by_end : Ended s x n → PartsWithin x (key_told s x n)
    by_end (untold e _) = subst (PartsWithin x) (sym e) (record { blob_ordered = omega arith; blob_within = omega arith; fields_ordered = omega arith; fields_within = omega arith; comment_within = omega arith })
    by_end (told S h e) = subst (PartsWithin x) (sym e) (told-within s x h.held.0 h.key S h.held.1)
