-- A call is what `call_of` gives: a refused one by its first refusal, an accepted one since a sound state and store are the one writing of their meaning.
use Prim.Native.Nat.{ℕ, ◌≤◌, ◌<◌}
use mathlib.Core.Path.{◌≡◌, refl, sym, ap, ◌∙◌, subst}
use mathlib.Core.Bool.{Bool, true, false, not}
use mathlib.Core.Option.{Option, none, some}
use mathlib.Core.List.{List}
use borrow.Author.Tests.{not-true, not-false, eq-eqb, ne_eqb, le-ltb, lt-ltb}
use lib.ListN.{length}
use Rattle.wire.specs.Limits.{payload_limit, store_size, signature_limit, reply_room}
use Rattle.rule.specs.declared.Millis.{Millis}
use Rattle.rule.specs.Gateway.{Gateway, advance}
use Rattle.rule.specs.Calls.{lent_length, refusal_of, served}
use Rattle.table.specs.declared.Columns.{Columns}
use Rattle.table.specs.declared.Kept.{Kept}
use Rattle.table.specs.declared.State.{State}
use Rattle.table.specs.Meaning.{gateway_of, held}
use Rattle.table.specs.Soundness.{sound_state, Sound, Means}
use Rattle.table.proofs.TestLaws.{sound_state-rule}
use Rattle.requests.specs.declared.Answers.{Answers}
use Rattle.requests.specs.declared.Called.{Called}
use Rattle.requests.specs.declared.Landed.{Landed}
use Rattle.requests.specs.declared.Outcome.TheVariants.{Refused}
use Rattle.requests.specs.Outcomes.{signature_of, lent_of}
use Rattle.requests.specs.Ends.{Ends}
use Rattle.requests.proofs.EndLaws.{ends_laid_out}
use Rattle.server.specs.Calls.{call_of, Meets}

-- ## Soundness, as the test tells it

pub sound-passed : (s : State) (x : List ℕ) → Sound s x → sound_state s x ≡ true
sound-passed s x S = (sound_state-rule s x).1 S

pub sound-told : (s : State) (x : List ℕ) (b : Bool) → not b ≡ false → b ≡ sound_state s x → Sound s x
sound-told s x b e f = (sound_state-rule s x).0 (sym f ∙ not-false b e)

module _ (s : State) (x p : List ℕ) (t : Millis) (answers : Answers) (bytes buffer : List ℕ) where
  abbrev pub refusal_here : Option ℕ
  refusal_here = refusal_of (length buffer) (length x) (sound_state s x) (length p) (lent_length (lent_of answers bytes).signature)

  abbrev Gives : Called → List ℕ → List ℕ → Type 0
  Gives r y out = Meets s x p t answers bytes buffer r.outcome r.state y out

  refuses : (n : ℕ) (r : Called) → refusal_here ≡ some n → r ≡ record { outcome = Refused n; state = s } → Gives r x buffer
  unfolding call_of
  refuses n r e f = record {
    outcome_is = rw e (ap (λ (c : Called). c.outcome) f);
    state_is = rw e (ap (λ (c : Called). c.state) f);
    store_is = rw e refl;
    reply_is = rw e refl;
  }

  pub refuses_1 : (r : Called) → length buffer < reply_room → r ≡ record { outcome = Refused 1; state = s } → Gives r x buffer
  unfolding refusal_of lent_of
  refuses_1 r h f = refuses 1 r first f
    where
      first : refusal_here ≡ some 1
      first = rw (lt-ltb (length buffer) reply_room h)

  pub refuses_2 : (r : Called) → reply_room ≤ length buffer → (length x ≡ store_size → ⊥) → r ≡ record { outcome = Refused 2; state = s } → Gives r x buffer
  unfolding refusal_of lent_of
  refuses_2 r a b f = refuses 2 r second f
    where
      second : refusal_here ≡ some 2
      second = rw (le-ltb (length buffer) reply_room a, ne_eqb (length x) store_size b)

  pub refuses_3 : (r : Called) (b : Bool) → reply_room ≤ length buffer → length x ≡ store_size → not b ≡ true → b ≡ sound_state s x → r ≡ record { outcome = Refused 3; state = s } → Gives r x buffer
  unfolding refusal_of lent_of
  refuses_3 r b h e u is f = refuses 3 r third f
    where
      third : refusal_here ≡ some 3
      third = rw (le-ltb (length buffer) reply_room h, eq-eqb (length x) store_size e, ← is, not-true b u)

  module _ (h : reply_room ≤ length buffer) (S : Sound s x) where
    pub refuses_4 : (r : Called) → payload_limit < length p → r ≡ record { outcome = Refused 4; state = s } → Gives r x buffer
    unfolding refusal_of lent_of
    refuses_4 r a f = refuses 4 r fourth f
      where
        fourth : refusal_here ≡ some 4
        fourth = rw (le-ltb (length buffer) reply_room h, eq-eqb (length x) store_size S.store_sized, sound-passed s x S, lt-ltb payload_limit (length p) a)

    module _ (n : ℕ) (a : length p ≤ payload_limit) (lent : n ≡ lent_length (signature_of answers.signature bytes)) where
      pub refuses_5 : (r : Called) → signature_limit < n → r ≡ record { outcome = Refused 5; state = s } → Gives r x buffer
      unfolding refusal_of lent_of
      refuses_5 r b f = refuses 5 r fifth f
        where
          fifth : refusal_here ≡ some 5
          fifth = rw (le-ltb (length buffer) reply_room h, eq-eqb (length x) store_size S.store_sized, sound-passed s x S, le-ltb payload_limit (length p) a, ← lent, lt-ltb signature_limit n b)

      pub none_applies : n ≤ signature_limit → refusal_here ≡ none
      unfolding refusal_of lent_of
      none_applies b = rw (le-ltb (length buffer) reply_room h, eq-eqb (length x) store_size S.store_sized, sound-passed s x S, le-ltb payload_limit (length p) a, ← lent, le-ltb signature_limit n b)

      pub accepts : (r : Called) (y out : List ℕ) (raised : State) (z : List ℕ) → n ≤ signature_limit → Means raised z (advance t (gateway_of s x))
          → Ends buffer r y out (served (gateway_of raised z) (record { payload = p }) (lent_of answers bytes)) → Gives r y out
      unfolding call_of
      accepts r y out raised z b m e =
          let as-served = subst (λ (g : Gateway). Ends buffer r y out (served g (record { payload = p }) (lent_of answers bytes))) m.gateway e in
          let laid = ends_laid_out buffer r y out _ as-served in
          let ok = none_applies b in
          record {
            outcome_is = rw ok (ap (λ (c : Called). c.outcome) laid.0);
            state_is = rw ok (ap (λ (c : Called). c.state) laid.0);
            store_is = rw ok laid.1;
            reply_is = rw ok laid.2;
          }

-- a refusal of the core, as the state that its columns and what it keeps are
pub refused_as : (t : Columns) (b : List ℕ) (k : Kept) (r : Landed) (n : ℕ) → r ≡ record { outcome = Refused n; kept = k }
    → ◌≡◌ {A = Called} (record { outcome = r.outcome; state = held t b r.kept }) (record { outcome = Refused n; state = held t b k })
refused_as t b k r n e = ap (λ (l : Landed). record { outcome = l.outcome; state = held t b l.kept }) e

-- a lent signature that the test lets through is short
pub lent-short : (answers : Answers) (bytes : List ℕ) (n : ℕ) → n ≡ lent_length (signature_of answers.signature bytes) → n ≤ signature_limit → lent_length (lent_of answers bytes).signature ≤ signature_limit
unfolding lent_of
lent-short answers bytes n e h = rw (← e) h
