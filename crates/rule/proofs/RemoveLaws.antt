-- Removing past the gate: it succeeds exactly where the blob is held, takes that entry out and closes the gap, or takes all out.
use Prim.Native.Nat.{ℕ, suc, ◌≤◌, ◌<◌}
use native.Mathlib.Omega.{arith}
use lib.Dec.{leb}
use borrow.Author.Tests.{leb-true, leb-false}
use mathlib.Core.Bool.{Bool, true, false}
use mathlib.Core.Path.{◌≡◌, refl, sym, ◌∙◌}
use mathlib.Core.Logic.{◌≢◌}
use mathlib.Core.List.{List}
use Rattle.wire.specs.Steps.{part}
use Rattle.wire.specs.Read.{cut_of, string_at}
use Rattle.rule.specs.Gateway.{Entry, Gateway, remove_at, seek, holds, without, without_all}
use Rattle.rule.specs.Soundness.{Distinct}
use Rattle.rule.specs.Rule.{SUCCESS, Plan, removing, removing_all}
use Rattle.rule.specs.Calls.{lent, Call, lands, follow, call}
use Rattle.rule.specs.Words.{Begins, Carries, HeldAt, Held, at_call, payload_of}
use Rattle.rule.specs.Rows.{remove, remove_all}
use Rattle.rule.specs.Removing.{Gone, RemoveRule, RemoveTakes, RemoveCloses, RemoveAllRule}
use Rattle.rule.proofs.Cases.{part-cases, found-cases}
use Rattle.rule.proofs.PositionLaws.{Holds, one_position, some_not_none, same-entry, every_at, one_blob, fewer_held, remove_fewer, remove_front, remove_back, remove_elsewhere, absent_differs, found_at}
use Rattle.rule.proofs.RefusalLaws.{accepted}
use Rattle.rule.proofs.SoundLaws.{sound-advance, sound-rule}
use Rattle.rule.proofs.RequestLaws.{one_carried}
use Rattle.rule.proofs.RowLaws.{past_gate_lem, success_beyond, through, OnSuccess, failure_shows, success_shows}

-- ## One

-- among distinct entries, what is taken out is gone
pub remove_gone : (es : List Entry) → Distinct es → (i : ℕ) (e : Entry) → Holds es i e → (k : ℕ) → Holds (remove_at i es) k e → ⊥
remove_gone es d i e h k m = by_side (leb i k) refl
  where
    by_side : (b : Bool) → leb i k ≡ b → ⊥
    by_side true t =
        let behind : i ≤ k = leb-true i k t in
        let p = one_position es d i (suc k) e h (sym (remove_back i es k behind) ∙ m) in
        omega arith
    by_side false t =
        let before : k < i = leb-false i k t in
        let p = one_position es d i k e h (sym (remove_front i es k before) ∙ m) in
        omega arith

-- the entry that the request names stood at a position, and is taken out
record TakenOut (g : Gateway) (payload : List ℕ) (after : Gateway) : Type 0 where
  position : ℕ
  entry : Entry
  there : HeldAt g position entry
  carries : Carries entry.blob payload
  leaves : after ≡ without position g

removing-shows : (g : Gateway) (payload : List ℕ) → OnSuccess (TakenOut g payload) (removing g payload)
unfolding removing
removing-shows g payload =
    part-cases Shows (string_at payload 1) (λ _ _. failure_shows) λ f t k read.
    found-cases Shows (seek (holds (cut_of payload f t)) 0 g.entries) (λ _. failure_shows) λ i at _.
    let held = found_at (cut_of payload f t) g.entries i at in
    record { position = i; entry = held.entry; there = held.there; carries = record { from = f; to = t; next = k; read = read; is = sym held.is }; leaves = refl }
  where
    Shows : Plan → Type 0
    Shows = OnSuccess (TakenOut g payload)

taken_out : (g : Gateway) (c : Call) → Begins 18 (payload_of c) → (call g c).outcome ≡ lands SUCCESS → TakenOut (at_call g c) (payload_of c) (call g c).gateway
taken_out g c begins success = success_shows (TakenOut (at_call g c) (payload_of c)) remove g c begins (removing-shows (at_call g c) (payload_of c)) success

distinct-now : (g : Gateway) (c : Call) → Begins 18 (payload_of c) → (call g c).outcome ≡ lands SUCCESS → Distinct (at_call g c).entries
distinct-now g c begins success =
    let way = through remove g c begins success success_beyond in
    (sound-advance c.reading g ((sound-rule g).0 (accepted g c way.past.accepted).state)).distinct

without_gone : (g : Gateway) (i : ℕ) (e : Entry) → Distinct g.entries → HeldAt g i e → Gone g (without i g) e
without_gone g i e distinct held = record {
  gone = λ (j, there). remove_gone g.entries distinct i e held j there;
  others = λ x n. (still x, stays x n);
  rest = record { lock = refl; clock = refl; next = refl };
}
  where
    still : (x : Entry) → Held (without i g) x → Held g x
    still x (j, there) = fewer_held (remove_fewer i g.entries) j x there

    stays : (x : Entry) → x ≢ e → Held g x → Held (without i g) x
    stays x other (j, there) = remove_elsewhere i g.entries j x (λ p. other (same-entry (sym (rw p at there) ∙ held))) there

pub remove_takes : RemoveTakes
remove_takes g c begins success =
    let out = taken_out g c begins success in
    let gone = without_gone (at_call g c) out.position out.entry (distinct-now g c begins success) out.there in
    (out.entry, (out.position, out.there), out.carries, rw out.leaves gone)

-- a request names one blob, and a blob stands at one position
pub remove_closes : RemoveCloses
remove_closes g c i e begins success held s =
    let es = (at_call g c).entries in
    let out = taken_out g c begins success in
    let p : out.position ≡ i
    = one_blob es (distinct-now g c begins success) out.position i out.entry e out.there held (one_carried out.carries s).0 in
    let after : (call g c).gateway ≡ without i (at_call g c) = rw p at out.leaves in
    rw after (record { front = remove_front i es; back = remove_back i es })

removing-succeeds : (g : Gateway) (c : Call) (i : ℕ) (e : Entry) → HeldAt g i e → Carries e.blob (payload_of c)
    → (follow (lent c.answers) g (removing g (payload_of c))).outcome ≡ lands SUCCESS
unfolding removing part follow
removing-succeeds g c i e held s =
    rw (s.read, s.is)
    (found-cases (λ plan. (follow (lent c.answers) g plan).outcome ≡ lands SUCCESS) (seek (holds e.blob) 0 g.entries)
    (λ absent. absurd (every_at (λ x. x.blob ≢ e.blob) g.entries (absent_differs e.blob g.entries absent) i e held refl))
    (λ _ _. refl))

pub remove_rule : RemoveRule
remove_rule g c past fit begins = (
  (λ success. let (e, held, s, gone) = remove_takes g c begins success in (e, held, s)),
  (λ (e, (i, held), s). rw (past_gate_lem remove g c past fit begins) (removing-succeeds (at_call g c) c i e held s)),
)

-- ## All

pub remove_all_rule : RemoveAllRule
unfolding removing_all follow
remove_all_rule g c past fit begins =
    let no-entry : (e : Entry) → ¬ (Held (without_all (at_call g c)) e) = λ e (i, held). some_not_none (sym held) in
    rw (past_gate_lem remove_all g c past fit begins) (refl, no-entry, record { lock = refl; clock = refl; next = refl })
