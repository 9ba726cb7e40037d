-- What an inner call ensures holds of its flat values (InnerFlat); so the promises of its runs hold of the exports. Assumes nothing.
use Prim.Native.Nat.{ℕ}
use mathlib.Core.Path.{◌≡◌, refl, sym, ap, ◌∙◌}
use mathlib.Core.List.{List, [], ◌∷◌}
use Rattle.table.specs.declared.State.{State}
use Rattle.table.specs.Soundness.{Sound}
use Rattle.requests.specs.declared.Outcome.{Outcome}
use Rattle.requests.specs.declared.Outcome.TheVariants.{Refused}
use Rattle.requests.proofs.OutcomeLaws.{outcomes_apart}
use Rattle.server.specs.declared.first.First.{First}
use Rattle.server.specs.declared.first.First.TheVariants as answer
use Rattle.server.specs.Calls.{call_of}
use Rattle.server.specs.First.{first_of}
use Rattle.server.specs.Runs.{Step}
use Rattle.server.specs.FirstPromises.{FirstStep}
use Rattle.server.proofs.FirstLaws.{firsts_apart}
use Rattle.server.proofs.InnerLaws.{inner_meets, inner_first_meets}
use Rattle.server.proofs.InnerRuns.{InnerCall, InnerFirstCall, inner_promises}
use Rattle.flat.specs.declared.FlatOutcome.{FlatOutcome}
use Rattle.flat.specs.declared.FlatFirst.{FlatFirst}
use Rattle.flat.specs.Flat.{answers_of, numbered, flat_of, unbegun_first, flat_first}
use Rattle.flat.specs.Promises.{flat_values, flat_first_values}
use Rattle.gateway.specs.Promises.{ByExport, ByFirstExport, ByInnerExport, ByInnerFirstExport, InnerExportPromises}
use Rattle.flat.proofs.FlatLaws.{same-values}
use Rattle.gateway.proofs.InnerFlat.{inner_flat, inner_first_flat}
use Rattle.gateway.proofs.ExportLaws.{export_calls}
use Rattle.flat.proofs.FlatLaws.{same-first_values}
use Rattle.gateway.proofs.FirstLaws.{export_first}

-- ## Runs

-- what a refusal's number and values stand for
refused_flat : (outcome : FlatOutcome) (o : Outcome) (n : ℕ) → outcome ≡ flat_of o → flat_values outcome ≡ 0 ∷ n ∷ [] → outcome ≡ numbered 0 n
unfolding flat_of
refused_flat outcome o n f e = f ∙ ap flat_of (outcomes_apart o (Refused n) (sym (same-values o) ∙ sym (ap flat_values f) ∙ e))

refused_first_flat : (x : FlatFirst) (o : First) (n : ℕ) → x ≡ flat_first o → flat_first_values x ≡ 2 ∷ n ∷ [] → x ≡ unbegun_first 2 n
unfolding flat_first
refused_first_flat x o n f e = f ∙ ap flat_first (firsts_apart o (answer.Refused n) (sym (same-first_values o) ∙ sym (ap flat_first_values f) ∙ e))

by_inner : (state : State) (store : List ℕ) (k : Step) → Sound state store → ByInnerExport state store k → InnerCall ByExport state store k
by_inner state store k S i =
    let g = i S in
    let m = g.meets.meets in
    record {
      outer = record { answers = g.answers; outcome = g.outcome; answers_are = g.answers_are; ended_is = g.ended_is; meets = m };
      sound = g.meets.sound;
      never_2 = λ e. g.meets.never_2 (refused_flat g.outcome _ 2 m.outcome_is (sym g.ended_is ∙ e));
      never_3 = λ e. g.meets.never_3 (refused_flat g.outcome _ 3 m.outcome_is (sym g.ended_is ∙ e));
    }

by_inner_first : (state : State) (store : List ℕ) (f : FirstStep) → Sound state store → ByInnerFirstExport state store f → InnerFirstCall ByFirstExport state store f
by_inner_first state store f S i =
    let g = i S in
    let m = g.meets.meets in
    record {
      outer = record { first = g.first; ended_is = g.ended_is; meets = m };
      sound = g.meets.sound;
      never_2 = λ e. g.meets.never_2 (refused_first_flat g.first _ 2 m.first_is (sym g.ended_is ∙ e));
      never_3 = λ e. g.meets.never_3 (refused_first_flat g.first _ 3 m.first_is (sym g.ended_is ∙ e));
    }

call-too : (state : State) (store : List ℕ) (k : Step) → ByExport state store k → ByInnerExport state store k
call-too state store k x S =
    let m = x.meets in
    let o = (call_of state store k.payload k.reading (answers_of x.answers) k.signature k.buffer).called.outcome in
    let inner = inner_meets state store k.payload k.reading (answers_of x.answers) k.signature k.buffer o k.gave.state k.gave.store k.gave.reply S
    (record { outcome_is = refl; state_is = m.state_is; store_is = m.store_is; reply_is = m.reply_is }) in
    record {
      answers = x.answers;
      outcome = x.outcome;
      answers_are = x.answers_are;
      ended_is = x.ended_is;
      meets = inner_flat state store k.payload k.reading x.answers k.signature k.buffer x.outcome o k.gave.state k.gave.store k.gave.reply m.outcome_is inner;
    }

first_too : (state : State) (store : List ℕ) (f : FirstStep) → ByFirstExport state store f → ByInnerFirstExport state store f
first_too state store f x S =
    let m = x.meets in
    let o = (first_of state store f.bytes f.reading f.buffer).first in
    let inner = inner_first_meets state store f.bytes f.reading f.buffer o f.gave.state f.gave.store f.gave.reply S
    (record { first_is = refl; state_is = m.state_is; store_is = m.store_is; reply_is = m.reply_is }) in
    record {
      first = x.first;
      ended_is = x.ended_is;
      meets = inner_first_flat state store f.bytes f.reading f.buffer x.first o f.gave.state f.gave.store f.gave.reply m.first_is inner;
    }

pub export_inner_promises : InnerExportPromises
export_inner_promises = inner_promises ByFirstExport export_first ByExport export_calls ByInnerFirstExport by_inner_first ByInnerExport by_inner first_too call-too
