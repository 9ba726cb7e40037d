-- A first call is what `first_of` gives, by the splitter's answer; of a whole frame, what the call on its payload gave. Assumes nothing.
use Prim.Native.Nat.{ℕ}
use mathlib.Core.Path.{◌≡◌, sym, ap, ◌∙◌}
use mathlib.Core.List.{List}
use Rattle.wire.specs.declared.frame.Split.{Split}
use Rattle.wire.specs.declared.frame.Split.TheVariants as split
use Rattle.wire.specs.Read.{cut_of}
use Rattle.wire.specs.Frames.{split_of, frame_payload}
use Rattle.wire.proofs.Reading.{cut_none}
use Rattle.rule.specs.declared.Millis.{Millis}
use Rattle.table.specs.declared.State.{State}
use Rattle.requests.specs.declared.Answers.{Answers}
use Rattle.requests.specs.declared.Outcome.{Outcome}
use Rattle.server.specs.declared.first.First.{First}
use Rattle.server.specs.declared.first.First.TheVariants.{MoreNeeded, TooLong}
use Rattle.server.specs.Calls.{Meets}
use Rattle.server.specs.First.{nothing_lent, first_in, FirstDone, first_by, first_of, FirstMeets}

module _ (state : State) (store bytes : List ℕ) (reading : Millis) (buffer : List ℕ) (x : Split) (read : x ≡ split_of bytes) where
  gives_by : (y : Split) → x ≡ y → first_by state store bytes reading buffer y ≡ first_of state store bytes reading buffer
  unfolding first_of
  gives_by y is = ap (first_by state store bytes reading buffer) (sym is ∙ read)

  -- a first call that gave this done
  gives : (d : FirstDone) → d ≡ first_of state store bytes reading buffer → FirstMeets state store bytes reading buffer d.first d.state d.store d.reply
  gives d e = record { first_is = ap (λ (z : FirstDone). z.first) e; state_is = ap (λ (z : FirstDone). z.state) e; store_is = ap (λ (z : FirstDone). z.store) e; reply_is = ap (λ (z : FirstDone). z.reply) e }

  pub more_needed : x ≡ split.MoreNeeded → FirstMeets state store bytes reading buffer MoreNeeded state store buffer
  unfolding first_by
  more_needed is = gives _ (gives_by split.MoreNeeded is)

  pub too_long : x ≡ split.TooLong → FirstMeets state store bytes reading buffer TooLong state store buffer
  unfolding first_by
  too_long is = gives _ (gives_by split.TooLong is)

  pub begins : (from to : ℕ) (payload : List ℕ) (answers : Answers) (signature : List ℕ) (outcome : Outcome) (after : State) (first : First) (y out : List ℕ)
      → x ≡ split.Frame from to → payload ≡ frame_payload bytes → answers ≡ nothing_lent → signature ≡ cut_of bytes 0 0
      → Meets state store payload reading answers signature buffer outcome after y out → first ≡ first_in to outcome
      → FirstMeets state store bytes reading buffer first after y out
  unfolding first_by
  begins from to payload answers signature outcome after first y out is cut unlent empty m e =
      let done = gives_by (split.Frame from to) is in
      let called = rw (cut, unlent, empty ∙ sym (cut_none bytes)) at m in
      record {
        first_is = e ∙ ap (first_in to) called.outcome_is ∙ ap (λ (z : FirstDone). z.first) done;
        state_is = called.state_is ∙ ap (λ (z : FirstDone). z.state) done;
        store_is = called.store_is ∙ ap (λ (z : FirstDone). z.store) done;
        reply_is = called.reply_is ∙ ap (λ (z : FirstDone). z.reply) done;
      }
