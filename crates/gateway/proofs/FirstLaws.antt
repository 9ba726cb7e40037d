-- What an exported first call gave meets the contract of `first_call`, so all that is promised of that
-- holds of it; and the parts that it names lie in the connection's bytes, since they lie in the payload. Assumes nothing.
use Prim.Native.Nat.{ℕ, ◌+◌}
use mathlib.Core.Path.{◌≡◌, refl, sym, ap, ◌∙◌, subst}
use mathlib.Core.Logic.{inl, inr}
use mathlib.Core.List.{List, []}
use native.Mathlib.Omega.{arith}
use lib.ListN.{length}
use Rattle.wire.specs.declared.frame.Split.{Split}
use Rattle.wire.specs.declared.frame.Split.TheVariants as split
use Rattle.wire.specs.Frames.{split_of, split_number, frame_payload}
use Rattle.wire.proofs.FrameLaws.{whole_frame, frame_parts}
use Rattle.rule.specs.declared.Millis.{Millis}
use Rattle.table.specs.declared.State.{State}
use Rattle.requests.specs.declared.Outcome.{Outcome}
use Rattle.requests.specs.declared.Outcome.TheVariants.{Gate, Check, Confirm, Sign, Reply, Close}
use Rattle.requests.specs.declared.Outcome.TheVariants as outcome
use Rattle.server.specs.declared.first.First.TheVariants.{MoreNeeded, TooLong}
use Rattle.server.specs.Calls.{call_of}
use Rattle.server.specs.First.{nothing_lent, first_in, first_by, first_of}
use Rattle.server.specs.FirstPromises.{FirstStep, ByFirst}
use Rattle.server.proofs.FirstRuns.{first_promises}
use Rattle.flat.specs.Flat.{numbered, flat_of, flat_first}
use Rattle.flat.specs.Promises.{flat_first_values, FirstUnusedZero}
use Rattle.gateway.specs.Promises.{ByExport, ByFirstExport, FirstExportPromises, NamesWithin, FirstFields, FirstsTell, CallPartsLie}
use Rattle.flat.proofs.FlatLaws.{same-first_values, flat_first-unused}
use Rattle.gateway.proofs.WithinLaws.{call-names_within, calls_name_within}
use Rattle.gateway.proofs.ExportLaws.{export_calls}

-- ## Runs

pub export_first : (state : State) (store : List ℕ) (f : FirstStep) → ByFirstExport state store f → ByFirst state store f
export_first state store f x =
    let first = (first_of state store f.bytes f.reading f.buffer).first in
    record {
      first = first;
      ended_is = x.ended_is ∙ ap flat_first_values x.meets.first_is ∙ same-first_values first;
      meets = record { first_is = refl; state_is = x.meets.state_is; store_is = x.meets.store_is; reply_is = x.meets.reply_is };
    }

pub first_export_promises : FirstExportPromises
first_export_promises = first_promises ByFirstExport export_first ByExport export_calls

-- ## Its fields

module _ (bytes buffer : List ℕ) where
  -- nothing has begun: nothing is named and nothing used
  names_nothing : (n : ℕ) → NamesWithin (frame_payload bytes) buffer (numbered 0 n)
  names_nothing n = record { ordered = omega arith; of_payload = λ _. omega arith; of_reply = λ _. omega arith }

  module _ (whole : split_number (split_of bytes) ≡ 2) where
    abbrev frame_end : ℕ
    frame_end = 4 + length (frame_payload bytes)

    begun_fields : (o : Outcome) → NamesWithin (frame_payload bytes) buffer (flat_of o) → FirstUnusedZero (record { kind = 3; used = frame_end; outcome = flat_of o })
        → FirstFields bytes buffer (record { kind = 3; used = frame_end; outcome = flat_of o })
    begun_fields o names unused = record {
      more_needed = λ never. absurd (omega (arith, whole, never));
      too_long = λ never. absurd (omega (arith, whole, never));
      whole = λ _. inr refl;
      used = λ _. refl;
      within = (whole_frame bytes whole).within;
      names = names;
      unused = unused;
    }

    called_fields : (o : Outcome) → NamesWithin (frame_payload bytes) buffer (flat_of o) → FirstUnusedZero (flat_first (first_in frame_end o)) → FirstFields bytes buffer (flat_first (first_in frame_end o))
    unfolding first_in flat_first
    called_fields (outcome.Refused n) names unused = record {
      more_needed = λ never. absurd (omega (arith, whole, never));
      too_long = λ never. absurd (omega (arith, whole, never));
      whole = λ _. inl refl;
      used = λ never. absurd (omega (arith, never));
      within = omega arith;
      names = names_nothing n;
      unused = unused;
    }
    called_fields (Gate class) names unused = begun_fields (Gate class) names unused
    called_fields (Check from to) names unused = begun_fields (Check from to) names unused
    called_fields (Confirm n) names unused = begun_fields (Confirm n) names unused
    called_fields (Sign n from to hash) names unused = begun_fields (Sign n from to hash) names unused
    called_fields (Reply n) names unused = begun_fields (Reply n) names unused
    called_fields Close names unused = begun_fields Close names unused

module _ (state : State) (store bytes : List ℕ) (reading : Millis) (buffer : List ℕ) where
  fields_by : (x : Split) → split_of bytes ≡ x → FirstFields bytes buffer (flat_first (first_by state store bytes reading buffer x).first)
  unfolding first_by flat_first
  fields_by split.MoreNeeded e = record {
    more_needed = λ _. refl;
    too_long = λ never. absurd (omega (arith, ap split_number e, never));
    whole = λ never. absurd (omega (arith, ap split_number e, never));
    used = λ never. absurd (omega (arith, never));
    within = omega arith;
    names = names_nothing bytes buffer 0;
    unused = flat_first-unused MoreNeeded;
  }
  fields_by split.TooLong e = record {
    more_needed = λ never. absurd (omega (arith, ap split_number e, never));
    too_long = λ _. refl;
    whole = λ never. absurd (omega (arith, ap split_number e, never));
    used = λ never. absurd (omega (arith, never));
    within = omega arith;
    names = names_nothing bytes buffer 0;
    unused = flat_first-unused TooLong;
  }
  fields_by (split.Frame from to) e =
      let whole = ap split_number e in
      let end : to ≡ 4 + length (frame_payload bytes) = same_end (sym e ∙ (whole_frame bytes whole).is) in
      let o = (call_of state store (frame_payload bytes) reading nothing_lent [] buffer).called.outcome in
      rw end
      (called_fields bytes buffer whole o (call-names_within state store (frame_payload bytes) reading nothing_lent [] buffer) (flat_first-unused (first_in (frame_end bytes buffer whole) o)))
    where
      same_end : {f g s t : ℕ} → split.Frame f s ≡ split.Frame g t → s ≡ t
      same_end is = cc

pub firsts_tell : FirstsTell
unfolding first_of
firsts_tell state store bytes reading buffer x after store_after reply m =
    subst (FirstFields bytes buffer) (sym m.first_is) (fields_by state store bytes reading buffer (split_of bytes) refl)

pub call-parts_lie : CallPartsLie
call-parts_lie state store bytes reading answers signature buffer outcome after store_after reply whole m other =
    let names = (calls_name_within state store (frame_payload bytes) reading answers signature buffer outcome after store_after reply m).0 in
    let inside = names.of_payload other in
    (frame_parts bytes outcome.from outcome.to whole names.ordered inside, omega (arith, inside))
