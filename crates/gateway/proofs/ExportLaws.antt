-- What the exported call gave meets the contract of `call`, flat values read back; so all that is promised of `call` holds of it. Assumes nothing.
use Prim.Native.Nat.{ℕ}
use mathlib.Core.Path.{◌≡◌, refl, sym, ap, ◌∙◌, subst}
use mathlib.Core.List.{List}
use Rattle.wire.specs.Limits.{store_size}
use Rattle.rule.specs.declared.Hash.{Hash}
use Rattle.rule.specs.Gateway.{Gateway, zero_millis}
use Rattle.rule.specs.Calls.{Result, call}
use Rattle.rule.specs.Examples.{one_key, sign_with, past_gate, asks_hash}
use Rattle.rule.proofs.Starred.{starred_examples}
use Rattle.table.specs.declared.State.{State}
use Rattle.table.specs.Meaning.{gateway_of}
use Rattle.requests.specs.declared.Answers.{Answers}
use Rattle.requests.specs.Ends.{Done}
use Rattle.requests.specs.Outcomes.{lent_of, code, hash_bits, outcome_values}
use Rattle.requests.proofs.OutcomeLaws.{outcomes_apart}
use Rattle.server.specs.Calls.{call_of, Meets}
use Rattle.server.specs.Runs.{Step, ByCall, as_call}
use Rattle.server.proofs.Leavings.{step-ends}
use Rattle.server.proofs.Lift.{code-promises}
use Rattle.flat.specs.Flat.{said_of, confirmed_of, signed_of, answers_of, flat_of}
use Rattle.flat.specs.Promises.{flat_values}
use Rattle.gateway.specs.Promises.{ByExport, ExportPromises, gate_yes, TellsBits, FlagsTold}
use Rattle.flat.proofs.FlatLaws.{same-values}

-- ## Runs

pub export_calls : (state : State) (store : List ℕ) (k : Step) → ByExport state store k → ByCall state store k
export_calls state store k x =
    let o = (call_of state store k.payload k.reading (answers_of x.answers) k.signature k.buffer).called.outcome in
    record {
      outcome = o;
      ended_is = x.ended_is ∙ ap flat_values x.meets.outcome_is ∙ same-values o;
      meets = subst (λ (a : Answers). Meets state store k.payload k.reading a k.signature k.buffer o k.gave.state k.gave.store k.gave.reply) (sym x.answers_are)
          (record { outcome_is = refl; state_is = x.meets.state_is; store_is = x.meets.store_is; reply_is = x.meets.reply_is });
    }

pub export_promises : ExportPromises
export_promises = code-promises ByExport export_calls

-- ## 01's starred flags

module _ (flags : ℕ) (hash : Hash) (rules : call one_key (past_gate (sign_with flags)) ≡ record { outcome = asks_hash hash; gateway = one_key }) where
  tells : TellsBits flags (hash_bits hash)
  unfolding code flat_of lent_of answers_of said_of confirmed_of signed_of
  tells state store signature buffer outcome after store_after reply means long m =
      let d : Done = call_of state store (sign_with flags) zero_millis (answers_of gate_yes) signature buffer in
      let k : Step = record {
        request = 0;
        payload = sign_with flags;
        reading = zero_millis;
        answers = answers_of gate_yes;
        signature = signature;
        buffer = buffer;
        gave = record { ended = outcome_values d.called.outcome; state = d.called.state; store = d.store; reply = d.reply };
      } in
      let made : ByCall state store k = record { outcome = d.called.outcome; ended_is = refl; meets = record { outcome_is = refl; state_is = refl; store_is = refl; reply_is = refl } } in
      let same-call : as_call k ≡ past_gate (sign_with flags) = λ j. record {
        request = 0;
        frame = record { payload = sign_with flags };
        reading = zero_millis;
        answers = lent_of (answers_of gate_yes) signature;
        buffer = long j;
        store = store_size;
      } in
      let ruled : call (gateway_of state store) (as_call k) ≡ record { outcome = asks_hash hash; gateway = one_key } =
      ap (λ (g : Gateway). call g (as_call k)) means.gateway ∙ ap (call one_key) same-call ∙ rules in
      let word = outcomes_apart d.called.outcome _ (step-ends state store means.sound k made).ended in
      m.outcome_is ∙ ap flat_of (word ∙ ap (λ (r : Result). code r.outcome) ruled)

pub flags_told : FlagsTold
flags_told = record {
  flags_6 = tells 6 _ starred_examples.flags_6;
  flags_4 = tells 4 _ starred_examples.flags_4;
  flags_1 = tells 1 _ starred_examples.flags_1;
}
