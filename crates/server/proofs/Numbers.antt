-- What is told outside, in 01's numbers: the rule's outcome case by case, as it is coded; the gate's class by its row; the
-- bits of a hash by the flags. Assumed: a call that meets the contract of `call`, on a sound state and store.
use Prim.Native.Nat.{ℕ}
use mathlib.Core.Path.{◌≡◌, sym, ap, ◌∙◌, subst}
use mathlib.Core.List.{List}
use lib.ListN.{get_or}
use Rattle.rule.specs.declared.Hash.{Hash}
use Rattle.rule.specs.Gateway.{at_clock, advance}
use Rattle.rule.specs.Rule.{gate, signature, Plan, rule as plan}
use Rattle.rule.specs.Calls as rule
use Rattle.rule.specs.Calls.{lent, asks, call}
use Rattle.rule.specs.Runs.{is_accepted}
use Rattle.rule.specs.Order.{Needs, here}
use Rattle.rule.specs.Signing.{HashTable}
use Rattle.rule.proofs.Crossing.{accepted_rule}
use Rattle.rule.proofs.QuestionLaws.{question_rule}
use Rattle.rule.proofs.RowLaws.{row-rule}
use Rattle.rule.proofs.SignLaws.{signature_asks}
use Rattle.table.specs.Meaning.{gateway_of}
use Rattle.requests.specs.Outcomes.{grant_of, lent_of, code, hash_bits, outcome_values, InNumbers, hash_in, outcome_for, outcome_in}
use Rattle.requests.proofs.OutcomeLaws.{outcomes_told}
use Rattle.server.specs.Runs.{ByCall, as_call, BitsTable, CodeNumbers, CodeGateAsks, CodeHashes}
use Rattle.server.proofs.Leavings.{step-ends, ended_is}

-- ## The outcome

pub code-numbers : CodeNumbers ByCall
code-numbers state store k S m =
    let o = (call (gateway_of state store) (as_call k)).outcome in
    subst (InNumbers o) (sym (step-ends state store S k m).ended) (outcomes_told o)

-- ## The gate

pub code-gate_asks : CodeGateAsks ByCall
unfolding lent_of lent advance at_clock
code-gate_asks state store k byte needs class S m accepted row begins fits missing =
    let g = gateway_of state store in
    let c = as_call k in
    let ends = step-ends state store S k m in
    let ok = (accepted_rule g c).0 (ap is_accepted (sym (ended_is k (call g c) ends)) ∙ accepted) in
    let (onwards, is, no-fails) = (row-rule byte needs class row (advance c.reading g) k.payload begins).fit fits in
    let comes : Needs (lent c.answers) (plan (advance c.reading g) k.payload) (gate class) = subst (λ (p : Plan). Needs (lent c.answers) p (gate class)) (sym is) (here (gate class) onwards) in
    ((code-numbers state store k S m).gate_class class).0 ((question_rule g c (gate class)).1 (ok, comes, ap grant_of missing))

-- ## The hash

bits_table : (flags bits : ℕ) (hash : Hash) → bits ≡ hash_bits hash → HashTable flags hash → BitsTable flags bits
bits_table flags bits hash e t = record {
  flag_2 = λ a. e ∙ ap hash_bits (t.flag_2 a);
  flag_4 = λ a b. e ∙ ap hash_bits (t.flag_4 a b);
  neither = λ a b. e ∙ ap hash_bits (t.neither a b);
}

pub code-hashes : CodeHashes ByCall
unfolding code outcome_for
code-hashes state store k n from to bits S m bytes v =
    let g = gateway_of state store in
    let ends = step-ends state store S k m in
    let asked : (call g (as_call k)).outcome ≡ asks (signature n from to (hash_in bits)) = sym (ended_is k _ ends) ∙ ap (λ (vs : List ℕ). outcome_in vs k.gave.reply) v in
    let values = sym v ∙ ends.ended ∙ ap (λ (o : rule.Outcome). outcome_values (code o)) asked in
    let (past, opened, e, message, flags, held, number, request, at, end, table, confirmed) = signature_asks g (as_call k) n from to (hash_in bits) bytes asked in
    (e.blob, message, flags, request, bits_table flags bits (hash_in bits) (ap (λ (vs : List ℕ). get_or vs 4 0) values) table)
