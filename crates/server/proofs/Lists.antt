-- The list of the code: its call ends as the rule's does, which lists the live entries.
use mathlib.Core.Path.{sym, ap, ◌∙◌}
use Rattle.rule.specs.Calls as calls
use Rattle.rule.specs.Calls.{call}
use Rattle.rule.specs.Runs.{is_accepted}
use Rattle.rule.specs.Words.{PastGate}
use Rattle.rule.proofs.Crossing.{accepted_rule}
use Rattle.rule.proofs.ListLaws.{list_rule}
use Rattle.table.specs.Meaning.{gateway_of}
use Rattle.requests.specs.Outcomes.{lent_of, grant_of, code, written, outcome_values}
use Rattle.server.specs.Runs.{ByCall, as_call, CodeLists}
use Rattle.server.proofs.Leavings.{step-ends, ended_is}

pub code-lists : CodeLists ByCall
unfolding lent_of code written
code-lists state store k es S m accepted begins open-here granted lists =
    let g = gateway_of state store in
    let c = as_call k in
    let ends = step-ends state store S k m in
    let ok = (accepted_rule g c).0 (ap is_accepted (sym (ended_is k (call g c) ends)) ∙ accepted) in
    let past : PastGate g c = record { accepted = ok; gate = ap grant_of granted } in
    let listed = list_rule g c es past open-here begins lists in
    record {
      ended = ends.ended ∙ ap (λ (o : calls.Outcome). outcome_values (code o)) listed;
      buffer = ends.bytes ∙ ap (λ (o : calls.Outcome). written o k.buffer) listed;
    }
