-- A list's reply, by the entries in list order.
use mathlib.Core.Path.{◌≡◌, refl, ap, ◌∙◌}
use mathlib.Core.List.{List, [], ◌∷◌, ◌++◌, append_assoc}
use lib.ListN.{length}
use Rattle.wire.specs.Numbers.{be32}
use Rattle.wire.specs.Write.{string}
use Rattle.rule.specs.Gateway.{Entry}
use Rattle.rule.specs.Rule.{item, items, listed, listing}
use Rattle.rule.specs.Calls.{follow}
use Rattle.rule.specs.Rows.{list}
use Rattle.rule.specs.Listing.{item_forms, ListRule}
use Rattle.rule.proofs.RowLaws.{past_gate_lem}

items-forms : (es : List Entry) → items es ≡ item_forms es
unfolding items
items-forms [] = refl
items-forms (e ∷ es) = ap (λ tail. item e ++ tail) (items-forms es) ∙ append_assoc (string e.blob) (string e.comment) (item_forms es)

listed-forms : (es : List Entry) → listed es ≡ string (12 ∷ (be32 (length es) ++ item_forms es))
unfolding listed
listed-forms es = rw (items-forms es)

pub list_rule : ListRule
unfolding listing follow
list_rule g c es past fit begins are = rw (past_gate_lem list g c past fit begins, are, listed-forms es)
