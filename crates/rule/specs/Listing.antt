-- The promise of 11: exactly the live entries, in list order.
use Rattle.std.specs.Prelude.{ℕ, ◌≡◌, false, List, [], ◌∷◌, ◌++◌, length}
use Rattle.wire.specs.Numbers.{be32}
use Rattle.wire.specs.Write.{string}
use Rattle.rule.specs.Gateway.{Entry, Gateway, locked}
use Rattle.rule.specs.Rule.{reply}
use Rattle.rule.specs.Calls.{Call, lands, call}
use Rattle.rule.specs.Words.{Begins, at_call, payload_of, PastGate}

-- each blob as a string, and its own comment as a string
abbrev pub item_forms : List Entry → List ℕ
item_forms [] = []
item_forms (e ∷ es) = string e.blob ++ (string e.comment ++ item_forms es)

abbrev pub ListRule : Type 0
ListRule =
    (g : Gateway) (c : Call) (es : List Entry) → PastGate g c → locked g ≡ false → Begins 11 (payload_of c) → (at_call g c).entries ≡ es
    → (call g c).outcome ≡ lands (reply (string (12 ∷ (be32 (length es) ++ item_forms es))))
