-- What a search over the list answers, in 01's values: the position, or none.
use Rattle.std.specs.Prelude.{ℕ, None, Some}
use Rattle.std.proofs.Math.Option.{Option, none, some}
use Rattle.rule.specs.Gateway.{Found}

abbrev pub found_place : Found → Option ℕ
found_place (Some i) = some i
found_place None = none
