-- Constraints as the draft writes them (draft-ietf-sshm-ssh-agent, "Key constraints").
use Rattle.std.specs.Prelude.{ℕ, List, [], ◌∷◌, ◌++◌}
use Rattle.wire.specs.declared.Constraint.{Constraint}
use Rattle.wire.specs.declared.Constraint.TheVariants.{KeyLifetime, Confirm}
use Rattle.wire.specs.Numbers.{be32}

abbrev pub constraint_form : Constraint → List ℕ
constraint_form (KeyLifetime seconds) = 1 ∷ be32 seconds.count
constraint_form Confirm = 2 ∷ []

abbrev pub constraint_forms : List Constraint → List ℕ
constraint_forms [] = []
constraint_forms (c ∷ cs) = constraint_form c ++ constraint_forms cs
