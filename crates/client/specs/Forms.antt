-- Request 26 as the draft lays it out (draft-ietf-sshm-ssh-agent, "Adding keys from a token", "Key constraints").
use Rattle.std.specs.Prelude.{ℕ, List, [], ◌∷◌, ◌++◌}
use Rattle.wire.specs.declared.Seconds.{Seconds}
use Rattle.wire.specs.declared.Constraint.{Constraint}
use Rattle.wire.specs.declared.Constraint.TheVariants.{KeyLifetime, Confirm}
use Rattle.wire.specs.Numbers.{be32}
use Rattle.wire.specs.Write.{string}

-- constraint[]: one behind the other up to the end, each its type and its value. Of the draft's constraints the two that 01 has: 1 and uint32
-- seconds, which by their type are below 2^32; 2 alone
pub data ConstraintsForm : List Constraint → List ℕ → Type 0 where
  end : ConstraintsForm [] []
  lifetime : (seconds : Seconds) {cs : List Constraint} {rest : List ℕ} → ConstraintsForm cs rest
      → ConstraintsForm (KeyLifetime seconds ∷ cs) (1 ∷ (be32 seconds.count ++ rest))
  confirm : {cs : List Constraint} {rest : List ℕ} → ConstraintsForm cs rest → ConstraintsForm (Confirm ∷ cs) (2 ∷ rest)

-- byte 26, string id, string PIN, constraint[] constraints
pub data CardForm : List ℕ → List ℕ → List Constraint → List ℕ → Type 0 where
  card : (id pin : List ℕ) {cs : List Constraint} {constraints : List ℕ} → ConstraintsForm cs constraints
      → CardForm id pin cs (26 ∷ (string id ++ (string pin ++ constraints)))
