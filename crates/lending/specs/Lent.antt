-- What comes of a state whose arrays are lent for a call, while clock, next number and the lock's length go by value beside them.
use Rattle.std.specs.Prelude.{ℕ, ◌≡◌, List}
use Rattle.rule.specs.declared.Millis.{Millis}
use Rattle.table.specs.declared.State.{State}
use Rattle.table.specs.declared.Kept.{Kept}
use Rattle.table.specs.Meaning.{held, kept_in}
use Rattle.requests.specs.declared.Answers.{Answers}
use Rattle.requests.specs.declared.Landed.{Landed}
use Rattle.server.specs.Calls.{Meets}
use Rattle.server.specs.First.{FirstMeets}
use Rattle.engine.specs.declared.first.Heard.{Heard}

-- the arrays of s, and k beside them
abbrev pub beside : State → Kept → State
beside s k = held s.columns s.lock.bytes k

-- the call is met by the arrays and what goes beside them; what is no array stays in the lent state
pub record Lands (s : State) (k : Kept) (store payload : List ℕ) (reading : Millis) (answers : Answers) (signature buffer : List ℕ) (r : Landed) (z : State) (store_after reply : List ℕ) : Type 0 where
  pub meets : Meets (beside s k) store payload reading answers signature buffer r.outcome (beside z r.kept) store_after reply
  pub stays : kept_in z ≡ kept_in s

pub record Hears (s : State) (k : Kept) (store bytes : List ℕ) (reading : Millis) (buffer : List ℕ) (r : Heard) (z : State) (store_after reply : List ℕ) : Type 0 where
  pub meets : FirstMeets (beside s k) store bytes reading buffer r.first (beside z r.kept) store_after reply
  pub stays : kept_in z ≡ kept_in s
