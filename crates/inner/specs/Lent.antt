-- What comes of a sound state whose arrays are lent for an inner call, while clock, next number and the lock's length go by value beside them.
use Rattle.std.specs.Prelude.{ℕ, ◌≡◌, List}
use Rattle.rule.specs.declared.Millis.{Millis}
use Rattle.table.specs.declared.State.{State}
use Rattle.table.specs.declared.Kept.{Kept}
use Rattle.requests.specs.declared.Answers.{Answers}
use Rattle.requests.specs.declared.Landed.{Landed}
use Rattle.server.specs.Inner.{InnerMeets, InnerFirstMeets}
use Rattle.engine.specs.declared.first.Heard.{Heard}
use Rattle.table.specs.Meaning.{kept_in}
use Rattle.lending.specs.Lent.{beside}

-- the inner call is met by the arrays and what goes beside them; what is no array stays in the lent state
pub record InnerLands (s : State) (k : Kept) (store payload : List ℕ) (reading : Millis) (answers : Answers) (signature buffer : List ℕ) (r : Landed) (z : State) (store_after reply : List ℕ) : Type 0 where
  pub meets : InnerMeets (beside s k) store payload reading answers signature buffer r.outcome (beside z r.kept) store_after reply
  pub stays : kept_in z ≡ kept_in s

pub record InnerHears (s : State) (k : Kept) (store bytes : List ℕ) (reading : Millis) (buffer : List ℕ) (r : Heard) (z : State) (store_after reply : List ℕ) : Type 0 where
  pub meets : InnerFirstMeets (beside s k) store bytes reading buffer r.first (beside z r.kept) store_after reply
  pub stays : kept_in z ≡ kept_in s
