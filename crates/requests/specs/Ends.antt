-- How a request's function ends, over the rule's result.
use Rattle.std.specs.Prelude.{ℕ, ◌≡◌, List, [], ◌∷◌}
use Rattle.wire.specs.Write.{string, write}
use Rattle.rule.specs.Calls as rule
use Rattle.table.specs.Meaning.{state_of, layout}
use Rattle.table.specs.Soundness.{Means}
use Rattle.requests.specs.declared.Outcome.{Outcome}
use Rattle.requests.specs.declared.Outcome.TheVariants.{Reply}
use Rattle.requests.specs.declared.Called.{Called}
use Rattle.requests.specs.Outcomes.{code, written}

-- outcome, state, and every byte of store and reply buffer
pub record Done : Type 0 where
  pub called : Called
  pub store : List ℕ
  pub reply : List ℕ

-- a result of the rule, laid out
abbrev pub laid_out : List ℕ → rule.Result → Done
laid_out buffer result = record {
  called = record { outcome = code result.outcome; state = state_of result.gateway };
  store = layout result.gateway;
  reply = written result.outcome buffer;
}

-- a request's function ended as the rule does, with its outcome, its gateway (in a sound state and store), and its bytes
pub record Ends (buffer : List ℕ) (r : Called) (store reply : List ℕ) (result : rule.Result) : Type 0 where
  pub outcome : r.outcome ≡ code result.outcome
  pub means : Means r.state store result.gateway
  pub bytes : reply ≡ written result.outcome buffer

-- what ends as a result is that result, laid out
abbrev pub EndsLaidOut : Type 0
EndsLaidOut =
    (buffer : List ℕ) (r : Called) (store reply : List ℕ) (result : rule.Result) → Ends buffer r store reply result
    → (r ≡ (laid_out buffer result).called) × (store ≡ (laid_out buffer result).store) × (reply ≡ (laid_out buffer result).reply)

-- "no second answer": what ends as one result is one state, one store and one reply buffer
abbrev pub EndsDecides : Type 0
EndsDecides =
    (buffer : List ℕ) (result : rule.Result) (r s : Called) (x y out other : List ℕ) → Ends buffer r x out result → Ends buffer s y other result
    → (r ≡ s) × (x ≡ y) × (out ≡ other)

-- at the buffer's front a reply of five bytes, whose payload is the one byte `kind`
abbrev pub Answered : ℕ → List ℕ → Outcome → List ℕ → Type 0
Answered kind buffer r reply = (r ≡ Reply 5) × (reply ≡ write buffer 0 (string (kind ∷ [])))
