-- What holds of the result of a plan with lent answers, step by step.
use mathlib.Core.Path.{◌≡◌}
use mathlib.Core.Bool.{Bool, true, cond}
use mathlib.Core.Option.{Option, none, some}
use Rattle.rule.specs.Gateway.{Gateway}
use Rattle.rule.specs.Rule.{Question, Answer, Landing, FAILURE, Plan, land, ask, fails}
use Rattle.rule.specs.Calls.{asks, lands, Result, follow}
use Rattle.rule.proofs.Cases.{cond_cases, given-cases}

module _ (answer : (q : Question) → Option (Answer q)) (g : Gateway) (P : Result → Type 0) where
  abbrev pub Gives : Plan → Type 0
  Gives plan = P (follow answer g plan)

  pub land_gives : (l : Landing) (after : Gateway) → P (record { outcome = lands l; gateway = after }) → Gives (land l after)
  unfolding follow
  land_gives l after h = h

  pub ask_gives : (q : Question) (onwards : Answer q → Plan) → (answer q ≡ none → P (record { outcome = asks q; gateway = g }))
      → ((a : Answer q) → answer q ≡ some a → Gives (onwards a)) → Gives (ask q onwards)
  unfolding follow
  ask_gives q onwards asking onward = given-cases P (answer q) asking onward

  pub cond-gives : (b : Bool) (plan : Plan) → P (record { outcome = lands FAILURE; gateway = g }) → (b ≡ true → Gives plan) → Gives (cond b plan (fails g))
  cond-gives b plan failing h = cond_cases Gives b h (λ _. land_gives FAILURE g failing)
