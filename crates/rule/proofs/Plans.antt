-- Facts on plans: what every landing of a plan has, each landing of a call has.
use Prim.Native.Nat.{ℕ}
use native.Mathlib.Omega.{arith}
use mathlib.Core.Path.{◌≡◌}
use mathlib.Core.Option.{Option}
use Rattle.rule.specs.Gateway.{Gateway, advance}
use Rattle.rule.specs.Rule.{Question, Answer, Landing, Plan, land, ask, rule}
use Rattle.rule.specs.Calls.{lent, Call, refusal, refused, asks, lands, Result, follow, served, call}
use Rattle.rule.specs.Runs.{Oracle, alone}
use Rattle.rule.proofs.Cases.{given-cases}

pub asks_not_lands : (q : Question) (l : Landing) → asks q ≡ lands l → ⊥
asks_not_lands q l never = let z : ◌≡◌ {A = ℕ} 0 1 = cc in omega arith

pub refused_not_lands : (n : ℕ) (l : Landing) → refused n ≡ lands l → ⊥
refused_not_lands n l never = let z : ◌≡◌ {A = ℕ} 0 1 = cc in omega arith

pub refused_not_asks : (n : ℕ) (q : Question) → refused n ≡ asks q → ⊥
refused_not_asks n q never = let z : ◌≡◌ {A = ℕ} 0 1 = cc in omega arith

-- every landing of a plan
abbrev pub EveryLanding : (Landing → Gateway → Type 0) → Plan → Type 0
EveryLanding P (land l after) = P l after
EveryLanding P (ask q onwards) = (a : Answer q) → EveryLanding P (onwards a)

pub every_landing_imp : (P Q : Landing → Gateway → Type 0) → ((l : Landing) (g : Gateway) → P l g → Q l g) → (plan : Plan) → EveryLanding P plan → EveryLanding Q plan
every_landing_imp P Q f (land l after) h = f l after h
every_landing_imp P Q f (ask q onwards) h = λ a. every_landing_imp P Q f (onwards a) (h a)

module _ (P : Landing → Gateway → Type 0) where
  pub alone-has : (oracle : Oracle) (plan : Plan) → EveryLanding P plan → P (alone oracle plan).landing (alone oracle plan).gateway
  unfolding alone
  alone-has oracle (land l after) h = h
  alone-has oracle (ask q onwards) h = alone-has oracle (onwards (oracle q)) (h (oracle q))

  -- what every landing of a plan has, a landing with lent answers has
  pub follow-has : (lent : (q : Question) → Option (Answer q)) (g : Gateway) (plan : Plan) (l : Landing)
      → EveryLanding P plan → (follow lent g plan).outcome ≡ lands l → P l (follow lent g plan).gateway
  unfolding follow
  follow-has lent g (land l' after) l h = λ e. let same : l' ≡ l = cc in rw same at h
  follow-has lent g (ask q onwards) l h =
      given-cases
      (λ (r : Result). r.outcome ≡ lands l → P l r.gateway)
      (lent q)
      (λ _ never. absurd (asks_not_lands q l never))
      (λ a _. follow-has lent g (onwards a) l (h a))

  pub call-has : (g : Gateway) (c : Call) (l : Landing)
      → EveryLanding P (rule (advance c.reading g) c.frame.payload) → (call g c).outcome ≡ lands l → P l (call g c).gateway
  unfolding call served
  call-has g c l h =
      given-cases
      (λ (r : Result). r.outcome ≡ lands l → P l r.gateway)
      (refusal g c)
      (λ _. follow-has (lent c.answers) (advance c.reading g) (rule (advance c.reading g) c.frame.payload) l h)
      (λ n _ never. absurd (refused_not_lands n l never))
