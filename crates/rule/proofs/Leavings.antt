-- What each outcome leaves: a refusal nothing changed, a question and every landing but SUCCESS only the clock raised.
use Prim.Native.Nat.{ℕ}
use native.Mathlib.Omega.{arith}
use mathlib.Core.Path.{◌≡◌, refl}
use mathlib.Core.Logic.{◌≢◌}
use Rattle.rule.specs.Gateway.{advance}
use Rattle.rule.specs.Rule.{Question, Landing, SUCCESS}
use Rattle.rule.specs.Calls.{asks, lands, call}
use Rattle.rule.specs.Order.{QuestionLeaves, LandingLeaves, RefusalLeaves}
use Rattle.rule.proofs.Plans.{refused_not_asks, every_landing_imp, call-has}
use Rattle.rule.proofs.Effects.{Effect, rule-effect, only_success}
use Rattle.rule.proofs.Crossing.{plan_of, own_cases}

pub lands_not_asks : (l : Landing) (q : Question) → lands l ≡ asks q → ⊥
lands_not_asks l q never = let z : ◌≡◌ {A = ℕ} 0 1 = cc in omega arith

pub question_leaves : QuestionLeaves
question_leaves g c q =
    own_cases g c (λ o r. r.outcome ≡ asks q → r.gateway ≡ advance c.reading g)
    (λ n never. absurd (refused_not_asks n q never))
    (λ p _ _. refl)
    (λ never. absurd (lands_not_asks _ q never))

pub landing_leaves : LandingLeaves
landing_leaves g c l other e =
    let now = advance c.reading g in
    call-has (λ l after. l ≢ SUCCESS → after ≡ now) g c l
    (every_landing_imp (Effect now) _ (λ l after. only_success) (plan_of g c) (rule-effect now c.frame.payload))
    e other

pub refusal-leaves : RefusalLeaves
unfolding call
refusal-leaves g c n e = rw e
