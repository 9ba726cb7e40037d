-- The runs of inner calls, of the inner call and first call themselves.
use Prim.Native.Nat.{ℕ}
use mathlib.Core.Path.{sym, ◌∙◌}
use mathlib.Core.List.{List}
use Rattle.table.specs.declared.State.{State}
use Rattle.table.specs.Soundness.{Sound}
use Rattle.requests.specs.declared.Outcome.TheVariants.{Refused}
use Rattle.requests.proofs.OutcomeLaws.{outcomes_apart}
use Rattle.server.specs.declared.first.First.TheVariants as answer
use Rattle.server.specs.Runs.{Step, ByCall}
use Rattle.server.specs.FirstPromises.{FirstStep, ByFirst}
use Rattle.server.specs.InnerPromises.{ByInner, ByInnerFirst, InnerPromises}
use Rattle.server.proofs.FirstLaws.{firsts_apart}
use Rattle.server.proofs.InnerLaws.{inner_meets, inner_first_meets}
use Rattle.server.proofs.InnerRuns.{InnerCall, InnerFirstCall, inner_promises}

by_inner : (state : State) (store : List ℕ) (k : Step) → Sound state store → ByInner state store k → InnerCall ByCall state store k
by_inner state store k S i =
    let g = i S in
    record {
      outer = record { outcome = g.outcome; ended_is = g.ended_is; meets = g.meets.meets };
      sound = g.meets.sound;
      never_2 = λ e. g.meets.never_2 (outcomes_apart g.outcome (Refused 2) (sym g.ended_is ∙ e));
      never_3 = λ e. g.meets.never_3 (outcomes_apart g.outcome (Refused 3) (sym g.ended_is ∙ e));
    }

by_inner_first : (state : State) (store : List ℕ) (f : FirstStep) → Sound state store → ByInnerFirst state store f → InnerFirstCall ByFirst state store f
by_inner_first state store f S i =
    let g = i S in
    record {
      outer = record { first = g.first; ended_is = g.ended_is; meets = g.meets.meets };
      sound = g.meets.sound;
      never_2 = λ e. g.meets.never_2 (firsts_apart g.first (answer.Refused 2) (sym g.ended_is ∙ e));
      never_3 = λ e. g.meets.never_3 (firsts_apart g.first (answer.Refused 3) (sym g.ended_is ∙ e));
    }

call-inner_too : (state : State) (store : List ℕ) (k : Step) → ByCall state store k → ByInner state store k
call-inner_too state store k m S = record { outcome = m.outcome; ended_is = m.ended_is; meets = inner_meets _ _ _ _ _ _ _ _ _ _ _ S m.meets }

first_inner_too : (state : State) (store : List ℕ) (f : FirstStep) → ByFirst state store f → ByInnerFirst state store f
first_inner_too state store f m S = record { first = m.first; ended_is = m.ended_is; meets = inner_first_meets _ _ _ _ _ _ _ _ _ S m.meets }

pub call-inner_promises : InnerPromises ByFirst ByCall ByInnerFirst ByInner
call-inner_promises = inner_promises ByFirst (λ s x f m. m) ByCall (λ s x k m. m) ByInnerFirst by_inner_first ByInner by_inner first_inner_too call-inner_too
