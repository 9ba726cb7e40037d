-- What an inner call ensures says the same of its flat values, since these tell outcomes apart. Assumes nothing.
use Prim.Native.Nat.{ℕ}
use mathlib.Core.Path.{◌≡◌, sym, ap, ◌∙◌}
use mathlib.Core.List.{List}
use Rattle.rule.specs.declared.Millis.{Millis}
use Rattle.table.specs.declared.State.{State}
use Rattle.requests.specs.declared.Outcome.{Outcome}
use Rattle.requests.specs.declared.Outcome.TheVariants.{Refused}
use Rattle.server.specs.declared.first.First.{First}
use Rattle.server.specs.declared.first.First.TheVariants as answer
use Rattle.server.specs.Inner.{InnerMeets, InnerFirstMeets}
use Rattle.flat.specs.declared.FlatAnswers.{FlatAnswers}
use Rattle.flat.specs.declared.FlatOutcome.{FlatOutcome}
use Rattle.flat.specs.declared.FlatFirst.{FlatFirst}
use Rattle.flat.specs.Flat.{answers_of, flat_of, flat_first}
use Rattle.gateway.specs.Exports.{FlatInnerMeets, FlatInnerFirstMeets}
use Rattle.flat.proofs.FlatLaws.{flat_apart}
use Rattle.flat.proofs.FlatLaws.{flat_first-apart}

pub inner_flat : (state : State) (store payload : List ℕ) (reading : Millis) (answers : FlatAnswers) (signature buffer : List ℕ) (outcome : FlatOutcome) (o : Outcome) (after : State)
    (store_after reply : List ℕ) → outcome ≡ flat_of o → InnerMeets state store payload reading (answers_of answers) signature buffer o after store_after reply
    → FlatInnerMeets state store payload reading answers signature buffer outcome after store_after reply
unfolding flat_of
inner_flat state store payload reading answers signature buffer outcome o after store_after reply f e = record {
  meets = record { outcome_is = f ∙ ap flat_of e.meets.outcome_is; state_is = e.meets.state_is; store_is = e.meets.store_is; reply_is = e.meets.reply_is };
  sound = e.sound;
  never_2 = λ is. e.never_2 (flat_apart o (Refused 2) (sym f ∙ is));
  never_3 = λ is. e.never_3 (flat_apart o (Refused 3) (sym f ∙ is));
}

pub inner_first_flat : (state : State) (store bytes : List ℕ) (reading : Millis) (buffer : List ℕ) (first : FlatFirst) (x : First) (after : State) (store_after reply : List ℕ)
    → first ≡ flat_first x → InnerFirstMeets state store bytes reading buffer x after store_after reply → FlatInnerFirstMeets state store bytes reading buffer first after store_after reply
unfolding flat_first
inner_first_flat state store bytes reading buffer first x after store_after reply f m = record {
  meets = record { first_is = f ∙ ap flat_first m.meets.first_is; state_is = m.meets.state_is; store_is = m.meets.store_is; reply_is = m.meets.reply_is };
  sound = m.sound;
  never_2 = λ is. m.never_2 (flat_first-apart x (answer.Refused 2) (sym f ∙ is));
  never_3 = λ is. m.never_3 (flat_first-apart x (answer.Refused 3) (sym f ∙ is));
}
